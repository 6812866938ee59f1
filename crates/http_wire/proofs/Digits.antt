-- Digits of a length, one more at a time.
use Rattle.std.proofs.Common.{◌≡◌, ℕ, zero, suc, ◌+◌, ◌-◌, ◌*◌, ◌^◌, ◌<◌, ◌≤◌, Bool, true, false, ◌&&◌, nat_lt, nat_le, Some, None, cond, eqb, List, [], ◌∷◌, ◌++◌, length, get_or, take, refl, sym, ap, ap₂, ◌∙◌, arith, add-one, take-suc, inl, inr}
use Rattle.std.specs.Int.{IsInRange}
use Rattle.std.specs.Char.{digit_value, is_ascii_digit}
use Rattle.std.specs.List.{list_all}
use Rattle.std.specs.Str.Parse.{digits_value}
use Rattle.std.proofs.Math.Nat.{pow-suc, pow-le-pow_right}
use Rattle.std.proofs.lemmas.Bool.{eqb-true, lt-ltb, le-leb}
use Rattle.std.proofs.lemmas.Bool.Decides.{leb_tells}
use Rattle.std.proofs.lemmas.List.{take_all}
use Rattle.std.proofs.lemmas.Int.Digits.{digits_value_push}
use Rattle.std.proofs.lemmas.List.Folds.{list_all_at, list_all_more}
use Rattle.std.proofs.lemmas.Str.{digit_value_digit}
use Rattle.http_wire.specs.Fields.{is_length, length_in}

one_more : (text : List ℕ) (i : ℕ) → i < length text → take (i + 1) text ≡ take i text ++ get_or text i 0 ∷ []
one_more text i inside = ap (λ (n : ℕ). take n text) (add-one i) ∙ take-suc text i 0 inside

pub value_more : (text : List ℕ) (i n : ℕ) → i < length text → IsInRange 48 57 (get_or text i 0) → n ≡ digits_value 10 (take i text) → n * 10 + (get_or text i 0 - 48) ≡ digits_value 10 (take (i + 1) text)
value_more text i n inside digit is =
    let c = get_or text i 0 in
    let worth = digit_value_digit c digit in
    let last : c - 48 ≡ digit_value c = omega (arith, worth) in
    ap₂ (λ (a b : ℕ). a * 10 + b) is last ∙ sym (digits_value_push 10 (take i text) c) ∙ ap (digits_value 10) (sym (one_more text i inside))

pub below_more : (n d i : ℕ) → n < 10 ^ i → d < 10 → n * 10 + d < 10 ^ (i + 1)
below_more n d i below digit =
    let power : 10 ^ (i + 1) ≡ 10 ^ i * 10 = ap (λ (k : ℕ). 10 ^ k) (add-one i) ∙ pow-suc 10 i in omega (arith, power, below, digit)

pub below_billion : (n i : ℕ) → n < 10 ^ i → i < 10 → n < 1000000000
below_billion n i below few =
    let most : 10 ^ i ≤ 10 ^ 9 = pow-le-pow_right {n = 10} (omega arith) {i = i} {j = 9} (omega (arith, few)) in omega (arith, below, most)

pub all_more : (text : List ℕ) (i : ℕ) → i < length text → is_ascii_digit (get_or text i 0) ≡ true → list_all is_ascii_digit (take i text) ≡ true → list_all is_ascii_digit (take (i + 1) text) ≡ true
all_more text i inside digit before = list_all_more is_ascii_digit text i 0 inside ∙ ap₂ (λ (a b : Bool). a && b) before digit

pub other_byte : (text : List ℕ) (i : ℕ) → i < length text → is_ascii_digit (get_or text i 0) ≡ false → list_all is_ascii_digit text ≡ false
other_byte text i inside other = list_all_at is_ascii_digit text i 0 inside other

-- ---- which texts are lengths

no_length : (text : List ℕ) → is_length text ≡ false → None ≡ length_in text
no_length text other = sym (ap (λ (b : Bool). cond b (Some (digits_value 10 text)) None) other)

never : (b : Bool) → (b && false) ≡ false
never true = refl
never false = refl

too_long : (n : ℕ) → 10 < n → nat_le n 10 ≡ false
too_long n long = elim (leb_tells n 10) [ inl fits ↦ let most = fits.1 in absurd (omega (arith, most, long)) | inr over ↦ over.0 ]

pub empty_is_none : (text : List ℕ) → eqb (length text) 0 ≡ true → None ≡ length_in text
empty_is_none text empty = no_length text (ap (λ (n : ℕ). nat_lt 0 n && (nat_le n 10 && list_all is_ascii_digit text)) (eqb-true (length text) 0 empty))

pub long_is_none : (text : List ℕ) → 10 < length text → None ≡ length_in text
long_is_none text long = no_length text (ap (λ (b : Bool). nat_lt 0 (length text) && (b && list_all is_ascii_digit text)) (too_long (length text) long) ∙ never (nat_lt 0 (length text)))

pub other_is_none : (text : List ℕ) (i : ℕ) → i < length text → is_ascii_digit (get_or text i 0) ≡ false → None ≡ length_in text
other_is_none text i inside other =
    no_length text (ap (λ (b : Bool). nat_lt 0 (length text) && (nat_le (length text) 10 && b)) (other_byte text i inside other)
    ∙ ap (λ (b : Bool). nat_lt 0 (length text) && b) (never (nat_le (length text) 10)) ∙ never (nat_lt 0 (length text)))

pub digits_are_some : (text : List ℕ) (i n : ℕ) → length text ≤ i → eqb (length text) 0 ≡ false → length text ≤ 10 → n ≡ digits_value 10 (take i text) → list_all is_ascii_digit (take i text) ≡ true → Some n ≡ length_in text
digits_are_some text i n done some short is digits =
    let all = take_all i text done in
    let above : 0 < length text = positive (length text) some in
    let yes : is_length text ≡ true =
    ap₂ (λ (a b : Bool). a && (b && list_all is_ascii_digit text)) (lt-ltb 0 (length text) above) (le-leb (length text) 10 short)
    ∙ ap (λ (l : List ℕ). true && (true && list_all is_ascii_digit l)) (sym all) ∙ ap (λ (b : Bool). true && (true && b)) digits in
    ap Some (is ∙ ap (digits_value 10) all) ∙ sym (ap (λ (b : Bool). cond b (Some (digits_value 10 text)) None) yes)
  where
    positive : (n : ℕ) → eqb n 0 ≡ false → 0 < n
    positive zero none = absurd (cc none)
    positive (suc n) some = omega arith
