-- What is read of an option's value.
use Rattle.std.proofs.Common.{◌≡◌, ℕ, ◌^◌, ◌<◌, ◌≤◌, Bool, true, false, cond, ◌&&◌, ◌==◌, nat_le, List, [], ◌∷◌, ◌++◌, length, take, drop, Option, Some, None, MatchOption, eqb, refl, sym, ap, ◌∙◌, subst, arith, inl, inr}
use Rattle.std.specs.Borrow.{Bor}
use Rattle.std.specs.List.{list_all, starts_with}
use Rattle.std.specs.Char.{is_ascii_digit, digit_value}
use Rattle.std.specs.Str.Parse.{AllDigits, digits_value, without_leading_plus}
use Rattle.std.specs.Str.Pattern.{FindsTextPrefix, StripsPrefix}
use Rattle.std.proofs.lemmas.Slice.Eq.{bytes_eq-Decides}
use Rattle.std.proofs.lemmas.Bool.{and_parts, cases_lt, leb-true, lt-leb}
use Rattle.std.proofs.lemmas.Bool.Decides.{nat_tests}
use Rattle.std.proofs.lemmas.List.{take-append-drop}
use Rattle.std.proofs.Math.Seq.{take-append_seam}
use Rattle.search_words.specs.Queries.{are_digits, behind, number_in}
use Rattle.search_words.proofs.Turns.{by_test}

-- ---- what stands behind the first bytes

begins : (first value : List ℕ) → starts_with eqb value first ≡ true → value ≡ first ++ drop (length first) value
begins first value e =
    sym (take-append-drop (length first) value)
    ∙ ap (λ (t : List ℕ). t ++ drop (length first) value) (sym ((bytes_eq-Decides first (take (length first) value)).0 e))

pub strips : (first value : List ℕ) (r : Option (Bor (List ℕ)))
    → MatchOption r (FindsTextPrefix first value None) (λ x. StripsPrefix (FindsTextPrefix first) value x.now)
    → MatchOption r (starts_with eqb value first ≡ false) (λ x. (starts_with eqb value first ≡ true) × (x.now ≡ behind first value))
strips first value None lacks =
    by_test (starts_with eqb value first)
    (λ yes. absurd (lacks (drop (length first) value) (begins first value yes)))
    (λ no. no)
strips first value (Some x) h = (
  (bytes_eq-Decides first (take (length first) value)).1 (sym (ap (take (length first)) h.1.1 ∙ take-append_seam first (drop h.0 value))),
  h.2 ∙ ap (λ (k : ℕ). drop k value) h.1.0,
)

-- ---- digits

digit_below : (c : ℕ) → is_ascii_digit c ≡ true → digit_value c < 10
digit_below c e =
    let parts = and_parts (nat_le 48 c) (nat_le c 57) e in
    let low : 48 ≤ c = leb-true 48 c parts.0 in
    let high : c ≤ 57 = leb-true c 57 parts.1 in
    grind (arith, nat_tests)

no_plus_sign : (c : ℕ) → is_ascii_digit c ≡ true → (c == 43) ≡ false
no_plus_sign c e =
    let low : 48 ≤ c = leb-true 48 c (and_parts (nat_le 48 c) (nat_le c 57) e).0 in
    grind (arith, nat_tests)

all_digits : (ds : List ℕ) → list_all is_ascii_digit ds ≡ true → AllDigits 10 ds
all_digits [] e = tt
all_digits (c ∷ cs) e =
    let parts = and_parts (is_ascii_digit c) (list_all is_ascii_digit cs) e in
    (digit_below c parts.0, all_digits cs parts.1)

no_plus : (ds : List ℕ) → list_all is_ascii_digit ds ≡ true → without_leading_plus ds ≡ ds
no_plus [] e = refl
no_plus (c ∷ cs) e = ap (λ (t : Bool). drop (cond t 1 0) (c ∷ cs)) (no_plus_sign c (and_parts (is_ascii_digit c) (list_all is_ascii_digit cs) e).0)

module _ (ds : List ℕ) (are : are_digits ds ≡ true) where
  all_are : list_all is_ascii_digit ds ≡ true
  all_are = (and_parts (nat_le 1 (length ds) && nat_le (length ds) 10) (list_all is_ascii_digit ds) are).1

  some_are : 0 < length ds
  some_are =
      let tests = (and_parts (nat_le 1 (length ds) && nat_le (length ds) 10) (list_all is_ascii_digit ds) are).0 in
      let least : 1 ≤ length ds = leb-true 1 (length ds) (and_parts (nat_le 1 (length ds)) (nat_le (length ds) 10) tests).0 in
      omega arith

  pub too_great : (((0 < length (without_leading_plus ds)) × AllDigits 10 (without_leading_plus ds)) × (digits_value 10 (without_leading_plus ds) < 2 ^ 32) → ⊥)
      → 2 ^ 32 ≤ digits_value 10 ds
  too_great unread =
      let P : List ℕ → Type 0 = λ text. ((0 < length text) × AllDigits 10 text) × (digits_value 10 text < 2 ^ 32) in
      elim (cases_lt (digits_value 10 ds) (2 ^ 32)) [
        | inl below ↦ absurd (unread (subst P (sym (no_plus ds all_are)) ((some_are, all_digits ds all_are), below)))
        | inr above ↦ above
      ]

never_both : {A : Type 0} (b : Bool) (x y : A) → cond (b && false) x y ≡ y
never_both true x y = refl
never_both false x y = refl

pub not_in : (least most : ℕ) (text : List ℕ) (r : Option ℕ) → r ≡ None → MatchOption r (2 ^ 32 ≤ digits_value 10 text) (λ n. n ≡ digits_value 10 text) → most < 2 ^ 32
    → number_in least most text ≡ None
not_in least most text r is h small =
    let great : 2 ^ 32 ≤ digits_value 10 text = let P : Option ℕ → Type 0 = λ o. MatchOption o (2 ^ 32 ≤ digits_value 10 text) (λ n. n ≡ digits_value 10 text) in subst P is h in
    let no : nat_le (digits_value 10 text) most ≡ false = lt-leb (digits_value 10 text) most (omega arith) in
    ap (λ (t : Bool). cond (are_digits text && nat_le least (digits_value 10 text) && t) (Some (digits_value 10 text)) None) no
    ∙ never_both (are_digits text && nat_le least (digits_value 10 text)) (Some (digits_value 10 text)) None
