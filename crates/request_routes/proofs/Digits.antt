-- What 1 to 20 digits write.
use Rattle.std.proofs.Common.{◌≡◌, ℕ, ◌^◌, ◌<◌, ◌≤◌, Bool, true, false, cond, ◌&&◌, ◌==◌, nat_le, List, [], ◌∷◌, length, drop, refl, sym, ap, subst, arith, inl, inr}
use Rattle.std.specs.List.{list_all}
use Rattle.std.specs.Char.{is_ascii_digit, digit_value}
use Rattle.std.specs.Str.Parse.{AllDigits, digits_value, without_leading_plus}
use Rattle.std.proofs.lemmas.Bool.{and_parts, cases_lt, leb-true}
use Rattle.std.proofs.lemmas.Bool.Decides.{nat_tests}
use Rattle.request_routes.specs.Queries.{are_digits}

digit_below : (c : ℕ) → is_ascii_digit c ≡ true → digit_value c < 10
digit_below c e =
    let parts = and_parts (nat_le 48 c) (nat_le c 57) e in
    let low : 48 ≤ c = leb-true 48 c parts.0 in
    let high : c ≤ 57 = leb-true c 57 parts.1 in
    grind (arith, nat_tests)

no_plus_sign : (c : ℕ) → is_ascii_digit c ≡ true → (c == 43) ≡ false
no_plus_sign c e =
    let low : 48 ≤ c = leb-true 48 c (and_parts (nat_le 48 c) (nat_le c 57) e).0 in
    grind (arith, nat_tests)

all_digits : (ds : List ℕ) → list_all is_ascii_digit ds ≡ true → AllDigits 10 ds
all_digits [] e = tt
all_digits (c ∷ cs) e =
    let parts = and_parts (is_ascii_digit c) (list_all is_ascii_digit cs) e in
    (digit_below c parts.0, all_digits cs parts.1)

no_plus : (ds : List ℕ) → list_all is_ascii_digit ds ≡ true → without_leading_plus ds ≡ ds
no_plus [] e = refl
no_plus (c ∷ cs) e = ap (λ (t : Bool). drop (cond t 1 0) (c ∷ cs)) (no_plus_sign c (and_parts (is_ascii_digit c) (list_all is_ascii_digit cs) e).0)

module _ (ds : List ℕ) (are : are_digits ds ≡ true) where
  all_are : list_all is_ascii_digit ds ≡ true
  all_are = (and_parts (nat_le 1 (length ds) && nat_le (length ds) 20) (list_all is_ascii_digit ds) are).1

  some_are : 0 < length ds
  some_are =
      let tests = (and_parts (nat_le 1 (length ds) && nat_le (length ds) 20) (list_all is_ascii_digit ds) are).0 in
      let least : 1 ≤ length ds = leb-true 1 (length ds) (and_parts (nat_le 1 (length ds)) (nat_le (length ds) 20) tests).0 in
      omega arith

  pub too_great : (((0 < length (without_leading_plus ds)) × AllDigits 10 (without_leading_plus ds)) × (digits_value 10 (without_leading_plus ds) < 2 ^ 64) → ⊥)
      → 2 ^ 64 ≤ digits_value 10 ds
  too_great unread =
      let P : List ℕ → Type 0 = λ text. ((0 < length text) × AllDigits 10 text) × (digits_value 10 text < 2 ^ 64) in
      elim (cases_lt (digits_value 10 ds) (2 ^ 64)) [
        | inl below ↦ absurd (unread (subst P (sym (no_plus ds all_are)) ((some_are, all_digits ds all_are), below)))
        | inr above ↦ above
      ]
