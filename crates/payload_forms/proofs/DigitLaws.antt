-- The digits of an id one behind the other: what they count, and that 16 of them stay below 2^64.
use Rattle.std.proofs.Common.{◌≡◌, ℕ, suc, ◌+◌, ◌*◌, ◌^◌, ◌<◌, ◌≤◌, List, [], ◌∷◌, ◌++◌, length, take, drop, get_or, fold, true, refl, sym, ap, ◌∙◌, add-one, arith}
use Rattle.std.proofs.Math.Nat.{add-mul, mul_assoc, mul_comm, pow-suc, pow-le-pow_right}
use Rattle.std.proofs.Math.Seq.{take-suc}
use Rattle.std.proofs.lemmas.List.{take-append-drop, length-drop}
use Rattle.std.proofs.lemmas.List.Folds.{list_all-append}
use Rattle.std.proofs.lemmas.List.Sums.{fold-append}
use Rattle.std.specs.List.{list_all}
use Rattle.std.specs.Char.{digit_value}
use Rattle.definitions.specs.Reading.{is_lower_hex, is_id_text, id_value}

pub id_value-none : 0 ≡ id_value []
unfolding id_value
id_value-none = refl

pub id_value-next : (digits : List ℕ) (i : ℕ) → i < length digits → id_value (take (i + 1) digits) ≡ id_value (take i digits) * 16 + digit_value (get_or digits i 0)
unfolding id_value
id_value-next digits i inside =
    rw (add-one, take-suc digits i 0 inside) (fold-append (λ (value digit : ℕ). value * 16 + digit_value digit) 0 (take i digits) (get_or digits i 0 ∷ []))

pub next_below : (value digit i : ℕ) → value < 16 ^ i → digit < 16 → value * 16 + digit < 16 ^ (i + 1)
next_below value digit i below small = let p = pow-suc 16 i in rw add-one (omega arith)

pub next_fits : (value digit i : ℕ) → value < 16 ^ i → digit < 16 → i < 16 → value * 16 + digit < 2 ^ 64
next_fits value digit i below small inside =
    let less : i + 1 ≤ 16 = omega arith in
    let most : 16 ^ (i + 1) ≤ 16 ^ 16 = pow-le-pow_right {n = 16} (omega arith) less in
    let whole : 16 ^ 16 ≡ 2 ^ 64 = refl in
    let next = next_below value digit i below small in
    omega arith

spread : (value digit power : ℕ) → (value * 16 + digit) * power ≡ value * (power * 16) + (0 * 16 + digit) * power
spread value digit power =
    let alone : 0 * 16 + digit ≡ digit = omega arith in
    add-mul (value * 16) digit power
    ∙ ap (λ (n : ℕ). n + digit * power) (mul_assoc value 16 power ∙ ap (λ (n : ℕ). value * n) (mul_comm 16 power))
    ∙ ap (λ (d : ℕ). value * (power * 16) + d * power) (sym alone)

-- what digits count behind a number
abbrev counted : ℕ → List ℕ → ℕ
counted value digits = fold (λ (value digit : ℕ). value * 16 + digit_value digit) value digits

counted-behind : (digits : List ℕ) (value : ℕ) → counted value digits ≡ value * 16 ^ length digits + counted 0 digits
counted-behind [] value = omega arith
counted-behind (d ∷ digits) value =
    let with : counted (value * 16 + digit_value d) digits ≡ (value * 16 + digit_value d) * 16 ^ length digits + counted 0 digits = counted-behind digits (value * 16 + digit_value d) in
    let alone : counted (0 * 16 + digit_value d) digits ≡ (0 * 16 + digit_value d) * 16 ^ length digits + counted 0 digits = counted-behind digits (0 * 16 + digit_value d) in
    let power : 16 ^ suc (length digits) ≡ 16 ^ length digits * 16 = pow-suc 16 (length digits) in
    let parts = spread value (digit_value d) (16 ^ length digits) in
    let shift : value * 16 ^ suc (length digits) ≡ value * (16 ^ length digits * 16) = ap (λ (p : ℕ). value * p) power in
    omega (arith, with, alone, parts, shift)

behind : (front back : List ℕ) → length back ≡ 16 → id_value (front ++ back) ≡ id_value front * 2 ^ 64 + id_value back
unfolding id_value
behind front back len =
    fold-append (λ (value digit : ℕ). value * 16 + digit_value digit) 0 front back ∙ counted-behind back (counted 0 front) ∙ ap (λ (n : ℕ). counted 0 front * 16 ^ n + counted 0 back) len

-- two halves of an id's digits are all of them
pub id_halves : (text front back : List ℕ) → length text ≡ 32 → front ≡ take 16 text → back ≡ drop 16 text → list_all is_lower_hex front ≡ true → list_all is_lower_hex back ≡ true
    → (is_id_text text ≡ true) × (id_value text ≡ id_value front * 2 ^ 64 + id_value back)
id_halves text front back len is_front is_back hex_front hex_back =
    let whole : text ≡ front ++ back = sym (take-append-drop 16 text) ∙ ap (λ (xs : List ℕ). xs ++ drop 16 text) (sym is_front) ∙ ap (λ (xs : List ℕ). front ++ xs) (sym is_back) in
    let back_len : length back ≡ 16 = ap length is_back ∙ length-drop 16 text ∙ omega arith in
    let hex : list_all is_lower_hex text ≡ true = ap (λ (xs : List ℕ). list_all is_lower_hex xs) whole ∙ rw (list_all-append is_lower_hex front back, hex_front, hex_back) refl in
    (rw (len, hex) refl, ap id_value whole ∙ behind front back back_len)
