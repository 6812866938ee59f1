-- The bytes of an id in hexadecimal are its digits.
use Rattle.std.proofs.Common.{◌≡◌, ℕ, ◌*◌, ◌/◌, ◌%◌, ◌^◌, ◌<◌, zero, suc, List, [], ◌∷◌, ◌++◌, refl, sym, ap, ap₂, ◌∙◌, arith, slice_index}
use Rattle.std.specs.Char.{digit_char}
use Rattle.std.specs.Int.{byte_at, bytes_high_first, to_be_bytes, w128}
use Rattle.std.proofs.Math.Nat.{div-div-eq-div-mul, div-one, pow-suc, pow-succ'}
use Rattle.hex.specs.Hex.{encode_with, encode_lower, lower_digits}
use Rattle.definitions.specs.Ids.{hex_digits, id_text}

-- the first of the last m + 1 digits
hex_digits-first : (m n : ℕ) → hex_digits (suc m) n ≡ digit_char (n / 16 ^ m % 16) ∷ hex_digits m n
hex_digits-first zero n = ap (λ (q : ℕ). digit_char (q % 16) ∷ []) (sym (div-one n))
hex_digits-first (suc m) n =
    let power : 16 * 16 ^ m ≡ 16 ^ suc m = sym (pow-succ' 16 m) in
    let quotient : n / 16 / 16 ^ m ≡ n / 16 ^ suc m = div-div-eq-div-mul n 16 (16 ^ m) ∙ ap (λ (k : ℕ). n / k) power in
    ap (λ (ds : List ℕ). ds ++ digit_char (n % 16) ∷ []) (hex_digits-first m (n / 16))
    ∙ ap (λ (q : ℕ). digit_char (q % 16) ∷ hex_digits (suc m) n) quotient

squares : (k : ℕ) → 256 ^ k ≡ 16 ^ (2 * k)
squares zero = refl
squares (suc k) =
    let twice : 2 * suc k ≡ suc (suc (2 * k)) = omega arith in
    let before : 256 ^ k ≡ 16 ^ (2 * k) = squares k in
    omega (arith, pow-suc 256 k, pow-suc 16 (suc (2 * k)), pow-suc 16 (2 * k), ap (λ (e : ℕ). 16 ^ e) twice, before)

byte_at-is : (k n : ℕ) → byte_at k n ≡ n / 16 ^ (2 * k) % 256
byte_at-is zero n = ap (λ (q : ℕ). q % 256) (sym (div-one n))
byte_at-is (suc k) n = ap (λ (p : ℕ). n / p % 256) (squares (suc k))

digit_at : (d : ℕ) → d < 16 → slice_index lower_digits d ≡ digit_char d
digit_at zero h = refl
digit_at (suc zero) h = refl
digit_at (suc (suc zero)) h = refl
digit_at (suc (suc (suc zero))) h = refl
digit_at (suc (suc (suc (suc zero)))) h = refl
digit_at (suc (suc (suc (suc (suc zero))))) h = refl
digit_at (suc (suc (suc (suc (suc (suc zero)))))) h = refl
digit_at (suc (suc (suc (suc (suc (suc (suc zero))))))) h = refl
digit_at (suc (suc (suc (suc (suc (suc (suc (suc zero)))))))) h = refl
digit_at (suc (suc (suc (suc (suc (suc (suc (suc (suc zero))))))))) h = refl
digit_at (suc (suc (suc (suc (suc (suc (suc (suc (suc (suc zero)))))))))) h = refl
digit_at (suc (suc (suc (suc (suc (suc (suc (suc (suc (suc (suc zero))))))))))) h = refl
digit_at (suc (suc (suc (suc (suc (suc (suc (suc (suc (suc (suc (suc zero)))))))))))) h = refl
digit_at (suc (suc (suc (suc (suc (suc (suc (suc (suc (suc (suc (suc (suc zero))))))))))))) h = refl
digit_at (suc (suc (suc (suc (suc (suc (suc (suc (suc (suc (suc (suc (suc (suc zero)))))))))))))) h = refl
digit_at (suc (suc (suc (suc (suc (suc (suc (suc (suc (suc (suc (suc (suc (suc (suc zero))))))))))))))) h = refl
digit_at (suc (suc (suc (suc (suc (suc (suc (suc (suc (suc (suc (suc (suc (suc (suc (suc d)))))))))))))))) h = absurd (omega arith)

-- the two digits of byte k are the digits 2 k + 1 and 2 k
high_digit : (k n : ℕ) → byte_at k n / 16 ≡ n / 16 ^ suc (2 * k) % 16
high_digit k n =
    let next : n / 16 ^ (2 * k) / 16 ≡ n / 16 ^ suc (2 * k) = div-div-eq-div-mul n (16 ^ (2 * k)) 16 ∙ ap (λ (p : ℕ). n / p) (sym (pow-suc 16 (2 * k))) in
    let halved : n / 16 ^ (2 * k) % 256 / 16 ≡ n / 16 ^ (2 * k) / 16 % 16 = omega arith in
    ap (λ (b : ℕ). b / 16) (byte_at-is k n) ∙ halved ∙ ap (λ (q : ℕ). q % 16) next

low_digit : (k n : ℕ) → byte_at k n % 16 ≡ n / 16 ^ (2 * k) % 16
low_digit k n =
    let halved : n / 16 ^ (2 * k) % 256 % 16 ≡ n / 16 ^ (2 * k) % 16 = omega arith in
    ap (λ (b : ℕ). b % 16) (byte_at-is k n) ∙ halved

pub encoded_bytes : (k n : ℕ) → encode_lower (bytes_high_first k n) ≡ hex_digits (2 * k) n
unfolding encode_with
encoded_bytes zero n = refl
encoded_bytes (suc k) n =
    let twice : suc (suc (2 * k)) ≡ 2 * suc k = omega arith in
    let high : slice_index lower_digits (byte_at k n / 16) ≡ digit_char (n / 16 ^ suc (2 * k) % 16) = ap (slice_index lower_digits) (high_digit k n) ∙ digit_at (n / 16 ^ suc (2 * k) % 16) (omega arith) in
    let low : slice_index lower_digits (byte_at k n % 16) ≡ digit_char (n / 16 ^ (2 * k) % 16) = ap (slice_index lower_digits) (low_digit k n) ∙ digit_at (n / 16 ^ (2 * k) % 16) (omega arith) in
    let written : slice_index lower_digits (byte_at k n / 16) ∷ slice_index lower_digits (byte_at k n % 16) ∷ encode_with lower_digits (bytes_high_first k n) ≡ digit_char (n / 16 ^ suc (2 * k) % 16) ∷ digit_char (n / 16 ^ (2 * k) % 16) ∷ hex_digits (2 * k) n =
    ap (λ (ds : List ℕ). slice_index lower_digits (byte_at k n / 16) ∷ slice_index lower_digits (byte_at k n % 16) ∷ ds) (encoded_bytes k n)
    ∙ ap₂ (λ (a b : ℕ). a ∷ b ∷ hex_digits (2 * k) n) high low in
    let first : hex_digits (suc (suc (2 * k))) n ≡ digit_char (n / 16 ^ suc (2 * k) % 16) ∷ digit_char (n / 16 ^ (2 * k) % 16) ∷ hex_digits (2 * k) n =
    hex_digits-first (suc (2 * k)) n ∙ ap (λ (ds : List ℕ). digit_char (n / 16 ^ suc (2 * k) % 16) ∷ ds) (hex_digits-first (2 * k) n) in
    written ∙ sym first ∙ ap (λ (j : ℕ). hex_digits j n) twice

-- an id's bytes in hexadecimal are how it prints
pub id_encoded : (id : ℕ) → encode_lower (to_be_bytes w128 id) ≡ id_text id
unfolding id_text
id_encoded id = encoded_bytes 16 id
