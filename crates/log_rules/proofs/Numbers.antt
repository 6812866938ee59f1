-- A number's bytes, the highest first, and the number that bytes are, are told by each other.
use Rattle.std.proofs.Common.{◌≡◌, ℕ, zero, suc, ◌+◌, ◌*◌, ◌/◌, ◌<◌, ◌^◌, List, [], ◌∷◌, length, refl, sym, ◌∙◌, ap, arith}
use Rattle.std.specs.Int.{bytes_high_first}
use Rattle.std.proofs.lemmas.Nat.{div-mul-add}
use Rattle.std.proofs.lemmas.List.{append-nil}
use Rattle.byteorder.specs.Endian.{big_number}
use Rattle.byteorder.specs.Numbers.{big_from-cons, big_from-lt, big_number-reads_back, length-bytes_high_first}
use Rattle.definitions.specs.Spelling.{IsBytes}
use Rattle.definitions.proofs.Bytes.{IsBytes-tail}

-- the number of bytes with one more before them
first_byte : (n b : ℕ) (bytes : List ℕ) → big_number (suc n) (b ∷ bytes) ≡ b * 256 ^ n + big_number n bytes
first_byte n b bytes = ap (λ (low : ℕ). b * 256 ^ n + low) (big_from-cons 0 n b bytes)

same_number : (n : ℕ) (bytes others : List ℕ) → length bytes ≡ n → length others ≡ n → IsBytes bytes → IsBytes others → big_number n bytes ≡ big_number n others → bytes ≡ others
same_number zero [] [] len other_len is other_is e = refl
same_number zero (b ∷ bytes) others len other_len is other_is e = absurd (omega arith)
same_number zero [] (b ∷ bytes) len other_len is other_is e = absurd (omega arith)
same_number (suc n) [] others len other_len is other_is e = absurd (omega arith)
same_number (suc n) (b ∷ bytes) [] len other_len is other_is e = absurd (omega arith)
same_number (suc n) (b ∷ bytes) (c ∷ others) len other_len is other_is e =
    let low = big_number n bytes in
    let other_low = big_number n others in
    let whole : b * 256 ^ n + low ≡ c * 256 ^ n + other_low = sym (first_byte n b bytes) ∙ e ∙ first_byte n c others in
    let fits : low < 256 ^ n = big_from-lt 0 n bytes (IsBytes-tail b bytes is) in
    let other_fits : other_low < 256 ^ n = big_from-lt 0 n others (IsBytes-tail c others other_is) in
    let high : b ≡ c = sym (div-mul-add b (256 ^ n) low fits) ∙ ap (λ (v : ℕ). v / 256 ^ n) whole ∙ div-mul-add c (256 ^ n) other_low other_fits in
    let product : b * 256 ^ n ≡ c * 256 ^ n = ap (λ (v : ℕ). v * 256 ^ n) high in
    let lower : low ≡ other_low = omega (arith, whole, product) in
    (λ i. high i ∷ same_number n bytes others (omega (arith, len)) (omega (arith, other_len)) (IsBytes-tail b bytes is) (IsBytes-tail c others other_is) lower i)

pub high_first_is_bytes : (n x : ℕ) → IsBytes (bytes_high_first n x)
high_first_is_bytes zero x i = omega arith
high_first_is_bytes (suc zero) x zero = omega arith
high_first_is_bytes (suc (suc n)) x zero = omega arith
high_first_is_bytes (suc n) x (suc i) = high_first_is_bytes n x i

-- the bytes of the number that bytes are
pub bytes_of_number : (n : ℕ) (bytes : List ℕ) → length bytes ≡ n → IsBytes bytes → bytes_high_first n (big_number n bytes) ≡ bytes
bytes_of_number n bytes len is =
    let number = big_number n bytes in
    let back : big_number n (bytes_high_first n number) ≡ number = ap (big_number n) (sym (append-nil (bytes_high_first n number))) ∙ big_number-reads_back n number [] (big_from-lt 0 n bytes is) in
    same_number n (bytes_high_first n number) bytes (length-bytes_high_first n number) len (high_first_is_bytes n number) is back
