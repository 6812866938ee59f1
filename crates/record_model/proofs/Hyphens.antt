-- The text of an id with hyphens is its digits in groups.
use Rattle.std.proofs.Common.{◌≡◌, ℕ, ◌/◌, ◌%◌, ◌<◌, zero, suc, List, ◌∷◌, ◌++◌, length, refl, sym, ap, ap₂, ◌∙◌, arith, take, drop, slice_index, inl}
use Rattle.std.specs.Int.{byte_at, to_be_bytes, w128}
use Rattle.hex.specs.Hex.{encode_with, encode_lower, lower_digits}
use Rattle.uuid.specs.Text.{by_index, hex_digit, lower, simple_text, hyphenated_text}
use Rattle.uuid.proofs.TextLemmas.{table_at}
use Rattle.definitions.specs.Ids.{hyphenated}
use Rattle.record_model.proofs.Digits.{id_encoded}

-- 32 characters in groups of 8, 4, 4, 4 and 12
abbrev grouped : List ℕ → List ℕ
grouped digits = take 8 digits ++ 45 ∷ (take 4 (drop 8 digits) ++ 45 ∷ (take 4 (drop 12 digits) ++ 45 ∷ (take 4 (drop 16 digits) ++ 45 ∷ drop 20 digits)))

digit-same : (d : ℕ) → d < 16 → hex_digit lower d ≡ slice_index lower_digits d
digit-same d below = sym (table_at lower d 0 (inl refl) below)

byte-same : (x : ℕ) (before after : List ℕ) → x < 256 → before ≡ after
    → hex_digit lower (x / 16 % 16) ∷ hex_digit lower (x % 16) ∷ before ≡ slice_index lower_digits (x / 16) ∷ slice_index lower_digits (x % 16) ∷ after
byte-same x before after below same =
    let whole : x / 16 % 16 ≡ x / 16 = omega arith in
    let high : hex_digit lower (x / 16 % 16) ≡ slice_index lower_digits (x / 16) = digit-same (x / 16 % 16) (omega arith) ∙ ap (slice_index lower_digits) whole in
    let low : hex_digit lower (x % 16) ≡ slice_index lower_digits (x % 16) = digit-same (x % 16) (omega arith) in
    ap₂ (λ (a b : ℕ). a ∷ b ∷ before) high low ∙ ap (λ (l : List ℕ). slice_index lower_digits (x / 16) ∷ slice_index lower_digits (x % 16) ∷ l) same

pub byte_at-below : (k n : ℕ) → byte_at k n < 256
byte_at-below zero n = omega arith
byte_at-below (suc k) n = omega arith

module _ (n : ℕ) where
  byte : (k : ℕ) (before after : List ℕ) → before ≡ after → hex_digit lower (byte_at k n / 16 % 16) ∷ hex_digit lower (byte_at k n % 16) ∷ before ≡ slice_index lower_digits (byte_at k n / 16) ∷ slice_index lower_digits (byte_at k n % 16) ∷ after
  byte k before after same = byte-same (byte_at k n) before after (byte_at-below k n) same

  simple_encoded : simple_text lower (to_be_bytes w128 n) ≡ encode_lower (to_be_bytes w128 n)
  unfolding by_index encode_with
  simple_encoded =
      byte 15 _ _ (byte 14 _ _ (byte 13 _ _ (byte 12 _ _ (byte 11 _ _ (byte 10 _ _ (byte 9 _ _ (byte 8 _ _ (byte 7 _ _ (byte 6 _ _ (byte 5 _ _ (byte 4 _ _ (byte 3 _ _ (byte 2 _ _ (byte 1 _ _ (byte 0 _ _ refl)))))))))))))))

  groups : hyphenated_text lower (to_be_bytes w128 n) ≡ grouped (simple_text lower (to_be_bytes w128 n))
  unfolding by_index
  groups = refl

  pub id_hyphenated : hyphenated_text lower (to_be_bytes w128 n) ≡ hyphenated n
  id_hyphenated = groups ∙ ap grouped (simple_encoded ∙ id_encoded n)

pub hyphenated-length : (bytes : List ℕ) → length (hyphenated_text lower bytes) ≡ 36
unfolding by_index
hyphenated-length bytes = refl
