-- Ids print in 32 lower-case hexadecimal digits and are read back from them; a made id has 128 bits and is of version 7.
use Rattle.std.proofs.Common.{◌≡◌, ℕ, zero, suc, ◌+◌, ◌*◌, ◌/◌, ◌%◌, ◌^◌, ◌<◌, Bool, true, false, ◌&&◌, eqb, List, [], ◌∷◌, ◌++◌, length, drop, get_or, refl, sym, ap, ◌∙◌, arith}
use Rattle.std.proofs.lemmas.List.{length-append}
use Rattle.std.proofs.lemmas.List.Sums.{fold-append, AllPass-from_list_all}
use Rattle.std.proofs.lemmas.List.Folds.{list_all-append}
use Rattle.std.proofs.lemmas.Bool.Decides.{nat_tests}
use Rattle.std.proofs.lemmas.Bool.{eqb-true}
use Rattle.std.proofs.Math.Nat.{pow-suc}
use Rattle.std.specs.List.{list_all}
use Rattle.std.specs.Char.{digit_char, digit_value}
use Rattle.std.specs.Str.{IsAscii, IsUtf8}
use Rattle.std.proofs.lemmas.Str.{IsUtf8-from_ascii}
use Rattle.std.proofs.lemmas.Str.Ascii.{IsAscii-from_all}
use Rattle.std.specs.Int.{w128, byte_at, bytes_high_first, from_be_bytes}
use Rattle.std.specs.Int.Bits.{bit_and, bit_or, mask_lt}
use Rattle.std.proofs.lemmas.Nat.{or_block}
use Rattle.std.proofs.lemmas.List.{get_or-drop}
use Rattle.std.proofs.Math.Nat.{zero-add}
use Rattle.definitions.specs.Ids.{hex_digits, id_text, made_id, id_bytes}
use Rattle.definitions.specs.Reading.{is_lower_hex, is_id_text, id_value}

both_true : (a b : Bool) → (a && b) ≡ true → (a ≡ true) × (b ≡ true)
both_true true true e = (refl, refl)
both_true true false e = absurd cc
both_true false b e = absurd cc

-- ---- one digit

digit_value-digit_char : (d : ℕ) → d < 16 → digit_value (digit_char d) ≡ d
digit_value-digit_char d lt = grind (arith, nat_tests)

is_lower_hex-digit_char : (d : ℕ) → d < 16 → is_lower_hex (digit_char d) ≡ true
is_lower_hex-digit_char d lt = grind (arith, nat_tests)

digit_value-below : (c : ℕ) → is_lower_hex c ≡ true → digit_value c < 16
digit_value-below c hex = grind (arith, nat_tests)

digit_char-digit_value : (c : ℕ) → is_lower_hex c ≡ true → digit_char (digit_value c) ≡ c
digit_char-digit_value c hex = grind (arith, nat_tests)

is_lower_hex-ascii : (c : ℕ) → is_lower_hex c ≡ true → c < 128
is_lower_hex-ascii c hex = grind (arith, nat_tests)

-- ---- n digits

length-hex_digits : (n id : ℕ) → length (hex_digits n id) ≡ n
length-hex_digits zero id = refl
length-hex_digits (suc n) id = let front = length-hex_digits n (id / 16) in simp (length-append) (omega arith)

hex_digits-lower_hex : (n id : ℕ) → list_all is_lower_hex (hex_digits n id) ≡ true
hex_digits-lower_hex zero id = refl
hex_digits-lower_hex (suc n) id =
    let front = hex_digits-lower_hex n (id / 16) in
    let last : is_lower_hex (digit_char (id % 16)) ≡ true = is_lower_hex-digit_char (id % 16) (omega arith) in
    rw (list_all-append is_lower_hex (hex_digits n (id / 16)) (digit_char (id % 16) ∷ []), front, last) refl

id_value-more : (digits : List ℕ) (c : ℕ) → id_value (digits ++ c ∷ []) ≡ id_value digits * 16 + digit_value c
unfolding id_value
id_value-more digits c = fold-append (λ (value digit : ℕ). value * 16 + digit_value digit) 0 digits (c ∷ [])

id_value-hex_digits : (n id : ℕ) → id < 16 ^ n → id_value (hex_digits n id) ≡ id
unfolding id_value
id_value-hex_digits zero id lt = omega arith
id_value-hex_digits (suc n) id lt =
    let front : id_value (hex_digits n (id / 16)) ≡ id / 16 = id_value-hex_digits n (id / 16) (let p = pow-suc 16 n in omega arith) in
    let last : digit_value (digit_char (id % 16)) ≡ id % 16 = digit_value-digit_char (id % 16) (omega arith) in
    id_value-more (hex_digits n (id / 16)) (digit_char (id % 16)) ∙ rw (front, last) (omega arith)

-- the last element of a list apart
snoc : (n : ℕ) (xs : List ℕ) → length xs ≡ suc n → (front : List ℕ) × (last : ℕ) × (length front ≡ n) × (xs ≡ front ++ last ∷ [])
snoc n [] e = absurd (omega arith)
snoc zero (x ∷ []) e = ([], x, refl, refl)
snoc zero (x ∷ y ∷ xs) e = absurd (omega arith)
snoc (suc n) (x ∷ xs) e = let s = snoc n xs (omega arith) in (x ∷ s.0, s.1, ap suc s.2, ap (λ (ys : List ℕ). x ∷ ys) s.3)

hex_digits-id_value : (n : ℕ) (digits : List ℕ) → length digits ≡ n → list_all is_lower_hex digits ≡ true → (hex_digits n (id_value digits) ≡ digits) × (id_value digits < 16 ^ n)
unfolding id_value
hex_digits-id_value zero [] len hex = (refl, omega arith)
hex_digits-id_value zero (x ∷ xs) len hex = absurd (omega arith)
hex_digits-id_value (suc n) digits len hex =
    let s = snoc n digits len in
    let both : (list_all is_lower_hex s.0 && (is_lower_hex s.1 && true)) ≡ true = sym (list_all-append is_lower_hex s.0 (s.1 ∷ [])) ∙ ap (λ (xs : List ℕ). list_all is_lower_hex xs) (sym s.3) ∙ hex in
    let parts = both_true (list_all is_lower_hex s.0) (is_lower_hex s.1 && true) both in
    let last = (both_true (is_lower_hex s.1) true parts.1).0 in
    let front = hex_digits-id_value n s.0 s.2 parts.0 in
    let low = digit_value-below s.1 last in
    let p = pow-suc 16 n in
    let value : id_value digits ≡ id_value s.0 * 16 + digit_value s.1 = ap id_value s.3 ∙ id_value-more s.0 s.1 in
    let high : (id_value s.0 * 16 + digit_value s.1) / 16 ≡ id_value s.0 = omega arith in
    let one : (id_value s.0 * 16 + digit_value s.1) % 16 ≡ digit_value s.1 = omega arith in
    (rw (value, high, one, front.0, digit_char-digit_value s.1 last) (sym s.3), let b = front.1 in omega arith)

-- ---- the text of an id

pub id_text-length : (id : ℕ) → length (id_text id) ≡ 32
unfolding id_text
id_text-length id = length-hex_digits 32 id

pub id_text-ascii : (id : ℕ) → IsAscii (id_text id)
unfolding id_text
id_text-ascii id = IsAscii-from_all (hex_digits 32 id) (λ k d lt. is_lower_hex-ascii (get_or (hex_digits 32 id) k d) (AllPass-from_list_all is_lower_hex (hex_digits 32 id) (hex_digits-lower_hex 32 id) k d lt))

pub id_text-utf8 : (id : ℕ) → IsUtf8 (id_text id)
id_text-utf8 id = IsUtf8-from_ascii (id_text id) (id_text-ascii id)

-- the digits of an id tell it
pub id_value-id_text : (id : ℕ) → id < 2 ^ 128 → id_value (id_text id) ≡ id
unfolding id_text
id_value-id_text id lt = id_value-hex_digits 32 id (omega arith)

pub id_text-one : (a b : ℕ) → a < 2 ^ 128 → b < 2 ^ 128 → id_text a ≡ id_text b → a ≡ b
id_text-one a b a_fits b_fits e = sym (id_value-id_text a a_fits) ∙ ap id_value e ∙ id_value-id_text b b_fits

-- a text that passes the test is that of an id, which its digits tell, and no other is
pub is_id_text-found : (text : List ℕ) → is_id_text text ≡ true → (id_value text < 2 ^ 128) × (text ≡ id_text (id_value text))
unfolding id_text
is_id_text-found text e =
    let parts = both_true (eqb (length text) 32) (list_all is_lower_hex text) e in
    let found = hex_digits-id_value 32 text (eqb-true (length text) 32 parts.0) parts.1 in
    (found.1, sym found.0)

passes : (text : List ℕ) → length text ≡ 32 → list_all is_lower_hex text ≡ true → is_id_text text ≡ true
passes text len hex = rw (len, hex) refl

pub is_id_text-id_text : (id : ℕ) → is_id_text (id_text id) ≡ true
unfolding id_text
is_id_text-id_text id = passes (hex_digits 32 id) (length-hex_digits 32 id) (hex_digits-lower_hex 32 id)

-- ---- made ids

abbrev AreBytes : List ℕ → Type 0
AreBytes bytes = (i : ℕ) → get_or bytes i 0 < 256

AreBytes-cons : (b : ℕ) (bytes : List ℕ) → b < 256 → AreBytes bytes → AreBytes (b ∷ bytes)
AreBytes-cons b bytes lt are zero = lt
AreBytes-cons b bytes lt are (suc i) = are i

-- the number of 16 bytes
from_16-fits : (bytes : List ℕ) → AreBytes bytes → from_be_bytes w128 bytes < 2 ^ 128
from_16-fits bytes are =
    omega (arith, are 0, are 1, are 2, are 3, are 4, are 5, are 6, are 7, are 8, are 9, are 10, are 11, are 12, are 13, are 14, are 15)

from_16-nibble : (bytes : List ℕ) → AreBytes bytes → (low : ℕ) → low < 16 → get_or bytes 6 0 ≡ 112 + low → from_be_bytes w128 bytes / 2 ^ 76 % 16 ≡ 7
from_16-nibble bytes are low lt e =
    omega (arith, are 0, are 1, are 2, are 3, are 4, are 5, are 6, are 7, are 8, are 9, are 10, are 11, are 12, are 13, are 14, are 15)

from_16-pair : (bytes : List ℕ) → AreBytes bytes → (low : ℕ) → low < 64 → get_or bytes 8 0 ≡ 128 + low → from_be_bytes w128 bytes / 2 ^ 62 % 4 ≡ 2
from_16-pair bytes are low lt e =
    omega (arith, are 0, are 1, are 2, are 3, are 4, are 5, are 6, are 7, are 8, are 9, are 10, are 11, are 12, are 13, are 14, are 15)

version_byte : (b : ℕ) → bit_or 0x70 (bit_and b 0x0f) ≡ 112 + bit_and b 0x0f
version_byte b = let low : bit_and b 0x0f < 16 = mask_lt b 4 in let e = or_block 4 7 0 0 (bit_and b 0x0f) (omega arith) low in rw zero-add at e

variant_byte : (b : ℕ) → bit_or 0x80 (bit_and b 0x3f) ≡ 128 + bit_and b 0x3f
variant_byte b = let low : bit_and b 0x3f < 64 = mask_lt b 6 in let e = or_block 6 2 0 0 (bit_and b 0x3f) (omega arith) low in rw zero-add at e

byte_at-fits : (k n : ℕ) → byte_at k n < 256
byte_at-fits zero n = omega arith
byte_at-fits (suc k) n = omega arith

-- bytes of a number before other bytes
time_bytes : (k n : ℕ) (rest : List ℕ) → AreBytes rest → AreBytes (bytes_high_first k n ++ rest)
time_bytes zero n rest are = are
time_bytes (suc k) n rest are = AreBytes-cons (byte_at k n) (bytes_high_first k n ++ rest) (byte_at-fits k n) (time_bytes k n rest are)

id_bytes-are : (now : ℕ) (drawn : List ℕ) → AreBytes drawn → AreBytes (id_bytes now drawn)
id_bytes-are now drawn are =
    let time = now / 1000000 % 2 ^ 48 in
    let version = bit_or 0x70 (bit_and (get_or drawn 0 0) 0x0f) in
    let variant = bit_or 0x80 (bit_and (get_or drawn 2 0) 0x3f) in
    let low : bit_and (get_or drawn 0 0) 0x0f < 16 = mask_lt (get_or drawn 0 0) 4 in
    let lows : bit_and (get_or drawn 2 0) 0x3f < 64 = mask_lt (get_or drawn 2 0) 6 in
    let seventh : version < 256 = omega (arith, version_byte (get_or drawn 0 0)) in
    let ninth : variant < 256 = omega (arith, variant_byte (get_or drawn 2 0)) in
    let rest : AreBytes (drop 3 drawn) = λ i. rw get_or-drop (are (3 + i)) in
    let behind = AreBytes-cons version (get_or drawn 1 0 ∷ variant ∷ drop 3 drawn) seventh (AreBytes-cons (get_or drawn 1 0) (variant ∷ drop 3 drawn) (are 1) (AreBytes-cons variant (drop 3 drawn) ninth rest)) in
    time_bytes 6 time (version ∷ get_or drawn 1 0 ∷ variant ∷ drop 3 drawn) behind

pub made_id-fits : (now : ℕ) (drawn : List ℕ) → ((i : ℕ) → get_or drawn i 0 < 256) → made_id now drawn < 2 ^ 128
made_id-fits now drawn are = from_16-fits (id_bytes now drawn) (id_bytes-are now drawn are)

-- its four bits of version, and its two of variant
pub made_id-version : (now : ℕ) (drawn : List ℕ) → ((i : ℕ) → get_or drawn i 0 < 256) → made_id now drawn / 2 ^ 76 % 16 ≡ 7
made_id-version now drawn are = from_16-nibble (id_bytes now drawn) (id_bytes-are now drawn are) (bit_and (get_or drawn 0 0) 0x0f) (mask_lt (get_or drawn 0 0) 4) (version_byte (get_or drawn 0 0))

pub made_id-variant : (now : ℕ) (drawn : List ℕ) → ((i : ℕ) → get_or drawn i 0 < 256) → made_id now drawn / 2 ^ 62 % 4 ≡ 2
made_id-variant now drawn are = from_16-pair (id_bytes now drawn) (id_bytes-are now drawn are) (bit_and (get_or drawn 2 0) 0x3f) (mask_lt (get_or drawn 2 0) 6) (variant_byte (get_or drawn 2 0))
