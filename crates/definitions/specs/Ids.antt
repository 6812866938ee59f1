-- Ids of commands, records and hosts: RFC 9562, 5.7, UUID version 7, and how they print.
use Rattle.std.specs.Prelude.{ℕ, zero, suc, ◌/◌, ◌%◌, ◌^◌, List, [], ◌∷◌, ◌++◌, take, drop, slice_index, bit_and, bit_or}
use Rattle.std.specs.Int.{w64, w128, to_be_bytes, from_be_bytes}
use Rattle.std.specs.Char.{digit_char}

-- 48 bits of milliseconds since 1970, then the version, the variant and 74 of the random bits: `now` is in nanoseconds
-- since 1970, and ten random bytes are given
abbrev pub id_bytes : ℕ → List ℕ → List ℕ
id_bytes now random =
    drop 2 (to_be_bytes w64 (now / 1000000 % 2 ^ 48))
    ++ (bit_or 0x70 (bit_and (slice_index random 0) 0x0f) ∷ slice_index random 1 ∷ bit_or 0x80 (bit_and (slice_index random 2) 0x3f) ∷ drop 3 random)

-- the id made at a time from ten random bytes
abbrev pub made_id : ℕ → List ℕ → ℕ
made_id now random = from_be_bytes w128 (id_bytes now random)

-- the last n hexadecimal digits of a number, the highest first
abbrev pub hex_digits : ℕ → ℕ → List ℕ
hex_digits zero id = []
hex_digits (suc n) id = hex_digits n (id / 16) ++ digit_char (id % 16) ∷ []

-- how the id of a command prints
unfoldable pub id_text : ℕ → List ℕ
id_text id = hex_digits 32 id

-- how the id of a record or a host prints (RFC 9562, 4): groups of 8, 4, 4, 4 and 12 digits, a hyphen between them
abbrev pub hyphenated : ℕ → List ℕ
hyphenated id = take 8 (id_text id) ++ 45 ∷ (take 4 (drop 8 (id_text id)) ++ 45 ∷ (take 4 (drop 12 (id_text id)) ++ 45 ∷ (take 4 (drop 16 (id_text id)) ++ 45 ∷ drop 20 (id_text id))))
