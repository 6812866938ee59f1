-- The query of a target, read as a web form (URL Standard, section 5).
use Rattle.std.specs.Prelude.{ℕ, ◌^◌, Bool, ◌&&◌, nat_le, nat_lt, List, [], ◌∷◌, length, map, filter, Option, Some, None, if◌then◌else◌}
use Rattle.std.specs.Char.{is_ascii_digit}
use Rattle.std.specs.List.{list_all}
use Rattle.std.specs.Str.{bytes_eq}
use Rattle.std.specs.Str.Lossy.{utf8_lossy}
use Rattle.std.specs.Str.Parse.{digits_value}
use Rattle.form_urlencoded.specs.Form.{decode, raw_pairs}

abbrev pub Pair : Type 0
Pair = List ℕ × List ℕ

-- a name and its value, each byte sequence that isn't UTF-8 replaced
abbrev pub text_of : List ℕ → List ℕ
text_of encoded = utf8_lossy (decode encoded)

abbrev pub decoded : Pair → Pair
decoded pair = (text_of pair.0, text_of pair.1)

abbrev pub pairs_of : List Pair → List Pair
pairs_of encoded = map decoded encoded

abbrev pub pairs_in : (query : List ℕ) → List Pair
pairs_in query = pairs_of (raw_pairs query)

-- ---- what stands under a name

abbrev pub is_named : (name : List ℕ) → Pair → Bool
is_named name pair = bytes_eq pair.0 name

abbrev pub value_of : Pair → List ℕ
value_of pair = pair.1

abbrev pub values_of : (name : List ℕ) → List Pair → List (List ℕ)
values_of name pairs = map value_of (filter (is_named name) pairs)

abbrev pub the_only : List (List ℕ) → Option (List ℕ)
the_only [] = None
the_only (value ∷ []) = Some value
the_only (value ∷ more ∷ others) = None

-- the value of the one pair of this name
abbrev pub value_under : (name query : List ℕ) → Option (List ℕ)
value_under name query = the_only (values_of name (pairs_in query))

-- ---- numbers

abbrev pub most_digits : ℕ
most_digits = 20

-- 1 to 20 decimal digits
abbrev pub are_digits : List ℕ → Bool
are_digits text = nat_le 1 (length text) && nat_le (length text) most_digits && list_all is_ascii_digit text

-- the number below 2^64 that they write
abbrev pub number_in : List ℕ → Option ℕ
number_in text = if are_digits text && nat_lt (digits_value 10 text) (2 ^ 64) then Some (digits_value 10 text) else None
