-- What spells an integer, a text and the header of an array: MessagePack, "Formats". Numbers stand in big order. Every
-- width that holds a value spells it; the shortest is the one that is written.
use Rattle.std.specs.Prelude.{◌≡◌, ℕ, ◌+◌, ◌<◌, ◌^◌, ℤ, pos, negsuc, FitsSigned, List, [], ◌∷◌, ◌++◌, length, slice_index, nat_lt, if◌then◌else◌}
use Rattle.std.specs.Int.{Width, w8, w16, w32, w64, to_be_bytes, cast_unsigned}
use Rattle.std.specs.Str.{IsUtf8}

-- each of the numbers is a byte
abbrev pub IsBytes : List ℕ → Type 0
IsBytes bytes = (i : ℕ) → slice_index bytes i < 256

-- ---- integers: "int format family"

pub data IntegerForm : Type 0 where
  positive_fixint : IntegerForm
  negative_fixint : IntegerForm
  uint_8 : IntegerForm
  uint_16 : IntegerForm
  uint_32 : IntegerForm
  uint_64 : IntegerForm
  int_8 : IntegerForm
  int_16 : IntegerForm
  int_32 : IntegerForm
  int_64 : IntegerForm

-- a number that is not negative and is below the limit
abbrev pub IsBelow : ℕ → ℤ → Type 0
IsBelow limit (pos n) = n < limit
IsBelow limit (negsuc n) = ⊥

-- -32 to -1
abbrev pub IsNegativeFixint : ℤ → Type 0
IsNegativeFixint (pos n) = ⊥
IsNegativeFixint (negsuc n) = n < 32

abbrev pub FitsInteger : IntegerForm → ℤ → Type 0
FitsInteger positive_fixint z = IsBelow (2 ^ 7) z
FitsInteger negative_fixint z = IsNegativeFixint z
FitsInteger uint_8 z = IsBelow (2 ^ 8) z
FitsInteger uint_16 z = IsBelow (2 ^ 16) z
FitsInteger uint_32 z = IsBelow (2 ^ 32) z
FitsInteger uint_64 z = IsBelow (2 ^ 64) z
FitsInteger int_8 z = FitsSigned w8 z
FitsInteger int_16 z = FitsSigned w16 z
FitsInteger int_32 z = FitsSigned w32 z
FitsInteger int_64 z = FitsSigned w64 z

-- a first byte, then the number as two's complement in w bytes
abbrev pub marked : ℕ → Width → ℤ → List ℕ
marked first w z = first ∷ to_be_bytes w (cast_unsigned w z)

-- the one byte of a fixint is the number in eight bits
abbrev pub integer_bytes : IntegerForm → ℤ → List ℕ
integer_bytes positive_fixint z = to_be_bytes w8 (cast_unsigned w8 z)
integer_bytes negative_fixint z = to_be_bytes w8 (cast_unsigned w8 z)
integer_bytes uint_8 z = marked 0xcc w8 z
integer_bytes uint_16 z = marked 0xcd w16 z
integer_bytes uint_32 z = marked 0xce w32 z
integer_bytes uint_64 z = marked 0xcf w64 z
integer_bytes int_8 z = marked 0xd0 w8 z
integer_bytes int_16 z = marked 0xd1 w16 z
integer_bytes int_32 z = marked 0xd2 w32 z
integer_bytes int_64 z = marked 0xd3 w64 z

-- the bytes spell the integer
abbrev pub SpellsInteger : ℤ → List ℕ → Type 0
SpellsInteger z bytes = (form : IntegerForm) × FitsInteger form z × (bytes ≡ integer_bytes form z)

-- the bytes spell some integer
abbrev pub IsInteger : List ℕ → Type 0
IsInteger bytes = (z : ℤ) × SpellsInteger z bytes

-- the integers that have a spelling: -2^63 to 2^64-1
abbrev pub IsSpellable : ℤ → Type 0
IsSpellable (pos n) = n < 2 ^ 64
IsSpellable (negsuc n) = n < 2 ^ 63

-- the shortest form, an unsigned one for a number that is not negative
abbrev pub shortest_unsigned : ℕ → IntegerForm
shortest_unsigned n = if nat_lt n (2 ^ 7) then positive_fixint else (if nat_lt n (2 ^ 8) then uint_8 else (if nat_lt n (2 ^ 16) then uint_16 else (if nat_lt n (2 ^ 32) then uint_32 else uint_64)))

-- the same for -(n + 1)
abbrev pub shortest_negative : ℕ → IntegerForm
shortest_negative n = if nat_lt n 32 then negative_fixint else (if nat_lt n (2 ^ 7) then int_8 else (if nat_lt n (2 ^ 15) then int_16 else (if nat_lt n (2 ^ 31) then int_32 else int_64)))

abbrev pub written_integer : ℤ → List ℕ
written_integer (pos n) = integer_bytes (shortest_unsigned n) (pos n)
written_integer (negsuc n) = integer_bytes (shortest_negative n) (negsuc n)

-- ---- texts: "str format family"

pub data TextForm : Type 0 where
  fixstr : TextForm
  str_8 : TextForm
  str_16 : TextForm
  str_32 : TextForm

-- the lengths that a form's head holds
abbrev pub text_limit : TextForm → ℕ
text_limit fixstr = 2 ^ 5
text_limit str_8 = 2 ^ 8
text_limit str_16 = 2 ^ 16
text_limit str_32 = 2 ^ 32

abbrev pub text_head : TextForm → ℕ → List ℕ
text_head fixstr n = (0xa0 + n) ∷ []
text_head str_8 n = 0xd9 ∷ to_be_bytes w8 n
text_head str_16 n = 0xda ∷ to_be_bytes w16 n
text_head str_32 n = 0xdb ∷ to_be_bytes w32 n

-- a text that a form can hold is UTF-8, and has fewer than 2^32 bytes
pub record TextFits (text : List ℕ) : Type 0 where
  pub utf8 : IsUtf8 text
  pub short : length text < 2 ^ 32

-- the bytes spell the text, which is UTF-8: a head with its length, then the text
pub record SpellsText (text bytes : List ℕ) : Type 0 where
  pub form : TextForm
  pub fits : length text < text_limit form
  pub utf8 : IsUtf8 text
  pub are : bytes ≡ text_head form (length text) ++ text

-- the bytes spell some text
abbrev pub IsText : List ℕ → Type 0
IsText bytes = (text : List ℕ) × SpellsText text bytes

abbrev pub shortest_text : ℕ → TextForm
shortest_text n = if nat_lt n (2 ^ 5) then fixstr else (if nat_lt n (2 ^ 8) then str_8 else (if nat_lt n (2 ^ 16) then str_16 else str_32))

abbrev pub written_text : List ℕ → List ℕ
written_text text = text_head (shortest_text (length text)) (length text) ++ text

-- ---- headers of arrays: "array format family"

pub data ArrayForm : Type 0 where
  fixarray : ArrayForm
  array_16 : ArrayForm
  array_32 : ArrayForm

abbrev pub array_limit : ArrayForm → ℕ
array_limit fixarray = 2 ^ 4
array_limit array_16 = 2 ^ 16
array_limit array_32 = 2 ^ 32

abbrev pub array_head : ArrayForm → ℕ → List ℕ
array_head fixarray n = (0x90 + n) ∷ []
array_head array_16 n = 0xdc ∷ to_be_bytes w16 n
array_head array_32 n = 0xdd ∷ to_be_bytes w32 n

-- the bytes spell the header of an array of n items
abbrev pub SpellsArray : ℕ → List ℕ → Type 0
SpellsArray n bytes = (form : ArrayForm) × (n < array_limit form) × (bytes ≡ array_head form n)

-- the bytes spell the header of some array
abbrev pub IsArray : List ℕ → Type 0
IsArray bytes = (n : ℕ) × SpellsArray n bytes

abbrev pub shortest_array : ℕ → ArrayForm
shortest_array n = if nat_lt n (2 ^ 4) then fixarray else (if nat_lt n (2 ^ 16) then array_16 else array_32)

abbrev pub written_array : ℕ → List ℕ
written_array n = array_head (shortest_array n) n
