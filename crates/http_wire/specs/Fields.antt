-- What the fields of a head tell of its message (RFC 9110, sections 5, 8.6 and 11.6.2, and RFC 9112, sections 6 and 9.6). A field is
-- its name and its value, without the blanks at the value's ends.
use Rattle.std.specs.Prelude.{ℕ, Bool, ◌&&◌, ◌==◌, nat_lt, nat_le, List, [], ◌∷◌, length, map, filter, codes, Option, Some, None, if◌then◌else◌}
use Rattle.std.specs.Char.{is_ascii_digit, to_ascii_lowercase}
use Rattle.std.specs.List.{list_any, list_all}
use Rattle.std.specs.Str.{bytes_eq, is_utf8}
use Rattle.std.specs.Str.Parse.{digits_value}

abbrev pub FieldSeen : Type 0
FieldSeen = List ℕ × List ℕ

-- words are compared without regard to ASCII case
abbrev pub same_word : List ℕ → List ℕ → Bool
same_word word other = bytes_eq (map to_ascii_lowercase word) (map to_ascii_lowercase other)

abbrev pub is_named : (name : List ℕ) → FieldSeen → Bool
is_named name field = same_word field.0 name

abbrev pub value_of : FieldSeen → List ℕ
value_of field = field.1

-- the values of the fields of a name, in order
abbrev pub values_of : (name : List ℕ) → List FieldSeen → List (List ℕ)
values_of name fields = map value_of (filter (is_named name) fields)

-- ---- authorization

-- the only value, if it is UTF-8
abbrev pub only_text : List (List ℕ) → Option (List ℕ)
only_text [] = None
only_text (value ∷ []) = if is_utf8 value then Some value else None
only_text (value ∷ more ∷ others) = None

abbrev pub authorization_in : List FieldSeen → Option (List ℕ)
authorization_in fields = only_text (values_of (codes "authorization") fields)

-- ---- the end of the connection

abbrev pub closes : FieldSeen → Bool
closes field = is_named (codes "connection") field && same_word field.1 (codes "close")

abbrev pub says_close : List FieldSeen → Bool
says_close fields = list_any closes fields

-- ---- the length of the body

-- 1 to 10 digits, and nothing else
abbrev pub is_length : List ℕ → Bool
is_length text = nat_lt 0 (length text) && (nat_le (length text) 10 && list_all is_ascii_digit text)

abbrev pub length_in : List ℕ → Option ℕ
length_in text = if is_length text then Some (digits_value 10 text) else None

-- the length that the only value tells, or that of a body of which none is told
abbrev pub only_length : (without : Option ℕ) → List (List ℕ) → Option ℕ
only_length without [] = without
only_length without (value ∷ []) = length_in value
only_length without (value ∷ more ∷ others) = None

-- A body that is sent in another coding has no length that is told. The lengths that are told of it count for nothing, since
-- whoever takes them finds another end of the message than whoever takes the coding.
abbrev pub length_told : (without : Option ℕ) → List FieldSeen → Option ℕ
length_told without fields = if length (values_of (codes "transfer-encoding") fields) == 0 then only_length without (values_of (codes "content-length") fields) else None
