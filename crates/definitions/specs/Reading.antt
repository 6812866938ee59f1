-- Reading from left to right, as code does. Nothing rests on these words alone: the laws of `proofs/` join them to
-- what `Spelling` and `Calls` say.
use Rattle.std.specs.Prelude.{ℕ, ◌+◌, ◌-◌, ◌*◌, ◌^◌, ℤ, pos, negsuc, List, [], ◌∷◌, length, take, drop, Option, Some, None, Result, Ok, Err, Bool, true, false, is_some, ◌&&◌, ◌||◌, nat_lt, nat_le, ◌==◌, if◌then◌else◌}
use Rattle.std.specs.Int.{Width, w8, w16, w32, w64, byte_len, from_be_bytes, cast_signed}
use Rattle.std.specs.List.{list_all, fold}
use Rattle.std.specs.Char.{digit_value}
use Rattle.std.specs.Str.{is_utf8}
use Rattle.definitions.specs.Calls.{Argument, a_text, an_integer, Kind, any_text, empty_text, id_digits, signed_64, from_to}

-- ---- items: a value and the bytes behind it, or nothing where no such item stands there

infixl 10 ◌>>=◌
abbrev pub ◌>>=◌ : {A B : Type 0} → Option A → (A → Option B) → Option B
(Some x) >>= f = f x
None >>= f = None

-- a number in w bytes
abbrev pub wide_at : Width → List ℕ → Option (ℕ × List ℕ)
wide_at w bytes = if nat_lt (length bytes) (byte_len w) then None else Some (from_be_bytes w (take (byte_len w) bytes), drop (byte_len w) bytes)

abbrev pub unsigned_at : Width → List ℕ → Option (ℤ × List ℕ)
unsigned_at w bytes = wide_at w bytes >>= λ n. Some (pos n.0, n.1)

abbrev pub signed_at : Width → List ℕ → Option (ℤ × List ℕ)
signed_at w bytes = wide_at w bytes >>= λ n. Some (cast_signed w n.0, n.1)

unfoldable pub integer_at : List ℕ → Option (ℤ × List ℕ)
integer_at [] = None
integer_at (b ∷ rest) =
    if nat_lt b 0x80 then Some (pos b, rest) else (if nat_le 0xe0 b then Some (negsuc (255 - b), rest) else (if b == 0xcc then unsigned_at w8 rest else (if b == 0xcd then unsigned_at w16 rest else (if b == 0xce then unsigned_at w32 rest else (if b == 0xcf then unsigned_at w64 rest else (if b == 0xd0 then signed_at w8 rest else (if b == 0xd1 then signed_at w16 rest else (if b == 0xd2 then signed_at w32 rest else (if b == 0xd3 then signed_at w64 rest else None)))))))))

-- the length in a text's head
unfoldable pub text_head_at : List ℕ → Option (ℕ × List ℕ)
text_head_at [] = None
text_head_at (b ∷ rest) =
    if nat_le 0xa0 b && nat_le b 0xbf then Some (b - 0xa0, rest) else (if b == 0xd9 then wide_at w8 rest else (if b == 0xda then wide_at w16 rest else (if b == 0xdb then wide_at w32 rest else None)))

unfoldable pub text_at : List ℕ → Option (List ℕ × List ℕ)
text_at bytes = do
  n ← text_head_at bytes
  if nat_lt (length n.1) n.0 then None else (if is_utf8 (take n.0 n.1) then Some (take n.0 n.1, drop n.0 n.1) else None)

unfoldable pub array_at : List ℕ → Option (ℕ × List ℕ)
array_at [] = None
array_at (b ∷ rest) =
    if nat_le 0x90 b && nat_le b 0x9f then Some (b - 0x90, rest) else (if b == 0xdc then wide_at w16 rest else (if b == 0xdd then wide_at w32 rest else None))

-- ---- calls: a value, or how many bytes were left at the wrong item

infixl 10 ◌>=>◌
abbrev pub ◌>=>◌ : {A B : Type 0} → Result A ℕ → (A → Result B ℕ) → Result B ℕ
(Ok x) >=> f = f x
(Err left) >=> f = Err left

-- the item that passes the test, or the length of the bytes at which it should have stood
abbrev pub item_at : {A : Type 0} → Option (A × List ℕ) → (A → Bool) → List ℕ → Result (A × List ℕ) ℕ
item_at None passes bytes = Err (length bytes)
item_at (Some x) passes bytes = if passes x.0 then Ok x else Err (length bytes)

abbrev pub is_lower_hex : ℕ → Bool
is_lower_hex b = nat_le 48 b && nat_le b 57 || nat_le 97 b && nat_le b 102

abbrev pub is_id_text : List ℕ → Bool
is_id_text text = (length text == 32) && list_all is_lower_hex text

-- the number that hexadecimal digits write
unfoldable pub id_value : List ℕ → ℕ
id_value digits = fold (λ (value digit : ℕ). value * 16 + digit_value digit) 0 digits

abbrev pub fits_64 : ℤ → Bool
fits_64 (pos n) = nat_lt n (2 ^ 63)
fits_64 (negsuc n) = nat_lt n (2 ^ 63)

abbrev pub is_from_to : ℕ → ℕ → ℤ → Bool
is_from_to low high (pos n) = nat_le low n && nat_le n high
is_from_to low high (negsuc n) = false

abbrev pub text_argument : Result (List ℕ × List ℕ) ℕ → Result (Argument × List ℕ) ℕ
text_argument read = read >=> λ x. Ok (a_text x.0, x.1)

abbrev pub integer_argument : Result (ℤ × List ℕ) ℕ → Result (Argument × List ℕ) ℕ
integer_argument read = read >=> λ x. Ok (an_integer x.0, x.1)

unfoldable pub argument_at : Kind → List ℕ → Result (Argument × List ℕ) ℕ
argument_at any_text bytes = text_argument (item_at (text_at bytes) (λ text. true) bytes)
argument_at empty_text bytes = text_argument (item_at (text_at bytes) (λ text. length text == 0) bytes)
argument_at id_digits bytes = text_argument (item_at (text_at bytes) is_id_text bytes)
argument_at signed_64 bytes = integer_argument (item_at (integer_at bytes) fits_64 bytes)
argument_at (from_to low high) bytes = integer_argument (item_at (integer_at bytes) (is_from_to low high) bytes)

unfoldable pub arguments_at : List Kind → List ℕ → Result (List Argument × List ℕ) ℕ
arguments_at [] bytes = Ok ([], bytes)
arguments_at (kind ∷ others) bytes =
    argument_at kind bytes >=> λ first. arguments_at others first.1 >=> λ more. Ok (first.0 ∷ more.0, more.1)

-- the number of a call of the table, and the kinds of its arguments
abbrev pub is_call_number : (ℕ → Option (List Kind)) → ℤ → Bool
is_call_number table (pos n) = is_some (table n)
is_call_number table (negsuc n) = false

abbrev pub or_none : Option (List Kind) → List Kind
or_none None = []
or_none (Some all_kinds) = all_kinds

abbrev pub kinds_of : (ℕ → Option (List Kind)) → ℤ → List Kind
kinds_of table (pos n) = or_none (table n)
kinds_of table (negsuc n) = []

-- the arguments, to the payload's last byte
unfoldable pub last_arguments_at : List Kind → List ℕ → Result (List Argument) ℕ
last_arguments_at all_kinds bytes =
    arguments_at all_kinds bytes >=> λ read. if length read.1 == 0 then Ok read.0 else Err (length read.1)

abbrev pub is_call_length : ℕ → Bool
is_call_length n = nat_le 1 n && nat_le n 8

-- a call's number and its arguments, or how many bytes were left at the wrong item
unfoldable pub call_at : (ℕ → Option (List Kind)) → List ℕ → Result (ℤ × List Argument) ℕ
call_at table payload =
    item_at (array_at payload) is_call_length payload >=> λ n. item_at (integer_at n.1) (is_call_number table) n.1 >=> λ c.
    if n.0 == 1 + length (kinds_of table c.0) then (last_arguments_at (kinds_of table c.0) c.1 >=> λ read. Ok (c.0, read)) else Err (length payload)
