-- Which texts tell a key of 32 bytes, and which key.
use Rattle.std.specs.Prelude.{ℕ, List, [], take, drop, ◌||◌, Bool, if◌then◌else◌, codes, Option, Some, None, Result, Ok, Err, bytes_eq}
use Rattle.hex.specs.declared.error.FromHexError.{FromHexError}
use Rattle.hex.specs.Hex.{decode_sized}

-- nothing, LF, or CR LF
abbrev pub is_line_end : List ℕ → Bool
is_line_end rest = bytes_eq rest [] || bytes_eq rest (codes "\n") || bytes_eq rest (codes "\r\n")

-- the bytes, if there are any
abbrev pub decoded : Result (List ℕ) FromHexError → Option (List ℕ)
decoded (Ok bytes) = Some bytes
decoded (Err e) = None

-- the key of 64 hexadecimal digits of either case, two a byte with its high four bits first
abbrev pub digits_key : List ℕ → Option (List ℕ)
digits_key digits = decoded (decode_sized digits 32)

-- 64 digits, and then the end of a line
abbrev pub key_of : List ℕ → Option (List ℕ)
key_of text = if is_line_end (drop 64 text) then digits_key (take 64 text) else None
