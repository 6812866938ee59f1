-- How many bytes the two texts of a seal have: the number of the payload's bytes decides it.
use Rattle.std.specs.Prelude.{ℕ, ◌+◌, ◌*◌, ◌/◌}

-- bytes in unpadded base64url
abbrev pub base64url_length : ℕ → ℕ
base64url_length count = (4 * count + 2) / 3

-- the header of a token, and behind it a nonce and a tag of 32 bytes each, and the message with 11 bytes around the payload
abbrev pub sealed_text_length : ℕ → ℕ
sealed_text_length count = 9 + base64url_length (64 + (base64url_length count + 11))

-- a wrap, the id of a key and the JSON around them
abbrev pub key_text_length : ℕ
key_text_length = 146 + 51 + 19
