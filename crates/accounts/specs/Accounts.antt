-- The text of accounts: a line an account. Each line is an owner, one space, and a token of that owner.
use Rattle.std.specs.Prelude.{ℕ, ◌+◌, Bool, ◌&&◌, not, ◌==◌, nat_lt, nat_le, List, [], ◌∷◌, ◌++◌, length, take, drop, find, Option, Some, None, option_map, Result, Ok, Err, if◌then◌else◌}
use Rattle.std.specs.Char.{is_ascii_digit}
use Rattle.std.specs.List.{list_all, position_or_len}
use Rattle.std.specs.Option.{is_some, option_map_or}
use Rattle.std.specs.Str.{bytes_eq}
use Rattle.std.specs.Str.Parse.{digits_value}
use Rattle.definitions.specs.Reading.{◌>>=◌}

-- an owner's number, and a token by which requests are that owner's
pub record AccountSeen : Type 0 where
  pub owner : ℕ
  pub token : List ℕ

-- ---- limits

abbrev pub most_accounts : ℕ
most_accounts = 1024

abbrev pub most_owner : ℕ
most_owner = 1023

abbrev pub most_owner_digits : ℕ
most_owner_digits = 4

abbrev pub most_token_bytes : ℕ
most_token_bytes = 256

-- ---- one line

-- 1 to 4 decimal digits
abbrev pub are_digits : List ℕ → Bool
are_digits text = nat_le 1 (length text) && nat_le (length text) most_owner_digits && list_all is_ascii_digit text

abbrev pub owner_in : List ℕ → Option ℕ
owner_in text = if are_digits text && nat_le (digits_value 10 text) most_owner then Some (digits_value 10 text) else None

-- 1 to 256 characters of ASCII, each of them visible
abbrev pub is_visible : ℕ → Bool
is_visible b = nat_le 33 b && nat_le b 126

abbrev pub is_token : List ℕ → Bool
is_token text = nat_le 1 (length text) && nat_le (length text) most_token_bytes && list_all is_visible text

-- the place of the first such byte, or the number of bytes where none is so
abbrev pub place_of : ℕ → List ℕ → ℕ
place_of byte bytes = position_or_len (λ b. b == byte) bytes

abbrev pub before_first : ℕ → List ℕ → List ℕ
before_first byte bytes = take (place_of byte bytes) bytes

abbrev pub behind_first : ℕ → List ℕ → List ℕ
behind_first byte bytes = drop (place_of byte bytes + 1) bytes

abbrev pub space : ℕ
space = 32

-- the account that a line tells, if it is of the form
abbrev pub account_in : List ℕ → Option AccountSeen
account_in line = do
  owner ← owner_in (before_first space line)
  if is_token (behind_first space line) then Some (record { owner = owner; token = behind_first space line }) else None

-- ---- whose a token is

abbrev pub has_token : List ℕ → AccountSeen → Bool
has_token token account = bytes_eq account.token token

abbrev pub owner_of : List AccountSeen → List ℕ → Option ℕ
owner_of accounts token = option_map (λ account. account.owner) (find (has_token token) accounts)

-- ---- all lines

abbrev pub line_feed : ℕ
line_feed = 10

abbrev pub onto_first : ℕ → List (List ℕ) → List (List ℕ)
onto_first b [] = (b ∷ []) ∷ []
onto_first b (line ∷ lines) = (b ∷ line) ∷ lines

-- each without the LF that ends it, which the last one may lack
abbrev pub lines_of : List ℕ → List (List ℕ)
lines_of [] = []
lines_of (b ∷ bytes) = if b == line_feed then [] ∷ lines_of bytes else onto_first b (lines_of bytes)

-- behind those accounts there is room for one more, and none of them has this token
abbrev pub may_follow : List AccountSeen → (token : List ℕ) → Bool
may_follow accounts token = nat_lt (length accounts) most_accounts && not (is_some (owner_of accounts token))

-- the account of the next line
abbrev pub next_account : List AccountSeen → List ℕ → Option AccountSeen
next_account accounts line = do
  account ← account_in line
  if may_follow accounts account.token then Some account else None

-- with those of these lines; or the number, from 1, of the first line that tells no account which may follow those before it
abbrev pub accounts_after : List AccountSeen → List (List ℕ) → Result (List AccountSeen) ℕ
accounts_after accounts [] = Ok accounts
accounts_after accounts (line ∷ lines) = option_map_or (λ account. accounts_after (accounts ++ account ∷ []) lines) (next_account accounts line) (Err (length accounts + 1))

abbrev pub accounts_of : List ℕ → Result (List AccountSeen) ℕ
accounts_of text = accounts_after [] (lines_of text)
