-- What reading accounts answers, and which accounts are kept.
use Rattle.std.specs.Prelude.{◌≡◌, ℕ, ◌+◌, List, [], ◌∷◌, ◌++◌, length, map, Some, None, Result, Ok, Err, ⊤}
use Rattle.accounts.specs.Accounts.{AccountSeen, accounts_of, next_account}
use Rattle.accounts.specs.declared.accounts.Account.{Account}
use Rattle.accounts.specs.declared.fail.AccountsFail.{AccountsFail}
use Rattle.accounts.specs.declared.fail.AccountsFail.TheVariants.{Wrong, NoMemory}

abbrev pub told_seen : (owner : ℕ) (token : List ℕ) → AccountSeen
told_seen owner token = record { owner = owner; token = token }

abbrev pub account_seen : Account → AccountSeen
account_seen account = told_seen account.owner account.token.items

abbrev pub accounts_seen : List Account → List AccountSeen
accounts_seen accounts = map account_seen accounts

-- these are the accounts of the text, or this is its first wrong line, or memory was wanting
abbrev pub Reads : List ℕ → Result (List AccountSeen) AccountsFail → Type 0
Reads text (Ok accounts) = accounts_of text ≡ Ok accounts
Reads text (Err (Wrong line)) = accounts_of text ≡ Err line
Reads text (Err NoMemory) = ⊤

-- the account of the next line is added, or that line is told
abbrev pub Adds : (old new : List AccountSeen) (line : List ℕ) → Result (Unit {0}) AccountsFail → Type 0
Adds old new line (Ok _) = (account : AccountSeen) × (next_account old line ≡ Some account) × (new ≡ old ++ account ∷ [])
Adds old new line (Err (Wrong number)) = (next_account old line ≡ None) × (number ≡ length old + 1)
Adds old new line (Err NoMemory) = ⊤
