-- Whose a token is, by the accounts as they are kept.
use Rattle.std.proofs.Common.{◌≡◌, ℕ, Bool, true, false, cond, List, [], ◌∷◌, find, Option, Some, option_map, refl, ap, ◌∙◌}
use Rattle.accounts.specs.Accounts.{AccountSeen, has_token, owner_of}
use Rattle.accounts.specs.Reading.{account_seen, accounts_seen}
use Rattle.accounts.specs.declared.accounts.Account.{Account}

abbrev pub kept_owner : Account → ℕ
kept_owner account = account.owner

abbrev pub kept_has : List ℕ → Account → Bool
kept_has token account = has_token token (account_seen account)

found_by : (found : Bool) (account : Account) (later : Option Account) (seen : Option AccountSeen) → option_map kept_owner later ≡ option_map (λ (a : AccountSeen). a.owner) seen
    → option_map kept_owner (cond found (Some account) later) ≡ option_map (λ (a : AccountSeen). a.owner) (cond found (Some (account_seen account)) seen)
found_by true account later seen same = refl
found_by false account later seen same = same

owner_kept : (token : List ℕ) (listed : List Account) → option_map kept_owner (find (kept_has token) listed) ≡ owner_of (accounts_seen listed) token
owner_kept token [] = refl
owner_kept token (account ∷ listed) = found_by (kept_has token account) account (find (kept_has token) listed) (find (has_token token) (accounts_seen listed)) (owner_kept token listed)

pub owner_in_slice : (token : List ℕ) (slice listed : List Account) → slice ≡ listed → option_map kept_owner (find (kept_has token) slice) ≡ owner_of (accounts_seen listed) token
owner_in_slice token slice listed same = ap (λ (l : List Account). option_map kept_owner (find (kept_has token) l)) same ∙ owner_kept token listed
