-- What one more line makes of the accounts.
use Rattle.std.proofs.Common.{◌≡◌, ℕ, ◌+◌, false, List, [], ◌∷◌, ◌++◌, length, Some, Err, eqb, sym, ap, ap₂, ◌∙◌}
use Rattle.std.specs.Option.{option_map_or}
use Rattle.accounts.specs.Accounts.{AccountSeen, accounts_after, before_first, behind_first, line_feed, lines_of, next_account}
use Rattle.accounts.specs.Reading.{Adds, Reads}
use Rattle.accounts.specs.declared.fail.AccountsFail.{AccountsFail}
use Rattle.accounts.specs.declared.fail.AccountsFail.TheVariants.{Wrong, NoMemory}
use Rattle.accounts.proofs.FirstLine.{first_line}

first_of : (rest line later : List ℕ) → eqb (length rest) 0 ≡ false → line ≡ before_first line_feed rest → later ≡ behind_first line_feed rest → lines_of rest ≡ line ∷ lines_of later
first_of [] line later some line_is later_is = absurd (cc some)
first_of (b ∷ bytes) line later some line_is later_is = first_line b bytes ∙ ap₂ (λ (l m : List ℕ). l ∷ lines_of m) (sym line_is) (sym later_is)

module _ (bytes rest line later : List ℕ) (accounts : List AccountSeen) (some : eqb (length rest) 0 ≡ false) (line_is : line ≡ before_first line_feed rest) (later_is : later ≡ behind_first line_feed rest)
    (read : accounts_after [] (lines_of bytes) ≡ accounts_after accounts (lines_of rest)) where
  split : accounts_after [] (lines_of bytes) ≡ accounts_after accounts (line ∷ lines_of later)
  split = read ∙ ap (accounts_after accounts) (first_of rest line later some line_is later_is)

  pub is_added : (new : List AccountSeen) → (account : AccountSeen) × (next_account accounts line ≡ Some account) × (new ≡ accounts ++ account ∷ []) → accounts_after [] (lines_of bytes) ≡ accounts_after new (lines_of later)
  is_added new (account, next, new_is) =
      split ∙ ap (λ o. option_map_or (λ a. accounts_after (accounts ++ a ∷ []) (lines_of later)) o (Err (length accounts + 1))) next
      ∙ ap (λ (l : List AccountSeen). accounts_after l (lines_of later)) (sym new_is)

  pub is_refused : (new : List AccountSeen) (fail : AccountsFail) → Adds accounts new line (Err fail) → Reads bytes (Err fail)
  is_refused new (Wrong number) (none, number_is) =
      split ∙ ap (λ o. option_map_or (λ a. accounts_after (accounts ++ a ∷ []) (lines_of later)) o (Err (length accounts + 1))) none
      ∙ ap Err (sym number_is)
  is_refused new NoMemory adds = tt
