use Rattle.std.proofs.Common.{◌≡◌, length}
use Rattle.accounts.specs.Accounts.{accounts_after, accounts_of, lines_of}
use Rattle.accounts.proofs.accounts.Accounts.read.Given as goal

abbrev pub invariant-loop-rest : goal.invariant-loop-rest
invariant-loop-rest l = accounts_of l.bytes ≡ accounts_after l.accounts (lines_of l.rest)

abbrev pub decreases-loop-rest : goal.decreases-loop-rest
decreases-loop-rest l = length l.rest
