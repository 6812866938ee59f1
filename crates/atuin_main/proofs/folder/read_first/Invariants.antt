use Rattle.std.proofs.Common.{◌≤◌, length}
use Rattle.atuin_main.proofs.folder.read_first.Given as goal

abbrev pub invariant-loop : goal.invariant-loop
invariant-loop g l = l.at ≤ length l.into
