use Rattle.std.proofs.Common.{ℕ, ◌≤◌, sym, subst, arith}
use Rattle.session_rules.proofs.a_pass_knows_itself.Goals as goal

pub returns : goal.returns
returns c = λ old new moves knows. let known : old.known ≤ new.known = moves.known in let own : old.number ≤ old.known = knows in subst (λ (n : ℕ). n ≤ new.known) (sym moves.number) (omega (arith, known, own))
