use Rattle.std.proofs.Common.{◌≡◌, ℕ, [], ◌∷◌, ◌++◌, Option, sym, subst}
use Rattle.std.specs.Int.{w128, to_be_bytes}
use Rattle.log_rules.specs.Body.{closes_bytes}
use Rattle.log_format.proofs.Joins.{join}
use Rattle.log_format.proofs.batches.put_closes.Goals as goal

pub returns-in_ok-put_number_16-in-Some-clause-bytes : goal.returns-in_ok-put_number_16-in-Some-clause-bytes
returns-in_ok-put_number_16-in-Some-clause-bytes c =
    subst (λ (closes : Option ℕ). c.put_number_16.new.into.items ≡ c.args.into.now.items ++ closes_bytes closes) (sym c.in-Some.is)
    (join c.args.into.now.items (1 ∷ []) (to_be_bytes w128 c.in-Some.id) c.push-in-Some.new.self.items c.put_number_16.new.into.items c.in_ok-push-in-Some.ensures.ok c.in_ok-put_number_16-in-Some.ensures)
