use Rattle.std.proofs.Common.{ℕ, Vec, Global, sym, ap, ◌∙◌}
use Rattle.std.specs.Option.{is_some}
use Rattle.latest_values.proofs.Placed.{looked}
use Rattle.kv_view.proofs.spaces.has.Goals as goal

pub returns : goal.returns
returns c = c.contains_key.ensures ∙ sym (ap is_some (looked (λ (v : Vec ℕ Global). v.items) c.args.namespace.now c.args.spaces.now.entries))
