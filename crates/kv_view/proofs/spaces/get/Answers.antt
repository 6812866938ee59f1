use Rattle.std.proofs.Common.{ℕ, Vec, Global, None, ap, ◌∙◌}
use Rattle.view_rules.specs.Standing.{value_of}
use Rattle.latest_values.specs.Settings.{Places, said_of}
use Rattle.kv_view.proofs.Held.{keys_are}
use Rattle.kv_view.proofs.spaces.get.Goals as goal

pub returns-in-Some : goal.returns-in-Some
returns-in-Some c = c.get-in-Some.ensures ∙ ap (λ (ps : Places). value_of (said_of ps c.args.key.now)) (keys_are (λ (v : Vec ℕ Global). v.items) c.args.spaces.now.entries c.args.namespace.now _ c.in-Some.ensures.value)

pub returns-in-None : goal.returns-in-None
returns-in-None c = ap (λ (ps : Places). value_of (said_of ps c.args.key.now)) (keys_are (λ (v : Vec ℕ Global). v.items) c.args.spaces.now.entries c.args.namespace.now None c.in-None.ensures.value)
