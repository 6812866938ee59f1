use Rattle.std.proofs.Common.{ℕ, Vec, Global, Option, Some, None, ap, ◌∙◌}
use Rattle.std.specs.Option.{unwrap_or}
use Rattle.latest_values.specs.declared.setting.Setting.{Setting}
use Rattle.latest_values.proofs.Placed.{there}
use Rattle.latest_values.proofs.names.held.Goals as goal

pub returns-in-Some : goal.returns-in-Some
returns-in-Some c =
    c.as_ref.ensures.value ∙ ap (λ (o : Option (Option Setting)). unwrap_or o None) (there (λ (v : Vec ℕ Global). v.items) c.args.name.now c.args.names.now.entries (Some c.in-Some.place.now) c.in-Some.ensures.value)

pub returns-in-None : goal.returns-in-None
returns-in-None c = ap (λ (o : Option (Option Setting)). unwrap_or o None) (there (λ (v : Vec ℕ Global). v.items) c.args.name.now c.args.names.now.entries None c.in-None.ensures.value)
