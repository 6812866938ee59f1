use Rattle.std.proofs.Common.{ℕ, Vec, Global, Option}
use Rattle.std.specs.List.{filter}
use Rattle.latest_values.specs.declared.setting.Setting.{Setting}
use Rattle.latest_values.specs.Lists.{is_above, IsOnWay}
use Rattle.latest_values.proofs.listing.list.Given as goal

abbrev pub invariant-loop-name : goal.invariant-loop-name
invariant-loop-name l = IsOnWay (λ (v : Vec ℕ Global). v.items) l.showing l.limit (filter (λ (e : Vec ℕ Global × Option Setting). is_above l.after e.0.items) l.names.entries) l.name-iterator l.items.items l.bytes
