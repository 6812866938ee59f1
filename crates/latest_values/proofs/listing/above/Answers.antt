use Rattle.std.proofs.Common.{◌≡◌, ℕ, Vec, Global, Option, Some}
use Rattle.std.specs.Map.{lookup}
use Rattle.std.specs.BTreeMap.{is_at}
use Rattle.std.specs.Cmp.Lexicographic.{slice_cmp}
use Rattle.std.specs.Ordering.{nat_cmp}
use Rattle.std.proofs.lemmas.List.Elements.{recursion_from_All}
use Rattle.latest_values.specs.declared.setting.Setting.{Setting}
use Rattle.latest_values.proofs.listing.above.Goals as goal

pub returns-then-is_empty-clause-found : goal.returns-then-is_empty-clause-found
returns-then-is_empty-clause-found c =
    recursion_from_All (λ (e : Vec ℕ Global × Option Setting). lookup (is_at (λ (k : Vec ℕ Global). slice_cmp nat_cmp e.0.items k.items)) c.args.names.now.entries ≡ Some e.1) c.range.result (λ k d lt. ((c.range.ensures.in_range tt).0 k d lt).1)

pub returns-clause-found : goal.returns-clause-found
returns-clause-found c =
    recursion_from_All (λ (e : Vec ℕ Global × Option Setting). lookup (is_at (λ (k : Vec ℕ Global). slice_cmp nat_cmp e.0.items k.items)) c.args.names.now.entries ≡ Some e.1) c.range-2.result (λ k d lt. ((c.range-2.ensures.in_range tt).0 k d lt).1)
