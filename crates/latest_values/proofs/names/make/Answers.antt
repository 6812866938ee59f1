use Rattle.std.proofs.Common.{ℕ, List, Vec, Global, sym, ap, ◌∙◌}
use Rattle.latest_values.specs.Settings.{has_name}
use Rattle.latest_values.proofs.Placed.{seen, nothing_held}
use Rattle.latest_values.proofs.names.make.Goals as goal

pub put_new-requires : goal.put_new-requires
put_new-requires c =
    let same = ap (λ (name : List ℕ). has_name (seen (λ (v : Vec ℕ Global). v.items) c.args.names.now.entries) name) (sym c.as_slice.ensures.value) in
    nothing_held _ (same ∙ sym c.has_place.ensures ∙ c.if-not-has_place.true)

pub returns-else-not-has_place-clause-made : goal.returns-else-not-has_place-clause-made
returns-else-not-has_place-clause-made c =
    let same = ap (λ (name : List ℕ). has_name (seen (λ (v : Vec ℕ Global). v.items) c.args.names.now.entries) name) (sym c.as_slice.ensures.value) in
    same ∙ sym c.has_place.ensures ∙ c.if-not-has_place.false
