use Rattle.std.proofs.Common.{ℕ, Vec, Global, None, sym, ap, ◌∙◌}
use Rattle.std.specs.Option.{is_some}
use Rattle.std.proofs.lemmas.Bool.{true≢false}
use Rattle.latest_values.proofs.Placed.{there}
use Rattle.kv_view.proofs.Held.{pairs_kept, pair_made, pairs_same, if_ok}
use Rattle.kv_view.proofs.spaces.make_key.Goals as goal

pub unreachable-requires : goal.unreachable-requires
unreachable-requires c = true≢false (sym c.requires.space ∙ sym (ap is_some (there (λ (v : Vec ℕ Global). v.items) c.args.namespace.now c.args.spaces.now.entries None c.in-None.ensures.value)))

pub returns-clause-made : goal.returns-clause-made
returns-clause-made c =
    if_ok c.reserve.result c.reserve.ensures.made (pair_made (λ (v : Vec ℕ Global). v.items) c.args.spaces.now.entries (c.get_mut.follows.lender c.reserve.new.self).entries c.args.namespace.now c.in-Some.names.now c.reserve.new.self c.in-Some.ensures.value (c.get_mut.follows.holds c.reserve.new.self).0 c.args.key.now)

pub returns-clause-keeps : goal.returns-clause-keeps
returns-clause-keeps c = pairs_kept (λ (v : Vec ℕ Global). v.items) c.args.spaces.now.entries (c.get_mut.follows.lender c.reserve.new.self).entries c.args.namespace.now c.in-Some.names.now c.reserve.new.self c.in-Some.ensures.value (c.get_mut.follows.holds c.reserve.new.self).0 c.reserve.ensures.keeps

pub returns-clause-same : goal.returns-clause-same
returns-clause-same c = pairs_same (λ (v : Vec ℕ Global). v.items) c.args.spaces.now.entries (c.get_mut.follows.lender c.reserve.new.self).entries c.args.namespace.now c.in-Some.names.now c.reserve.new.self c.in-Some.ensures.value (c.get_mut.follows.holds c.reserve.new.self).0 c.reserve.ensures.same
