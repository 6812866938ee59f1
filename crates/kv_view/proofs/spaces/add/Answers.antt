use Rattle.std.proofs.Common.{ℕ, Vec, Global, None, sym, ap, ◌∙◌}
use Rattle.std.proofs.lemmas.Bool.{true≢false}
use Rattle.latest_values.specs.Settings.{Places, setting_seen, has_name}
use Rattle.kv_view.proofs.Held.{keys_are, pairs_kept, pair_said}
use Rattle.kv_view.proofs.spaces.add.Goals as goal

pub add-requires : goal.add-requires
add-requires c = ap (λ (ps : Places). has_name ps c.args.key.items) (keys_are (λ (v : Vec ℕ Global). v.items) c.args.spaces.now.entries c.args.namespace.now _ c.in-Some.ensures.value) ∙ c.requires

pub unreachable-requires : goal.unreachable-requires
unreachable-requires c = true≢false (sym c.requires ∙ sym (ap (λ (ps : Places). has_name ps c.args.key.items) (keys_are (λ (v : Vec ℕ Global). v.items) c.args.spaces.now.entries c.args.namespace.now None c.in-None.ensures.value)))

pub returns-clause-said : goal.returns-clause-said
returns-clause-said c = pair_said (λ (v : Vec ℕ Global). v.items) c.args.spaces.now.entries (c.get_mut.follows.lender c.add.new.self).entries c.args.namespace.now c.in-Some.names.now c.add.new.self c.in-Some.ensures.value (c.get_mut.follows.holds c.add.new.self).0 c.args.key.items (setting_seen c.args.setting) c.add.ensures.said

pub returns-clause-keeps : goal.returns-clause-keeps
returns-clause-keeps c = pairs_kept (λ (v : Vec ℕ Global). v.items) c.args.spaces.now.entries (c.get_mut.follows.lender c.add.new.self).entries c.args.namespace.now c.in-Some.names.now c.add.new.self c.in-Some.ensures.value (c.get_mut.follows.holds c.add.new.self).0 c.add.ensures.keeps
