use Rattle.std.proofs.Common.{subst, ◌∙◌}
use Rattle.view_rules.specs.Answers.{IsListOf}
use Rattle.latest_values.specs.declared.listing.Showing.TheVariants.{NamesAlone}
use Rattle.latest_values.specs.Lists.{IsThere, items_seen}
use Rattle.kv_view.specs.Pairs.{Pairs, keys_of}
use Rattle.kv_view.proofs.Held.{lists}
use Rattle.kv_view.proofs.view.KvView.names.Goals as goal

pub returns : goal.returns
returns c =
    let listed = subst (λ (s : Pairs). IsListOf (IsThere NamesAlone (keys_of s c.args.namespace.now)) c.args.after.now c.args.limit (items_seen c.in_ok-items.items.items)) c.self.view_is c.in_ok-items.ensures in
    lists c.args.self.now c.args.namespace.now c.args.after.now c.args.limit c.in_ok-items.items.items c.from_vec.result (c.from_vec.ensures ∙ c.in_ok-names.ensures) listed
