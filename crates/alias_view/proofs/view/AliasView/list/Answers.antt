use Rattle.std.proofs.Common.{List, sym, subst}
use Rattle.record_model.specs.declared.names.NamedText.{NamedText}
use Rattle.view_rules.specs.Answers.{IsListOf}
use Rattle.latest_values.specs.declared.listing.Showing.TheVariants.{NamesWithValues}
use Rattle.latest_values.specs.Settings.{Places}
use Rattle.latest_values.specs.Lists.{IsThere, items_seen}
use Rattle.alias_view.proofs.Growing.{lists}
use Rattle.alias_view.proofs.view.AliasView.list.Goals as goal

pub returns : goal.returns
returns c =
    let listed = subst (λ (s : Places). IsListOf (IsThere NamesWithValues s) c.args.after.now c.args.limit (items_seen c.in_ok-items.items.items)) c.self.view_is c.in_ok-items.ensures in
    lists c.args.self.now c.args.after.now c.args.limit (items_seen c.from_vec.result) (subst (λ (is : List NamedText). IsListOf (IsThere NamesWithValues c.args.self.now) c.args.after.now c.args.limit (items_seen is)) (sym c.from_vec.ensures) listed)
