use Rattle.std.proofs.Common.{ℕ, Vec, Global, None, IfOk, ap, subst}
use Rattle.record_model.specs.declared.names.NamedText.{NamedText}
use Rattle.view_rules.specs.Answers.{IsListOf}
use Rattle.latest_values.specs.declared.listing.Showing.TheVariants.{NamesAlone}
use Rattle.latest_values.specs.Settings.{Places}
use Rattle.latest_values.specs.Lists.{IsThere, items_seen}
use Rattle.latest_values.proofs.Rising.{list_none}
use Rattle.kv_view.proofs.Held.{keys_are}
use Rattle.kv_view.proofs.spaces.list.Goals as goal

pub returns-in-Some : goal.returns-in-Some
returns-in-Some c =
    subst (λ (ps : Places). IfOk c.list.result (λ (page : Vec NamedText Global). IsListOf (IsThere NamesAlone ps) c.args.after.now c.args.limit (items_seen page.items)))
    (keys_are (λ (v : Vec ℕ Global). v.items) c.args.spaces.now.entries c.args.namespace.now _ c.in-Some.ensures.value) c.list.ensures

pub returns-in-None : goal.returns-in-None
returns-in-None c =
    subst (λ (ps : Places). IsListOf (IsThere NamesAlone ps) c.args.after.now c.args.limit (items_seen c.new.result.items))
    (keys_are (λ (v : Vec ℕ Global). v.items) c.args.spaces.now.entries c.args.namespace.now None c.in-None.ensures.value) (list_none NamesAlone c.args.after.now c.args.limit (items_seen c.new.result.items) (ap items_seen c.new.ensures.items))
