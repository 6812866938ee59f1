use Rattle.std.proofs.Common.{◌≡◌, List, [], ◌∷◌, ◌++◌, ap, subst, ◌∙◌}
use Rattle.std.specs.Prelude.{IfOk}
use Rattle.record_rules.specs.Records.{Entry}
use Rattle.record_model.specs.declared.entries.Event as model
use Rattle.record_model.specs.declared.entries.Event.TheVariants as events
use Rattle.store_core.specs.Commits.{MayMake, MayCommit}
use Rattle.store_core.proofs.store.Store.ready_start.Goals as goal

pub returns-clause-ready : goal.returns-clause-ready
returns-clause-ready g c =
    let items : c.push.new.self.items ≡ events.Started c.args.started ∷ [] = c.in_ok-push.ensures.items ∙ ap (λ (es : List model.Event). es ++ events.Started c.args.started ∷ []) c.new-events.ensures.items in
    subst (λ (es : List model.Event). IfOk c.ready.result (λ made. (journal : List Entry) → MayMake c.args.self.now journal c.args.caller es → MayCommit c.ready.new.self journal made.0 made.1)) items c.ready.ensures.ready
