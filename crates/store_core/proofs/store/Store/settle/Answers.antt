use Rattle.std.proofs.Common.{Option, sym, ap, subst, ◌∙◌}
use Rattle.record_log.specs.Journals.{LeavesOneOfTwo}
use Rattle.store_tables.specs.declared.tables.Batch.{Batch}
use Rattle.store_core.specs.Store.{StoreSeen, IsStoreOf}
use Rattle.store_core.specs.Commits.{Settles}
use Rattle.store_core.proofs.Committed.{settle_nothing, held_batch}
use Rattle.store_core.proofs.store.Store.settle.Goals as goal

pub settle_batch-requires-clause-means : goal.settle_batch-requires-clause-means
settle_batch-requires-clause-means g c =
    let is = subst (λ (s : StoreSeen). IsStoreOf s c.requires.0 c.requires.1) (sym c.self.view_is) c.requires.2 in
    (c.requires.0, held_batch c.self.inside.log c.self.inside.key c.self.inside.tables c.self.inside.doubt c.requires.0 c.requires.1 c.in-Some.batch (sym c.take.ensures.value ∙ c.in-Some.is) is)

pub returns-in-None-clause-settles : goal.returns-in-None-clause-settles
returns-in-None-clause-settles g c = λ journal doubt now.
    let is = subst (λ (s : StoreSeen). IsStoreOf s journal doubt) (sym c.self.view_is) now in
    let both = settle_nothing c.self.inside.log c.self.inside.key c.self.inside.tables c.self.inside.doubt c.take.new.self (sym c.take.ensures.value ∙ c.in-None.is) c.take.ensures.after journal doubt is in
    (both.0, subst (λ (s : StoreSeen). LeavesOneOfTwo journal doubt s.log c.self.inside.log) c.self.view_is both.1)

pub returns-in-Some-clause-settles : goal.returns-in-Some-clause-settles
returns-in-Some-clause-settles g c =
    let with_doubt : Option Batch → StoreSeen = λ doubt. record { log = c.self.inside.log; key = c.self.inside.key; tables = c.self.inside.tables; doubt = doubt } in
    subst (λ (s : StoreSeen). Settles s c.settle_batch.new.self c.settle_batch.result) (ap with_doubt (sym (sym c.take.ensures.value ∙ c.in-Some.is)) ∙ c.self.view_is) c.settle_batch.ensures.settles
