use Rattle.std.proofs.Common.{ℕ, Option, Vec, Global, sym, subst, ◌∙◌, arith}
use Rattle.record_model.specs.declared.entries.Event as model
use Rattle.log_check.proofs.Telling.{rests_then}
use Rattle.record_log.specs.declared.spots.Spot.{Spot}
use Rattle.record_log.specs.Reading.{FindsBatch, GivesWhole}
use Rattle.store_core.proofs.Opened.{IsSame, few_events, at_a_gate, walk_is_over, walk_went_on, never_told, walks_again, keeps_again}
use Rattle.store_core.proofs.opening.keep_next.Goals as goal

pub batch_at-requires-clause-settled : goal.batch_at-requires-clause-settled
batch_at-requires-clause-settled g c = c.requires.1.journal_is.settled

pub batch_at-requires-clause-gate : goal.batch_at-requires-clause-gate
batch_at-requires-clause-gate g c = at_a_gate c.args.log.now c.args.key.now c.requires.0 c.args.offset c.args.tables.now c.args.check.now c.requires.1

pub keep_batch-requires-clause-few : goal.keep_batch-requires-clause-few
keep_batch-requires-clause-few g c =
    let whole = subst (λ (f : Option (Vec model.Event Global × Spot × ℕ)). GivesWhole c.args.log.now.gate c.args.offset f) c.in-Ok-Some.field-0-is c.in-Ok-Some.ensures.whole in
    few_events c.in-Ok-Some.events.items whole.batch.few

pub keep_batch-requires-clause-kept : goal.keep_batch-requires-clause-kept
keep_batch-requires-clause-kept g c = (c.requires.1.before, c.requires.1.filed, c.requires.1.kept)

pub disown-requires : goal.disown-requires
disown-requires g c =
    let log = c.args.log.now in
    let to = c.requires.1 in
    let finds = subst (λ (f : Option (Vec model.Event Global × Spot × ℕ)). FindsBatch log.gate c.args.offset log.disk f) c.in-Ok-Some.field-0-is c.in-Ok-Some.ensures.batch in
    let whole = subst (λ (f : Option (Vec model.Event Global × Spot × ℕ)). GivesWhole log.gate c.args.offset f) c.in-Ok-Some.field-0-is c.in-Ok-Some.ensures.whole in
    c.in-Ok-Some.ensures.rests.history
    ∙ never_told log c.args.key.now c.requires.0 c.args.offset c.args.tables.now c.args.check.now to (c.in-Ok-Some.events, c.in-Ok-Some.spot, c.in-Ok-Some.next) whole.fits finds
    (rw c.in-Ok-false.field-0-test at (c.in-Ok-false.ensures.keeps to.before to.filed to.kept))

pub returns-in-Ok-None-clause-walks : goal.returns-in-Ok-None-clause-walks
returns-in-Ok-None-clause-walks g c = λ events to.
    let log = c.args.log.now in
    let closed = subst (λ (f : Option (Vec model.Event Global × Spot × ℕ)). FindsBatch log.gate c.args.offset log.disk f) c.in-Ok-None.field-0-is c.in-Ok-None.ensures.batch in
    let same : IsSame log c.batch_at.new.self = record { rests = c.in-Ok-None.ensures.rests; host = c.in-Ok-None.ensures.host; gate = c.in-Ok-None.ensures.gate; doubt = c.in-Ok-None.ensures.doubt ∙ sym to.journal_is.settled } in
    keeps_again log c.batch_at.new.self same c.args.key.now c.args.tables.now events (walk_is_over log c.args.key.now events c.args.offset c.args.tables.now c.args.check.now to closed)

pub returns-in-Ok-true-clause-walks : goal.returns-in-Ok-true-clause-walks
returns-in-Ok-true-clause-walks g c = λ events to.
    let log = c.args.log.now in
    let finds = subst (λ (f : Option (Vec model.Event Global × Spot × ℕ)). FindsBatch log.gate c.args.offset log.disk f) c.in-Ok-Some.field-0-is c.in-Ok-Some.ensures.batch in
    let whole = subst (λ (f : Option (Vec model.Event Global × Spot × ℕ)). GivesWhole log.gate c.args.offset f) c.in-Ok-Some.field-0-is c.in-Ok-Some.ensures.whole in
    let same : IsSame log c.batch_at.new.self = record { rests = c.in-Ok-Some.ensures.rests; host = c.in-Ok-Some.ensures.host; gate = c.in-Ok-Some.ensures.gate; doubt = c.in-Ok-Some.ensures.doubt ∙ sym to.journal_is.settled } in
    let kept = rw c.in-Ok-true.field-0-test at (c.in-Ok-true.ensures.keeps to.before to.filed to.kept) in
    walks_again log c.batch_at.new.self same c.args.key.now events c.in-Ok-Some.next c.keep_batch.new.tables c.keep_batch.new.check
    (walk_went_on log c.args.key.now events c.args.offset c.args.tables.now c.args.check.now to (c.in-Ok-Some.events, c.in-Ok-Some.spot, c.in-Ok-Some.next) whole.fits finds c.keep_batch.new.tables c.keep_batch.new.check c.in-Ok-true.ensures.host kept)

pub returns-in-Ok-true-clause-onwards : goal.returns-in-Ok-true-clause-onwards
returns-in-Ok-true-clause-onwards g c =
    let whole = subst (λ (f : Option (Vec model.Event Global × Spot × ℕ)). GivesWhole c.args.log.now.gate c.args.offset f) c.in-Ok-Some.field-0-is c.in-Ok-Some.ensures.whole in
    (whole.onward, whole.within)

pub returns-in-Ok-false-clause-rests : goal.returns-in-Ok-false-clause-rests
returns-in-Ok-false-clause-rests g c = rests_then c.args.log.now.disk c.batch_at.new.self.disk c.disown.new.self.disk c.in-Ok-Some.ensures.rests c.disown.ensures.rests

pub returns-in-Ok-false-clause-cause : goal.returns-in-Ok-false-clause-cause
returns-in-Ok-false-clause-cause g c =
    let more = c.in-Ok-Some.ensures.rests.faults in
    let rose = c.disown.ensures.counted in
    omega (arith, more, rose)
