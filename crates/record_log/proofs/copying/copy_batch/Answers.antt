use Rattle.std.proofs.Common.{ℕ, List, subst, arith, Option, Ok, Err, Vec}
use Rattle.std.specs.Global.{Global}
use Rattle.record_model.specs.declared.entries.Event as model
use Rattle.record_model.specs.Seen.{events_seen}
use Rattle.record_log.specs.declared.spots.Spot.{Spot}
use Rattle.record_log.specs.Reading.{FindsOldBatch, GivesWhole}
use Rattle.record_log.specs.Copying.{TakesBatch}
use Rattle.record_log.proofs.Copies.{found_taken, found_not_taken, none_moved}
use Rattle.record_log.proofs.copying.copy_batch.Goals as goal

pub returns-in-Ok-clause-moves : goal.returns-in-Ok-clause-moves
returns-in-Ok-clause-moves g c =
    let old = c.args.old.now in
    let finds = subst (λ (f : Option (Vec model.Event Global × Spot × ℕ)). FindsOldBatch old.gate c.args.offset old.disk f) c.in-Ok-Some.field-0-is c.in-Ok-Some.ensures.batch in
    let whole = subst (λ (f : Option (Vec model.Event Global × Spot × ℕ)). GivesWhole old.gate c.args.offset f) c.in-Ok-Some.field-0-is c.in-Ok-Some.ensures.whole in
    let takes = subst (λ (b : List model.Event). TakesBatch c.args.into.now c.append_read.new.into (Ok c.in-Ok.field-0) (events_seen b)) c.deref.ensures.value c.in-Ok.ensures.takes in
    let long = c.len.ensures in
    found_taken old c.args.into.now c.append_read.new.into c.args.offset (c.in-Ok-Some.events, c.in-Ok-Some.field-0-0-1, c.in-Ok-Some.next) whole.fits finds c.in-Ok.field-0 c.len.result takes (omega (arith, long))

pub returns-in-Ok-Some-clause-moves : goal.returns-in-Ok-Some-clause-moves
returns-in-Ok-Some-clause-moves g c =
    let old = c.args.old.now in
    let finds = subst (λ (f : Option (Vec model.Event Global × Spot × ℕ)). FindsOldBatch old.gate c.args.offset old.disk f) c.in-Ok-Some.field-0-is c.in-Ok-Some.ensures.batch in
    let whole = subst (λ (f : Option (Vec model.Event Global × Spot × ℕ)). GivesWhole old.gate c.args.offset f) c.in-Ok-Some.field-0-is c.in-Ok-Some.ensures.whole in
    let takes = subst (λ (b : List model.Event). TakesBatch {T = Unit {0}} c.args.into.now c.append_read.new.into (Err c.in-Err.fail) (events_seen b)) c.deref.ensures.value c.in-Err.ensures.takes in
    found_not_taken old c.args.into.now c.append_read.new.into c.args.offset (c.in-Ok-Some.events, c.in-Ok-Some.field-0-0-1, c.in-Ok-Some.next) whole.fits finds (Unit {0}) c.in-Err.fail takes

pub returns-in-Ok-None-clause-moves : goal.returns-in-Ok-None-clause-moves
returns-in-Ok-None-clause-moves g c =
    let old = c.args.old.now in
    none_moved old c.args.into.now c.args.offset (subst (λ (f : Option (Vec model.Event Global × Spot × ℕ)). FindsOldBatch old.gate c.args.offset old.disk f) c.in-Ok-None.field-0-is c.in-Ok-None.ensures.batch)
