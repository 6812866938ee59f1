use Rattle.std.proofs.Common.{refl}
use Rattle.std.proofs.lemmas.Result.{err_from_is_err_and}
use Rattle.payload_forms.specs.Seen.{payload_seen}
use Rattle.store_core.proofs.Recorded.{taken_told, no_memory_told, may_make_record, record_room, committed_told, uncommitted_told}
use Rattle.store_core.proofs.store.Store.record_drawn.Goals as goal

pub returns-then-has_record-clause-writes : goal.returns-then-has_record-clause-writes
returns-then-has_record-clause-writes g c = λ bytes key journal call of may.
    taken_told c.args.self.now c.args.caller c.args.closes (payload_seen c.args.payload.now) c.args.stamp c.args.drawn.now bytes key journal call of may c.has_record.result (c.has_record.ensures journal may.is) c.if-has_record.true

pub returns-in_err-rec-clause-writes : goal.returns-in_err-rec-clause-writes
returns-in_err-rec-clause-writes g c = λ bytes key journal call of may.
    let p = err_from_is_err_and c.from_residual.result c.from_residual.ensures.1 in
    rw (p.1, p.2) (no_memory_told c.args.self.now c.args.caller c.args.closes (payload_seen c.args.payload.now) c.args.stamp c.args.drawn.now bytes key journal call of may c.args.self.now may.is refl)

pub returns-in_err-batch-clause-writes : goal.returns-in_err-batch-clause-writes
returns-in_err-batch-clause-writes g c = λ bytes key journal call of may.
    let left = c.from_residual-in_err-batch in
    let p = err_from_is_err_and left.result left.ensures.1 in
    rw (p.1, p.2)
    (no_memory_told c.args.self.now c.args.caller c.args.closes (payload_seen c.args.payload.now) c.args.stamp c.args.drawn.now bytes key journal call of may c.ready_one.new.self (c.ready_one.ensures.same journal may.is) c.ready_one.ensures.log)

pub commit-requires : goal.commit-requires
commit-requires g c =
    let key = c.requires.may.0 in
    let journal = c.requires.may.1 in
    let call = c.requires.may.2 in
    let may = c.requires.may.3 in
    let bytes = c.requires.drawn.0 in
    let of = c.requires.drawn.1 in
    let payload = payload_seen c.args.payload.now in (
      journal,
      c.in_ok-batch.ensures.ready journal
          (may_make_record c.args.self.now c.args.caller c.args.closes payload c.args.stamp c.args.drawn.now bytes key journal call of may c.has_record.result (c.has_record.ensures journal may.is) c.if-has_record.false c.requires.host c.in_ok-rec.rec c.in_ok-rec.ensures.made)
          (record_room c.args.self.now c.args.caller c.args.closes payload c.args.stamp c.args.drawn.now bytes key journal call of may c.has_record.result (c.has_record.ensures journal may.is) c.if-has_record.false c.requires.host c.in_ok-rec.rec c.in_ok-rec.ensures.made c.args.room c.in_ok-rec.ensures.opens c.requires.room),
    )

pub returns-in-Ok-clause-writes : goal.returns-in-Ok-clause-writes
returns-in-Ok-clause-writes g c = λ bytes key journal call of may.
    let payload = payload_seen c.args.payload.now in
    let tells = c.has_record.ensures journal may.is in
    let can =
    c.in_ok-batch.ensures.ready journal
    (may_make_record c.args.self.now c.args.caller c.args.closes payload c.args.stamp c.args.drawn.now bytes key journal call of may c.has_record.result tells c.if-has_record.false c.requires.host c.in_ok-rec.rec c.in_ok-rec.ensures.made)
    (record_room c.args.self.now c.args.caller c.args.closes payload c.args.stamp c.args.drawn.now bytes key journal call of may c.has_record.result tells c.if-has_record.false c.requires.host c.in_ok-rec.rec c.in_ok-rec.ensures.made c.args.room c.in_ok-rec.ensures.opens c.requires.room) in
    committed_told c.args.self.now c.args.caller c.args.closes payload c.args.stamp c.args.drawn.now bytes key journal call of may c.has_record.result tells c.if-has_record.false c.requires.host c.in_ok-rec.rec c.in_ok-rec.ensures.made
    c.ready_one.new.self c.commit.new.self c.ready_one.ensures.log c.in_ok-batch.batch c.in_ok-batch.bytes c.in_ok-batch.ensures.caller c.in_ok-batch.ensures.events can (c.in-Ok.ensures.commits journal can)

pub returns-in-Err-clause-writes : goal.returns-in-Err-clause-writes
returns-in-Err-clause-writes g c = λ bytes key journal call of may.
    let payload = payload_seen c.args.payload.now in
    let tells = c.has_record.ensures journal may.is in
    let can =
    c.in_ok-batch.ensures.ready journal
    (may_make_record c.args.self.now c.args.caller c.args.closes payload c.args.stamp c.args.drawn.now bytes key journal call of may c.has_record.result tells c.if-has_record.false c.requires.host c.in_ok-rec.rec c.in_ok-rec.ensures.made)
    (record_room c.args.self.now c.args.caller c.args.closes payload c.args.stamp c.args.drawn.now bytes key journal call of may c.has_record.result tells c.if-has_record.false c.requires.host c.in_ok-rec.rec c.in_ok-rec.ensures.made c.args.room c.in_ok-rec.ensures.opens c.requires.room) in
    uncommitted_told c.args.self.now c.args.caller c.args.closes payload c.args.stamp c.args.drawn.now bytes key journal call of may c.has_record.result tells c.if-has_record.false c.requires.host c.in_ok-rec.rec c.in_ok-rec.ensures.made
    c.ready_one.new.self c.commit.new.self c.ready_one.ensures.log c.in_ok-batch.batch c.in_ok-batch.bytes c.in_ok-batch.ensures.caller c.in_ok-batch.ensures.events can (c.in-Err.ensures.commits journal can)
