use Rattle.std.proofs.Common.{Some, sym, ap, ◌∙◌}
use Rattle.std.specs.Option.{option_map}
use Rattle.record_model.specs.Seen.{event_seen, record_seen}
use Rattle.page_reading.proofs.Standing.{no_record, event_there, untold, record_is}
use Rattle.page_reading.proofs.reading.read_record.Goals as goal

pub returns-in_default-clause-record : goal.returns-in_default-clause-record
returns-in_default-clause-record g c = λ filed is stand. no_record c.args.owner c.args.host c.args.tag.now c.args.idx filed c.args.log.now (sym c.in_default.is ∙ c.spot_at.ensures filed is)

pub read_event-requires : goal.read_event-requires
read_event-requires g c =
    event_there c.args.owner c.args.host c.args.tag.now c.args.idx c.requires.filed c.args.log.now c.in-Some.spot c.in-Some.at c.requires.stand (sym c.in-Some.is ∙ c.spot_at.ensures c.requires.filed c.requires.is)

pub disown-requires : goal.disown-requires
disown-requires g c =
    c.in-Ok.ensures.rests.history
    ∙ untold c.args.owner c.args.host c.args.tag.now c.args.idx c.requires.filed c.args.log.now c.in-Some.spot c.in-Some.at c.requires.stand (sym c.in-Some.is ∙ c.spot_at.ensures c.requires.filed c.requires.is) (event_seen c.in-Ok.event)
    (sym (ap (option_map record_seen) c.in-None.is) ∙ c.record_of.ensures) c.in-Ok.ensures.event

pub returns-in-Some-record_of-clause-record : goal.returns-in-Some-record_of-clause-record
returns-in-Some-record_of-clause-record g c = λ filed is stand.
    record_is c.args.owner c.args.host c.args.tag.now c.args.idx filed c.args.log.now c.in-Some.spot c.in-Some.at stand (sym c.in-Some.is ∙ c.spot_at.ensures filed is) (event_seen c.in-Ok.event) (Some (record_seen c.in-Some-record_of.rec))
    (sym (ap (option_map record_seen) c.in-Some-record_of.is) ∙ c.record_of.ensures) c.in-Ok.ensures.event
