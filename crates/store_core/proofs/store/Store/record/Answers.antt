use Rattle.std.proofs.Common.{◌≡◌, length, None, ◌∙◌, refl}
use Rattle.std.proofs.lemmas.Result.{err_from_is_err_and}
use Rattle.definitions.specs.Uses.{read_clock, read_and_drew, read_and_failed}
use Rattle.payload_forms.specs.Seen.{payload_seen}
use Rattle.record_model.specs.Seen.{caller_seen}
use Rattle.model_words.specs.Seen.{result_seen}
use Rattle.record_rules.specs.Journal.{chain}
use Rattle.store_core.specs.Recording.{IsNextIdx}
use Rattle.call_supplies.proofs.Using.{only_read, read_then_drew, read_then_failed}
use Rattle.store_core.proofs.Recorded.{may_write_short, full_told, short_told, undrawn_told, may_record, drawn_told}
use Rattle.store_core.proofs.store.Store.record.Goals as goal

pub record_passes-requires-clause-short : goal.record_passes-requires-clause-short
record_passes-requires-clause-short g c = may_write_short c.args.self.now c.args.closes (payload_seen c.args.payload) c.requires.writes

pub record_passes-requires-clause-next : goal.record_passes-requires-clause-next
record_passes-requires-clause-next g c = λ journal doubt is. c.count-idx.ensures journal doubt is ∙ (λ i. length (chain journal 0 (c.host.ensures i) (c.tag_of.ensures.tag i)))

pub returns-in-Some-clause-writes : goal.returns-in-Some-clause-writes
returns-in-Some-clause-writes g c = record {
  used = read_clock c.args.now;
  random = only_read (g.E.Entropy.entropy c.args.rand.now) c.args.now c.ranges.now.fits;
  reading = refl;
  writes = full_told c.args.self.now (caller_seen c.args.caller) c.args.closes (payload_seen c.args.payload) c.args.now c.record_passes.result c.record_passes.ensures c.in-Some.passed c.in-Some.is;
}

pub returns-in_err-room-clause-writes : goal.returns-in_err-room-clause-writes
returns-in_err-room-clause-writes g c =
    let p = err_from_is_err_and c.from_residual.result c.from_residual.ensures.1 in
    rw (p.1, p.2)
    (record {
      used = read_clock c.args.now;
      random = only_read (g.E.Entropy.entropy c.args.rand.now) c.args.now c.ranges.now.fits;
      reading = refl;
      writes = short_told c.args.self.now (caller_seen c.args.caller) c.args.closes (payload_seen c.args.payload) c.args.now c.reserve_shown.new.self c.reserve_shown.ensures.same c.reserve_shown.ensures.log;
    })

pub returns-in-Err-clause-writes : goal.returns-in-Err-clause-writes
returns-in-Err-clause-writes g c =
    let none : c.record_passes.result ≡ None = c.in_default.is in
    record {
      used = read_and_failed c.args.now;
      random = read_then_failed (g.E.Entropy.entropy c.args.rand.now) (g.E.Entropy.entropy c.draw_record.new.rand) c.args.now c.ranges.now.fits c.in-Err.ensures.0 c.in-Err.ensures.1;
      reading = refl;
      writes = undrawn_told c.args.self.now (caller_seen c.args.caller) c.args.closes (payload_seen c.args.payload) c.args.now c.reserve_shown.new.self c.reserve_shown.ensures.same c.reserve_shown.ensures.log c.record_passes.result c.record_passes.ensures none;
    }

pub record_drawn-requires-clause-may : goal.record_drawn-requires-clause-may
record_drawn-requires-clause-may g c =
    let none : c.record_passes.result ≡ None = c.in_default.is in
    let next : IsNextIdx c.args.self.now (payload_seen c.args.payload) c.count-idx.result =
    λ journal doubt is. c.count-idx.ensures journal doubt is ∙ (λ i. length (chain journal 0 (c.host.ensures i) (c.tag_of.ensures.tag i))) in
    let may = c.requires.writes in (
      may.key,
      may.journal,
      may.call,
      may_record c.args.self.now (caller_seen c.args.caller) c.args.closes (payload_seen c.args.payload) c.args.now c.reserve_shown.new.self c.reserve_shown.ensures.same c.reserve_shown.ensures.log c.record_passes.result c.record_passes.ensures none
          c.reserve_shown.ensures.key c.count-idx.result next may.key may.journal may.call may.keyed may.is may.fits may.short may.drafts,
    )

pub record_drawn-requires-clause-short : goal.record_drawn-requires-clause-short
record_drawn-requires-clause-short g c = may_write_short c.args.self.now c.args.closes (payload_seen c.args.payload) c.requires.writes

pub returns-clause-writes : goal.returns-clause-writes
returns-clause-writes g c =
    let none : c.record_passes.result ≡ None = c.in_default.is in
    let next : IsNextIdx c.args.self.now (payload_seen c.args.payload) c.count-idx.result =
    λ journal doubt is. c.count-idx.ensures journal doubt is ∙ (λ i. length (chain journal 0 (c.host.ensures i) (c.tag_of.ensures.tag i))) in
    let drawn = c.in-Ok.ensures in
    record {
      used = read_and_drew c.args.now drawn.bytes;
      random = read_then_drew (g.E.Entropy.entropy c.args.rand.now) (g.E.Entropy.entropy c.draw_record.new.rand) c.args.now drawn.bytes c.ranges.now.fits drawn.are drawn.drew;
      reading = refl;
      writes = drawn_told c.args.self.now (caller_seen c.args.caller) c.args.closes (payload_seen c.args.payload) c.args.now c.reserve_shown.new.self c.reserve_shown.ensures.same c.reserve_shown.ensures.log c.record_passes.result c.record_passes.ensures none
          c.reserve_shown.ensures.key c.count-idx.result next c.record_drawn.new.self (read_and_drew c.args.now drawn.bytes) (result_seen c.record_drawn.result) (λ key journal call may. c.record_drawn.ensures.writes drawn.bytes key journal call drawn.of may);
    }
