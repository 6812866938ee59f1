use Rattle.std.proofs.Common.{◌+◌, List, drop, get_or, false, refl, sym, ap, ◌∙◌, ◌<◌, length, arith}
use Rattle.record_rules.specs.Records.{SealedRecord}
use Rattle.record_rules.specs.Growth.{same_place, holder}
use Rattle.record_model.specs.Seen.{record_seen, records_seen}
use Rattle.page_growth.proofs.Chosen.{find_later, from_place}
use Rattle.page_growth.proofs.earlier.id_among.Goals as goal

pub loop-at-preserved : goal.loop-at-preserved
loop-at-preserved c =
    let at = c.loop-at.at in
    let r = record_seen c.args.r.now in
    let mark = get_or c.args.marks.now at false in
    let other = c.index-before-at.result in
    let below : at < length c.args.before.now = c.loop-at-test.true in
    sym
    (ap (λ (rs : List SealedRecord). holder rs r) (from_place c.args.marks.now c.args.before.now at mark other (omega (arith, below, c.requires)) below refl c.index-before-at.is)
    ∙ find_later (same_place r) (drop (at + 1) c.args.marks.now) (records_seen (drop (at + 1) c.args.before.now)) (record_seen other) mark (sym c.is_marked_there.ensures ∙ c.if-is_marked_there.false))
    ∙ c.loop-at.invariant
