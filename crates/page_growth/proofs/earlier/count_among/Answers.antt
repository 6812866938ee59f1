use Rattle.std.proofs.Common.{◌≡◌, ◌+◌, List, drop, filter, get_or, false, refl, sym, ap, ◌∙◌, ◌<◌, length, arith}
use Rattle.record_rules.specs.Records.{SealedRecord}
use Rattle.record_rules.specs.Journal.{in_place}
use Rattle.record_model.specs.Seen.{record_seen, records_seen}
use Rattle.page_growth.specs.Checking.{chosen}
use Rattle.page_growth.proofs.Chosen.{count_more, from_place}
use Rattle.page_growth.proofs.earlier.count_among.Goals as goal

pub loop-at-preserved : goal.loop-at-preserved
loop-at-preserved c =
    let at = c.loop-at.at in
    let p = in_place c.args.r.now.host c.args.r.now.tag in
    let mark = get_or c.args.marks.now at false in
    let other = c.index-before-at.result in
    let below : at < length c.args.before.now = c.loop-at-test.true in
    let later = length (filter (in_place c.args.r.now.host c.args.r.now.tag) (chosen (drop (at + 1) c.args.marks.now) (records_seen (drop (at + 1) c.args.before.now)))) in
    let now : length (filter (in_place c.args.r.now.host c.args.r.now.tag) (chosen (drop at c.args.marks.now) (records_seen (drop at c.args.before.now)))) ≡ c.one_if_marked-count.result + length (filter (in_place c.args.r.now.host c.args.r.now.tag) (chosen (drop (at + 1) c.args.marks.now) (records_seen (drop (at + 1) c.args.before.now)))) =
    ap (λ (rs : List SealedRecord). length (filter (in_place c.args.r.now.host c.args.r.now.tag) rs)) (from_place c.args.marks.now c.args.before.now at mark other (omega (arith, below, c.requires)) below refl c.index-before-at.is)
    ∙ count_more (in_place c.args.r.now.host c.args.r.now.tag) (drop (at + 1) c.args.marks.now) (records_seen (drop (at + 1) c.args.before.now)) (record_seen other) mark
    ∙ ap (λ n. n + length (filter (in_place c.args.r.now.host c.args.r.now.tag) (chosen (drop (at + 1) c.args.marks.now) (records_seen (drop (at + 1) c.args.before.now))))) (sym c.one_if_marked-count.ensures.value) in
    let few = c.loop-at.invariant.0 in
    let sum = c.loop-at.invariant.1 in
    (omega (arith, few, c.one_if_marked-count.ensures.most), omega (arith, sum, now))
