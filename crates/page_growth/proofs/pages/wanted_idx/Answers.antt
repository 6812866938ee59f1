use Rattle.std.proofs.Common.{◌≡◌, ℕ, ◌+◌, ◌-◌, ◌<◌, ◌^◌, List, length, ap, ◌∙◌, arith}
use Rattle.std.specs.Prelude.{min}
use Rattle.record_rules.specs.Journal.{chain}
use Rattle.record_model.specs.Seen.{record_seen, records_seen}
use Rattle.chain_index.specs.Meaning.{journal_of}
use Rattle.page_growth.proofs.Taking.{wanted_is}
use Rattle.page_growth.proofs.pages.wanted_idx.Goals as goal

pub returns : goal.returns
returns c = λ filed is numbered all.
    let fits : c.args.entries < 2 ^ 64 = c.ranges.entries.fits in
    let value : c.min.result ≡ min (min (c.count-count.result + c.count_among.result) (2 ^ 64 - 1)) c.args.entries = omega (arith, c.min.ensures, c.saturating_add.ensures) in
    value
    ∙ wanted_is (journal_of filed) c.args.owner (records_seen c.args.before.now) c.args.marks.now (record_seen c.args.r.now) c.count-count.result c.count_among.result c.args.entries
    (c.count-count.ensures.counts filed is ∙ ap (λ (tag : List ℕ). length (chain (journal_of filed) c.args.owner c.args.r.now.host tag)) c.as_bytes.ensures.value) c.count_among.ensures fits all
