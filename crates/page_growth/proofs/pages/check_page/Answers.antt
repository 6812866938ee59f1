use Rattle.std.proofs.Common.{◌+◌, List, take, drop, sym, subst}
use Rattle.std.proofs.lemmas.List.{take_all}
use Rattle.record_rules.specs.Records.{SealedRecord}
use Rattle.record_model.specs.declared.sealed.Record.{Record}
use Rattle.record_model.specs.Seen.{record_seen, records_seen}
use Rattle.chain_index.specs.Meaning.{journal_of}
use Rattle.page_growth.specs.Checking.{Measured, AreTaken}
use Rattle.page_growth.proofs.Taking.{seen_more, seen_whole, fails_early, grown_is}
use Rattle.page_growth.proofs.pages.check_page.Goals as goal

pub returns-in-Err-clause-checks : goal.returns-in-Err-clause-checks
returns-in-Err-clause-checks c = λ filed is numbered.
    let journal = journal_of filed in
    let page = c.args.page.now in
    let at = c.loop-at.at in
    let x = c.index-page-at.result in
    fails_early journal c.args.owner (records_seen (take at page)) (records_seen (drop (at + 1) page)) (records_seen page) (record_seen x) c.in-Err.fail (seen_whole page at x c.loop-at-test.true c.index-page-at.is)
    (c.in-Err.ensures.takes filed is numbered (c.loop-at.invariant.1 filed is numbered))

pub loop-at-preserved : goal.loop-at-preserved
loop-at-preserved c =
    let page = c.args.page.now in
    let at = c.loop-at.at in
    let x = c.index-page-at.result in
    let more = c.in-Ok.more in
    let with_it = sym (seen_more page at x c.loop-at-test.true c.index-page-at.is) in (
      subst (λ (rs : List SealedRecord). Measured rs more) with_it c.in-Ok.ensures.measured,
      λ filed is numbered. subst (λ (rs : List SealedRecord). AreTaken (journal_of filed) c.args.owner rs more) with_it (c.in-Ok.ensures.takes filed is numbered (c.loop-at.invariant.1 filed is numbered)),
    )

pub returns-clause-checks : goal.returns-clause-checks
returns-clause-checks c = λ filed is numbered.
    let journal = journal_of filed in
    let page = c.args.page.now in
    let all = take_all c.loop-at.at page c.loop-at-test.false in
    let taken = subst (λ (rs : List Record). AreTaken journal c.args.owner (records_seen rs) c.loop-at.so_far) all (c.loop-at.invariant.1 filed is numbered) in
    grown_is journal c.args.owner (records_seen page) c.loop-at.so_far.marks.items taken.taken
