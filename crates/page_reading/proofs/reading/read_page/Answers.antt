use Rattle.std.proofs.Common.{◌≡◌, ◌+◌, ◌-◌, ◌<◌, List, [], ◌∷◌, ◌++◌, length, take, drop, refl, sym, ap, ◌∙◌, arith}
use Rattle.std.specs.Prelude.{min}
use Rattle.std.specs.Option.{option_map}
use Rattle.std.proofs.lemmas.List.{map-append, length_push}
use Rattle.std.proofs.lemmas.List.Sums.{sum_by_push}
use Rattle.record_rules.specs.Records.{SealedRecord, record_weight, page_weight}
use Rattle.record_rules.specs.Journal.{chain}
use Rattle.record_model.specs.declared.sealed.Record.{Record}
use Rattle.record_model.specs.Seen.{record_seen, records_seen}
use Rattle.chain_index.specs.Meaning.{journal_of}
use Rattle.page_reading.specs.Reading.{IsPage, IsRecordAt}
use Rattle.page_reading.proofs.Prefixes.{take_next, page_ends, page_stops}
use Rattle.page_reading.proofs.Standing.{tells_from, tells_both, may_then, of_before, rests_then, found_within}
use Rattle.page_reading.proofs.reading.read_page.Goals as goal

pub read_record-requires : goal.read_record-requires
read_record-requires g c = may_then c.args.log.now c.loop-step.log c.args.index.now c.loop-step.invariant.rests c.requires

pub returns-in_default-clause-page : goal.returns-in_default-clause-page
returns-in_default-clause-page g c = λ filed is stand.
    let records : List SealedRecord = chain (journal_of filed) c.args.owner c.args.host c.args.tag.now in
    let at = c.args.start + c.loop-step.step in
    let many : c.count.result ≡ length (chain (journal_of filed) c.args.owner c.args.host c.args.tag.now) = c.count.ensures.counts filed is in
    let below : c.args.start + c.loop-step.step < length (chain (journal_of filed) c.args.owner c.args.host c.args.tag.now) = omega (arith, many, c.most_from-most.ensures, c.loop-step-test.true) in
    tells_from c.args.log.now.disk (λ _. IsRecordAt c.args.owner c.args.host c.args.tag.now at (option_map record_seen c.in-Ok.found) filed)
    (λ _. IsPage c.args.owner c.args.host c.args.tag.now c.args.start c.args.count (records_seen c.loop-step.records.items) filed)
    (λ _ found. absurd (found_within records at below (sym (ap (option_map record_seen) c.in_default.is) ∙ found)))
    (of_before c.args.log.now c.loop-step.log c.args.index.now (IsRecordAt c.args.owner c.args.host c.args.tag.now at (option_map record_seen c.in-Ok.found)) c.loop-step.invariant.rests c.in-Ok.ensures.record filed is stand)

pub returns-then-weight-gt-MOST_WEIGHT-clause-page : goal.returns-then-weight-gt-MOST_WEIGHT-clause-page
returns-then-weight-gt-MOST_WEIGHT-clause-page g c = λ filed is stand.
    let records : List SealedRecord = chain (journal_of filed) c.args.owner c.args.host c.args.tag.now in
    let seen : List SealedRecord = records_seen c.loop-step.records.items in
    let step = c.loop-step.step in
    let at = c.args.start + c.loop-step.step in
    let many : c.count.result ≡ length (chain (journal_of filed) c.args.owner c.args.host c.args.tag.now) = c.count.ensures.counts filed is in
    let short : c.loop-step.step < min (min c.args.count 100) (length (chain (journal_of filed) c.args.owner c.args.host c.args.tag.now) - c.args.start) = omega (arith, many, c.most_from-most.ensures, c.loop-step-test.true) in
    let light = c.loop-step.invariant.light in
    let weighs = c.loop-step.invariant.weight in
    tells_both c.args.log.now.disk (λ _. records_seen c.loop-step.records.items ≡ take c.loop-step.step (drop c.args.start (chain (journal_of filed) c.args.owner c.args.host c.args.tag.now)))
    (λ _. IsRecordAt c.args.owner c.args.host c.args.tag.now at (option_map record_seen c.in-Ok.found) filed)
    (λ _. IsPage c.args.owner c.args.host c.args.tag.now c.args.start c.args.count (records_seen c.loop-step.records.items) filed)
    (λ _ taken found.
    let weight : page_weight (records_seen c.loop-step.records.items) ≡ page_weight (take c.loop-step.step (drop c.args.start (chain (journal_of filed) c.args.owner c.args.host c.args.tag.now))) = ap page_weight taken in
    taken
    ∙ page_stops record_weight 4194304 records c.args.start (min c.args.count 100) step at (record_seen c.in-Some.rec) short refl (sym found ∙ ap (option_map record_seen) c.in-Some.is) (omega (arith, weight, weighs, light))
    (omega (arith, weight, weighs, c.weight-weight.ensures.value, c.if-weight-gt-MOST_WEIGHT.true)))
    (c.loop-step.invariant.read filed is stand)
    (of_before c.args.log.now c.loop-step.log c.args.index.now (IsRecordAt c.args.owner c.args.host c.args.tag.now at (option_map record_seen c.in-Ok.found)) c.loop-step.invariant.rests c.in-Ok.ensures.record filed is stand)

pub loop-step-preserved : goal.loop-step-preserved
loop-step-preserved g c =
    let items : c.push.new.self.items ≡ c.loop-step.records.items ++ c.in-Some.rec ∷ [] = c.in-Ok-push.ensures.items in
    let seen : records_seen c.push.new.self.items ≡ records_seen c.loop-step.records.items ++ record_seen c.in-Some.rec ∷ [] = ap records_seen items ∙ map-append record_seen c.loop-step.records.items (c.in-Some.rec ∷ []) in
    let at = c.args.start + c.loop-step.step in
    record {
      read = λ filed is stand.
          tells_both c.args.log.now.disk (λ _. records_seen c.loop-step.records.items ≡ take c.loop-step.step (drop c.args.start (chain (journal_of filed) c.args.owner c.args.host c.args.tag.now)))
          (λ _. IsRecordAt c.args.owner c.args.host c.args.tag.now at (option_map record_seen c.in-Ok.found) filed)
          (λ _. records_seen c.push.new.self.items ≡ take (c.loop-step.step + 1) (drop c.args.start (chain (journal_of filed) c.args.owner c.args.host c.args.tag.now)))
          (λ _ taken found.
          seen ∙ ap (λ (rs : List SealedRecord). rs ++ record_seen c.in-Some.rec ∷ []) taken
          ∙ sym (take_next (chain (journal_of filed) c.args.owner c.args.host c.args.tag.now) c.args.start c.loop-step.step at (record_seen c.in-Some.rec) refl (sym found ∙ ap (option_map record_seen) c.in-Some.is)))
          (c.loop-step.invariant.read filed is stand)
          (of_before c.args.log.now c.loop-step.log c.args.index.now (IsRecordAt c.args.owner c.args.host c.args.tag.now at (option_map record_seen c.in-Ok.found)) c.loop-step.invariant.rests c.in-Ok.ensures.record filed is stand);
      weight =
          (let sum : page_weight (records_seen c.push.new.self.items) ≡ page_weight (records_seen c.loop-step.records.items) + record_weight (record_seen c.in-Some.rec) = ap page_weight seen ∙ sum_by_push record_weight (records_seen c.loop-step.records.items) (record_seen c.in-Some.rec) in
          let was = c.loop-step.invariant.weight in
          omega (arith, sum, was, c.weight-weight.ensures.value));
      light = c.if-weight-gt-MOST_WEIGHT.false;
      count =
          (let more = ap (λ (rs : List Record). length rs) items ∙ length_push c.loop-step.records.items c.in-Some.rec in
          let was = c.loop-step.invariant.count in
          omega (arith, more, was));
      rests = rests_then c.args.log.now c.loop-step.log c.read_record.new.log c.loop-step.invariant.rests c.in-Ok.ensures.rests;
    }

pub returns-clause-page : goal.returns-clause-page
returns-clause-page g c = λ filed is stand.
    let records : List SealedRecord = chain (journal_of filed) c.args.owner c.args.host c.args.tag.now in
    let step = c.loop-step.step in
    let many : c.count.result ≡ length (chain (journal_of filed) c.args.owner c.args.host c.args.tag.now) = c.count.ensures.counts filed is in
    let whole : c.loop-step.step ≡ min (min c.args.count 100) (length (chain (journal_of filed) c.args.owner c.args.host c.args.tag.now) - c.args.start) = omega (arith, many, c.most_from-most.ensures, c.loop-step-test.false, c.loop-step.auto.step-end) in
    let light = c.loop-step.invariant.light in
    let weighs = c.loop-step.invariant.weight in
    tells_from c.args.log.now.disk (λ _. records_seen c.loop-step.records.items ≡ take c.loop-step.step (drop c.args.start (chain (journal_of filed) c.args.owner c.args.host c.args.tag.now)))
    (λ _. IsPage c.args.owner c.args.host c.args.tag.now c.args.start c.args.count (records_seen c.loop-step.records.items) filed)
    (λ _ taken.
    let weight : page_weight (records_seen c.loop-step.records.items) ≡ page_weight (take c.loop-step.step (drop c.args.start (chain (journal_of filed) c.args.owner c.args.host c.args.tag.now))) = ap page_weight taken in
    taken ∙ page_ends record_weight 4194304 records c.args.start (min c.args.count 100) step whole (omega (arith, weight, weighs, light)))
    (c.loop-step.invariant.read filed is stand)
