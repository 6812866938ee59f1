use Rattle.std.proofs.Common.{◌≡◌, ℕ, Bool, false, List, None, length, filter, sym, subst, ap, ◌∙◌}
use Rattle.std.specs.Prelude.{nat_le, nat_lt, ◌||◌}
use Rattle.std.specs.Option.{option_map}
use Rattle.std.proofs.lemmas.List.{length-map}
use Rattle.record_rules.specs.Records.{SealedRecord}
use Rattle.record_rules.specs.Journal.{Totals, records_of, in_place}
use Rattle.record_rules.specs.Growth.{holder, has_long_text}
use Rattle.record_model.specs.Seen.{record_seen, records_seen}
use Rattle.chain_index.specs.Meaning.{journal_of}
use Rattle.page_growth.specs.Checking.{taken_so_far, held_so_far}
use Rattle.page_growth.proofs.Taking.{is_fresh}
use Rattle.page_growth.proofs.pages.take_record.Goals as goal

pub returns-in-Ok-clause-takes : goal.returns-in-Ok-clause-takes
returns-in-Ok-clause-takes c = λ filed is numbered totals.
    let journal = journal_of filed in
    let before = records_seen c.args.before.now in
    let marks = c.args.so_far.now.marks.items in
    let r = record_seen c.args.r.now in
    let entries : c.args.so_far.now.totals.entries ≡ length (held_so_far (journal_of filed) c.args.owner (records_seen c.args.before.now) c.args.so_far.now.marks.items) = ap (λ (t : Totals). t.entries) totals in
    let none = subst (λ (ms : List Bool). None ≡ option_map (λ (other : SealedRecord). other.id) (holder (records_of (held_so_far journal c.args.owner before ms)) r)) c.as_slice-marks.ensures.value (c.in-None.ensures filed is numbered) in
    let wanted =
    subst (λ (ms : List Bool). c.args.so_far.now.totals.entries ≡ length (held_so_far journal c.args.owner before ms) → c.wanted_idx-wanted.result ≡ length (filter (in_place c.args.r.now.host c.args.r.now.tag) (records_of (held_so_far journal c.args.owner before ms)))) c.as_slice-marks.ensures.value
    (c.wanted_idx-wanted.ensures filed is numbered) entries in
    let long = subst (λ (n : ℕ). ((nat_le 100 n || nat_lt 4194304 c.args.weight) || has_long_text r) ≡ false) (sym (length-map c.args.before.now record_seen)) (sym c.is_too_long.ensures ∙ c.if-is_too_long.false) in
    let step = c.in-Ok.ensures (held_so_far journal c.args.owner before marks) c.args.owner (taken_so_far before marks) (sym (length-map c.args.before.now record_seen)) totals wanted in
    (is_fresh journal c.args.owner before marks r c.args.weight c.requires.weight long none ∙ step.0, step.1)

pub returns-in-Err-clause-takes : goal.returns-in-Err-clause-takes
returns-in-Err-clause-takes c = λ filed is numbered totals.
    let journal = journal_of filed in
    let before = records_seen c.args.before.now in
    let marks = c.args.so_far.now.marks.items in
    let r = record_seen c.args.r.now in
    let entries : c.args.so_far.now.totals.entries ≡ length (held_so_far (journal_of filed) c.args.owner (records_seen c.args.before.now) c.args.so_far.now.marks.items) = ap (λ (t : Totals). t.entries) totals in
    let none = subst (λ (ms : List Bool). None ≡ option_map (λ (other : SealedRecord). other.id) (holder (records_of (held_so_far journal c.args.owner before ms)) r)) c.as_slice-marks.ensures.value (c.in-None.ensures filed is numbered) in
    let wanted =
    subst (λ (ms : List Bool). c.args.so_far.now.totals.entries ≡ length (held_so_far journal c.args.owner before ms) → c.wanted_idx-wanted.result ≡ length (filter (in_place c.args.r.now.host c.args.r.now.tag) (records_of (held_so_far journal c.args.owner before ms)))) c.as_slice-marks.ensures.value
    (c.wanted_idx-wanted.ensures filed is numbered) entries in
    let long = subst (λ (n : ℕ). ((nat_le 100 n || nat_lt 4194304 c.args.weight) || has_long_text r) ≡ false) (sym (length-map c.args.before.now record_seen)) (sym c.is_too_long.ensures ∙ c.if-is_too_long.false) in
    is_fresh journal c.args.owner before marks r c.args.weight c.requires.weight long none
    ∙ c.in-Err.ensures (held_so_far journal c.args.owner before marks) c.args.owner (taken_so_far before marks) (sym (length-map c.args.before.now record_seen)) totals wanted
