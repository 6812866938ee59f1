use Rattle.std.proofs.Common.{refl, sym, ap, Some, ◌∙◌}
use Rattle.std.specs.Int.{w64}
use Rattle.std.proofs.lemmas.Int.{to_z-of_z}
use Rattle.definitions.specs.Journal.{HistoryRecord, finished}
use Rattle.payload_rules.specs.Payloads.{HistoryCreate}
use Rattle.record_model.specs.Seen.{started_seen}
use Rattle.step_rules.specs.Step.{record_draft, end_drafts, end_unknown}
use Rattle.call_drafts.proofs.drafting.end.Goals as goal

pub returns-in_ok-history-in-Some : goal.returns-in_ok-history-in-Some
returns-in_ok-history-in-Some c = λ store journal is.
    end_drafts c.args.id c.args.duration c.args.exit c.args.author.now (started_seen c.in-Some.started.now) refl (sym (c.in-Some.ensures journal is))
    (ap (λ (h : HistoryRecord). record_draft (Some c.args.id) (HistoryCreate h))
    (c.in_ok-history-in-Some.ensures ∙ (λ i. finished (started_seen c.in-Some.started.now) (to_z-of_z w64 c.args.duration c.ranges.duration i) (to_z-of_z w64 c.args.exit c.ranges.exit i) c.args.author.now)))

pub returns-in-None : goal.returns-in-None
returns-in-None c = λ store journal is. end_unknown c.args.id c.args.duration c.args.exit c.args.author.now refl (sym (c.in-None.ensures journal is)) refl
