use Rattle.std.proofs.Common.{◌≤◌, subst, sym}
use Rattle.std.proofs.lemmas.List.{length-map}
use Rattle.record_model.specs.Seen.{event_seen, events_seen}
use Rattle.record_log.proofs.Sizes.{fit_is_short}
use Rattle.record_log.proofs.record_log.RecordLog.ready.Goals as goal

pub ready_short-requires-clause-short : goal.ready_short-requires-clause-short
ready_short-requires-clause-short g c = fit_is_short (events_seen c.args.batch.now) (subst (λ n. n ≤ 100) (sym (length-map c.args.batch.now event_seen)) c.requires.few) c.requires.fit
