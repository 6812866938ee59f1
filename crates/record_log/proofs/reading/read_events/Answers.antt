use Rattle.std.proofs.Common.{◌≡◌, List, ℕ, length, sym, ◌∙◌, ap, subst}
use Rattle.std.specs.Prelude.{IfSome, take, drop}
use Rattle.record_model.specs.Seen.{events_seen}
use Rattle.log_check.proofs.Telling.{tells_after}
use Rattle.record_log.specs.Reading.{IsBody}
use Rattle.record_log.proofs.ReadBack.{body_inside, body_given, body_had}
use Rattle.record_log.proofs.reading.read_events.Goals as goal

pub read_bytes-requires : goal.read_bytes-requires
read_bytes-requires g c = body_inside c.saturating_add-at.result c.args.spot (g.D.Disk.disk c.args.disk.now).history c.saturating_add-at.ensures c.requires

pub events_of-requires-clause-whole : goal.events_of-requires-clause-whole
events_of-requires-clause-whole g c =
    let shown = subst (λ (b : List ℕ). IfSome (g.D.Disk.disk c.args.disk.now).history (λ h. b ≡ take c.args.spot.count (drop c.saturating_add-at.result h.now.shows))) (sym c.deref.ensures.value) c.in-Ok.ensures.shown in
    tells_after (g.D.Disk.disk c.args.disk.now) (g.D.Disk.disk c.read_bytes.new.disk) (λ _. IsBody c.deref.result.now) c.in-Ok.ensures.rests
    (body_given c.saturating_add-at.result c.args.spot c.deref.result.now (g.D.Disk.disk c.args.disk.now).history c.saturating_add-at.ensures c.requires shown)

pub events_of-requires-clause-long : goal.events_of-requires-clause-long
events_of-requires-clause-long g c = ap (λ (l : List ℕ). length l) c.deref.ensures.value ∙ c.in-Ok.ensures.long

pub returns-in-Ok-events_of-clause-events : goal.returns-in-Ok-events_of-clause-events
returns-in-Ok-events_of-clause-events g c =
    let shown = subst (λ (b : List ℕ). IfSome (g.D.Disk.disk c.args.disk.now).history (λ h. b ≡ take c.args.spot.count (drop c.saturating_add-at.result h.now.shows))) (sym c.deref.ensures.value) c.in-Ok.ensures.shown in
    body_had c.saturating_add-at.result c.args.spot c.deref.result.now (events_seen c.in-Ok-events_of.events.items) (g.D.Disk.disk c.args.disk.now).history c.saturating_add-at.ensures c.requires shown c.in-Ok-events_of.ensures.events
