use Rattle.std.proofs.Common.{◌≤◌, ◌<◌, ◌+◌, ℕ, List, sym, ◌∙◌, subst, arith}
use Rattle.std.specs.Prelude.{IfSome, drop}
use Rattle.record_model.specs.Seen.{events_seen}
use Rattle.disk_rules.specs.Append.{Begins}
use Rattle.log_check.proofs.Telling.{tells_before, tells_after}
use Rattle.record_log.specs.Reading.{BodyThere, HasBody, StartsBehind}
use Rattle.record_log.proofs.ReadBack.{before_gate, not_within, body_is_there, ahead_is, batch_is_here}
use Rattle.record_log.proofs.reading.read_batch_at.Goals.{then-next-offset-via-then-next-offset, then-next-offset-via-else-next-offset+then-gate-next}
use Rattle.record_log.proofs.reading.read_batch_at.Goals as goal

pub read_first-requires : goal.read_first-requires
read_first-requires g c = before_gate c.args.form c.args.gate c.args.offset (g.D.Disk.disk c.args.disk.now).history c.requires

pub disown-requires-then-next-offset : goal.disown-requires-then-next-offset
disown-requires-then-next-offset g c =
    let old = (g.D.Disk.disk c.args.disk.now).history in
    let starts = subst (λ (b : List ℕ). IfSome old (λ h. StartsBehind c.args.offset b h.now.shows)) (sym c.deref.ensures.value) c.in-Ok.ensures.first in
    let outside : (c.args.offset < c.next_gate-next.result) × (c.next_gate-next.result ≤ c.args.gate) → ⊥ = λ both.
    let ahead = both.0 in
    let within = both.1 in
    elim c.then-next-offset.branch [
      | then-next-offset-via-then-next-offset w ↦ (let test = w.if-next-offset.true in absurd (omega (arith, ahead, test)))
      | then-next-offset-via-else-next-offset+then-gate-next w ↦ (let test = w.if-gate-next.true in absurd (omega (arith, within, test)))
    ] in
    c.in-Ok.ensures.rests.history ∙ not_within c.args.form c.args.gate c.args.offset old c.requires c.deref.result.now starts c.in-Some.count c.next_gate-next.result c.ranges.gate.fits c.in-Some.ensures.number c.next_gate-next.ensures outside

pub read_rest-requires-clause-there : goal.read_rest-requires-clause-there
read_rest-requires-clause-there g c =
    let old = (g.D.Disk.disk c.args.disk.now).history in
    let starts = subst (λ (b : List ℕ). IfSome old (λ h. StartsBehind c.args.offset b h.now.shows)) (sym c.deref.ensures.value) c.in-Ok.ensures.first in
    tells_after (g.D.Disk.disk c.args.disk.now) (g.D.Disk.disk c.read_first.new.disk) (λ d. BodyThere c.args.offset c.in-Some.count d.shows) c.in-Ok.ensures.rests
    (body_is_there c.args.form c.args.gate c.args.offset old c.requires c.deref.result.now starts c.in-Some.count c.next_gate-next.result c.ranges.gate.fits c.in-Some.ensures.number c.next_gate-next.ensures)

pub read_rest-requires-clause-ahead : goal.read_rest-requires-clause-ahead
read_rest-requires-clause-ahead g c =
    let old = (g.D.Disk.disk c.args.disk.now).history in
    let starts = subst (λ (b : List ℕ). IfSome old (λ h. StartsBehind c.args.offset b h.now.shows)) (sym c.deref.ensures.value) c.in-Ok.ensures.first in
    tells_after (g.D.Disk.disk c.args.disk.now) (g.D.Disk.disk c.read_first.new.disk) (λ d. Begins c.in-Some.ahead.now (drop (c.args.offset + 5) d.shows)) c.in-Ok.ensures.rests
    (ahead_is c.args.form c.args.gate c.args.offset old c.requires c.deref.result.now starts c.in-Some.count c.next_gate-next.result c.ranges.gate.fits c.in-Some.ensures.number c.next_gate-next.ensures c.in-Some.ahead.now c.in-Some.ensures.behind)

pub returns-in-Ok-read_rest-clause-events : goal.returns-in-Ok-read_rest-clause-events
returns-in-Ok-read_rest-clause-events g c =
    let old = (g.D.Disk.disk c.args.disk.now).history in
    let events = events_seen c.in-Ok-read_rest.events.items in
    let starts = subst (λ (b : List ℕ). IfSome old (λ h. StartsBehind c.args.offset b h.now.shows)) (sym c.deref.ensures.value) c.in-Ok.ensures.first in
    let has = tells_before (g.D.Disk.disk c.args.disk.now) (g.D.Disk.disk c.read_first.new.disk) (λ d. HasBody c.args.offset c.in-Some.count d.shows events) c.in-Ok.ensures.rests c.in-Ok-read_rest.ensures.events in
    batch_is_here c.args.form c.args.gate c.args.offset old c.requires c.deref.result.now starts c.in-Some.count c.next_gate-next.result c.ranges.gate.fits c.in-Some.ensures.number c.next_gate-next.ensures events c.in-Ok-read_rest.ensures.batch.0 has
