use Rattle.std.proofs.Common.{◌≡◌, ◌+◌, ℕ, [], ◌∷◌, ◌++◌, drop, refl, ◌∙◌, subst, arith}
use Rattle.record_rules.specs.Journal.{Sound}
use Rattle.record_rules.proofs.Soundness.{empty_sound}
use Rattle.log_rules.specs.Opened.{opened_journal}
use Rattle.log_rules.specs.Log.{HoldsGoodBatch}
use Rattle.at_edge.specs.Storing.{Tells}
use Rattle.log_check.specs.Forms.{form_of}
use Rattle.log_check.proofs.Telling.{tells_before, rests_then}
use Rattle.log_check.proofs.Walks.{OpenThere, way_begun, way_closed, way_found, way_bad}
use Rattle.log_check.proofs.walk.find_closed_gate.Goals as goal

pub loop-check-init : goal.loop-check-init
loop-check-init g c =
    let long = c.requires.long in
    record {
      events = [];
      checked = record { keeps = c.new-check.ensures.keeps; sound = empty_sound c.new-check.result.host };
      opened = way_begun (form_of c.args.form) (g.D.Disk.disk c.args.disk.now) c.args.host c.requires.header;
      host = c.new-check.ensures.host;
      rests = record { history = refl; faults = omega arith };
      first = omega arith;
      inside = omega (arith, long);
      room = refl;
    }

pub returns-in-Ok-false-clause-walks : goal.returns-in-Ok-false-clause-walks
returns-in-Ok-false-clause-walks g c =
    let inv = c.loop-check.invariant in
    let seen = g.D.Disk.disk c.args.disk.now in
    let closed = rw c.in-Ok-false.field-0-test at c.in-Ok-false.ensures.gate in
    record {
      events = inv.events;
      sound = subst (λ (h : ℕ). Sound (opened_journal inv.events) h) inv.host inv.checked.sound;
      shown = way_closed (form_of c.args.form) seen c.args.host c.loop-check.gate c.args.end inv.events c.requires.whole inv.inside inv.opened
          (tells_before seen (g.D.Disk.disk c.loop-check.disk) (λ d. drop c.loop-check.gate d.shows ≡ 0 ∷ drop (c.loop-check.gate + 1) d.shows) inv.rests closed);
    }

pub loop-check-preserved : goal.loop-check-preserved
loop-check-preserved g c =
    let inv = c.loop-check.invariant in
    let seen = g.D.Disk.disk c.args.disk.now in
    let open_there = rw c.in-Ok-true.field-0-test at c.in-Ok-true.ensures.gate in
    let rests = rests_then seen (g.D.Disk.disk c.loop-check.disk) (g.D.Disk.disk c.is_open.new.disk) inv.rests c.in-Ok-true.ensures.rests in
    let found = c.in-Ok.ensures.batch inv.events inv.checked in
    let inside = c.in-Ok.ensures.inside in
    let first = inv.first in
    let ahead = inside.0 in
    record {
      events = inv.events ++ found.events;
      checked = found.checked;
      opened = way_found (form_of c.args.form) seen c.args.host c.loop-check.gate c.args.end inv.events c.requires.whole inv.inside inv.opened (g.D.Disk.disk c.is_open.new.disk) c.in-Ok.next c.check_batch.new.check rests
          (tells_before seen (g.D.Disk.disk c.loop-check.disk) (λ d. OpenThere c.loop-check.gate d.shows) inv.rests open_there) found;
      host = c.in-Ok.ensures.host ∙ inv.host;
      rests = rests_then seen (g.D.Disk.disk c.is_open.new.disk) (g.D.Disk.disk c.check_batch.new.disk) rests c.in-Ok.ensures.rests;
      first = omega (arith, first, ahead);
      inside = inside.1;
      room = c.in-Ok.ensures.buffer ∙ inv.room;
    }

pub returns-in-Err-Bad-clause-walks : goal.returns-in-Err-Bad-clause-walks
returns-in-Err-Bad-clause-walks g c =
    let inv = c.loop-check.invariant in
    let seen = g.D.Disk.disk c.args.disk.now in
    let open_there = rw c.in-Ok-true.field-0-test at c.in-Ok-true.ensures.gate in
    let rests = rests_then seen (g.D.Disk.disk c.loop-check.disk) (g.D.Disk.disk c.is_open.new.disk) inv.rests c.in-Ok-true.ensures.rests in
    let bad = rw c.in-Err-Bad.field-0-is at c.in-Err-Bad.ensures.batch in
    way_bad (form_of c.args.form) seen c.args.host c.loop-check.gate c.args.end inv.events c.requires.whole inv.inside inv.opened (g.D.Disk.disk c.is_open.new.disk) rests
    (tells_before seen (g.D.Disk.disk c.loop-check.disk) (λ d. OpenThere c.loop-check.gate d.shows) inv.rests open_there) (subst (λ (h : ℕ). Sound (opened_journal inv.events) h) inv.host inv.checked.sound)
    (subst (λ (h : ℕ). Tells (g.D.Disk.disk c.is_open.new.disk) (λ d. HoldsGoodBatch (form_of c.args.form) c.loop-check.gate (drop (c.loop-check.gate + 1) d.shows) h inv.events → ⊥)) inv.host (bad inv.events inv.checked))
