use Rattle.std.proofs.Common.{ℕ, refl, sym, ◌∙◌, subst, arith, Option, Ok}
use Rattle.log_check.proofs.Telling.{rests_then}
use Rattle.record_log.specs.Copying.{MovesSo, MovesOn}
use Rattle.record_log.proofs.Copies.{Part, none_copied, none_left, is_at_a_gate, one_copied, all_copied, not_copied, crash_on, crash_stopped, crash_ended}
use Rattle.record_log.proofs.copying.copy_log.Goals as goal

pub batches-init : goal.batches-init
batches-init g c = record {
  rests = record { history = refl; faults = omega arith };
  old_host = refl;
  old_gate = refl;
  host = refl;
  settled = c.requires.empty.settled;
  kept = omega arith;
  silent = λ none. none;
  part = subst (λ (n : ℕ). Part c.args.old.now n 0 c.args.into.now) (sym c.first_gate-offset.ensures.first) (none_copied c.args.old.now c.args.into.now c.requires.empty);
  crash = none_left c.args.old.now c.args.into.now;
}

pub copy_batch-requires-clause-gate : goal.copy_batch-requires-clause-gate
copy_batch-requires-clause-gate g c =
    let so = c.batches.invariant in
    is_at_a_gate c.args.old.now c.batches.old c.batches.into c.batches.offset c.batches.entries so.rests so.old_gate so.part c.first_gate-offset.ensures.log

pub returns-in-Ok-None-clause-copies : goal.returns-in-Ok-None-clause-copies
returns-in-Ok-None-clause-copies g c =
    let so = c.batches.invariant in
    let moves = subst (λ (m : Option (ℕ × ℕ)). MovesSo c.batches.old c.batches.into c.copy_batch.new.into c.batches.offset (Ok m)) c.in-Ok-None.field-0-is c.in-Ok-None.ensures.moves in
    all_copied c.args.old.now c.batches.old c.batches.into c.batches.offset c.batches.entries so.rests so.old_gate so.part c.copy_batch.new.into (so.host ∙ c.requires.host) moves

pub returns-in-Ok-None-clause-crash : goal.returns-in-Ok-None-clause-crash
returns-in-Ok-None-clause-crash g c =
    let so = c.batches.invariant in
    let moves = subst (λ (m : Option (ℕ × ℕ)). MovesSo c.batches.old c.batches.into c.copy_batch.new.into c.batches.offset (Ok m)) c.in-Ok-None.field-0-is c.in-Ok-None.ensures.moves in
    crash_ended c.args.old.now c.batches.old c.batches.into c.batches.offset c.batches.entries so.rests so.old_gate so.part c.args.into.now c.copy_batch.new.into so.host so.crash (so.host ∙ c.requires.host) moves

pub batches-preserved : goal.batches-preserved
batches-preserved g c =
    let so = c.batches.invariant in
    let moves = subst (λ (m : Option (ℕ × ℕ)). MovesSo c.batches.old c.batches.into c.copy_batch.new.into c.batches.offset (Ok m)) c.in-Ok-Some.field-0-is c.in-Ok-Some.ensures.moves in
    let on = subst (λ (m : Option (ℕ × ℕ)). MovesOn c.batches.old.gate c.batches.offset m) c.in-Ok-Some.field-0-is c.in-Ok-Some.ensures.onward in
    let within = on.1 in
    let fits = on.2 in
    let kept = so.kept in
    let more = c.in-Ok-Some.ensures.kept in
    record {
      rests = rests_then c.args.old.now.disk c.batches.old.disk c.copy_batch.new.old.disk so.rests c.in-Ok-Some.ensures.rests;
      old_host = c.in-Ok-Some.ensures.old_host ∙ so.old_host;
      old_gate = c.in-Ok-Some.ensures.old_gate ∙ so.old_gate;
      host = c.in-Ok-Some.ensures.host ∙ so.host;
      settled = c.in-Ok-Some.ensures.settled;
      kept = omega (arith, kept, more);
      silent = λ none. c.in-Ok-Some.ensures.silent (so.silent none);
      part = subst (λ (n : ℕ). Part c.args.old.now c.in-Ok-Some.next n c.copy_batch.new.into) (sym c.saturating_add-entries.ensures)
          (one_copied c.args.old.now c.batches.old c.batches.into c.batches.offset c.batches.entries so.rests so.old_gate so.part c.copy_batch.new.into c.in-Ok-Some.count c.in-Ok-Some.next (so.host ∙ c.requires.host) (omega (arith, within, fits)) moves);
      crash = crash_on c.args.old.now c.batches.old c.batches.into c.batches.offset c.batches.entries so.rests so.old_gate so.part c.args.into.now c.copy_batch.new.into so.host so.crash c.in-Ok-Some.count c.in-Ok-Some.next (so.host ∙ c.requires.host) moves;
    }

pub returns-in-Err-clause-copies : goal.returns-in-Err-clause-copies
returns-in-Err-clause-copies g c =
    let so = c.batches.invariant in
    not_copied c.args.old.now c.batches.old c.batches.into c.batches.offset c.batches.entries so.rests so.old_gate so.part c.copy_batch.new.into c.in-Err.fail (so.host ∙ c.requires.host) c.in-Err.ensures.moves

pub returns-in-Err-clause-crash : goal.returns-in-Err-clause-crash
returns-in-Err-clause-crash g c =
    let so = c.batches.invariant in
    crash_stopped c.args.old.now c.batches.old c.batches.into c.batches.offset c.batches.entries so.rests so.old_gate so.part c.args.into.now c.copy_batch.new.into so.host so.crash c.in-Err.fail (so.host ∙ c.requires.host) c.in-Err.ensures.moves
