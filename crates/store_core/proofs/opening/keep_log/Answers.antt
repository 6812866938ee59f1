use Rattle.std.proofs.Common.{ℕ, Option, refl, subst, ◌∙◌, arith}
use Rattle.log_check.proofs.Telling.{rests_then}
use Rattle.store_tables.specs.declared.tables.Tables.{Tables}
use Rattle.store_core.specs.Opening.{GoesOnwards}
use Rattle.store_core.proofs.Opened.{walk_starts, cause_then}
use Rattle.store_core.proofs.opening.keep_log.Goals as goal

pub batches-init : goal.batches-init
batches-init g c = record {
  walks = λ events has.
      walk_starts c.args.log.now c.args.key.now events c.new-tables.result c.new-check.result has (c.new-tables.ensures c.new-check.result.host c.args.key.now) c.new-check.ensures.keeps (c.new-check.ensures.host ∙ c.host.ensures);
  rests = record { history = refl; faults = omega arith };
  host = refl;
}

pub keep_next-requires : goal.keep_next-requires
keep_next-requires g c = (c.requires.0, c.batches.invariant.walks c.requires.0 c.requires.1)

pub returns-in-Ok-None-clause-keeps : goal.returns-in-Ok-None-clause-keeps
returns-in-Ok-None-clause-keeps g c = λ events has. rw c.in-Ok-None.field-0-is at (c.in-Ok-None.ensures.walks events (c.batches.invariant.walks events has))

pub returns-in-Ok-None-clause-rests : goal.returns-in-Ok-None-clause-rests
returns-in-Ok-None-clause-rests g c = rests_then c.args.log.now.disk c.batches.log.disk c.keep_next.new.log.disk c.batches.invariant.rests c.in-Ok-None.ensures.rests

pub batches-smaller : goal.batches-smaller
batches-smaller g c =
    let on = subst (λ (m : Option ℕ). GoesOnwards c.batches.log.gate c.batches.offset m) c.in-Ok-Some.field-0-is c.in-Ok-Some.ensures.onwards in
    let ahead = on.0 in
    let within = on.1 in
    let gate = c.in-Ok-Some.ensures.gate in
    omega (arith, ahead, within, gate)

pub batches-preserved : goal.batches-preserved
batches-preserved g c = record {
  walks = λ events has. rw c.in-Ok-Some.field-0-is at (c.in-Ok-Some.ensures.walks events (c.batches.invariant.walks events has));
  rests = rests_then c.args.log.now.disk c.batches.log.disk c.keep_next.new.log.disk c.batches.invariant.rests c.in-Ok-Some.ensures.rests;
  host = c.in-Ok-Some.ensures.host ∙ c.batches.invariant.host;
}

pub returns-in-Err-clause-rests : goal.returns-in-Err-clause-rests
returns-in-Err-clause-rests g c = rests_then c.args.log.now.disk c.batches.log.disk c.keep_next.new.log.disk c.batches.invariant.rests c.in-Err.ensures.rests

pub returns-in-Err-clause-cause : goal.returns-in-Err-clause-cause
returns-in-Err-clause-cause g c = cause_then (Option ℕ) Tables c.args.log.now.disk c.batches.log.disk c.keep_next.new.log.disk c.in-Err.fail c.batches.invariant.rests c.in-Err.ensures.cause
