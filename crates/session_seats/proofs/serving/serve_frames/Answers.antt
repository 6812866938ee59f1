use Rattle.std.proofs.Common.{◌≡◌, ◌∙◌, ℕ, arith, ap, sym, List, length}
use Rattle.std.proofs.lemmas.List.{take_at}
use Rattle.session_seats.specs.Stores.{StoreFixed}
use Rattle.session_seats.proofs.SeatLaws.{serves_nothing, serves_more, ends_at_end, ends_cut, ends_long, ends_failed, ends_stopped, ends_full, ends_short}
use Rattle.session_seats.proofs.serving.serve_frames.Goals as goal

pub returns-in_default : goal.returns-in_default
returns-in_default g c = ends_short _ _ _

pub returns-in_default-zeros : goal.returns-in_default-zeros
returns-in_default-zeros g c = ends_short _ _ _

pub loop-requests-init : goal.loop-requests-init
loop-requests-init g c = record {
  turns = serves_nothing _ _ _;
  buffer = c.in-Ok-zeros.ensures;
  room = omega (arith, c.in-Ok.ensures.room);
}

-- the store keeps its key
pub take_turn-requires-clause-key : goal.take_turn-requires-clause-key
take_turn-requires-clause-key g c = ap (λ (f : StoreFixed). f.has_key) c.loop-requests.invariant.turns.replied.fixed ∙ c.requires.key

pub returns-in-End : goal.returns-in-End
returns-in-End g c = ends_at_end _ _ _ _ _ _ _ _ c.loop-requests.invariant.turns _ _ _ c.loop-requests-test.true c.in-End.ensures.turn

pub returns-in-Cut : goal.returns-in-Cut
returns-in-Cut g c = ends_cut _ _ _ _ _ _ _ _ c.loop-requests.invariant.turns _ _ _ c.loop-requests-test.true c.in-Cut.ensures.turn

pub returns-in-TooLong : goal.returns-in-TooLong
returns-in-TooLong g c = ends_long _ _ _ _ _ _ _ _ c.loop-requests.invariant.turns _ _ _ c.loop-requests-test.true _ c.in-TooLong.ensures.turn

pub returns-in-SourceFailed : goal.returns-in-SourceFailed
returns-in-SourceFailed g c = ends_failed _ _ _ _ _ _ _ _ c.loop-requests.invariant.turns _ _ _ c.loop-requests-test.true c.in-SourceFailed.ensures.turn

pub returns-in-SinkFailed : goal.returns-in-SinkFailed
returns-in-SinkFailed g c = ends_stopped _ _ _ _ _ _ _ _ c.loop-requests.invariant.turns _ _ _ c.loop-requests-test.true c.in-SinkFailed.ensures.turn

pub loop-requests-preserved : goal.loop-requests-preserved
loop-requests-preserved g c =
    let turn = c.in-Answered.ensures.turn in
    let same : length c.take_turn.new.buffer ≡ length c.loop-requests.buffer.items = c.take_turn.auto.buffer ∙ ap (λ (l : List ℕ). length l) c.deref_mut.ensures.value in
    let whole : c.loop-requests.buffer.len ≡ length c.loop-requests.buffer.items = sym c.deref_mut.ensures.len ∙ ap (λ (l : List ℕ). length l) c.deref_mut.ensures.value in
    record {
      turns = serves_more _ _ _ _ _ _ _ _ c.loop-requests.invariant.turns turn.0 turn.1 _ _ _ turn.2 _ turn.3 turn.4;
      buffer = ap (λ (l : List ℕ). length l) (take_at c.take_turn.new.buffer _ _ (same ∙ sym whole)) ∙ same ∙ c.loop-requests.invariant.buffer;
      room = omega (arith, c.loop-requests.invariant.room, c.in-Answered.ensures.reserved);
    }

pub returns : goal.returns
returns g c = ends_full _ _ _ _ _ _ _ _ c.loop-requests.invariant.turns (omega (arith, c.loop-requests.auto.requests-end))
