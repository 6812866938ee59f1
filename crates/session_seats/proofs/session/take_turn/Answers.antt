use Rattle.std.proofs.Common.{◌∙◌, arith, List, ℕ, ◌≡◌, ◌≤◌, length, take, subst}
use Rattle.std.proofs.lemmas.List.{length-take}
use Rattle.definitions.specs.Limits.{most_payload_bytes}
use Rattle.at_edge.specs.Writing.{Holds, Stopped}
use Rattle.session_seats.proofs.session.take_turn.Goals as goal

pub returns-in-Ok-clause-turn : goal.returns-in-Ok-clause-turn
returns-in-Ok-clause-turn g c =
    let read = c.in-Payload.ensures in
    let answer = c.answer_frame.ensures.framed in
    let payload : List ℕ = take c.in-Payload.length c.read_frame.new.buffer in
    let len : length payload ≡ c.in-Payload.length = length-take c.in-Payload.length c.read_frame.new.buffer ∙ omega (arith, read.1) in
    let short : length payload ≤ most_payload_bytes = omega (arith, read.2) in
    (payload, answer.0, record { short = short; taken = read.0; answer = answer.1 }, len, subst (λ (bytes : List ℕ). Holds (g.K.Sink.sink c.args.sink.now) (g.K.Sink.sink c.write_all.new.sink) bytes) (c.as_slice.ensures.items ∙ answer.2) c.in-Ok.ensures)

pub returns-in-Err-clause-turn : goal.returns-in-Err-clause-turn
returns-in-Err-clause-turn g c =
    let read = c.in-Payload.ensures in
    let answer = c.answer_frame.ensures.framed in
    let payload : List ℕ = take c.in-Payload.length c.read_frame.new.buffer in
    let len : length payload ≡ c.in-Payload.length = length-take c.in-Payload.length c.read_frame.new.buffer ∙ omega (arith, read.1) in
    let short : length payload ≤ most_payload_bytes = omega (arith, read.2) in
    let stopped = c.in-Err.ensures in
    (payload, answer.0, stopped.0, record { short = short; taken = read.0; answer = answer.1 }, subst (λ (bytes : List ℕ). Stopped (g.K.Sink.sink c.args.sink.now) (g.K.Sink.sink c.write_all.new.sink) bytes stopped.0) (c.as_slice.ensures.items ∙ answer.2) stopped.1)
