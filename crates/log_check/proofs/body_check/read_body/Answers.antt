use Rattle.std.proofs.Common.{◌≡◌, ◌≤◌, ◌+◌, ℕ, [], ◌++◌, length, take, drop, sym, ◌∙◌, subst, arith, length-append}
use Rattle.std.proofs.lemmas.List.{length-take, length-drop}
use Rattle.definitions.proofs.Bytes.{IsBytes-append}
use Rattle.log_rules.specs.Pieces.{Pieces}
use Rattle.log_format.specs.Digests.{Digests}
use Rattle.at_edge.specs.Storing.{Tells}
use Rattle.log_check.specs.Checking.{HasChecked}
use Rattle.log_check.proofs.Bodies.{begun_checked}
use Rattle.log_check.proofs.Pieces.{shows_more, bad_at_once, piece_fails, body_found, end_fails}
use Rattle.log_check.proofs.body_check.read_body.Goals as goal

pub returns-in-Err-Bad-clause-body : goal.returns-in-Err-Bad-clause-body
returns-in-Err-Bad-clause-body g c = λ before is.
    let begun = subst (λ (p : Pieces). HasChecked c.args.limit before [] p c.args.check.now) (sym c.new-reader.ensures) (begun_checked c.args.limit before c.args.check.now is) in
    bad_at_once (g.D.Disk.disk c.args.disk.now) c.args.gate c.args.limit c.args.check.now.host before (rw c.in-Err-Bad.field-0-is at (c.in-Err-Bad.ensures.takes c.args.limit before [] begun)) c.requires.there

pub returns-in-Err-take_piece-clause-body : goal.returns-in-Err-take_piece-clause-body
returns-in-Err-take_piece-clause-body g c =
    let inv = c.loop-done.invariant in
    let took = c.in-Err-take_piece.ensures in
    let count_is = c.piece_length-count.ensures in
    let kept = c.take_piece.auto.piece in
    let room = inv.room in
    let cut = length-take c.piece_length-count.result c.loop-done.buffer in
    let counted : length c.take_piece.new.piece ≡ c.piece_length-count.result = omega (arith, count_is, kept, cut) in
    let within = c.loop-done-test.true in
    let few : c.loop-done.done + c.piece_length-count.result ≤ c.args.limit = omega (arith, count_is, within) in
    let from = c.from.ensures in
    piece_fails c.in-Err-take_piece.fail (g.D.Disk.disk c.args.disk.now) (g.D.Disk.disk c.loop-done.disk) c.args.gate c.args.limit (c.args.gate + 5 + c.from.result) c.loop-done.done c.piece_length-count.result c.args.check.now c.loop-done.check c.take_piece.new.check c.loop-done.reader c.take_piece.new.reader
    inv.bytes c.take_piece.new.piece inv.rests c.requires.there inv.checked inv.host inv.shown took.shown (omega (arith, from)) counted few (λ before has. took.takes c.args.limit before inv.bytes has)

pub loop-done-preserved : goal.loop-done-preserved
loop-done-preserved g c =
    let inv = c.loop-done.invariant in
    let took = c.in-Ok-take_piece.ensures in
    let count = c.piece_length-count.result in
    let piece = c.take_piece.new.piece in
    let count_is = c.piece_length-count.ensures in
    let kept = c.take_piece.auto.piece in
    let cut = length-take count c.loop-done.buffer in
    let counted : length piece ≡ count = omega (arith, count_is, kept, cut) in
    let within = c.loop-done-test.true in
    let from = c.from.ensures in
    let long = inv.long in
    let parts = length-append inv.bytes piece in
    let placed = took.place in
    let place = inv.place in
    let faults = inv.rests.faults in
    let more_faults = took.rests.faults in
    let left = length-drop count c.loop-done.buffer in
    let joined = length-append piece (drop count c.loop-done.buffer) in
    let room = inv.room in
    record {
      bytes = inv.bytes ++ piece;
      long = omega (arith, parts, long, counted);
      within = omega (arith, count_is, within);
      are = IsBytes-append inv.bytes piece inv.are took.bytes;
      shown = shows_more (g.D.Disk.disk c.args.disk.now) (g.D.Disk.disk c.loop-done.disk) c.args.gate (c.args.gate + 5 + c.from.result) c.loop-done.done count inv.bytes piece inv.rests inv.shown took.shown (omega (arith, from)) counted;
      digests = took.digests c.args.gate c.args.limit inv.bytes inv.digests;
      checked = λ before is. took.takes c.args.limit before inv.bytes (inv.checked before is);
      awaits = took.awaits;
      place = omega (arith, placed, place, cut, count_is);
      limit_is = took.limit ∙ inv.limit_is;
      rests = record { history = took.rests.history ∙ inv.rests.history; faults = omega (arith, faults, more_faults) };
      host = took.host ∙ inv.host;
      room = omega (arith, joined, left, counted, room, count_is);
    }

pub returns-in-Ok-finish-clause-body : goal.returns-in-Ok-finish-clause-body
returns-in-Ok-finish-clause-body g c = λ before is.
    let inv = c.loop-done.invariant in
    let ended = c.loop-done-test.false in
    let within = inv.within in
    let done_is : c.loop-done.done ≡ c.args.limit = omega (arith, ended, within) in
    let long = inv.long ∙ done_is in
    let shown = subst (λ (n : ℕ). Tells (g.D.Disk.disk c.args.disk.now) (λ d. inv.bytes ≡ take n (drop (c.args.gate + 5) d.shows))) done_is inv.shown in
    let digests = subst (λ (n : ℕ). Digests c.loop-done.digest c.args.gate n inv.bytes) (sym long) inv.digests in
    body_found (g.D.Disk.disk c.args.disk.now) c.args.gate c.args.limit c.finish-in-Ok-finish.result inv.bytes before c.loop-done.reader c.loop-done.check (inv.checked before is) inv.are c.ranges.limit.fits long c.in-Ok-finish.ensures
    (c.finish-in-Ok-finish.ensures c.args.gate inv.bytes digests) shown

pub returns-in-Err-finish-clause-body : goal.returns-in-Err-finish-clause-body
returns-in-Err-finish-clause-body g c = λ before is.
    let inv = c.loop-done.invariant in
    let ended = c.loop-done-test.false in
    let within = inv.within in
    let done_is : c.loop-done.done ≡ c.args.limit = omega (arith, ended, within) in
    let shown = subst (λ (n : ℕ). Tells (g.D.Disk.disk c.args.disk.now) (λ d. inv.bytes ≡ take n (drop (c.args.gate + 5) d.shows))) done_is inv.shown in
    end_fails c.in-Err-finish.field-0 (g.D.Disk.disk c.args.disk.now) c.args.gate c.args.limit c.args.check.now.host before inv.bytes c.loop-done.reader c.loop-done.check c.in-Err-finish.ensures (inv.checked before is) inv.awaits inv.limit_is (inv.long ∙ done_is) shown
