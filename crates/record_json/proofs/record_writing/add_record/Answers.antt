use Rattle.record_json.proofs.Pages.{adds_then}
use Rattle.record_json.specs.Writing.{Adds}
use Rattle.json.specs.Token.{begin_object, end_object}
use Rattle.std.proofs.Common.{[], ◌∷◌}
use Rattle.record_json.proofs.record_writing.add_record.Goals as goal

pub returns : goal.returns
returns c =
    let opened : Adds c.args.writer.now c.begin_object.new.self (begin_object ∷ []) = record { tokens = c.in_ok-begin_object.ensures.ok; before = c.in_ok-begin_object.ensures.room.0 } in
    let closed : Adds c.add_text-2.new.writer c.end_object.new.self (end_object ∷ []) = record { tokens = c.in_ok-end_object.ensures.ok; before = c.in_ok-end_object.ensures.room.0 } in
    adds_then opened
    (adds_then c.in_ok-add_data.ensures
    (adds_then c.in_ok-add_host.ensures
    (adds_then c.in_ok-add_id.ensures
    (adds_then c.in_ok-add_number.ensures
    (adds_then c.in_ok-add_text.ensures
    (adds_then c.in_ok-add_number-2.ensures
    (adds_then c.in_ok-add_text-2.ensures closed)))))))
