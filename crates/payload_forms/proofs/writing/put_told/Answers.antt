use Rattle.std.proofs.lemmas.Result.{on_ok_weaker}
use Rattle.record_model.specs.Seen.{history_seen}
use Rattle.payload_forms.proofs.WrittenLaws.{told_in_parts}
use Rattle.payload_forms.proofs.writing.put_told.Goals as goal

pub returns : goal.returns
returns c =
    on_ok_weaker c.put_texts.result
    (λ texts. told_in_parts (history_seen c.args.history.now) c.args.writer.now.items c.put_numbers.new.writer.items c.put_texts.new.writer.items c.in_ok-put_numbers.ensures texts)
    c.put_texts.ensures
