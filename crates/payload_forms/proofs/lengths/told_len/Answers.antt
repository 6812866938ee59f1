use Rattle.record_model.specs.Seen.{history_seen}
use Rattle.payload_forms.proofs.WrittenLaws.{told_length}
use Rattle.payload_forms.proofs.lengths.told_len.Goals as goal

pub returns-clause-value : goal.returns-clause-value
returns-clause-value c = told_length (history_seen c.args.history.now) c.numbers_len.result c.texts_len.result c.numbers_len.ensures.value c.texts_len.ensures.value
