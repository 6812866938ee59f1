use Rattle.payload_forms.proofs.WrittenLaws.{deletion_length}
use Rattle.payload_forms.proofs.lengths.payload_len.Goals as goal

pub returns-in-HistoryDelete : goal.returns-in-HistoryDelete
returns-in-HistoryDelete c = deletion_length c.args.payload.now c.in-HistoryDelete.field-0 c.in-HistoryDelete.is
