-- What is asked of the texts of a payload that is written, and the two halves of what is told of a command.
use Rattle.std.specs.Prelude.{ℕ, ◌+◌, List, ◌++◌, length}
use Rattle.definitions.specs.Ids.{id_text}
use Rattle.definitions.specs.Journal.{HistoryRecord}
use Rattle.definitions.specs.Spelling.{written_integer, written_text}
use Rattle.definitions.specs.Search.{hit_bytes}
use Rattle.payload_rules.specs.Payloads.{Payload, HistoryCreate, HistoryDelete, KvSet, KvDelete, AliasSet, AliasDelete, written_u64, written_time}

-- the bytes of all texts of a payload
abbrev pub text_total : Payload → ℕ
text_total (HistoryCreate h) = hit_bytes h
text_total (HistoryDelete id) = 0
text_total (KvSet namespace key value) = length namespace + length key + length value
text_total (KvDelete namespace key) = length namespace + length key
text_total (AliasSet name value) = length name + length value
text_total (AliasDelete name) = length name

unfoldable pub told_numbers : HistoryRecord → List ℕ
told_numbers h = written_text (id_text h.id) ++ (written_u64 h.timestamp ++ (written_integer h.duration ++ written_integer h.exit))

unfoldable pub told_texts : HistoryRecord → List ℕ
told_texts h = written_text h.command ++ (written_text h.cwd ++ (written_text h.session ++ (written_text h.hostname ++ written_time h.deleted_at)))
