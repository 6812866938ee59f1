-- What a search finds in a store.
use Rattle.std.specs.Prelude.{◌≡◌, ℕ, List, Result, Err, Option, Some, None}
use Rattle.definitions.specs.Journal.{HistoryRecord}
use Rattle.record_rules.specs.Records.{Entry, Event}
use Rattle.record_model.specs.declared.ended.History.{History}
use Rattle.record_model.specs.declared.replying.Answer.{Answer}
use Rattle.record_model.specs.declared.replying.Answer.TheVariants as answers
use Rattle.log_rules.specs.Opened.{opened_journal}
use Rattle.view_rules.specs.Answers.{ScopedQuery, SearchAnswer}
use Rattle.step_rules.specs.Store.{shown_changes}
use Rattle.step_rules.specs.Sealing.{keyed_store}
use Rattle.record_seal.proofs.StoreSealing.{record_sealing}
use Rattle.at_edge.specs.Storing.{DiskSeen}
use Rattle.at_edge.specs.Writing.{SinkSeen}
use Rattle.printing.specs.Lines.{PrintsHits}
use Rattle.key_text.specs.KeyText.{key_of}
use Rattle.record_log.specs.Opening.{OpenCause}
use Rattle.store_commands.specs.Ends.{Prints, KeepsLog}
use Rattle.store_commands.specs.declared.ends.CommandFail.{CommandFail}
use Rattle.store_commands.specs.declared.ends.CommandFail.TheVariants as fails

-- the hits, where the answer is that of a search
abbrev pub hits_in : Answer → Option (List History)
hits_in (answers.Hits found) = Some found
hits_in _ = None

-- the hits of the query among the commands that the journal shows under the key are printed
pub record PrintsHitsOf (result : Result (Unit {0}) CommandFail) (host : ℕ) (key : List ℕ) (journal : List Entry) (asked : ScopedQuery) (old new : SinkSeen) : Type 0 where
  pub page : List HistoryRecord
  pub answer : SearchAnswer (shown_changes (keyed_store record_sealing host key) journal) asked page
  pub text : List ℕ
  pub lines : PrintsHits page text
  pub prints : Prints result old new text

-- or nothing, where memory ran out
abbrev pub PrintsFound : Result (Unit {0}) CommandFail → (host : ℕ) → (key : List ℕ) → List Entry → ScopedQuery → (old new : SinkSeen) → Type 0
PrintsFound (Err fails.NoMemory) host key journal asked old new = new ≡ old
PrintsFound result host key journal asked old new = PrintsHitsOf result host key journal asked old new

-- The text tells no key, and all is as it was. Or it tells one: no store was opened, for that cause, and nothing was printed; or the hits are printed of the
-- journal that the disk holds.
abbrev pub FindsHits : Result (Unit {0}) CommandFail → (key_text : List ℕ) → ScopedQuery → (old new : DiskSeen) → (sink_old sink_new : SinkSeen) → Type 0
FindsHits (Err fails.FaultyKeyText) key_text asked old new sink_old sink_new = (key_of key_text ≡ None) × (new ≡ old) × (sink_new ≡ sink_old)
FindsHits (Err (fails.Unopened fail)) key_text asked old new sink_old sink_new = (key : List ℕ) × ((key_of key_text ≡ Some key) × OpenCause fail old new × (sink_new ≡ sink_old))
FindsHits result key_text asked old new sink_old sink_new =
    (key : List ℕ) × ((key_of key_text ≡ Some key) × ((host : ℕ) × ((events : List Event) × KeepsLog host events old new × PrintsFound result host key (opened_journal events) asked sink_old sink_new)))
