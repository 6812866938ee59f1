-- What an event makes of a node.
use Rattle.std.specs.Prelude.{◌≡◌, ℕ, ◌<◌, ◌^◌, List, ◌++◌, Option, Some, Result, Ok, Err, false, ⊤}
use Rattle.record_rules.specs.Records.{SealedRecord, Entry}
use Rattle.record_rules.specs.Journal.{events_of}
use Rattle.record_rules.specs.Growth.{PageRefusal, grow}
use Rattle.log_rules.specs.Log.{current_form, StandsFor}
use Rattle.log_rules.specs.Opened.{opened_journal}
use Rattle.disk_rules.specs.History.{History}
use Rattle.step_rules.specs.Calls.{Call}
use Rattle.step_rules.specs.Answers as answers
use Rattle.step_rules.specs.Step.{Step}
use Rattle.rehearsal_rules.specs.Words.{words_for}
use Rattle.record_model.specs.declared.replying.Answer.{Answer}
use Rattle.record_model.specs.declared.replying.Refusal.{Refusal}
use Rattle.model_words.specs.Seen.{answer_seen, refusal_seen}
use Rattle.page_growth.specs.Checking as checking
use Rattle.store_core.specs.Opening.{nobody}
use Rattle.world_nodes.specs.Random.{state_after, readings_of, bytes_of, used_from}
use Rattle.world_nodes.specs.Faults.{is_fault}
use Rattle.world_nodes.specs.Nodes.{NodeSeen, IsReady, store_at}
use Rattle.world_nodes.specs.declared.fails.CallFail.{CallFail}
use Rattle.world_nodes.specs.declared.fails.CallFail.TheVariants as calls
use Rattle.world_nodes.specs.declared.fails.DeliverFail.{DeliverFail}
use Rattle.world_nodes.specs.declared.fails.DeliverFail.TheVariants as pages

-- the node has this host and key, this journal, and this state of its generator
pub record IsNodeOf (host : ℕ) (key : List ℕ) (journal : List Entry) (random : ℕ) (node : NodeSeen) : Type 0 where
  pub ready : IsReady node
  pub host_is : node.host ≡ host
  pub key_is : node.key ≡ key
  pub journal_is : node.journal ≡ journal
  pub random_is : node.random ≡ random

-- it is the old node, but for these
abbrev pub Becomes : NodeSeen → (journal : List Entry) → (random : ℕ) → NodeSeen → Type 0
Becomes old journal random new = IsNodeOf old.host old.key journal random new

-- where the disk shows a log of a journal that is by nobody, it is the node of that
abbrev pub OpensNode : Option History → (key : List ℕ) → (random : ℕ) → NodeSeen → Type 0
OpensNode history key random node = (told : History) (host : ℕ) (journal : List Entry) → history ≡ Some told → StandsFor current_form told.now.shows host journal → opened_journal (events_of journal) ≡ journal
    → random < 2 ^ 64 → IsNodeOf host key journal random node

-- The call is answered what it asks for: by a step of nobody's call, which uses as much of the clock's readings from this one on and of the node's random
-- bytes as its answer tells.
pub record AnswersCall (old new : NodeSeen) (call : Call) (first : ℕ) (answer : answers.Answer) : Type 0 where
  pub stepped : Step (store_at old) old.journal nobody call (used_from first old.random (readings_of answer) (bytes_of answer)) new.journal answer
  pub becomes : Becomes old new.journal (state_after old.random (words_for (bytes_of answer))) new
  pub granted : (refusal : answers.Refusal) → answer ≡ answers.refused refusal → ⊥

-- or its step refuses it, and the node stays
pub record RefusesCall (old new : NodeSeen) (call : Call) (first : ℕ) (refusal : answers.Refusal) : Type 0 where
  pub readings : ℕ
  pub bytes : ℕ
  pub stepped : Step (store_at old) old.journal nobody call (used_from first old.random readings bytes) old.journal (answers.refused refusal)
  pub stays : Becomes old old.journal old.random new

abbrev pub Appends : NodeSeen → NodeSeen → Call → (first : ℕ) → Result Answer CallFail → Type 0
Appends old new call first (Ok answer) = AnswersCall old new call first (answer_seen answer)
Appends old new call first (Err (calls.Refused refusal)) = RefusesCall old new call first (refusal_seen refusal)
Appends old new call first (Err calls.NoMemory) = ⊤

-- what was answered to a call is given back, and a fault as want of memory
abbrev pub Grants : Result Answer Refusal → Result Answer CallFail → Type 0
Grants asked (Ok answer) = asked ≡ Ok answer
Grants asked (Err (calls.Refused refusal)) = (asked ≡ Err refusal) × (is_fault (refusal_seen refusal) ≡ false)
Grants asked (Err calls.NoMemory) = ⊤

-- The page of these records comes to the node, which grows by it as owner 0's, in nobody's call; or it is refused, and the node stays.
pub record Grows (old new : NodeSeen) (records : List SealedRecord) : Type 0 where
  pub batch : List Entry
  pub grown : grow old.journal nobody 0 records ≡ Ok batch
  pub becomes : Becomes old (old.journal ++ batch) old.random new

pub record Stays (old new : NodeSeen) (records : List SealedRecord) (refusal : PageRefusal) : Type 0 where
  pub refuses : grow old.journal nobody 0 records ≡ Err refusal
  pub stays : Becomes old old.journal old.random new

abbrev pub Delivers : {T : Type 0} → NodeSeen → NodeSeen → List SealedRecord → Result T DeliverFail → Type 0
Delivers old new records (Ok _) = Grows old new records
Delivers old new records (Err (pages.Refused refusal)) = Stays old new records (checking.refusal_seen refusal)
Delivers old new records (Err pages.NoMemory) = ⊤
