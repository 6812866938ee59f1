-- Replicas that hand pages to one another: what may happen among them, and the worlds that they can reach.
use Rattle.std.specs.Prelude.{◌≡◌, ℕ, ◌<◌, ◌⊎◌, List, [], ◌∷◌, ◌++◌, Option, Some, None, if◌then◌else◌, ◌==◌, filter_map, slice_get, ⊤}
use Rattle.std.specs.List.{AllByRecursion}
use Rattle.record_rules.specs.Records.{SealedRecord, Caller, Entry, Event, Started, Local, Taken}
use Rattle.record_rules.specs.Journal.{events_of, Sound}
use Rattle.record_rules.specs.Growth.{grow, grown}
use Rattle.record_rules.specs.Answers.{page}

-- ---- nodes

-- the host of a node: node 0 is the server, with host 0, and node n has the n-th host of the list
abbrev pub host_at : List ℕ → ℕ → Option ℕ
host_at hosts node = slice_get (0 ∷ hosts) node

-- no two nodes have one host; so the hosts of the list differ, and none is 0
abbrev pub HostsDiffer : List ℕ → Type 0
HostsDiffer hosts = (node other host : ℕ) → host_at hosts node ≡ Some host → host_at hosts other ≡ Some host → node ≡ other

-- no node has this host
abbrev pub IsNoHost : List ℕ → ℕ → Type 0
IsNoHost hosts host = (node : ℕ) → host_at hosts node ≡ Some host → ⊥

-- a journal for each node, whose data is all owner 0's, and the pages that were ever sent, in order
pub record World : Type 0 where
  pub journal : ℕ → List Entry
  pub sent : List (List SealedRecord)

-- nothing was stored yet, and nothing sent
abbrev pub empty_world : World
empty_world = record { journal = λ node. []; sent = [] }

-- the world where this node has this journal
abbrev pub with_journal : World → ℕ → List Entry → World
with_journal w node journal = record { journal = λ other. if other == node then journal else w.journal other; sent = w.sent }

-- the world where one more page was sent
abbrev pub with_page : World → List SealedRecord → World
with_page w records = record { journal = w.journal; sent = w.sent ++ records ∷ [] }

-- ---- what may happen

-- An event is: a step at a node, with all that it is asked, draws and reads; the sending of a page of a chain; the coming of the
-- page with this number, counted from 0, to a node; a crash; and an event that a crash of its node cuts. A page may come never,
-- often, late and anywhere
pub data WorldEvent (Asked : Type 0) : Type 0 where
  Append : (node : ℕ) → Asked → WorldEvent Asked
  Send : (node host : ℕ) (tag : List ℕ) (start count : ℕ) → WorldEvent Asked
  Deliver : (number node : ℕ) → Caller → WorldEvent Asked
  Crash : (node : ℕ) → WorldEvent Asked
  Cut : WorldEvent Asked → WorldEvent Asked

-- In what follows `step host journal asked after` says that a step of a store with that host may lead from the one journal to the
-- other.

-- a step at a node, which is no server
pub record Appends {Asked : Type 0} (step : ℕ → List Entry → Asked → List Entry → Type 0) (hosts : List ℕ) (w : World) (node : ℕ) (asked : Asked) (new : World) : Type 0 where
  pub host : ℕ
  pub after : List Entry
  pub at_host : host_at hosts node ≡ Some host
  pub at_no_server : 0 < node
  pub stepped : step host (w.journal node) asked after
  pub becomes : new ≡ with_journal w node after

-- a page of a node's chain joins those that were sent
pub record Sends (hosts : List ℕ) (w : World) (node host : ℕ) (tag : List ℕ) (start count : ℕ) (new : World) : Type 0 where
  pub of_host : ℕ
  pub at_node : host_at hosts node ≡ Some of_host
  pub becomes : new ≡ with_page w (page (w.journal node) 0 host tag start count)

-- a page that was sent comes to a node, which grows by it or refuses it
pub record Delivers (hosts : List ℕ) (w : World) (number node : ℕ) (caller : Caller) (new : World) : Type 0 where
  pub of_host : ℕ
  pub records : List SealedRecord
  pub at_node : host_at hosts node ≡ Some of_host
  pub was_sent : slice_get w.sent number ≡ Some records
  pub becomes : new ≡ with_journal w node (grown (w.journal node) (grow (w.journal node) caller 0 records))

-- what an event may make of a world: a crash leaves all journals, and an event that is cut is kept whole or lost whole
abbrev pub Happens : {Asked : Type 0} → (ℕ → List Entry → Asked → List Entry → Type 0) → List ℕ → World → WorldEvent Asked → World → Type 0
Happens step hosts w (Append node asked) new = Appends step hosts w node asked new
Happens step hosts w (Send node host tag start count) new = Sends hosts w node host tag start count new
Happens step hosts w (Deliver number node caller) new = Delivers hosts w number node caller new
Happens step hosts w (Crash node) new = new ≡ w
Happens step hosts w (Cut event) new = Happens step hosts w event new ⊎ (new ≡ w)

-- the events lead from the one world to the other
abbrev pub Leads : {Asked : Type 0} → (ℕ → List Entry → Asked → List Entry → Type 0) → List ℕ → World → List (WorldEvent Asked) → World → Type 0
Leads step hosts w [] new = new ≡ w
Leads step hosts w (event ∷ events) new = (next : World) × Happens step hosts w event next × Leads step hosts next events new

-- the events lead from the empty world to this one
abbrev pub Reach : {Asked : Type 0} → (ℕ → List Entry → Asked → List Entry → Type 0) → List ℕ → List (WorldEvent Asked) → World → Type 0
Reach step hosts events w = Leads step hosts empty_world events w

-- ---- what matters of a step

-- the entry was made at its store, not taken in
abbrev pub IsMade : Event → Type 0
IsMade (Started s) = ⊤
IsMade (Local closes r) = ⊤
IsMade (Taken owner r) = ⊥

-- the record that an event says was made at its store
abbrev pub made_record : Event → Option SealedRecord
made_record (Started s) = None
made_record (Local closes r) = Some r
made_record (Taken owner r) = None

-- the records that were made at the journal's store, in order
abbrev pub made_at : List Entry → List SealedRecord
made_at journal = filter_map made_record (events_of journal)

-- a step appends only what was made at its store, and leaves the journal sound: so its records have the store's host and the next
-- idx of their chain. The loosest step is asked for just that batch
pub record AppendsOwn (host : ℕ) (journal batch after : List Entry) : Type 0 where
  pub behind : after ≡ journal ++ batch
  pub made : AllByRecursion (λ entry. IsMade entry.event) batch
  pub sound : Sound after host

-- what the laws ask of a step
abbrev pub MakesOwn : {Asked : Type 0} → (ℕ → List Entry → Asked → List Entry → Type 0) → Type 0
MakesOwn {Asked} step = (host : ℕ) (journal : List Entry) (asked : Asked) (after : List Entry) → Sound journal host → step host journal asked after → (batch : List Entry) × AppendsOwn host journal batch after
