-- Transfers among the nodes of a world: chains are handed over in pages, as a plan says, and no page is refused, or the last one is.
use Rattle.std.specs.Prelude.{◌≡◌, ℕ, ◌+◌, ◌-◌, ◌<◌, ◌≤◌, ◌⊎◌, List, [], ◌∷◌, ◌++◌, length, Ok, Err}
use Rattle.record_rules.specs.Records.{SealedRecord, Caller, Entry}
use Rattle.record_rules.specs.Journal.{ChainPlace, PassedLimit, status}
use Rattle.record_rules.specs.Growth.{PageFull, grow}
use Rattle.record_rules.specs.Answers.{page}
use Rattle.plan_rules.specs.Plans.{PlanStep, Upload, Download, plan}
use Rattle.world_rules.specs.World.{World, with_journal, with_page}

-- for each item in turn
abbrev pub Each : {X S : Type 0} → (X → S → S → Type 0) → List X → S → S → Type 0
Each does [] old new = new ≡ old
Each {X} {S} does (x ∷ xs) old new = (next : S) × does x old next × Each does xs next new

-- the next records of a node's chain, from `start` to below `end`, as many as a page may have
abbrev pub next_page : World → ℕ → ChainPlace → (start end : ℕ) → List SealedRecord
next_page w node place start end = page (w.journal node) 0 place.host place.tag start (end - start)

-- the world where a page was sent and a node took in this batch of it
abbrev pub with_taken : World → List SealedRecord → ℕ → List Entry → World
with_taken w records node batch = with_journal (with_page w records) node (w.journal node ++ batch)

-- One node hands another one a chain's records from `start` to below `end`, a page in each of these calls.
abbrev pub Transfers : (giver taker : ℕ) → ChainPlace → (start end : ℕ) → List Caller → World → World → Type 0
Transfers giver taker place start end [] w new = (end ≤ start) × (new ≡ w)
Transfers giver taker place start end (caller ∷ callers) w new =
    (start < end) × ((batch : List Entry) × (grow (w.journal taker) caller 0 (next_page w giver place start end) ≡ Ok batch) × Transfers giver taker place (start + length (next_page w giver place start end)) end callers (with_taken w (next_page w giver place start end) taker batch) new)

-- the plan of a node with the server, which is node 0
abbrev pub plan_at : ℕ → World → List PlanStep
plan_at node w = plan (status (w.journal node) 0) (status (w.journal 0) 0)

-- a step of the plan where the node sends, and one where it takes; each leaves the other kind
abbrev pub TransfersUp : ℕ → PlanStep → World → World → Type 0
TransfersUp node (Upload place start end) w new = (callers : List Caller) × Transfers node 0 place start end callers w new
TransfersUp node (Download place start end) w new = new ≡ w

abbrev pub TransfersDown : ℕ → PlanStep → World → World → Type 0
TransfersDown node (Upload place start end) w new = new ≡ w
TransfersDown node (Download place start end) w new = (callers : List Caller) × Transfers 0 node place start end callers w new

-- all uploads of a plan made now, and all downloads
abbrev pub Uploads : ℕ → World → World → Type 0
Uploads node w new = Each (TransfersUp node) (plan_at node w) w new

abbrev pub Downloads : ℕ → World → World → Type 0
Downloads node w new = Each (TransfersDown node) (plan_at node w) w new

-- all uploads and then all downloads of one plan
abbrev pub Syncs : ℕ → World → World → Type 0
Syncs node w new = (between : World) × Each (TransfersUp node) (plan_at node w) w between × Each (TransfersDown node) (plan_at node w) between new

-- ---- transfers that stop

-- The items are done in turn up to one that stops.
abbrev pub EachUntil : {X S : Type 0} → (X → S → S → Type 0) → (X → S → Type 0) → List X → S → Type 0
EachUntil does stops [] old = ⊥
EachUntil {X} {S} does stops (x ∷ xs) old = stops x old ⊎ ((next : S) × does x old next × EachUntil does stops xs next)

-- One node hands another one pages of a chain's records, a page in each of these calls, and for the next one it has no room.
abbrev pub FullWithin : (giver taker : ℕ) → ChainPlace → (start end : ℕ) → List Caller → World → PassedLimit → Type 0
FullWithin giver taker place start end [] w passed = (start < end) × ((caller : Caller) × (grow (w.journal taker) caller 0 (next_page w giver place start end) ≡ Err (PageFull passed)))
FullWithin giver taker place start end (caller ∷ callers) w passed =
    (start < end) × ((batch : List Entry) × (grow (w.journal taker) caller 0 (next_page w giver place start end) ≡ Ok batch) × FullWithin giver taker place (start + length (next_page w giver place start end)) end callers (with_taken w (next_page w giver place start end) taker batch) passed)

abbrev pub FullUp : ℕ → PassedLimit → PlanStep → World → Type 0
FullUp node passed (Upload place start end) w = (callers : List Caller) × FullWithin node 0 place start end callers w passed
FullUp node passed (Download place start end) w = ⊥

abbrev pub FullDown : ℕ → PassedLimit → PlanStep → World → Type 0
FullDown node passed (Upload place start end) w = ⊥
FullDown node passed (Download place start end) w = (callers : List Caller) × FullWithin 0 node place start end callers w passed

-- all uploads of a plan stop so, all downloads, or all uploads and then all downloads of one plan
abbrev pub UploadsStop : ℕ → PassedLimit → World → Type 0
UploadsStop node passed w = EachUntil (TransfersUp node) (FullUp node passed) (plan_at node w) w

abbrev pub DownloadsStop : ℕ → PassedLimit → World → Type 0
DownloadsStop node passed w = EachUntil (TransfersDown node) (FullDown node passed) (plan_at node w) w

abbrev pub SyncStops : ℕ → PassedLimit → World → Type 0
SyncStops node passed w =
    UploadsStop node passed w ⊎ ((between : World) × Each (TransfersUp node) (plan_at node w) w between × EachUntil (TransfersDown node) (FullDown node passed) (plan_at node w) between)
