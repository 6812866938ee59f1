-- The laws of worlds, as statements. Each is a clause of the function that tells it.
use Rattle.std.specs.Prelude.{◌≡◌, ℕ, List, [], filter, Some, Err, slice_get}
use Rattle.record_rules.specs.Records.{SealedRecord, Caller, Entry}
use Rattle.record_rules.specs.Journal.{in_place, chain, status, Sound}
use Rattle.definitions.specs.Prefixes.{IsPrefix}
use Rattle.record_rules.specs.Growth.{PageForked, grow}
use Rattle.view_rules.specs.Changes.{Opening, viewed, changes_of}
use Rattle.view_rules.specs.Laws.{SameViews}
use Rattle.world_rules.specs.World.{World, WorldEvent, host_at, HostsDiffer, IsNoHost, made_at, AppendsOwn, Reach}

-- what holds of each world that events of steps, pages, crashes and cuts can lead to, where no two nodes have one host
abbrev pub InEachWorld : (List ℕ → World → Type 0) → Type 0
InEachWorld P = (hosts : List ℕ) (events : List (WorldEvent (List Entry))) (w : World) → HostsDiffer hosts → Reach AppendsOwn hosts events w → P hosts w

-- each node's journal is sound: its chains are numbered from 0 without gaps
abbrev pub NodesAreSound : List ℕ → World → Type 0
NodesAreSound hosts w = (node host : ℕ) → host_at hosts node ≡ Some host → Sound (w.journal node) host

-- each chain of each node is a prefix of that chain at its own host's node
abbrev pub ChainsArePrefixes : List ℕ → World → Type 0
ChainsArePrefixes hosts w = (node origin host : ℕ) (tag : List ℕ) → host_at hosts origin ≡ Some host → IsPrefix (chain (w.journal node) 0 host tag) (chain (w.journal origin) 0 host tag)

-- no node has a chain of a host that is no node's
abbrev pub NoStrangeChains : List ℕ → World → Type 0
NoStrangeChains hosts w = (node host : ℕ) (tag : List ℕ) → IsNoHost hosts host → chain (w.journal node) 0 host tag ≡ []

-- no node has a chain of the server's host: the server makes no records
abbrev pub NoServerChains : List ℕ → World → Type 0
NoServerChains hosts w = (node : ℕ) (tag : List ℕ) → chain (w.journal node) 0 0 tag ≡ []

-- what a node has of its own host was made there, and nothing of it was taken in
abbrev pub OwnChainsAreMade : List ℕ → World → Type 0
OwnChainsAreMade hosts w = (node host : ℕ) (tag : List ℕ) → host_at hosts node ≡ Some host → chain (w.journal node) 0 host tag ≡ filter (in_place host tag) (made_at (w.journal node))

-- no page that was ever sent is refused as a fork, whenever and wherever it comes
abbrev pub NoForks : List ℕ → World → Type 0
NoForks hosts w = (number node position id : ℕ) (caller : Caller) (records : List SealedRecord) → slice_get w.sent number ≡ Some records → grow (w.journal node) caller 0 records ≡ Err (PageForked position id) → ⊥

-- nodes of equal status have equal chains
abbrev pub StatusTellsChains : List ℕ → World → Type 0
StatusTellsChains hosts w = (node other : ℕ) → status (w.journal node) 0 ≡ status (w.journal other) 0 → (host : ℕ) (tag : List ℕ) → chain (w.journal node) 0 host tag ≡ chain (w.journal other) 0 host tag

-- and equal views, whatever opening a record gives: the same commands, values and aliases, and the same answers of searches and lists
abbrev pub StatusTellsViews : List ℕ → World → Type 0
StatusTellsViews hosts w = (opening : Opening) (node other : ℕ) → status (w.journal node) 0 ≡ status (w.journal other) 0 → SameViews (changes_of opening (viewed (w.journal node))) (changes_of opening (viewed (w.journal other)))
