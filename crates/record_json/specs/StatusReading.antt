-- What reading a status answers, and why it refuses: no two answers fit the same bytes, want of memory aside.
use Rattle.std.specs.Prelude.{◌≡◌, ℕ, List, map, Bool, Option, Some, None, if◌then◌else◌, String}
use denote.Ref.{Bor}
use Rattle.std.specs.BTreeMap.{BTreeMap}
use Rattle.std.specs.declared.alloc.Global.{Global}
use Rattle.record_rules.specs.Journal.{ChainCount}
use Rattle.serde_json.specs.Data.{Data, Members}
use Rattle.serde_json.specs.View.{members_view}
use Rattle.serde_json.specs.declared.value.Value.{Value}
use Rattle.record_json.specs.Json.{json_of}
use Rattle.record_json.specs.Statuses.{status_in}
use Rattle.record_json.specs.declared.fail.JsonFail.{JsonFail}
use Rattle.record_json.specs.declared.fail.JsonFail.TheVariants.{NotJson, NotRecords, NoMemory}

-- the bytes are JSON of a value that stands for these chains
abbrev pub SpellsStatus : List ℕ → List ChainCount → Type 0
SpellsStatus bytes chains = (value : Data) × (json_of bytes ≡ Some value) × (status_in value ≡ Some chains)

-- no JSON; JSON of a value that stands for no status; or want of memory
abbrev pub RefusesStatus : List ℕ → JsonFail → Type 0
RefusesStatus bytes NotJson = json_of bytes ≡ None
RefusesStatus bytes (NotRecords position) = (value : Data) × (json_of bytes ≡ Some value) × (status_in value ≡ None) × (position ≡ 0)
RefusesStatus bytes NoMemory = Unit {0}

-- ---- while it is read

-- what is there where something was taken
abbrev pub if_taken : {A : Type 0} → Bool → A → Option A
if_taken taken x = if taken then Some x else None

-- each host with the members of its object
abbrev pub hosts_seen : List (ℕ × Bor (BTreeMap (String Global) Value)) → List (ℕ × Members)
hosts_seen hosts = map (λ host. (host.0, members_view host.1.now.entries)) hosts
