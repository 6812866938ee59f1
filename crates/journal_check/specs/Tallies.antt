-- What is kept of a journal, so that its next entry can be checked.
use Rattle.std.specs.Prelude.{◌≡◌, ℕ, ◌&&◌, Bool, false, List, length, Vec, nat_eq, ◌==◌}
use Rattle.std.specs.List.{list_any}
use Rattle.std.specs.Cmp.Lexicographic.{pointwise}
use Rattle.std.specs.Global.{Global}
use Rattle.std.specs.Option.{is_some, unwrap_or}
use Rattle.std.specs.Map.{lookup}
use Rattle.record_rules.specs.Records.{Entry, Event, Started, Local, Taken}
use Rattle.record_rules.specs.Journal.{Totals, events_of, is_running, held, chain}
use Rattle.journal_check.specs.declared.owner_totals.OwnerTotals.{OwnerTotals}

-- an owner, a host and a tag
abbrev pub ChainKey : Type 0
ChainKey = ℕ × (ℕ × Vec ℕ Global)

-- the ids of started commands, each with whether it runs; what each owner holds; and the lengths of chains
pub record Tallies : Type 0 where
  pub host : ℕ
  pub begun : List (ℕ × Bool)
  pub owners : List (ℕ × OwnerTotals)
  pub chains : List (ChainKey × ℕ)

-- ---- started commands

abbrev pub begins : ℕ → Event → Bool
begins id (Started s) = s.id == id
begins id (Local closes r) = false
begins id (Taken owner r) = false

-- whether a command was started with that id
abbrev pub has_begun : ℕ → List Event → Bool
has_begun id events = list_any (begins id) events

abbrev pub is_known : List (ℕ × Bool) → ℕ → Bool
is_known begun id = is_some (lookup (nat_eq id) begun)

abbrev pub runs_in : List (ℕ × Bool) → ℕ → Bool
runs_in begun id = unwrap_or (lookup (nat_eq id) begun) false

-- ---- what owners hold

abbrev pub holds_nothing : OwnerTotals
holds_nothing = record { entries = 0; weight = 0; places = 0 }

abbrev pub held_in : List (ℕ × OwnerTotals) → ℕ → OwnerTotals
held_in owners owner = unwrap_or (lookup (nat_eq owner) owners) holds_nothing

abbrev pub totals_seen : OwnerTotals → Totals
totals_seen totals = record { entries = totals.entries; weight = totals.weight; places = totals.places }

-- ---- chains

abbrev pub same_key : ChainKey → ChainKey → Bool
same_key a b = nat_eq a.0 b.0 && (nat_eq a.1.0 b.1.0 && pointwise nat_eq a.1.1.items b.1.1.items)

abbrev pub count_in : List (ChainKey × ℕ) → ChainKey → ℕ
count_in chains key = unwrap_or (lookup (same_key key) chains) 0

-- ---- and of which journal

pub record Keeps (tallies : Tallies) (journal : List Entry) : Type 0 where
  pub begun : (id : ℕ) → is_known tallies.begun id ≡ has_begun id (events_of journal)
  pub running : (id : ℕ) → runs_in tallies.begun id ≡ is_running id (events_of journal)
  pub owners : (owner : ℕ) → totals_seen (held_in tallies.owners owner) ≡ held journal owner
  pub chains : (key : ChainKey) → count_in tallies.chains key ≡ length (chain journal key.0 key.1.0 key.1.1.items)
