-- What one entry more makes of a table, and the rooms of those behind it.
use Rattle.std.proofs.Common.{◌≡◌, ℕ, ◌≤◌, List, [], ◌∷◌, ◌++◌, length, sym, ap, ◌∙◌, arith}
use Rattle.std.specs.Prelude.{All, slice_get}
use Rattle.std.specs.Option.{option_map}
use Rattle.std.proofs.lemmas.List.{length_push}
use Rattle.std.proofs.lemmas.List.Elements.{All-tail, All-weaker}
use Rattle.std.proofs.lemmas.Option.{slice_get-map}
use Rattle.record_rules.specs.Records.{Event, Started, Local, Taken}
use Rattle.chain_index.specs.Chains.{IndexSeen}
use Rattle.chain_index.specs.Meaning.{Filed, KeepsRooms}
use Rattle.store_tables.specs.declared.entries.KeptEntry.{KeptEntry}
use Rattle.store_tables.specs.Entries.{TableSeen, EntryPlace, place_seen, place_of, IsTableOf, IsReadyFor, HasRoomFor}

-- the entry with a number
pub place_found : (table : TableSeen) (filed : List Filed) → IsTableOf table filed → (number : ℕ) → option_map place_seen (slice_get table.entries number) ≡ option_map place_of (slice_get filed number)
place_found table filed is number =
    sym (slice_get-map place_seen table.entries number) ∙ ap (λ (ps : List EntryPlace). slice_get ps number) is.places ∙ slice_get-map place_of filed number

-- a room that is ready stays so
pub ready_kept : (old new : IndexSeen) → KeepsRooms old new → (event : Event) → IsReadyFor old event → IsReadyFor new event
ready_kept old new kept (Started s) ready = ready
ready_kept old new kept (Local closes r) ready = kept 0 r ready
ready_kept old new kept (Taken owner r) ready = kept owner r ready

pub all_kept : (old new : IndexSeen) → KeepsRooms old new → (events : List Event) → All (IsReadyFor old) events → All (IsReadyFor new) events
all_kept old new kept events ready = All-weaker (IsReadyFor old) (IsReadyFor new) (ready_kept old new kept) events ready

-- where only memory was taken
pub room_kept : (old new : TableSeen) → new.entries ≡ old.entries → old.reserved ≤ new.reserved → KeepsRooms old.index new.index → (events : List Event) → HasRoomFor old events → HasRoomFor new events
room_kept old new same more kept events room = record {
  places = let n = ap (λ (es : List KeptEntry). length es) same in let p = room.places in omega (arith, n, p, more);
  index = all_kept old.index new.index kept events room.index;
}

-- where the first of the events was added
pub room_used : (old new : TableSeen) (entry : KeptEntry) (event : Event) → new.entries ≡ old.entries ++ entry ∷ [] → old.reserved ≤ new.reserved → KeepsRooms old.index new.index → (events : List Event) → HasRoomFor old (event ∷ events) → HasRoomFor new events
room_used old new entry event added more kept events room = record {
  places = let n = ap (λ (es : List KeptEntry). length es) added in let one = length_push old.entries entry in let p = room.places in omega (arith, n, one, p, more);
  index = all_kept old.index new.index kept events (All-tail (IsReadyFor old.index) event events room.index);
}
