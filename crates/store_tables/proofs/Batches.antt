-- What a batch adds, event by event.
use Rattle.std.proofs.Common.{◌≡◌, ℕ, ◌+◌, ◌<◌, List, [], ◌∷◌, ◌++◌, length, take, Option, refl, sym, ap, subst, ◌∙◌, arith, append_assoc}
use Rattle.std.specs.Prelude.{slice_index_or}
use Rattle.std.proofs.lemmas.List.{length_push, map-append, take_more, append-nil}
use Rattle.std.proofs.lemmas.List.Elements.{All-head, All-cons, All-nil}
use Rattle.record_rules.specs.Records.{Caller, Entry, Event}
use Rattle.record_rules.specs.Journal.{SoundEvents, Sound, events_of}
use Rattle.record_rules.proofs.Soundness.{events_more}
use Rattle.record_rules.proofs.Prefixes.{SoundEvents-prefix, last_may_come}
use Rattle.record_model.specs.declared.entries.Event as model
use Rattle.record_model.specs.Seen.{event_seen, events_seen}
use Rattle.record_log.specs.declared.spots.Spot.{Spot}
use Rattle.chain_index.specs.Meaning.{Filed, journal_of}
use Rattle.call_drafts.specs.declared.kept.Kept.{Kept}
use Rattle.kept_views.specs.declared.rooms.EventRoom.{EventRoom}
use Rattle.kept_views.specs.Shown.{shown_under}
use Rattle.kept_views.specs.Rooms.{IsRoomFor, KeepsRooms}
use Rattle.kept_views.specs.Keeping.{MayAdd}
use Rattle.store_tables.specs.declared.tables.Tables.{Tables}
use Rattle.store_tables.specs.Entries.{TableSeen, HasRoomFor, UsesRoom, MayFile, filed_by, IsReadyFor}
use Rattle.store_tables.specs.Tables.{TablesOf, AreRooms, MayAddOne, filed_batch}

-- ---- rooms

pub are_rooms_kept : (key : Option (List ℕ)) (old new : Kept) → KeepsRooms old new → (events : List Event) (rooms : List EventRoom) → AreRooms key old events rooms → AreRooms key new events rooms
are_rooms_kept key old new kept [] [] are = are
are_rooms_kept key old new kept [] (room ∷ rooms) are = are
are_rooms_kept key old new kept (event ∷ events) [] are = are
are_rooms_kept key old new kept (event ∷ events) (room ∷ rooms) are = (kept event (shown_under key event) room are.0, are_rooms_kept key old new kept events rooms are.1)

are_rooms_more : (key : Option (List ℕ)) (kept : Kept) (events : List Event) (rooms : List EventRoom) (event : Event) (room : EventRoom) → AreRooms key kept events rooms → IsRoomFor key kept event room → AreRooms key kept (events ++ event ∷ []) (rooms ++ room ∷ [])
are_rooms_more key kept [] [] event room are one = (one, are)
are_rooms_more key kept [] (r ∷ rooms) event room are one = absurd are
are_rooms_more key kept (e ∷ events) [] event room are one = absurd are
are_rooms_more key kept (e ∷ events) (r ∷ rooms) event room are one = (are.0, are_rooms_more key kept events rooms event room are.1 one)

-- one room more, for the next of the events
pub next_room : (key : Option (List ℕ)) (kept : Kept) (events : List model.Event) (k : ℕ) (event : model.Event) (rooms : List EventRoom) (room : EventRoom) → k < length events → event ≡ slice_index_or events k event
    → AreRooms key kept (events_seen (take k events)) rooms → IsRoomFor key kept (event_seen event) room → AreRooms key kept (events_seen (take (k + 1) events)) (rooms ++ room ∷ [])
next_room key kept events k event rooms room below is are one =
    let more : events_seen (take (k + 1) events) ≡ events_seen (take k events) ++ event_seen event ∷ [] =
    ap events_seen (take_more events k event below) ∙ map-append event_seen (take k events) (slice_index_or events k event ∷ []) ∙ ap (λ (e : model.Event). events_seen (take k events) ++ event_seen e ∷ []) (sym is) in
    subst (λ (es : List Event). AreRooms key kept es (rooms ++ room ∷ [])) (sym more) (are_rooms_more key kept (events_seen (take k events)) rooms (event_seen event) room are one)

pub first_room : (table : TableSeen) (event : Event) (events : List Event) → HasRoomFor table (event ∷ events) → HasRoomFor table (event ∷ [])
first_room table event events room = record {
  places = let p = room.places in omega (arith, p);
  index = All-cons (IsReadyFor table.index) event [] (All-head (IsReadyFor table.index) event events room.index) (All-nil (IsReadyFor table.index));
}

-- ---- one event

module _ (filed : List Filed) (f : Filed) where
  pub journal_more : journal_of (filed ++ f ∷ []) ≡ journal_of filed ++ f.entry ∷ []
  journal_more = map-append (λ (g : Filed). g.entry) filed (f ∷ [])

  pub sound_with : (host : ℕ) → SoundEvents (events_of (journal_of filed) ++ f.entry.event ∷ []) host → Sound (journal_of filed ++ f.entry ∷ []) host
  sound_with host sound = subst (λ (es : List Event). SoundEvents es host) (sym (events_more (journal_of filed) f.entry)) sound

pub may_file : (host : ℕ) (key : Option (List ℕ)) (tables : Tables) (filed : List Filed) (event : Event) (room : EventRoom) → MayAddOne host key tables filed event room → MayFile tables.entries event
may_file host key tables filed event room may = record {
  filed = filed;
  is = may.is.entries;
  host = host;
  next = last_may_come (events_of (journal_of filed)) host event may.sound;
}

pub may_keep : (host : ℕ) (key : Option (List ℕ)) (tables : Tables) (filed : List Filed) (f : Filed) (room : EventRoom) → MayAddOne host key tables filed f.entry.event room → MayAdd host key tables.kept (journal_of filed) f.entry room
may_keep host key tables filed f room may = record { keeps = may.is.kept; sound = sound_with filed f host may.sound; ready = may.fits }

-- ---- the events of a batch, one after the other

filed_more : (caller : Caller) (spot : Spot) (at : ℕ) (events : List Event) (event : Event) → filed_batch caller spot at (events ++ event ∷ []) ≡ filed_batch caller spot at events ++ filed_by caller event spot (at + length events) ∷ []
filed_more caller spot at [] event = let e : at ≡ at + 0 = omega arith in ap (λ (n : ℕ). filed_by caller event spot n ∷ []) e
filed_more caller spot at (e ∷ events) event =
    let next : (at + 1) + length events ≡ at + length (e ∷ events) = omega arith in
    ap (λ (fs : List Filed). filed_by caller e spot at ∷ fs)
    (filed_more caller spot (at + 1) events event ∙ ap (λ (n : ℕ). filed_batch caller spot (at + 1) events ++ filed_by caller event spot n ∷ []) next)

pub events_filed : (caller : Caller) (spot : Spot) (at : ℕ) (events : List Event) → events_of (journal_of (filed_batch caller spot at events)) ≡ events
events_filed caller spot at [] = refl
events_filed caller spot at (event ∷ events) = ap (λ (es : List Event). event ∷ es) (events_filed caller spot (at + 1) events)

events_behind : (filed : List Filed) (caller : Caller) (spot : Spot) (events : List Event) → events_of (journal_of (filed ++ filed_batch caller spot 0 events)) ≡ events_of (journal_of filed) ++ events
events_behind filed caller spot events =
    ap events_of (map-append (λ (f : Filed). f.entry) filed (filed_batch caller spot 0 events))
    ∙ map-append (λ (e : Entry). e.event) (journal_of filed) (journal_of (filed_batch caller spot 0 events))
    ∙ ap (λ (es : List Event). events_of (journal_of filed) ++ es) (events_filed caller spot 0 events)

-- so far these events of the batch were added, and the others come next, for which there is room
pub record AddsOn (host : ℕ) (key : Option (List ℕ)) (filed : List Filed) (caller : Caller) (spot : Spot) (all : List Event) (tables : Tables) (at : ℕ) (rest : List Event) (rooms : List EventRoom) : Type 0 where
  pub added : List Event
  pub all_are : all ≡ added ++ rest
  pub at_is : at ≡ length added
  pub is : TablesOf host key tables (filed ++ filed_batch caller spot 0 added)
  pub entries : HasRoomFor tables.entries rest
  pub fit : AreRooms key tables.kept rest rooms

module _ (host : ℕ) (key : Option (List ℕ)) (filed : List Filed) (caller : Caller) (spot : Spot) (all : List Event) (sound : SoundEvents (events_of (journal_of filed) ++ all) host) where
  pub begins : (tables : Tables) (rooms : List EventRoom) → TablesOf host key tables filed → HasRoomFor tables.entries all → AreRooms key tables.kept all rooms → AddsOn host key filed caller spot all tables 0 all rooms
  begins tables rooms is entries are = record {
    added = [];
    all_are = refl;
    at_is = refl;
    is = subst (λ (fs : List Filed). TablesOf host key tables fs) (sym (append-nil filed)) is;
    entries = entries;
    fit = are;
  }

  -- where the next event and its room were taken off
  pub next_on : (tables : Tables) (at : ℕ) (es es' : List model.Event) (event : model.Event) (rs rs' : List EventRoom) (room : EventRoom) → es ≡ event ∷ es' → rs ≡ room ∷ rs' → AddsOn host key filed caller spot all tables at (events_seen es) rs
      → AddsOn host key filed caller spot all tables at (event_seen event ∷ events_seen es') (room ∷ rs')
  next_on tables at es es' event rs rs' room taken used on =
      subst (λ (l : List model.Event). AddsOn host key filed caller spot all tables at (events_seen l) (room ∷ rs')) taken (subst (λ (l : List EventRoom). AddsOn host key filed caller spot all tables at (events_seen es) l) used on)

  module _ (tables : Tables) (at : ℕ) (event : Event) (rest : List Event) (room : EventRoom) (rooms : List EventRoom) (on : AddsOn host key filed caller spot all tables at (event ∷ rest) (room ∷ rooms)) where
    abbrev so_far : List Filed
    so_far = filed ++ filed_batch caller spot 0 on.added

    all_again : events_of (journal_of filed) ++ all ≡ (events_of (journal_of so_far) ++ event ∷ []) ++ rest
    all_again =
        ap (λ (es : List Event). events_of (journal_of filed) ++ es) on.all_are
        ∙ sym (append_assoc (events_of (journal_of filed)) on.added (event ∷ rest))
        ∙ ap (λ (es : List Event). es ++ event ∷ rest) (sym (events_behind filed caller spot on.added))
        ∙ sym (append_assoc (events_of (journal_of so_far)) (event ∷ []) rest)

    pub may_add_next : MayAddOne host key tables so_far event room
    may_add_next = record {
      is = on.is;
      entries = first_room tables.entries event rest on.entries;
      fits = on.fit.0;
      sound = SoundEvents-prefix (events_of (journal_of so_far) ++ event ∷ []) rest host (subst (λ (es : List Event). SoundEvents es host) all_again sound);
    }

    pub goes_on : (new : Tables) → TablesOf host key new (so_far ++ filed_by caller event spot at ∷ []) → UsesRoom event tables.entries new.entries → KeepsRooms tables.kept new.kept → AddsOn host key filed caller spot all new (at + 1) rest rooms
    goes_on new is uses kept =
        let n = on.at_is in
        let here : at ≡ 0 + length on.added = omega (arith, n) in
        record {
          added = on.added ++ event ∷ [];
          all_are = on.all_are ∙ sym (append_assoc on.added (event ∷ []) rest);
          at_is = ap (λ (n : ℕ). n + 1) on.at_is ∙ sym (length_push on.added event);
          is = subst (λ (fs : List Filed). TablesOf host key new fs)
              (append_assoc filed (filed_batch caller spot 0 on.added) (filed_by caller event spot at ∷ [])
              ∙ ap (λ (fs : List Filed). filed ++ fs) (ap (λ (n : ℕ). filed_batch caller spot 0 on.added ++ filed_by caller event spot n ∷ []) here ∙ sym (filed_more caller spot 0 on.added event)))
              is;
          entries = uses rest on.entries;
          fit = are_rooms_kept key tables.kept new.kept kept rest rooms on.fit.1;
        }

  -- none is left
  pub ends : (tables : Tables) (at : ℕ) (rest : List Event) (rooms : List EventRoom) → length rest ≡ 0 → AddsOn host key filed caller spot all tables at rest rooms → TablesOf host key tables (filed ++ filed_batch caller spot 0 all)
  ends tables at [] rooms none on = subst (λ (es : List Event). TablesOf host key tables (filed ++ filed_batch caller spot 0 es)) (sym (on.all_are ∙ append-nil on.added)) on.is
  ends tables at (event ∷ rest) rooms none on = absurd (omega (arith, none))
