-- What stands on a log's disk where the index says.
use Rattle.std.proofs.Common.{◌≡◌, ℕ, ◌<◌, ◌≤◌, List, length, take, Option, Some, None, Err, inl, inr, refl, sym, ◌∙◌, ap, subst, arith}
use Rattle.std.specs.Prelude.{All, IfSome, slice_get, slice_index_or}
use Rattle.std.specs.Option.{option_map}
use Rattle.std.proofs.lemmas.Option.{slice_get-map, slice_get_within, get_or_from_slice_get, slice_get_cases}
use Rattle.record_rules.specs.Records.{SealedRecord, Event}
use Rattle.record_rules.specs.Journal.{event_record, chain}
use Rattle.record_rules.proofs.Members.{Has-from_place, place_of_Has, Has-filter}
use Rattle.log_rules.specs.Log.{current_form}
use Rattle.log_rules.proofs.Spots.{one_event_at}
use Rattle.disk_rules.specs.History.{History}
use Rattle.disk_rules.specs.Disk.{Disk}
use Rattle.at_edge.specs.Storing.{DiskSeen, Tells}
use Rattle.record_log.specs.declared.spots.Spot.{Spot}
use Rattle.record_log.specs.declared.reading.ReadFail.{ReadFail}
use Rattle.record_log.specs.declared.reading.ReadFail.TheVariants.{DiskFault, NoMemory}
use Rattle.record_log.specs.Journals.{LogSeen}
use Rattle.record_log.specs.Reading.{SomeEvent, EventBefore, ReadCause}
use Rattle.chain_index.specs.Chains.{IndexSeen}
use Rattle.chain_index.specs.Meaning.{Filed, journal_of, is_of, filed_at, spot_seen}
use Rattle.chain_index.proofs.Filing.{records_filed}
use Rattle.page_reading.specs.Reading.{AllStand, MayRead, OfLog, LogRests}

-- ---- disks that may tell

pub tells_from : (seen : DiskSeen) (P Q : Disk → Type 0) → ((d : Disk) → P d → Q d) → Tells seen P → Tells seen Q
tells_from seen P Q step = by seen.history
  where
    by : (history : Option History) → IfSome history (λ h. P h.now) → IfSome history (λ h. Q h.now)
    by None p = tt
    by (Some h) p = step h.now p

pub tells_both : (seen : DiskSeen) (P Q R : Disk → Type 0) → ((d : Disk) → P d → Q d → R d) → Tells seen P → Tells seen Q → Tells seen R
tells_both seen P Q R step = by seen.history
  where
    by : (history : Option History) → IfSome history (λ h. P h.now) → IfSome history (λ h. Q h.now) → IfSome history (λ h. R h.now)
    by None p q = tt
    by (Some h) p q = step h.now p q

pub tells_always : (seen : DiskSeen) (P : Disk → Type 0) → ((d : Disk) → P d) → Tells seen P
tells_always seen P always = by seen.history
  where
    by : (history : Option History) → IfSome history (λ h. P h.now)
    by None = tt
    by (Some h) = always h.now

-- one of which the impossible holds doesn't tell
pub never_told : (seen : DiskSeen) (P : Disk → Type 0) → ((d : Disk) → P d → ⊥) → Tells seen P → seen.history ≡ None
never_told seen P never = by seen.history
  where
    by : (history : Option History) → IfSome history (λ h. P h.now) → history ≡ None
    by None p = refl
    by (Some h) p = absurd (never h.now p)

-- ---- a log that rests

pub rests_nothing : (log : LogSeen) → LogRests log log
rests_nothing log = record { disk = record { history = refl; faults = omega arith }; host = refl; gate = refl; doubt = refl }

pub rests_then : (old mid new : LogSeen) → LogRests old mid → LogRests mid new → LogRests old new
rests_then old mid new one two =
    let a = one.disk.faults in
    let b = two.disk.faults in
    record { disk = record { history = two.disk.history ∙ one.disk.history; faults = omega (arith, a, b) }; host = two.host ∙ one.host; gate = two.gate ∙ one.gate; doubt = two.doubt ∙ one.doubt }

tells_then : (old new : LogSeen) (P : Disk → Type 0) → LogRests old new → Tells old.disk P → Tells new.disk P
tells_then old new P rests told = subst (λ (history : Option History). IfSome history (λ h. P h.now)) (sym rests.disk.history) told

tells_before : (old new : LogSeen) (P : Disk → Type 0) → LogRests old new → Tells new.disk P → Tells old.disk P
tells_before old new P rests told = subst (λ (history : Option History). IfSome history (λ h. P h.now)) rests.disk.history told

stand_then : (old new : LogSeen) (filed : List Filed) → LogRests old new → AllStand old filed → AllStand new filed
stand_then old new filed rests stand = λ k d below.
    let one = stand k d below in
    subst (λ (gate : ℕ). IfSome new.disk.history (λ h. EventBefore gate h.now.shows (slice_index_or filed k d).spot (slice_index_or filed k d).at (slice_index_or filed k d).entry.event)) (sym rests.gate)
    (tells_then old new (λ disk. EventBefore old.gate disk.shows (slice_index_or filed k d).spot (slice_index_or filed k d).at (slice_index_or filed k d).entry.event) rests one)

pub may_then : (old new : LogSeen) (index : IndexSeen) → LogRests old new → MayRead old index → MayRead new index
may_then old new index rests may = record { filed = may.filed; is = may.is; stand = stand_then old new may.filed rests may.stand }

pub of_before : (old new : LogSeen) (index : IndexSeen) (holds : List Filed → Type 0) → LogRests old new → OfLog new index holds → OfLog old index holds
of_before old new index holds rests of = λ filed is stand. tells_before old new (λ _. holds filed) rests (of filed is (stand_then old new filed rests stand))

-- a fault after a rest is a fault
pub cause_later : (T U : Type 0) (fail : ReadFail) (old mid new : DiskSeen) → old.faults ≤ mid.faults → ReadCause {T = T} (Err fail) mid new → ReadCause {T = U} (Err fail) old new
cause_later T U DiskFault old mid new kept rose = omega (arith, kept, rose)
cause_later T U NoMemory old mid new kept rose = tt

-- ---- entries at their spots

all_at : {X : Type 0} (P : X → Type 0) (xs : List X) (k : ℕ) (x : X) → All P xs → slice_get xs k ≡ Some x → P x
all_at P xs k x all found = subst P (get_or_from_slice_get xs k x x found) (all k x (slice_get_within xs k x found))

spot_of : (o : Option Filed) (spot : Spot) (at : ℕ) → Some (spot, at) ≡ option_map spot_seen o → (f : Filed) × (o ≡ Some f) × ((spot, at) ≡ spot_seen f)
spot_of None spot at e = absurd cc
spot_of (Some f) spot at e = (f, refl, cc)

no_spot : (o : Option Filed) → None ≡ option_map spot_seen o → o ≡ None
no_spot None e = refl
no_spot (Some f) e = absurd cc

some_event : (gate : ℕ) (shows : List ℕ) (spot : Spot) (at : ℕ) (event : Event) → EventBefore gate shows spot at event → SomeEvent gate shows spot at
some_event gate shows spot at event is = (is.events, is.batch, slice_get_within is.events at event is.event_is)

some_not_none : (o : Option SealedRecord) (r : Option SealedRecord) → Some r ≡ option_map (λ (x : SealedRecord). Some x) o → None ≡ o → ⊥
some_not_none None r e none = cc
some_not_none (Some x) r e none = cc

-- inside a list something is found
pub found_within : (records : List SealedRecord) (k : ℕ) → k < length records → None ≡ slice_get records k → ⊥
found_within records k below none =
    elim (slice_get_cases records k).1 [
      | inl some ↦ (let here = some.2 in cc)
      | inr past ↦ (let over = past.0 in omega (arith, below, over))
    ]

module _ (owner host : ℕ) (tag : List ℕ) (idx : ℕ) (filed : List Filed) where
  -- the entry at that place of a chain stands, and says the chain's record there
  stands_there : (log : LogSeen) (f : Filed) → AllStand log filed → slice_get (filed_at filed owner host tag) idx ≡ Some f → Tells log.disk (λ d. EventBefore log.gate d.shows f.spot f.at f.entry.event)
  stands_there log f stand found =
      let place = place_of_Has filed f (Has-filter (is_of owner host tag) filed f (Has-from_place (filed_at filed owner host tag) idx f found)) in
      all_at (λ (g : Filed). Tells log.disk (λ d. EventBefore log.gate d.shows g.spot g.at g.entry.event)) filed place.0 f stand place.1

  same_records : option_map (λ (f : Filed). event_record f.entry.event) (slice_get (filed_at filed owner host tag) idx) ≡ option_map Some (slice_get (chain (journal_of filed) owner host tag) idx)
  same_records =
      sym (slice_get-map (λ (f : Filed). event_record f.entry.event) (filed_at filed owner host tag) idx)
      ∙ ap (λ (rs : List (Option SealedRecord)). slice_get rs idx) (records_filed host tag filed owner)
      ∙ slice_get-map Some (chain (journal_of filed) owner host tag) idx

  says : (o : Option SealedRecord) (r : Option SealedRecord) → Some r ≡ option_map Some o → r ≡ o
  says None r e = absurd cc
  says (Some x) r e = cc

  says_none : (o : Option SealedRecord) → None ≡ option_map (λ (x : SealedRecord). Some x) o → None ≡ o
  says_none None e = refl
  says_none (Some x) e = absurd cc

  record_there : (f : Filed) → slice_get (filed_at filed owner host tag) idx ≡ Some f → event_record f.entry.event ≡ slice_get (chain (journal_of filed) owner host tag) idx
  record_there f found = says (slice_get (chain (journal_of filed) owner host tag) idx) (event_record f.entry.event) (sym (ap (option_map (λ (g : Filed). event_record g.entry.event)) found) ∙ same_records)

  pub no_record : (log : LogSeen) → None ≡ option_map spot_seen (slice_get (filed_at filed owner host tag) idx) → Tells log.disk (λ _. None ≡ slice_get (chain (journal_of filed) owner host tag) idx)
  no_record log none =
      tells_always log.disk (λ _. None ≡ slice_get (chain (journal_of filed) owner host tag) idx)
      (λ _. says_none (slice_get (chain (journal_of filed) owner host tag) idx) (sym (ap (option_map (λ (g : Filed). event_record g.entry.event)) (no_spot (slice_get (filed_at filed owner host tag) idx) none)) ∙ same_records))

  module _ (log : LogSeen) (spot : Spot) (at : ℕ) (stand : AllStand log filed) (there : Some (spot, at) ≡ option_map spot_seen (slice_get (filed_at filed owner host tag) idx)) where
    abbrev f : Filed
    f = (spot_of (slice_get (filed_at filed owner host tag) idx) spot at there).0

    found : slice_get (filed_at filed owner host tag) idx ≡ Some f
    found = (spot_of (slice_get (filed_at filed owner host tag) idx) spot at there).1

    spot_is : (spot, at) ≡ spot_seen f
    spot_is = (spot_of (slice_get (filed_at filed owner host tag) idx) spot at there).2

    stands_here : Tells log.disk (λ d. EventBefore log.gate d.shows spot at f.entry.event)
    stands_here = subst (λ (p : Spot × ℕ). Tells log.disk (λ d. EventBefore log.gate d.shows p.0 p.1 f.entry.event)) (sym spot_is) (stands_there log f stand found)

    -- so an event can be read there
    pub event_there : Tells log.disk (λ d. SomeEvent log.gate d.shows spot at)
    event_there = tells_from log.disk (λ d. EventBefore log.gate d.shows spot at f.entry.event) (λ d. SomeEvent log.gate d.shows spot at) (λ d is. some_event log.gate d.shows spot at f.entry.event is) stands_here

    -- and it says that record
    pub record_is : (event : Event) (r : Option SealedRecord) → r ≡ event_record event → Tells log.disk (λ d. EventBefore log.gate d.shows spot at event) → Tells log.disk (λ _. r ≡ slice_get (chain (journal_of filed) owner host tag) idx)
    record_is event r is read =
        tells_both log.disk (λ d. EventBefore log.gate d.shows spot at event) (λ d. EventBefore log.gate d.shows spot at f.entry.event) (λ _. r ≡ slice_get (chain (journal_of filed) owner host tag) idx)
        (λ d one two. is ∙ ap event_record (one_event_at current_form (take log.gate d.shows) (record { offset = spot.offset; count = spot.count }) at event f.entry.event one two) ∙ record_there f found) read stands_here

    never_none : None ≡ slice_get (chain (journal_of filed) owner host tag) idx → ⊥
    never_none none = some_not_none (slice_get (chain (journal_of filed) owner host tag) idx) (event_record f.entry.event) (sym (ap (option_map (λ (g : Filed). event_record g.entry.event)) found) ∙ same_records) none

    -- an event without a record can be read only where the disk doesn't tell
    pub untold : (event : Event) → None ≡ event_record event → Tells log.disk (λ d. EventBefore log.gate d.shows spot at event) → log.disk.history ≡ None
    untold event none read = never_told log.disk (λ _. None ≡ slice_get (chain (journal_of filed) owner host tag) idx) (λ _ e. never_none e) (record_is event None none read)

-- on a disk that doesn't tell everything stands
pub silent_stand : (log : LogSeen) (filed : List Filed) → log.disk.history ≡ None → AllStand log filed
silent_stand log filed silent = λ k d below.
    subst (λ (history : Option History). IfSome history (λ h. EventBefore log.gate h.now.shows (slice_index_or filed k d).spot (slice_index_or filed k d).at (slice_index_or filed k d).entry.event)) (sym silent) tt
