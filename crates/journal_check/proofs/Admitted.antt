-- When an entry may come next, and what is kept with it.
use Rattle.std.proofs.Common.{◌≡◌, ◌≢◌, ℕ, ◌+◌, ◌-◌, ◌≤◌, Bool, true, false, not, cond, List, [], ◌∷◌, ◌++◌, length, filter, Option, Some, None, refl, sym, ◌∙◌, ap, subst, arith}
use Rattle.std.specs.Prelude.{◌&&◌, ◌==◌, nat_eq, bytes_eq, IsTrue}
use Rattle.std.specs.Option.{is_some, unwrap_or}
use Rattle.std.specs.Map.{lookup}
use Rattle.std.proofs.lemmas.Bool.{eqb-true, eq-eqb, true≢false}
use Rattle.std.proofs.lemmas.List.{length_push}
use Rattle.definitions.proofs.Items.{both_true}
use Rattle.definitions.specs.Journal.{StartedRecord}
use Rattle.record_rules.specs.Records.{SealedRecord, Entry, Event, Started, Local, Taken, event_weight, record_weight, started_weight}
use Rattle.record_rules.specs.Journal.{Totals, events_of, own_events, records_of, chain, held, held_of, in_place, is_owned_by, is_running, running, event_owner, event_place, closes_id, limit_passed, places_added, RecordFits, MayFollow}
use Rattle.record_rules.specs.OneMore.{chain_with, held_with}
use Rattle.record_rules.proofs.OneMore.{chain_with_one, held_with_one}
use Rattle.record_rules.proofs.Soundness.{local_not_started, taken_not_started}
use Rattle.journal_check.specs.declared.owner_totals.OwnerTotals.{OwnerTotals}
use Rattle.journal_check.specs.Tallies.{Tallies, ChainKey, has_begun, is_known, runs_in, held_in, totals_seen, same_key, count_in, Keeps}
use Rattle.journal_check.specs.Admission.{started_fits, record_fits, capped, has_room, with_entry, places_by, may_start, may_close, may_add, may_make, Holds, Starts, Adds, Closes}
use Rattle.journal_check.proofs.Rooms.{both, started_within, within_started, record_within, within_record, Fits, room_fits, fits_room, room_none, none_room, added_by_count}
use Rattle.journal_check.proofs.OneMore.{begun_one, running_one, begins_known, nothing_known, runs_one, closed_one, begun_at, begun_place, alike}

-- ---- a command

module _ (tallies : Tallies) (journal : List Entry) (s : StartedRecord) (keeps : Keeps tallies journal) where
  pub start_follows : may_start tallies s ≡ true → MayFollow journal tallies.host (Started s)
  start_follows e =
      let one = both_true (started_fits s) _ e in
      let two = both_true (not (is_known tallies.begun s.id)) (has_room (held_in tallies.owners 0) (started_weight s) 0) one.1 in
      let room = room_fits (held_in tallies.owners 0) (started_weight s) 0 two.1 in
      record {
        numbered = tt;
        made_here = tt;
        closes_running = λ closed e. absurd (true≢false (sym e));
        started_apart = λ k x t at same id.
            let apart : s ≡ t = cc in
            let known : is_known tallies.begun s.id ≡ true = keeps.begun s.id ∙ subst (λ n. has_begun n (events_of journal) ≡ true) (id ∙ ap (λ (y : StartedRecord). y.id) (sym apart)) (begun_at (events_of journal) k x at) in
            true≢false (sym two.0 ∙ ap not known);
        event_fits = started_within s one.0;
        held_fits = room_none (own_events journal 0) (held_in tallies.owners 0) (keeps.owners 0) (started_weight s) 0 None refl room;
      }

  pub follows_start : MayFollow journal tallies.host (Started s) → may_start tallies s ≡ true
  follows_start follows =
      let room = none_room (own_events journal 0) (held_in tallies.owners 0) (keeps.owners 0) (started_weight s) 0 None refl follows.held_fits in
      both _ _ (within_started s follows.event_fits) (both _ _ (unknown (is_known tallies.begun s.id) refl) (fits_room (held_in tallies.owners 0) (started_weight s) 0 room))
    where
      unknown : (b : Bool) → is_known tallies.begun s.id ≡ b → not (is_known tallies.begun s.id) ≡ true
      unknown true e =
          let found = begun_place (events_of journal) s.id (sym (keeps.begun s.id) ∙ e) in
          absurd (follows.started_apart found.0 found.1 s found.2 refl found.3)
      unknown false e = ap not e

-- what an owner holds, with one more entry
held_one : (tallies : Tallies) (journal : List Entry) (entry : Entry) (event : Event) (owner weight places : ℕ) (old new : List (ℕ × OwnerTotals)) (q : ℕ)
    → entry.event ≡ event → event_owner event ≡ owner → event_weight event ≡ weight → places ≡ places_added (own_events journal owner) (event_place event)
    → ((o : ℕ) → totals_seen (held_in old o) ≡ held journal o) → Fits (held_in old owner) weight places → Holds owner (with_entry (held_in old owner) weight places) old new
    → totals_seen (held_in new q) ≡ held (journal ++ entry ∷ []) q
held_one tallies journal entry event owner weight places old new q is own weighs adds keeps fits holds =
    ap totals_seen (holds q) ∙ by (nat_eq owner q) refl ∙ sym (held_with_one journal entry q ∙ ap (held_with q (own_events journal q)) is)
  where
    by : (b : Bool) → nat_eq owner q ≡ b → totals_seen (cond (nat_eq owner q) (with_entry (held_in old owner) weight places) (held_in old q)) ≡ held_with q (own_events journal q) event
    by true e =
        let same : owner ≡ q = eqb-true owner q e in
        let was : held_in old owner ≡ held_in old q = ap (held_in old) same in
        let owned : is_owned_by q event ≡ true = ap (λ (n : ℕ). n == q) own ∙ e in
        let kept = keeps q in
        let entries : capped (held_in old owner).entries 1 ≡ (held_of (own_events journal q)).entries + 1 = (let f = fits.entries in let k = ap (λ (t : Totals). t.entries) kept in let w = ap (λ (t : OwnerTotals). t.entries) was in omega (arith, f, k, w)) in
        let weights : capped (held_in old owner).weight weight ≡ (held_of (own_events journal q)).weight + event_weight event = (let f = fits.weight in let k = ap (λ (t : Totals). t.weight) kept in let w = ap (λ (t : OwnerTotals). t.weight) was in omega (arith, f, k, w, weighs)) in
        let added : places ≡ places_added (own_events journal q) (event_place event) = adds ∙ ap (λ (o : ℕ). places_added (own_events journal o) (event_place event)) same in
        let place : capped (held_in old owner).places places ≡ (held_of (own_events journal q)).places + places_added (own_events journal q) (event_place event) = (let f = fits.places in let k = ap (λ (t : Totals). t.places) kept in let w = ap (λ (t : OwnerTotals). t.places) was in omega (arith, f, k, w, added)) in
        ap (λ (b : Bool). totals_seen (cond b (with_entry (held_in old owner) weight places) (held_in old q))) e
        ∙ (λ i. record { entries = entries i; weight = weights i; places = place i })
        ∙ sym (ap (λ (b : Bool). cond b (record { entries = (held_of (own_events journal q)).entries + 1; weight = (held_of (own_events journal q)).weight + event_weight event; places = (held_of (own_events journal q)).places + places_added (own_events journal q) (event_place event) }) (held_of (own_events journal q))) owned)
    by false e =
        let owned : is_owned_by q event ≡ false = ap (λ (n : ℕ). n == q) own ∙ e in
        ap (λ (b : Bool). totals_seen (cond b (with_entry (held_in old owner) weight places) (held_in old q))) e ∙ keeps q
        ∙ sym (ap (λ (b : Bool). cond b (record { entries = (held_of (own_events journal q)).entries + 1; weight = (held_of (own_events journal q)).weight + event_weight event; places = (held_of (own_events journal q)).places + places_added (own_events journal q) (event_place event) }) (held_of (own_events journal q))) owned)

pub start_keeps : (tallies new : Tallies) (journal : List Entry) (s : StartedRecord) (entry : Entry) → Keeps tallies journal → may_start tallies s ≡ true → Starts s tallies new → entry.event ≡ Started s → Keeps new (journal ++ entry ∷ [])
start_keeps tallies new journal s entry keeps e starts is =
    let one = both_true (started_fits s) _ e in
    let two = both_true (not (is_known tallies.begun s.id)) (has_room (held_in tallies.owners 0) (started_weight s) 0) one.1 in
    let room = room_fits (held_in tallies.owners 0) (started_weight s) 0 two.1 in
    record {
      begun = λ q. starts.begun.known q ∙ ap (cond (nat_eq s.id q) true) (keeps.begun q) ∙ begins_known (has_begun q (events_of journal)) (s.id == q) ∙ sym (begun_one journal entry (Started s) q is);
      running = λ q. starts.begun.running q ∙ ap (cond (nat_eq s.id q) true) (keeps.running q) ∙ runs_one (running journal) s q ∙ sym (running_one journal entry (Started s) q is);
      owners = λ q. held_one tallies journal entry (Started s) 0 (started_weight s) 0 tallies.owners new.owners q is refl refl refl keeps.owners room starts.owners;
      chains = λ q. ap (λ (l : List (ChainKey × ℕ)). count_in l q) starts.chains ∙ keeps.chains q ∙ sym (ap (λ (r : List SealedRecord). length r) (chain_with_one journal entry q.0 q.1.0 q.1.1.items ∙ ap (chain_with q.0 q.1.0 q.1.1.items (chain journal q.0 q.1.0 q.1.1.items)) is));
    }

-- ---- a record

-- the key of the record's chain
pub record IsKey (key : ChainKey) (owner : ℕ) (r : SealedRecord) : Type 0 where
  pub owner_is : key.0 ≡ owner
  pub host_is : key.1.0 ≡ r.host
  pub tag_is : key.1.1.items ≡ r.tag

-- what the record must meet, whatever else its event says
record AddsWell (journal : List Entry) (owner : ℕ) (r : SealedRecord) : Type 0 where
  pub numbered : r.idx ≡ length (chain journal owner r.host r.tag)
  pub fits : RecordFits r
  pub room : limit_passed (own_events journal owner) (record_weight r) (Some (record { host = r.host; tag = r.tag })) ≡ None

short_filter : {A : Type 0} (p : A → Bool) (xs : List A) → length (filter p xs) ≤ length xs
short_filter p [] = omega arith
short_filter p (x ∷ xs) = by (p x) (short_filter p xs)
  where
    by : (b : Bool) → length (filter p xs) ≤ length xs → length (cond b (x ∷ filter p xs) (filter p xs)) ≤ length (x ∷ xs)
    by true h = omega (arith, h)
    by false h = omega (arith, h)

short_records : (events : List Event) → length (records_of events) ≤ length events
short_records [] = omega arith
short_records (Started s ∷ events) = omega (arith, short_records events)
short_records (Local closes r ∷ events) = omega (arith, short_records events)
short_records (Taken owner r ∷ events) = omega (arith, short_records events)

chain_short : (journal : List Entry) (owner host : ℕ) (tag : List ℕ) → length (chain journal owner host tag) ≤ length (own_events journal owner)
chain_short journal owner host tag = omega (arith, short_filter (in_place host tag) (records_of (own_events journal owner)), short_records (own_events journal owner))

module _ (tallies : Tallies) (journal : List Entry) (owner count : ℕ) (key : ChainKey) (r : SealedRecord) (keeps : Keeps tallies journal) (is_key : IsKey key owner r) (count_is : count ≡ count_in tallies.chains key) where
  counted : count ≡ length (chain journal owner r.host r.tag)
  counted = count_is ∙ keeps.chains key ∙ (λ i. length (chain journal (is_key.owner_is i) (is_key.host_is i) (is_key.tag_is i)))

  added : places_by count ≡ places_added (own_events journal owner) (Some (record { host = r.host; tag = r.tag }))
  added = ap places_by counted ∙ added_by_count r.host r.tag (records_of (own_events journal owner))

  fits_of : may_add tallies owner r count ≡ true → Fits (held_in tallies.owners owner) (record_weight r) (places_by count)
  fits_of e =
      let one = both_true (record_fits r) _ e in
      let two = both_true (nat_eq r.idx count) (has_room (held_in tallies.owners owner) (record_weight r) (places_by count)) one.1 in
      room_fits (held_in tallies.owners owner) (record_weight r) (places_by count) two.1

  add_well : may_add tallies owner r count ≡ true → AddsWell journal owner r
  add_well e =
      let one = both_true (record_fits r) _ e in
      let two = both_true (nat_eq r.idx count) (has_room (held_in tallies.owners owner) (record_weight r) (places_by count)) one.1 in
      record {
        numbered = eqb-true r.idx count two.0 ∙ counted;
        fits = record_within r one.0;
        room = room_none (own_events journal owner) (held_in tallies.owners owner) (keeps.owners owner) (record_weight r) (places_by count) (Some (record { host = r.host; tag = r.tag })) added (fits_of e);
      }

  well_add : AddsWell journal owner r → may_add tallies owner r count ≡ true
  well_add well = both _ _ (within_record r well.fits) (both _ _ (eq-eqb r.idx count (well.numbered ∙ sym counted))
      (fits_room (held_in tallies.owners owner) (record_weight r) (places_by count) (none_room (own_events journal owner) (held_in tallies.owners owner) (keeps.owners owner) (record_weight r) (places_by count) (Some (record { host = r.host; tag = r.tag })) added well.room)))

  -- ---- with it

  test_is : (q : ChainKey) → ((owner == q.0) && in_place q.1.0 q.1.1.items r) ≡ same_key key q
  test_is q = sym (λ i. nat_eq (is_key.owner_is i) q.0 && (nat_eq (is_key.host_is i) q.1.0 && bytes_eq (is_key.tag_is i) q.1.1.items))

  chains_added : (mid : Tallies) (q : ChainKey) → may_add tallies owner r count ≡ true → Adds key (record_weight r) count tallies mid
      → count_in mid.chains q ≡ length (cond ((owner == q.0) && in_place q.1.0 q.1.1.items r) (chain journal q.0 q.1.0 q.1.1.items ++ r ∷ []) (chain journal q.0 q.1.0 q.1.1.items))
  chains_added mid q e adds =
      adds.chains q ∙ by (same_key key q) refl ∙ sym (ap (λ (b : Bool). length (cond b (chain journal q.0 q.1.0 q.1.1.items ++ r ∷ []) (chain journal q.0 q.1.0 q.1.1.items))) (test_is q))
    where
      by : (b : Bool) → same_key key q ≡ b → cond (same_key key q) (capped count 1) (count_in tallies.chains q) ≡ length (cond (same_key key q) (chain journal q.0 q.1.0 q.1.1.items ++ r ∷ []) (chain journal q.0 q.1.0 q.1.1.items))
      by true t =
          let like = alike key q t in
          let all : count ≡ length (chain journal q.0 q.1.0 q.1.1.items) = count_is ∙ keeps.chains key ∙ (λ i. length (chain journal (like.owner i) (like.host i) (like.tag i))) in
          let few : count ≤ length (own_events journal owner) = subst (λ n. n ≤ length (own_events journal owner)) (sym counted) (chain_short journal owner r.host r.tag) in
          let room = (fits_of e).entries in
          let entries : (held_in tallies.owners owner).entries ≡ length (own_events journal owner) = ap (λ (t : Totals). t.entries) (keeps.owners owner) in
          let longer = length_push (chain journal q.0 q.1.0 q.1.1.items) r in
          ap (λ (b : Bool). cond b (capped count 1) (count_in tallies.chains q)) t ∙ omega (arith, all, few, room, entries, longer)
          ∙ sym (ap (λ (b : Bool). length (cond b (chain journal q.0 q.1.0 q.1.1.items ++ r ∷ []) (chain journal q.0 q.1.0 q.1.1.items))) t)
      by false t = ap (λ (b : Bool). cond b (capped count 1) (count_in tallies.chains q)) t ∙ keeps.chains q ∙ sym (ap (λ (b : Bool). length (cond b (chain journal q.0 q.1.0 q.1.1.items ++ r ∷ []) (chain journal q.0 q.1.0 q.1.1.items))) t)

  owners_added : (mid : Tallies) → Adds key (record_weight r) count tallies mid → Holds owner (with_entry (held_in tallies.owners owner) (record_weight r) (places_by count)) tallies.owners mid.owners
  owners_added mid adds = subst (λ (o : ℕ). Holds o (with_entry (held_in tallies.owners o) (record_weight r) (places_by count)) tallies.owners mid.owners) is_key.owner_is adds.owners

-- ---- a record that was taken in

module _ (tallies : Tallies) (journal : List Entry) (owner count : ℕ) (key : ChainKey) (r : SealedRecord) (keeps : Keeps tallies journal) (is_key : IsKey key owner r) (count_is : count ≡ count_in tallies.chains key) where
  pub taken_follows : may_add tallies owner r count ≡ true → MayFollow journal tallies.host (Taken owner r)
  taken_follows e =
      let well = add_well tallies journal owner count key r keeps is_key count_is e in
      record {
        numbered = well.numbered;
        made_here = tt;
        closes_running = λ closed e. absurd (true≢false (sym e));
        started_apart = λ k s t at same. absurd (taken_not_started owner r t same);
        event_fits = well.fits;
        held_fits = well.room;
      }

  pub follows_taken : MayFollow journal tallies.host (Taken owner r) → may_add tallies owner r count ≡ true
  follows_taken follows = well_add tallies journal owner count key r keeps is_key count_is (record { numbered = follows.numbered; fits = follows.event_fits; room = follows.held_fits })

  pub taken_keeps : (mid : Tallies) (entry : Entry) → may_add tallies owner r count ≡ true → Adds key (record_weight r) count tallies mid → entry.event ≡ Taken owner r → Keeps mid (journal ++ entry ∷ [])
  taken_keeps mid entry e adds is = record {
    begun = λ q. ap (λ (l : List (ℕ × Bool)). is_known l q) adds.begun ∙ keeps.begun q ∙ nothing_known (has_begun q (events_of journal)) ∙ sym (begun_one journal entry (Taken owner r) q is);
    running = λ q. ap (λ (l : List (ℕ × Bool)). runs_in l q) adds.begun ∙ keeps.running q ∙ sym (running_one journal entry (Taken owner r) q is);
    owners = λ q. held_one tallies journal entry (Taken owner r) owner (record_weight r) (places_by count) tallies.owners mid.owners q is refl refl (added tallies journal owner count key r keeps is_key count_is) keeps.owners (fits_of tallies journal owner count key r keeps is_key count_is e) (owners_added tallies journal owner count key r keeps is_key count_is mid adds);
    chains = λ q. chains_added tallies journal owner count key r keeps is_key count_is mid q e adds ∙ sym (ap (λ (l : List SealedRecord). length l) (chain_with_one journal entry q.0 q.1.0 q.1.1.items ∙ ap (chain_with q.0 q.1.0 q.1.1.items (chain journal q.0 q.1.0 q.1.1.items)) is));
  }

-- ---- a record that was made here

runs_known : (begun : List (ℕ × Bool)) (id : ℕ) → runs_in begun id ≡ true → is_known begun id ≡ true
runs_known begun id e = by (lookup (nat_eq id) begun) e
  where
    by : (o : Option Bool) → unwrap_or o false ≡ true → is_some o ≡ true
    by None e = absurd (true≢false (sym e))
    by (Some b) e = refl

closes_well : (tallies : Tallies) (journal : List Entry) (closes : Option ℕ) (r : SealedRecord) → Keeps tallies journal → may_close tallies closes ≡ true → (closed : ℕ) → IsTrue (closes_id closed (Local closes r)) → IsTrue (is_running closed (events_of journal))
closes_well tallies journal None r keeps e closed is = absurd (true≢false (sym is))
closes_well tallies journal (Some id) r keeps e closed is = subst (λ (n : ℕ). is_running n (events_of journal) ≡ true) (eqb-true id closed is) (sym (keeps.running id) ∙ e)

well_closes : (tallies : Tallies) (journal : List Entry) (closes : Option ℕ) (r : SealedRecord) → Keeps tallies journal → ((closed : ℕ) → IsTrue (closes_id closed (Local closes r)) → IsTrue (is_running closed (events_of journal))) → may_close tallies closes ≡ true
well_closes tallies journal None r keeps well = refl
well_closes tallies journal (Some id) r keeps well = keeps.running id ∙ well id (eq-eqb id id refl)

module _ (tallies : Tallies) (journal : List Entry) (count : ℕ) (key : ChainKey) (closes : Option ℕ) (r : SealedRecord) (keeps : Keeps tallies journal) (is_key : IsKey key 0 r) (count_is : count ≡ count_in tallies.chains key) where
  pub local_parts : may_make tallies closes r count ≡ true → (r.host ≡ tallies.host) × (may_close tallies closes ≡ true) × (may_add tallies 0 r count ≡ true)
  local_parts e =
      let one = both_true (nat_eq r.host tallies.host) _ e in
      let two = both_true (may_close tallies closes) (may_add tallies 0 r count) one.1 in
      (eqb-true r.host tallies.host one.0, two.0, two.1)

  pub local_follows : may_make tallies closes r count ≡ true → MayFollow journal tallies.host (Local closes r)
  local_follows all =
      let parts = local_parts all in
      let here = parts.0 in
      let closing = parts.1 in
      let well = add_well tallies journal 0 count key r keeps is_key count_is parts.2 in
      record {
        numbered = well.numbered;
        made_here = here;
        closes_running = closes_well tallies journal closes r keeps closing;
        started_apart = λ k s t at same. absurd (local_not_started closes r t same);
        event_fits = well.fits;
        held_fits = well.room;
      }

  pub follows_local : MayFollow journal tallies.host (Local closes r) → may_make tallies closes r count ≡ true
  follows_local follows = both _ _ (eq-eqb r.host tallies.host follows.made_here) (both _ _ (well_closes tallies journal closes r keeps follows.closes_running)
      (well_add tallies journal 0 count key r keeps is_key count_is (record { numbered = follows.numbered; fits = follows.event_fits; room = follows.held_fits })))

-- the commands, where the record closes one or none
begun_closed : (tallies mid new : Tallies) (journal : List Entry) (entry : Entry) (closes : Option ℕ) (r : SealedRecord) (q : ℕ) → Keeps tallies journal → may_close tallies closes ≡ true → mid.begun ≡ tallies.begun → Closes closes mid new → entry.event ≡ Local closes r
    → (is_known new.begun q ≡ has_begun q (events_of (journal ++ entry ∷ []))) × (runs_in new.begun q ≡ is_running q (events_of (journal ++ entry ∷ [])))
begun_closed tallies mid new journal entry None r q keeps closing same closed is = (
  ap (λ (t : Tallies). is_known t.begun q) closed ∙ ap (λ (l : List (ℕ × Bool)). is_known l q) same ∙ keeps.begun q ∙ nothing_known (has_begun q (events_of journal)) ∙ sym (begun_one journal entry (Local None r) q is),
  ap (λ (t : Tallies). runs_in t.begun q) closed ∙ ap (λ (l : List (ℕ × Bool)). runs_in l q) same ∙ keeps.running q ∙ sym (running_one journal entry (Local None r) q is),
)
begun_closed tallies mid new journal entry (Some id) r q keeps closing same closed is = (
  closed.begun.known q ∙ ap (λ (l : List (ℕ × Bool)). cond (nat_eq id q) true (is_known l q)) same ∙ known (nat_eq id q) refl ∙ keeps.begun q ∙ nothing_known (has_begun q (events_of journal)) ∙ sym (begun_one journal entry (Local (Some id) r) q is),
  closed.begun.running q ∙ ap (λ (l : List (ℕ × Bool)). cond (nat_eq id q) false (runs_in l q)) same ∙ ap (cond (nat_eq id q) false) (keeps.running q) ∙ closed_one (running journal) id q ∙ sym (running_one journal entry (Local (Some id) r) q is),
)
  where
    known : (b : Bool) → nat_eq id q ≡ b → cond (nat_eq id q) true (is_known tallies.begun q) ≡ is_known tallies.begun q
    known true e = ap (λ (b : Bool). cond b true (is_known tallies.begun q)) e ∙ sym (ap (is_known tallies.begun) (sym (eqb-true id q e)) ∙ runs_known tallies.begun id closing)
    known false e = ap (λ (b : Bool). cond b true (is_known tallies.begun q)) e

others_closed : (mid new : Tallies) (closes : Option ℕ) → Closes closes mid new → (new.owners ≡ mid.owners) × (new.chains ≡ mid.chains)
others_closed mid new None closed = (ap (λ (t : Tallies). t.owners) closed, ap (λ (t : Tallies). t.chains) closed)
others_closed mid new (Some id) closed = (closed.owners, closed.chains)

pub local_keeps : (tallies mid new : Tallies) (journal : List Entry) (count : ℕ) (key : ChainKey) (closes : Option ℕ) (r : SealedRecord) (entry : Entry) → Keeps tallies journal → IsKey key 0 r → count ≡ count_in tallies.chains key
    → may_make tallies closes r count ≡ true → Adds key (record_weight r) count tallies mid → Closes closes mid new → entry.event ≡ Local closes r → Keeps new (journal ++ entry ∷ [])
local_keeps tallies mid new journal count key closes r entry keeps is_key count_is all adds closed is =
    let parts = local_parts tallies journal count key closes r keeps is_key count_is all in
    let closing = parts.1 in
    let e = parts.2 in
    let others = others_closed mid new closes closed in
    record {
      begun = λ q. (begun_closed tallies mid new journal entry closes r q keeps closing adds.begun closed is).0;
      running = λ q. (begun_closed tallies mid new journal entry closes r q keeps closing adds.begun closed is).1;
      owners = λ q. ap (λ (l : List (ℕ × OwnerTotals)). totals_seen (held_in l q)) others.0 ∙ held_one tallies journal entry (Local closes r) 0 (record_weight r) (places_by count) tallies.owners mid.owners q is refl refl (added tallies journal 0 count key r keeps is_key count_is) keeps.owners (fits_of tallies journal 0 count key r keeps is_key count_is e) (owners_added tallies journal 0 count key r keeps is_key count_is mid adds);
      chains = λ q. ap (λ (l : List (ChainKey × ℕ)). count_in l q) others.1 ∙ chains_added tallies journal 0 count key r keeps is_key count_is mid q e adds ∙ sym (ap (λ (l : List SealedRecord). length l) (chain_with_one journal entry q.0 q.1.0 q.1.1.items ∙ ap (chain_with q.0 q.1.0 q.1.1.items (chain journal q.0 q.1.0 q.1.1.items)) is));
    }
