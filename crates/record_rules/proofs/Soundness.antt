-- An entry that may follow a sound journal leaves it sound.
use Rattle.std.proofs.Common.{◌≡◌, ◌≢◌, ℕ, ◌<◌, cond, inl, inr, List, [], ◌∷◌, ◌++◌, filter, take, Some, refl, sym, ◌∙◌, ap, subst, arith, Option}
use Rattle.std.specs.Prelude.{slice_get, IsTrue}
use Rattle.std.proofs.lemmas.Bool.{eq-eqb, ne_eqb, cases_eq}
use Rattle.std.proofs.lemmas.Option.{none-some}
use Rattle.std.proofs.lemmas.List.{append-nil, map-append, take_at, take-append-le}
use Rattle.std.proofs.lemmas.List.Elements.{All-push, filter-append}
use Rattle.definitions.specs.Journal.{StartedRecord}
use Rattle.record_rules.specs.Records.{SealedRecord, Entry, Event, Started, Local, Taken, event_weight}
use Rattle.record_rules.specs.Journal.{event_owner, event_place, is_owned_by, events_of, own_of, records_of, in_place, IsNumbered, EventFits, IsOfHost, TotalsFit, held_of, closes_id, is_running, SoundEvents, Sound, MayComeNext, MayFollow}
use Rattle.record_rules.proofs.Options.{slice_get_push, slice_get_prefix}
use Rattle.record_rules.proofs.Numbering.{chains_stay_numbered}
use Rattle.record_rules.proofs.Totals.{room_from_none, TotalsFit-more}

-- each closing event closes what runs before it, with one more event
abbrev pub ClosesRunning : List Event → Type 0
ClosesRunning events = (k closed : ℕ) (r : SealedRecord) → slice_get events k ≡ Some (Local (Some closed) r) → IsTrue (is_running closed (take k events))

closes_more : (events : List Event) (event : Event) → ClosesRunning events → ((closed : ℕ) → IsTrue (closes_id closed event) → IsTrue (is_running closed events)) → ClosesRunning (events ++ event ∷ [])
closes_more events event before here k closed r at =
    elim (slice_get_push events event (Local (Some closed) r) k at) [
      | inl old ↦ subst (λ prefix. IsTrue (is_running closed prefix)) (sym (take-append-le k events (event ∷ []) (let within = old.0 in omega arith))) (before k closed r old.1)
      | inr new ↦
          let closes : IsTrue (closes_id closed event) = subst (λ e. IsTrue (closes_id closed e)) (sym new.1) (eq-eqb closed closed refl) in
          subst (λ prefix. IsTrue (is_running closed prefix)) (sym (take_at events (event ∷ []) k (sym new.0))) (here closed closes)
    ]

-- the ids of started commands differ, with one more event
abbrev pub StartedApart : List Event → Type 0
StartedApart events = (i k : ℕ) (s t : StartedRecord) → i < k → slice_get events i ≡ Some (Started s) → slice_get events k ≡ Some (Started t) → s.id ≢ t.id

apart_more : (events : List Event) (event : Event) → StartedApart events → ((k : ℕ) (s t : StartedRecord) → slice_get events k ≡ Some (Started s) → event ≡ Started t → s.id ≢ t.id) → StartedApart (events ++ event ∷ [])
apart_more events event before here i k s t below at_i at_k =
    elim (slice_get_push events event (Started t) k at_k) [
      | inl old ↦
          let early : slice_get events i ≡ Some (Started s) = sym (slice_get_prefix events (event ∷ []) i (let within = old.0 in omega arith)) ∙ at_i in
          before i k s t below early old.1
      | inr new ↦
          let early : slice_get events i ≡ Some (Started s) = sym (slice_get_prefix events (event ∷ []) i (let last = new.0 in omega arith)) ∙ at_i in
          here i s t early new.1
    ]

module _ (events : List Event) (event : Event) where
  -- what the owners hold with one more event
  pub owned_more : own_of (events ++ event ∷ []) (event_owner event) ≡ own_of events (event_owner event) ++ event ∷ []
  owned_more = filter-append (is_owned_by (event_owner event)) events (event ∷ []) ∙ ap (λ b. own_of events (event_owner event) ++ cond b (event ∷ []) []) (eq-eqb (event_owner event) (event_owner event) refl)

  pub owned_same : (owner : ℕ) → event_owner event ≢ owner → own_of (events ++ event ∷ []) owner ≡ own_of events owner
  owned_same owner differ = filter-append (is_owned_by owner) events (event ∷ []) ∙ ap (λ b. own_of events owner ++ cond b (event ∷ []) []) (ne_eqb (event_owner event) owner differ) ∙ append-nil (own_of events owner)

  -- what holds of what each owner holds, holds of it with the event
  by_owner : (P : List Event → Type 0) (owner : ℕ) → P (own_of events owner) → P (own_of events (event_owner event) ++ event ∷ []) → P (own_of (events ++ event ∷ []) owner)
  by_owner P owner before after =
      elim (cases_eq (event_owner event) owner) [
        | inl own ↦ subst (λ o. P (own_of (events ++ event ∷ []) o)) own (subst P (sym owned_more) after)
        | inr differ ↦ subst P (sym (owned_same owner differ)) before
      ]

  pub SoundEvents-push : (host : ℕ) → SoundEvents events host → MayComeNext events host event → SoundEvents (events ++ event ∷ []) host
  SoundEvents-push host sound follows = record {
    numbered = λ owner at tag. by_owner (λ owned. IsNumbered (filter (in_place at tag) (records_of owned))) owner (sound.numbered owner at tag) (chains_stay_numbered at tag (own_of events (event_owner event)) event (sound.numbered (event_owner event) at tag) follows.numbered);
    made_here = All-push (IsOfHost host) events event sound.made_here follows.made_here;
    closes_running = closes_more events event sound.closes_running follows.closes_running;
    started_apart = apart_more events event sound.started_apart follows.started_apart;
    events_fit = All-push EventFits events event sound.events_fit follows.event_fits;
    held_fits = λ owner. by_owner (λ owned. TotalsFit (held_of owned)) owner (sound.held_fits owner) (TotalsFit-more (own_of events (event_owner event)) event (room_from_none (own_of events (event_owner event)) (event_weight event) (event_place event) follows.held_fits));
  }

-- the journal with one more entry
pub events_more : (journal : List Entry) (entry : Entry) → events_of (journal ++ entry ∷ []) ≡ events_of journal ++ entry.event ∷ []
events_more journal entry = map-append (λ (e : Entry). e.event) journal (entry ∷ [])

pub Sound-push : (journal : List Entry) (entry : Entry) (host : ℕ) → Sound journal host → MayFollow journal host entry.event → Sound (journal ++ entry ∷ []) host
Sound-push journal entry host sound follows = subst (λ events. SoundEvents events host) (sym (events_more journal entry)) (SoundEvents-push (events_of journal) entry.event host sound follows)

pub taken_not_started : (owner : ℕ) (r : SealedRecord) (s : StartedRecord) → Taken owner r ≡ Started s → ⊥
taken_not_started owner r s same = cc

pub local_not_started : (closes : Option ℕ) (r : SealedRecord) (s : StartedRecord) → Local closes r ≡ Started s → ⊥
local_not_started closes r s same = cc

pub empty_sound : (host : ℕ) → Sound [] host
empty_sound host = record {
  numbered = λ owner at tag k r held. absurd (none-some r held);
  made_here = λ k d below. absurd (omega arith);
  closes_running = λ k closed r held. absurd (none-some (Local (Some closed) r) held);
  started_apart = λ i k s t below held. absurd (none-some (Started s) held);
  events_fit = λ k d below. absurd (omega arith);
  held_fits = λ owner. record { entries = omega arith; weight = omega arith; places = omega arith };
}
