-- A command that starts in a sound journal has an id that isn't known.
use Rattle.std.proofs.Common.{◌≡◌, ◌≢◌, ℕ, zero, suc, false, List, [], ◌∷◌, ◌++◌, Some, refl, ◌∙◌}
use Rattle.std.specs.Prelude.{◌==◌, slice_get}
use Rattle.std.proofs.lemmas.Bool.{ne_eqb, or_from}
use Rattle.definitions.specs.Journal.{StartedRecord}
use Rattle.record_rules.specs.Records.{Entry, Event, Started, Local, Taken}
use Rattle.record_rules.specs.Journal.{events_of, Sound, MayFollow}
use Rattle.record_rules.proofs.Prefixes.{last_may_follow}
use Rattle.started_commands.specs.Kept.{Kept, is_known, was_started, IsOf}

not_started : (id : ℕ) (events : List Event) → ((k : ℕ) (s : StartedRecord) → slice_get events k ≡ Some (Started s) → s.id ≢ id) → was_started id events ≡ false
not_started id [] none = refl
not_started id (Started s ∷ events) none = or_from (s.id == id) (was_started id events) (ne_eqb s.id id (none zero s refl)) (not_started id events (λ k. none (suc k)))
not_started id (Local closes r ∷ events) none = not_started id events (λ k. none (suc k))
not_started id (Taken owner r ∷ events) none = not_started id events (λ k. none (suc k))

pub start_is_new : (keeps : Kept) (host : ℕ) (journal : List Entry) (entry : Entry) (s : StartedRecord) → IsOf keeps journal → entry.event ≡ Started s → Sound (journal ++ entry ∷ []) host → is_known keeps s.id ≡ false
start_is_new keeps host journal entry s is says sound =
    let follows : MayFollow journal host entry.event = last_may_follow journal host entry sound in
    is.known s.id ∙ not_started s.id (events_of journal) (λ k t at. follows.started_apart k t s at says)
