-- Walking along a log from its first gate to its closed one.
use Rattle.std.proofs.Common.{◌≡◌, ◌≢◌, ℕ, ◌+◌, ◌<◌, ◌^◌, ◌⊎◌, inl, inr, List, [], ◌∷◌, ◌++◌, length, take, drop, Option, Some, None, Vec, refl, sym, ◌∙◌, ap, subst, arith, append_assoc, append-nil, length-append}
use Rattle.std.specs.Prelude.{IfSome}
use Rattle.std.specs.Int.{w32, to_be_bytes}
use Rattle.std.specs.Global.{Global}
use Rattle.std.specs.List.{AllByRecursion}
use Rattle.std.proofs.lemmas.List.{take_at, length-take}
use Rattle.std.proofs.lemmas.Grind.{flat_map-append}
use Rattle.record_rules.specs.Records.{Entry, Event}
use Rattle.record_rules.specs.Journal.{events_of}
use Rattle.record_model.specs.declared.entries.Event as model
use Rattle.record_model.specs.Seen.{events_seen}
use Rattle.log_rules.specs.Body.{body_bytes}
use Rattle.log_rules.specs.Log.{Form, Batch, IsOpenBatch, batch_bytes, batches_bytes, header_bytes, events_in}
use Rattle.log_rules.proofs.Logs.{batches_append}
use Rattle.log_rules.proofs.Fields.{body_apart}
use Rattle.disk_rules.specs.Disk.{Disk}
use Rattle.disk_rules.specs.History.{History}
use Rattle.disk_rules.proofs.Calls.{shows_is_left}
use Rattle.at_edge.specs.Storing.{DiskSeen, Tells}
use Rattle.log_check.specs.Forms.{form_of, digest_bytes}
use Rattle.log_check.specs.Walks.{IsLogTo}
use Rattle.log_check.specs.declared.forms.LogForm.{LogForm}
use Rattle.log_check.proofs.Batches.{digest_counted}
use Rattle.record_log.specs.declared.spots.Spot.{Spot}
use Rattle.record_log.specs.Reading.{BatchIn, IsGateIn, FindsIn}
use Rattle.record_log.specs.Journals.{HoldsAt}
use Rattle.record_log.specs.Walking.{StandsBetween, GoesOn}
use Rattle.record_log.proofs.ReadBack.{from_body, ends_before}

begins_here : (form : Form) (gate host : ℕ) (journal : List Entry) (disk : Disk) → HoldsAt form gate host journal disk → StandsBetween form disk.shows gate 32 [] (events_of journal)
begins_here form gate host journal disk holds =
    let left = holds.log.settled.images disk.shows (shows_is_left disk holds.log.settled.is_disk) in
    let whole : disk.shows ≡ holds.prefix ++ (0 ∷ left.0) = left.1 ∙ append_assoc holds.prefix (0 ∷ []) left.0 in
    let counted = ap (λ (l : List ℕ). length l) whole ∙ length-append holds.prefix (0 ∷ left.0) in
    let place = holds.place in
    record {
      host = host;
      passed = [];
      coming = holds.log.opened.batches;
      opened = holds.log.opened.opened;
      inside = omega (arith, counted, place);
      bytes_are = ap (take gate) whole ∙ take_at holds.prefix (0 ∷ left.0) gate place ∙ holds.log.opened.bytes_are;
      offset_is = refl;
      before_are = refl;
      after_are = holds.log.opened.events_are;
    }

-- the same of bytes that are a log up to their closed gate
pub log_begins : (form : Form) (host gate : ℕ) (events : List Event) (shows : List ℕ) → IsLogTo form host gate events shows → StandsBetween form shows gate 32 [] events
log_begins form host gate events shows is =
    let kept = length-take gate shows in
    let place = is.place in
    record {
      host = host;
      passed = [];
      coming = is.opened.batches;
      opened = is.opened.opened;
      inside = omega (arith, kept, place);
      bytes_are = is.opened.bytes_are;
      offset_is = refl;
      before_are = refl;
      after_are = is.opened.events_are;
    }

-- before an open batch that comes next
module _ (form : Form) (shows : List ℕ) (gate offset : ℕ) (passed : List Batch) (batch : Batch) (rest : List Batch) (host : ℕ) (bytes_are : take gate shows ≡ header_bytes form host ++ batches_bytes form 32 (passed ++ batch ∷ rest)) (offset_is : offset ≡ 32 + length (batches_bytes form 32 passed)) where
  abbrev earlier : List ℕ
  earlier = header_bytes form host ++ batches_bytes form 32 passed

  abbrev tail : List ℕ
  tail = batches_bytes form (offset + length (batch_bytes form offset batch)) rest

  earlier_ends : length earlier ≡ offset
  earlier_ends = length-append (header_bytes form host) (batches_bytes form 32 passed) ∙ sym offset_is

  split : take gate shows ≡ earlier ++ batch_bytes form offset batch ++ tail
  split = bytes_are ∙ ap (λ (l : List ℕ). header_bytes form host ++ l) (batches_append form 32 passed (batch ∷ rest) ∙ ap (λ (n : ℕ). batches_bytes form 32 passed ++ batches_bytes form n (batch ∷ rest)) (sym offset_is))
      ∙ sym (append_assoc (header_bytes form host) (batches_bytes form 32 passed) (batch_bytes form offset batch ++ tail)) ∙ sym (append_assoc earlier (batch_bytes form offset batch) tail)

-- a gate stands there, the closed one or a batch's
at_gate_by : (form : Form) (shows : List ℕ) (gate offset : ℕ) (before after : List Event) (stands : StandsBetween form shows gate offset before after) → (coming : List Batch) → coming ≡ stands.coming → (offset ≡ gate) ⊎ ((batch : Batch) × (rest : List Batch) × (stands.coming ≡ batch ∷ rest))
at_gate_by form shows gate offset before after stands [] are =
    let all : take gate shows ≡ header_bytes form stands.host ++ batches_bytes form 32 stands.passed = stands.bytes_are ∙ ap (λ (l : List Batch). header_bytes form stands.host ++ batches_bytes form 32 l) (ap (λ (l : List Batch). stands.passed ++ l) (sym are) ∙ append-nil stands.passed) in
    let counted = ap (λ (l : List ℕ). length l) all ∙ length-append (header_bytes form stands.host) (batches_bytes form 32 stands.passed) in
    let kept = length-take gate shows in
    let inside = stands.inside in
    let place = stands.offset_is in
    inl (omega (arith, counted, kept, inside, place))
at_gate_by form shows gate offset before after stands (batch ∷ rest) are = inr (batch, rest, sym are)

module _ (form : LogForm) (shows : List ℕ) (gate offset : ℕ) (before after : List Event) (stands : StandsBetween (form_of form) shows gate offset before after) where
  -- the bytes there, where a batch comes next
  split_here : (batch : Batch) (rest : List Batch) → stands.coming ≡ batch ∷ rest → take gate shows ≡ (header_bytes (form_of form) stands.host ++ batches_bytes (form_of form) 32 stands.passed) ++ batch_bytes (form_of form) offset batch ++ batches_bytes (form_of form) (offset + length (batch_bytes (form_of form) offset batch)) rest
  split_here batch rest are = split (form_of form) shows gate offset stands.passed batch rest stands.host (stands.bytes_are ∙ ap (λ (l : List Batch). header_bytes (form_of form) stands.host ++ batches_bytes (form_of form) 32 (stands.passed ++ l)) are) stands.offset_is

  next_batch : (batch : Batch) (rest : List Batch) → stands.coming ≡ batch ∷ rest → BatchIn (form_of form) gate shows (record { offset = offset; count = length (body_bytes batch.events) }) batch.events
  next_batch batch rest are =
      let open_batches = subst (λ (l : List Batch). AllByRecursion IsOpenBatch l) are stands.opened in
      record {
        before = header_bytes (form_of form) stands.host ++ batches_bytes (form_of form) 32 stands.passed;
        gate = batch.gate;
        behind = batches_bytes (form_of form) (offset + length (batch_bytes (form_of form) offset batch)) rest;
        batch = open_batches.0.batch_events;
        gate_open = open_batches.0.gate;
        offset_is = stands.offset_is ∙ sym (length-append (header_bytes (form_of form) stands.host) (batches_bytes (form_of form) 32 stands.passed));
        count_is = refl;
        bytes_are = split_here batch rest are;
      }

  pub is_gate : IsGateIn (form_of form) gate offset shows
  is_gate = elim (at_gate_by (form_of form) shows gate offset before after stands stands.coming refl) [
    | inl closed ↦ inl closed
    | inr next ↦ inr (record { offset = offset; count = length (body_bytes next.0.events) }, refl, (next.0.events, next_batch next.0 next.1 next.2))
  ]

  batch_counted : (batch : Batch) → length (batch_bytes (form_of form) offset batch) ≡ 5 + digest_bytes form + length (body_bytes batch.events)
  batch_counted batch =
      let body = body_bytes batch.events in
      let sized = digest_counted form offset body in
      omega (arith, length-append (to_be_bytes w32 (length body) ++ body) ((form_of form).digest offset body), length-append (to_be_bytes w32 (length body)) body, sized)

  -- the batch that is read there is the one that comes next
  pub goes_on : (spot : Spot) (next : ℕ) (events : List Event) → spot.offset ≡ offset → offset ≢ gate → next ≡ offset + (5 + digest_bytes form) + spot.count → BatchIn (form_of form) gate shows spot events → GoesOn (form_of form) shows gate next before after events
  goes_on spot next events place other next_is is = elim (at_gate_by (form_of form) shows gate offset before after stands stands.coming refl) [
    | inl closed ↦ absurd (other closed)
    | inr (batch, rest, are) ↦
        let mine = next_batch batch rest are in
        let here : Spot = record { offset = offset; count = length (body_bytes batch.events) } in
        let open_batches = subst (λ (l : List Batch). AllByRecursion IsOpenBatch l) are stands.opened in
        let same : events ≡ batch.events = (body_apart events batch.events _ _ is.batch mine.batch (sym (from_body form gate shows spot events is) ∙ ap (λ (n : ℕ). drop (n + 5) shows) place ∙ from_body form gate shows here batch.events mine)).0 in
        let counted = batch_counted batch in
        let count_is = is.count_is ∙ ap (λ (l : List Event). length (body_bytes l)) same in
        let passed_bytes : batches_bytes (form_of form) 32 (stands.passed ++ batch ∷ []) ≡ batches_bytes (form_of form) 32 stands.passed ++ batch_bytes (form_of form) offset batch =
        batches_append (form_of form) 32 stands.passed (batch ∷ []) ∙ ap (λ (l : List ℕ). batches_bytes (form_of form) 32 stands.passed ++ l) (ap (λ (n : ℕ). batches_bytes (form_of form) n (batch ∷ [])) (sym stands.offset_is) ∙ append-nil (batch_bytes (form_of form) offset batch)) in
        let passed_counted = ap (λ (l : List ℕ). length l) passed_bytes ∙ length-append (batches_bytes (form_of form) 32 stands.passed) (batch_bytes (form_of form) offset batch) in
        let offset_was = stands.offset_is in
        let parts : events_in stands.coming ≡ batch.events ++ events_in rest = ap events_in are in
        record {
          rest = events_in rest;
          after_are = sym stands.after_are ∙ parts ∙ ap (λ (l : List Event). l ++ events_in rest) (sym same);
          on = record {
            host = stands.host;
            passed = stands.passed ++ batch ∷ [];
            coming = rest;
            opened = open_batches.1;
            inside = stands.inside;
            bytes_are = stands.bytes_are ∙ ap (λ (l : List Batch). header_bytes (form_of form) stands.host ++ batches_bytes (form_of form) 32 l) (ap (λ (l : List Batch). stands.passed ++ l) are ∙ sym (append_assoc stands.passed (batch ∷ []) rest));
            offset_is = omega (arith, next_is, passed_counted, offset_was, counted, count_is);
            before_are = flat_map-append (λ (b : Batch). b.events) stands.passed (batch ∷ []) ∙ (λ i. stands.before_are i ++ (append-nil batch.events ∙ sym same) i);
            after_are = refl;
          };
        }
  ]

  -- and at the closed gate none comes
  pub ends_here : offset ≡ gate → after ≡ []
  ends_here closed = elim (at_gate_by (form_of form) shows gate offset before after stands stands.coming refl) [
    | inl same ↦ sym stands.after_are ∙ none stands.coming refl
    | inr (batch, rest, are) ↦ absurd (none_next batch rest are)
  ]
    where
      none_next : (batch : Batch) (rest : List Batch) → stands.coming ≡ batch ∷ rest → ⊥
      none_next batch rest are =
          let ends = ends_before form gate shows (record { offset = offset; count = length (body_bytes batch.events) }) batch.events (next_batch batch rest are) in
          absurd (omega (arith, ends, closed))

      none : (coming : List Batch) → coming ≡ stands.coming → events_in stands.coming ≡ []
      none [] are = sym (ap events_in are)
      none (batch ∷ rest) are = absurd (none_next batch rest (sym are))

-- ---- on a disk that may tell

module _ (form : LogForm) (seen : DiskSeen) (gate : ℕ) where
  pub walk_begins : (host : ℕ) (journal : List Entry) → Tells seen (HoldsAt (form_of form) gate host journal) → Tells seen (λ d. StandsBetween (form_of form) d.shows gate 32 [] (events_of journal))
  walk_begins host journal holds = by seen.history holds
    where
      by : (history : Option History) → IfSome history (λ h. HoldsAt (form_of form) gate host journal h.now) → IfSome history (λ h. StandsBetween (form_of form) h.now.shows gate 32 [] (events_of journal))
      by None holds = tt
      by (Some h) holds = begins_here (form_of form) gate host journal h.now holds

  pub walk_is_at_a_gate : (offset : ℕ) (before after : List Event) → Tells seen (λ d. StandsBetween (form_of form) d.shows gate offset before after) → Tells seen (λ d. IsGateIn (form_of form) gate offset d.shows)
  walk_is_at_a_gate offset before after stands = by seen.history stands
    where
      by : (history : Option History) → IfSome history (λ h. StandsBetween (form_of form) h.now.shows gate offset before after) → IfSome history (λ h. IsGateIn (form_of form) gate offset h.now.shows)
      by None stands = tt
      by (Some h) stands = is_gate form h.now.shows gate offset before after stands

  pub walk_goes_on : (offset : ℕ) (before after : List Event) (found : Vec model.Event Global × Spot × ℕ) → gate < 2 ^ 64 → Tells seen (λ d. StandsBetween (form_of form) d.shows gate offset before after) → FindsIn form gate offset seen (Some found)
      → Tells seen (λ d. GoesOn (form_of form) d.shows gate found.2 before after (events_seen found.0.items))
  walk_goes_on offset before after found fits stands (other, place, next_is, batch) = by seen.history stands batch
    where
      by : (history : Option History) → IfSome history (λ h. StandsBetween (form_of form) h.now.shows gate offset before after) → IfSome history (λ h. BatchIn (form_of form) gate h.now.shows found.1 (events_seen found.0.items)) → IfSome history (λ h. GoesOn (form_of form) h.now.shows gate found.2 before after (events_seen found.0.items))
      by None stands batch = tt
      by (Some h) stands batch =
          let ends = ends_before form gate h.now.shows found.1 (events_seen found.0.items) batch in
          goes_on form h.now.shows gate offset before after stands found.1 found.2 (events_seen found.0.items) place other (omega (arith, next_is, ends, fits, place)) batch

  pub walk_ends : (offset : ℕ) (before after : List Event) → Tells seen (λ d. StandsBetween (form_of form) d.shows gate offset before after) → FindsIn form gate offset seen None → Tells seen (λ _. after ≡ [])
  walk_ends offset before after stands closed = by seen.history stands
    where
      by : (history : Option History) → IfSome history (λ h. StandsBetween (form_of form) h.now.shows gate offset before after) → IfSome history (λ _. after ≡ [])
      by None stands = tt
      by (Some h) stands = ends_here form h.now.shows gate offset before after stands closed
