-- One batch more on the way to the closed gate, and where the way ends.
use Rattle.std.proofs.Common.{◌≡◌, ◌≢◌, ℕ, ◌+◌, ◌<◌, List, [], ◌∷◌, ◌++◌, length, take, drop, refl, sym, ◌∙◌, ap, subst, arith, append_assoc, append-nil, length-append}
use Rattle.std.proofs.lemmas.List.{take_at, take-append-drop, length-take}
use Rattle.record_rules.specs.Records.{Event}
use Rattle.record_rules.specs.Journal.{Sound}
use Rattle.log_rules.specs.Body.{IsBatch}
use Rattle.log_rules.specs.Opened.{opened_journal}
use Rattle.log_rules.specs.Log.{Form, payload_bytes, batch_bytes, header_bytes, IsLogPrefix, HasHeader, HoldsGoodBatch, DamagedAt}
use Rattle.log_rules.proofs.Logs.{prefix_more}
use Rattle.at_edge.specs.Storing.{DiskSeen, Tells, Rests}
use Rattle.journal_check.specs.Tallies.{Tallies}
use Rattle.log_check.specs.Batches.{BatchShown, BatchFound}
use Rattle.log_check.specs.Walks.{IsLogTo}
use Rattle.log_check.proofs.Telling.{tells_so, tells_both, tells_before}

pub way_begins : (form : Form) (shows : List ℕ) (host : ℕ) → HasHeader form shows host → IsLogPrefix form (take 32 shows) host []
way_begins form shows host has = record { host_fits = has.host_fits; batches = []; opened = tt; events_are = refl; bytes_are = has.header ∙ sym (append-nil (header_bytes form host)) }

-- an open gate there, and what is behind it
abbrev pub OpenThere : (gate : ℕ) → List ℕ → Type 0
OpenThere gate shows = (byte : ℕ) × (byte ≢ 0) × (drop gate shows ≡ byte ∷ drop (gate + 1) shows)

module _ (form : Form) (shows : List ℕ) (host gate : ℕ) (events : List Event) (opened : IsLogPrefix form (take gate shows) host events) (inside : gate < length shows) where
  place : length (take gate shows) ≡ gate
  place = omega (arith, length-take gate shows, inside)

  pub way_on : (next : ℕ) (more : List Event) → OpenThere gate shows → IsBatch more → BatchShown form gate next more shows → IsLogPrefix form (take next shows) host (events ++ more)
  way_on next more (byte, is_open, there) batch shown =
      let payload = payload_bytes form gate more in
      let longer = take gate shows ++ byte ∷ payload in
      let whole : shows ≡ longer ++ drop next shows = sym (take-append-drop gate shows) ∙ ap (λ (l : List ℕ). take gate shows ++ l) (there ∙ ap (λ (l : List ℕ). byte ∷ l) shown.payload_is) ∙ sym (append_assoc (take gate shows) (byte ∷ payload) (drop next shows)) in
      let counted : next ≡ length longer = (let l = length-append (take gate shows) (byte ∷ payload) in let n = shown.next_is in let p = place in omega (arith, l, n, p)) in
      let taken : take next shows ≡ longer = ap (take next) whole ∙ take_at longer (drop next shows) next (sym counted) in
      let batch_is : batch_bytes form (length (take gate shows)) (record { gate = byte; events = more }) ≡ byte ∷ payload = ap (λ (n : ℕ). byte ∷ payload_bytes form n more) place in
      subst (λ (l : List ℕ). IsLogPrefix form l host (events ++ more)) (ap (λ (l : List ℕ). take gate shows ++ l) batch_is ∙ sym taken)
      (prefix_more form (take gate shows) host events (record { gate = byte; events = more }) opened (record { gate = is_open; batch_events = batch }))

  pub way_ends : drop gate shows ≡ 0 ∷ drop (gate + 1) shows → IsLogTo form host gate events shows
  way_ends there = record { opened = opened; bytes_are = sym (take-append-drop gate shows) ∙ ap (λ (l : List ℕ). take gate shows ++ l) there; place = place }

  pub way_damaged : OpenThere gate shows → Sound (opened_journal events) host → (HoldsGoodBatch form gate (drop (gate + 1) shows) host events → ⊥) → DamagedAt form shows gate
  way_damaged (byte, is_open, there) sound bad = record {
    host = host;
    before = events;
    prefix = take gate shows;
    gate = byte;
    rest = drop (gate + 1) shows;
    opened = opened;
    sound = sound;
    bytes_are = sym (take-append-drop gate shows) ∙ ap (λ (l : List ℕ). take gate shows ++ l) there;
    offset_is = sym place;
    gate_open = is_open;
    bad = λ good. bad (subst (λ (n : ℕ). HoldsGoodBatch form n (drop (gate + 1) shows) host events) place good);
  }

-- ---- on a disk that may tell

pub way_begun : (form : Form) (seen : DiskSeen) (host : ℕ) → Tells seen (λ d. HasHeader form d.shows host) → Tells seen (λ d. IsLogPrefix form (take 32 d.shows) host [])
way_begun form seen host header = tells_so seen (λ d. HasHeader form d.shows host) (λ d. IsLogPrefix form (take 32 d.shows) host []) (λ d has. way_begins form d.shows host has) header

-- what is known of a disk at a gate, before it was read and after
record AtGate (form : Form) (host gate end : ℕ) (events : List Event) (shows : List ℕ) : Type 0 where
  opened : IsLogPrefix form (take gate shows) host events
  inside : gate < length shows

module _ (form : Form) (seen : DiskSeen) (host gate end : ℕ) (events : List Event) (whole : Tells seen (λ d. end ≡ length d.shows)) (before_end : gate < end) (opened : Tells seen (λ d. IsLogPrefix form (take gate d.shows) host events)) where
  at_gate : Tells seen (λ d. AtGate form host gate end events d.shows)
  at_gate =
      tells_so seen (λ d. (end ≡ length d.shows) × IsLogPrefix form (take gate d.shows) host events) (λ d. AtGate form host gate end events d.shows)
      (λ d told. record { opened = told.1; inside = (let is = told.0 in omega (arith, is, before_end)) })
      (tells_both seen (λ d. end ≡ length d.shows) (λ d. IsLogPrefix form (take gate d.shows) host events) whole opened)

  pub way_closed : Tells seen (λ d. drop gate d.shows ≡ 0 ∷ drop (gate + 1) d.shows) → Tells seen (λ d. IsLogTo form host gate events d.shows)
  way_closed closed =
      tells_so seen (λ d. AtGate form host gate end events d.shows × (drop gate d.shows ≡ 0 ∷ drop (gate + 1) d.shows)) (λ d. IsLogTo form host gate events d.shows)
      (λ d told. way_ends form d.shows host gate events told.0.opened told.0.inside told.1)
      (tells_both seen (λ d. AtGate form host gate end events d.shows) (λ d. drop gate d.shows ≡ 0 ∷ drop (gate + 1) d.shows) at_gate closed)

  pub way_found : (now : DiskSeen) (next : ℕ) (new : Tallies) → Rests seen now → Tells seen (λ d. OpenThere gate d.shows) → (found : BatchFound form now gate next events new) → Tells seen (λ d. IsLogPrefix form (take next d.shows) host (events ++ found.events))
  way_found now next new rests is_open found =
      tells_so seen (λ d. AtGate form host gate end events d.shows × (OpenThere gate d.shows × BatchShown form gate next found.events d.shows)) (λ d. IsLogPrefix form (take next d.shows) host (events ++ found.events))
      (λ d told. way_on form d.shows host gate events told.0.opened told.0.inside next found.events told.1.0 found.batch told.1.1)
      (tells_both seen (λ d. AtGate form host gate end events d.shows) (λ d. OpenThere gate d.shows × BatchShown form gate next found.events d.shows) at_gate
      (tells_both seen (λ d. OpenThere gate d.shows) (λ d. BatchShown form gate next found.events d.shows) is_open (tells_before seen now (λ d. BatchShown form gate next found.events d.shows) rests found.shown)))

  pub way_bad : (now : DiskSeen) → Rests seen now → Tells seen (λ d. OpenThere gate d.shows) → Sound (opened_journal events) host → Tells now (λ d. HoldsGoodBatch form gate (drop (gate + 1) d.shows) host events → ⊥) → Tells seen (λ d. DamagedAt form d.shows gate)
  way_bad now rests is_open sound bad =
      tells_so seen (λ d. AtGate form host gate end events d.shows × (OpenThere gate d.shows × (HoldsGoodBatch form gate (drop (gate + 1) d.shows) host events → ⊥))) (λ d. DamagedAt form d.shows gate)
      (λ d told. way_damaged form d.shows host gate events told.0.opened told.0.inside told.1.0 sound told.1.1)
      (tells_both seen (λ d. AtGate form host gate end events d.shows) (λ d. OpenThere gate d.shows × (HoldsGoodBatch form gate (drop (gate + 1) d.shows) host events → ⊥)) at_gate
      (tells_both seen (λ d. OpenThere gate d.shows) (λ d. HoldsGoodBatch form gate (drop (gate + 1) d.shows) host events → ⊥) is_open (tells_before seen now (λ d. HoldsGoodBatch form gate (drop (gate + 1) d.shows) host events → ⊥) rests bad)))
