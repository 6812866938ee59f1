-- Two ways of reading one file agree as far as the shorter of them goes.
use Rattle.std.proofs.Common.{◌≡◌, ◌≢◌, ℕ, ◌+◌, ◌<◌, ◌^◌, ◌⊎◌, inl, inr, List, [], ◌∷◌, ◌++◌, length, get_or, take, drop, refl, sym, ◌∙◌, ap, subst, arith, append_assoc, length-append}
use Rattle.std.specs.Prelude.{replicate}
use Rattle.std.specs.List.{AllByRecursion}
use Rattle.std.proofs.lemmas.List.{append-nil, map-append}
use Rattle.std.proofs.lemmas.Grind.{flat_map-append}
use Rattle.record_rules.specs.Records.{Entry, Event}
use Rattle.record_rules.specs.Journal.{events_of, Sound}
use Rattle.log_rules.specs.Body.{IsBatch, body_bytes}
use Rattle.log_rules.specs.Log.{Form, Batch, IsOpenBatch, batch_bytes, batches_bytes, payload_bytes, events_in, header_bytes, IsLogPrefix, StandsFor, HasHeader, HasNoHeader, HoldsGoodBatch, DamagedAt}
use Rattle.log_rules.proofs.Fields.{number_16, body_apart}
use Rattle.log_rules.specs.Opened.{opened_journal}
use Rattle.log_rules.proofs.Callers.{opened_sound, opened_sound_first}

-- ---- parts of a file

batch_apart : (form : Form) (at : ℕ) (batch other : Batch) (rest more : List ℕ) → IsOpenBatch batch → IsOpenBatch other → batch_bytes form at batch ++ rest ≡ batch_bytes form at other ++ more → (batch ≡ other) × (rest ≡ more)
batch_apart form at batch other rest more is other_is e =
    let digest = form.digest at (body_bytes batch.events) in
    let other_digest = form.digest at (body_bytes other.events) in
    let gates : batch.gate ≡ other.gate = ap (λ (l : List ℕ). get_or l 0 0) e in
    let tails : (body_bytes batch.events ++ digest) ++ rest ≡ (body_bytes other.events ++ other_digest) ++ more = ap (λ (l : List ℕ). drop 5 l) e in
    let bodies = body_apart batch.events other.events (digest ++ rest) (other_digest ++ more) is.batch_events other_is.batch_events (sym (append_assoc (body_bytes batch.events) digest rest) ∙ tails ∙ append_assoc (body_bytes other.events) other_digest more) in
    (λ i. record { gate = gates i; events = bodies.0 i }, after_digest digest rest more (bodies.1 ∙ ap (λ (events : List Event). form.digest at (body_bytes events) ++ more) (sym bodies.0)))
  where
    after_digest : (digest rest more : List ℕ) → digest ++ rest ≡ digest ++ more → rest ≡ more
    after_digest [] rest more e = e
    after_digest (byte ∷ digest) rest more e = after_digest digest rest more (ap (λ (l : List ℕ). drop 1 l) e)

header_apart : (form : Form) (host other : ℕ) (rest more : List ℕ) → host < 2 ^ 128 → other < 2 ^ 128 → header_bytes form host ++ rest ≡ header_bytes form other ++ more → (host ≡ other) × (rest ≡ more)
header_apart form host other rest more fits other_fits e =
    let behind = number_16 host other (replicate 8 0 ++ rest) (replicate 8 0 ++ more) fits other_fits (ap (λ (l : List ℕ). drop 8 l) e) in
    (behind.0, ap (λ (l : List ℕ). drop 8 l) behind.1)

-- batches behind batches
pub batches_append : (form : Form) (at : ℕ) (batches further : List Batch) → batches_bytes form at (batches ++ further) ≡ batches_bytes form at batches ++ batches_bytes form (at + length (batches_bytes form at batches)) further
batches_append form at [] further = ap (λ (n : ℕ). batches_bytes form n further) (omega arith)
batches_append form at (batch ∷ batches) further =
    let first = batch_bytes form at batch in
    let later = batches_bytes form (at + length first) batches in
    let place : (at + length first) + length later ≡ at + length (first ++ later) = omega (arith, length-append first later) in
    ap (λ (l : List ℕ). first ++ l) (batches_append form (at + length first) batches further) ∙ sym (append_assoc first later (batches_bytes form ((at + length first) + length later) further)) ∙ ap (λ (n : ℕ). (first ++ later) ++ batches_bytes form n further) place

-- the longer batches, the first of which has its gate at the offset, are the shorter ones and further open ones, which stand behind those
record Longer (form : Form) (at : ℕ) (longer shorter : List Batch) (behind_shorter behind_longer : List ℕ) : Type 0 where
  further : List Batch
  opened : AllByRecursion IsOpenBatch further
  are : longer ≡ shorter ++ further
  bytes_are : behind_shorter ≡ batches_bytes form (at + length (batches_bytes form at shorter)) further ++ behind_longer

-- the same with one more batch before both
longer_more : (form : Form) (at : ℕ) (batch : Batch) (longer shorter : List Batch) (rest more : List ℕ) → Longer form (at + length (batch_bytes form at batch)) longer shorter rest more → Longer form at (batch ∷ longer) (batch ∷ shorter) rest more
longer_more form at batch longer shorter rest more l =
    let first = batch_bytes form at batch in
    let later = batches_bytes form (at + length first) shorter in
    let place : (at + length first) + length later ≡ at + length (first ++ later) = omega (arith, length-append first later) in
    record {
      further = l.further;
      opened = l.opened;
      are = ap (λ (batches : List Batch). batch ∷ batches) l.are;
      bytes_are = l.bytes_are ∙ ap (λ (n : ℕ). batches_bytes form n l.further ++ more) place;
    }

compared : (form : Form) (at : ℕ) (batches others : List Batch) (rest more : List ℕ) → AllByRecursion IsOpenBatch batches → AllByRecursion IsOpenBatch others → batches_bytes form at batches ++ rest ≡ batches_bytes form at others ++ more → Longer form at others batches rest more ⊎ Longer form at batches others more rest
compared form at [] others rest more opened others_opened e = inl (record { further = others; opened = others_opened; are = refl; bytes_are = e ∙ ap (λ (n : ℕ). batches_bytes form n others ++ more) (omega arith) })
compared form at (batch ∷ batches) [] rest more opened others_opened e = inr (record { further = batch ∷ batches; opened = opened; are = refl; bytes_are = sym e ∙ ap (λ (n : ℕ). batches_bytes form n (batch ∷ batches) ++ rest) (omega arith) })
compared form at (batch ∷ batches) (other ∷ others) rest more opened others_opened e =
    let next = at + length (batch_bytes form at batch) in
    let other_next = at + length (batch_bytes form at other) in
    let first = batch_apart form at batch other (batches_bytes form next batches ++ rest) (batches_bytes form other_next others ++ more) opened.0 others_opened.0 (sym (append_assoc (batch_bytes form at batch) (batches_bytes form next batches) rest) ∙ e ∙ append_assoc (batch_bytes form at other) (batches_bytes form other_next others) more) in
    let tails : batches_bytes form next batches ++ rest ≡ batches_bytes form next others ++ more = first.1 ∙ ap (λ (b : Batch). batches_bytes form (at + length (batch_bytes form at b)) others ++ more) (sym first.0) in
    elim (compared form next batches others rest more opened.1 others_opened.1 tails) [
      | inl l ↦ inl (subst (λ (b : Batch). Longer form at (b ∷ others) (batch ∷ batches) rest more) first.0 (longer_more form at batch others batches rest more l))
      | inr l ↦ inr (subst (λ (b : Batch). Longer form at (batch ∷ batches) (b ∷ others) more rest) first.0 (longer_more form at batch batches others more rest l))
    ]

-- two prefixes of one file
prefixes_compared : (form : Form) (prefix other : List ℕ) (host at : ℕ) (events others : List Event) (rest more : List ℕ) (is : IsLogPrefix form prefix host events) (other_is : IsLogPrefix form other at others) → prefix ++ rest ≡ other ++ more
    → (host ≡ at) × (Longer form 32 other_is.batches is.batches rest more ⊎ Longer form 32 is.batches other_is.batches more rest)
prefixes_compared form prefix other host at events others rest more is other_is e =
    let one : prefix ++ rest ≡ header_bytes form host ++ (batches_bytes form 32 is.batches ++ rest) = ap (λ (l : List ℕ). l ++ rest) is.bytes_are ∙ append_assoc (header_bytes form host) (batches_bytes form 32 is.batches) rest in
    let two : other ++ more ≡ header_bytes form at ++ (batches_bytes form 32 other_is.batches ++ more) = ap (λ (l : List ℕ). l ++ more) other_is.bytes_are ∙ append_assoc (header_bytes form at) (batches_bytes form 32 other_is.batches) more in
    let behind = header_apart form host at (batches_bytes form 32 is.batches ++ rest) (batches_bytes form 32 other_is.batches ++ more) is.host_fits other_is.host_fits (sym one ∙ e ∙ two) in
    (behind.0, compared form 32 is.batches other_is.batches rest more is.opened other_is.opened behind.1)

-- where the batches of a prefix end
pub prefix_ends : (form : Form) (prefix : List ℕ) (host : ℕ) (events : List Event) (is : IsLogPrefix form prefix host events) → length prefix ≡ 32 + length (batches_bytes form 32 is.batches)
prefix_ends form prefix host events is = ap (λ (l : List ℕ). length l) is.bytes_are ∙ length-append (header_bytes form host) (batches_bytes form 32 is.batches)

-- no open batch stands at a closed gate
none_at_closed : (form : Form) (at : ℕ) (further : List Batch) (rest more : List ℕ) → AllByRecursion IsOpenBatch further → 0 ∷ rest ≡ batches_bytes form at further ++ more → further ≡ []
none_at_closed form at [] rest more opened e = refl
none_at_closed form at (batch ∷ further) rest more opened e = absurd (opened.0.gate (sym (ap (λ (l : List ℕ). get_or l 0 0) e)))

-- without further ones, the batches are the same and so is what follows
no_further : (form : Form) (at : ℕ) (longer shorter : List Batch) (rest more : List ℕ) (l : Longer form at longer shorter rest more) → l.further ≡ [] → (longer ≡ shorter) × (rest ≡ more)
no_further form at longer shorter rest more l none = (
  l.are ∙ ap (λ (further : List Batch). shorter ++ further) none ∙ append-nil shorter,
  l.bytes_are ∙ ap (λ (further : List Batch). batches_bytes form (at + length (batches_bytes form at shorter)) further ++ more) none,
)

no_longer : (form : Form) (at : ℕ) (longer shorter : List Batch) (rest more : List ℕ) → Longer form at longer shorter (0 ∷ rest) more → (longer ≡ shorter) × (0 ∷ rest ≡ more)
no_longer form at longer shorter rest more l = no_further form at longer shorter (0 ∷ rest) more l (none_at_closed form (at + length (batches_bytes form at shorter)) l.further rest more l.opened l.bytes_are)

-- ---- one journal

pub one_journal : (form : Form) (bytes : List ℕ) (host other : ℕ) (journal another : List Entry) → StandsFor form bytes host journal → StandsFor form bytes other another → (host ≡ other) × (events_of journal ≡ events_of another)
one_journal form bytes host other journal another stands also =
    let both = prefixes_compared form stands.prefix also.prefix host other (events_of journal) (events_of another) (0 ∷ stands.behind) (0 ∷ also.behind) stands.opened also.opened (sym stands.bytes_are ∙ also.bytes_are) in
    let same : stands.opened.batches ≡ also.opened.batches = elim both.1 [
      | inl l ↦ sym (no_longer form 32 also.opened.batches stands.opened.batches stands.behind (0 ∷ also.behind) l).0
      | inr l ↦ (no_longer form 32 stands.opened.batches also.opened.batches also.behind (0 ∷ stands.behind) l).0
    ] in
    (both.0, sym stands.opened.events_are ∙ ap events_in same ∙ also.opened.events_are)

-- ---- one more batch

all_push : (batches : List Batch) (batch : Batch) → AllByRecursion IsOpenBatch batches → IsOpenBatch batch → AllByRecursion IsOpenBatch (batches ++ batch ∷ [])
all_push [] batch opened is = (is, tt)
all_push (first ∷ batches) batch opened is = (opened.0, all_push batches batch opened.1 is)

pub prefix_more : (form : Form) (prefix : List ℕ) (host : ℕ) (events : List Event) (batch : Batch) → IsLogPrefix form prefix host events → IsOpenBatch batch → IsLogPrefix form (prefix ++ batch_bytes form (length prefix) batch) host (events ++ batch.events)
prefix_more form prefix host events batch is opened =
    let before = batches_bytes form 32 is.batches in
    let last : batches_bytes form (32 + length before) (batch ∷ []) ≡ batch_bytes form (length prefix) batch =
    ap (λ (n : ℕ). batches_bytes form n (batch ∷ [])) (sym (prefix_ends form prefix host events is)) ∙ append-nil (batch_bytes form (length prefix) batch) in
    record {
      host_fits = is.host_fits;
      batches = is.batches ++ batch ∷ [];
      opened = all_push is.batches batch is.opened opened;
      events_are = flat_map-append (λ (b : Batch). b.events) is.batches (batch ∷ []) ∙ (λ i. is.events_are i ++ append-nil batch.events i);
      bytes_are = ap (λ (l : List ℕ). l ++ batch_bytes form (length prefix) batch) is.bytes_are ∙ append_assoc (header_bytes form host) before (batch_bytes form (length prefix) batch)
          ∙ ap (λ (l : List ℕ). header_bytes form host ++ l) (ap (λ (l : List ℕ). before ++ l) (sym last) ∙ sym (batches_append form 32 is.batches (batch ∷ [])));
    }

pub open_gate_is_prefix : (form : Form) (prefix : List ℕ) (host gate : ℕ) (journal more : List Entry) → IsLogPrefix form prefix host (events_of journal) → IsBatch (events_of more) → gate ≢ 0
    → IsLogPrefix form (prefix ++ batch_bytes form (length prefix) (record { gate = gate; events = events_of more })) host (events_of (journal ++ more))
open_gate_is_prefix form prefix host gate journal more is batch opened =
    subst (λ (events : List Event). IsLogPrefix form (prefix ++ batch_bytes form (length prefix) (record { gate = gate; events = events_of more })) host events) (sym (map-append (λ (e : Entry). e.event) journal more))
    (prefix_more form prefix host (events_of journal) (record { gate = gate; events = events_of more }) is (record { gate = opened; batch_events = batch }))

pub open_gate_adds : (form : Form) (prefix behind : List ℕ) (host gate : ℕ) (journal more : List Entry) → IsLogPrefix form prefix host (events_of journal) → IsBatch (events_of more) → Sound (journal ++ more) host → gate ≢ 0
    → StandsFor form (prefix ++ batch_bytes form (length prefix) (record { gate = gate; events = events_of more }) ++ 0 ∷ behind) host (journal ++ more)
open_gate_adds form prefix behind host gate journal more is batch sound opened = record {
  prefix = prefix ++ batch_bytes form (length prefix) (record { gate = gate; events = events_of more });
  behind = behind;
  opened = open_gate_is_prefix form prefix host gate journal more is batch opened;
  bytes_are = refl;
  sound = sound;
}

pub closed_gate_hides : (form : Form) (prefix behind : List ℕ) (host : ℕ) (journal : List Entry) (events : List Event) → IsLogPrefix form prefix host (events_of journal) → Sound journal host
    → StandsFor form (prefix ++ batch_bytes form (length prefix) (record { gate = 0; events = events }) ++ behind) host journal
closed_gate_hides form prefix behind host journal events is sound = record {
  prefix = prefix;
  behind = payload_bytes form (length prefix) events ++ behind;
  opened = is;
  bytes_are = append_assoc prefix (batch_bytes form (length prefix) (record { gate = 0; events = events })) behind;
  sound = sound;
}

-- ---- no bytes are two of the three

pub prefix_is_a_log : (form : Form) (prefix : List ℕ) (host : ℕ) (events : List Event) (gate : ℕ) (rest : List ℕ) → IsLogPrefix form prefix host events → HasNoHeader form (prefix ++ gate ∷ rest) → ⊥
prefix_is_a_log form prefix host events gate rest is not =
    let body = batches_bytes form 32 is.batches ++ gate ∷ rest in
    let bytes : prefix ++ gate ∷ rest ≡ header_bytes form host ++ body = ap (λ (l : List ℕ). l ++ gate ∷ rest) is.bytes_are ∙ append_assoc (header_bytes form host) (batches_bytes form 32 is.batches) (gate ∷ rest) in
    elim not [
      | inl short ↦
          let all : length (prefix ++ gate ∷ rest) ≡ length (header_bytes form host ++ body) = ap (λ (l : List ℕ). length l) bytes in
          let some : length body ≡ length (batches_bytes form 32 is.batches) + (1 + length rest) = length-append (batches_bytes form 32 is.batches) (gate ∷ rest) ∙ omega arith in
          omega arith
      | inr other ↦ other host is.host_fits (ap (λ (l : List ℕ). take 32 l) bytes)
    ]

-- behind an open gate, either the batches end or a good one follows
followed : (form : Form) (at : ℕ) (further : List Batch) (host gate next : ℕ) (before : List Event) (rest more : List ℕ) → AllByRecursion IsOpenBatch further → gate ∷ rest ≡ batches_bytes form at further ++ next ∷ more → Sound (opened_journal (before ++ events_in further)) host → (further ≡ []) ⊎ HoldsGoodBatch form at rest host before
followed form at [] host gate next before rest more opened e sound = inl refl
followed form at (batch ∷ further) host gate next before rest more opened e sound =
    let behind_first = batches_bytes form (at + length (batch_bytes form at batch)) further in
    let tail : rest ≡ payload_bytes form at batch.events ++ (behind_first ++ next ∷ more) = ap (λ (l : List ℕ). drop 1 l) (e ∙ append_assoc (batch_bytes form at batch) behind_first (next ∷ more)) in
    let ends = next_gate form (at + length (batch_bytes form at batch)) further next more in
    inr (record {
      events = batch.events;
      gate = ends.0;
      behind = ends.1;
      batch = opened.0.batch_events;
      bytes_are = tail ∙ ap (λ (l : List ℕ). payload_bytes form at batch.events ++ l) ends.2;
      sound = opened_sound_first (before ++ batch.events) (events_in further) host (subst (λ (events : List Event). Sound (opened_journal events) host) (sym (append_assoc before batch.events (events_in further))) sound);
    })
  where
    next_gate : (form : Form) (at : ℕ) (further : List Batch) (next : ℕ) (more : List ℕ) → (gate : ℕ) × (behind : List ℕ) × (batches_bytes form at further ++ next ∷ more ≡ gate ∷ behind)
    next_gate form at [] next more = (next, more, refl)
    next_gate form at (batch ∷ further) next more = (batch.gate, (payload_bytes form at batch.events ++ batches_bytes form (at + length (batch_bytes form at batch)) further) ++ next ∷ more, refl)

-- the longer batches are sound, so they are no longer than those before a damaged one
not_longer : (form : Form) (at : ℕ) (longer shorter : List Batch) (host gate next : ℕ) (rest more : List ℕ) → Longer form at longer shorter (gate ∷ rest) (next ∷ more) → Sound (opened_journal (events_in longer)) host → (HoldsGoodBatch form (at + length (batches_bytes form at shorter)) rest host (events_in shorter) → ⊥) → (longer ≡ shorter) × (gate ∷ rest ≡ next ∷ more)
not_longer form at longer shorter host gate next rest more l sound bad =
    let all : Sound (opened_journal (events_in shorter ++ events_in l.further)) host = subst (λ (events : List Event). Sound (opened_journal events) host) (ap events_in l.are ∙ flat_map-append (λ (b : Batch). b.events) shorter l.further) sound in
    elim (followed form (at + length (batches_bytes form at shorter)) l.further host gate next (events_in shorter) rest more l.opened l.bytes_are all) [
      | inl none ↦ no_further form at longer shorter (gate ∷ rest) (next ∷ more) l none
      | inr good ↦ absurd (bad good)
    ]

-- what isn't good at the damaged batch, in other words for the same
bad_at : (form : Form) (bytes : List ℕ) (offset host : ℕ) (d : DamagedAt form bytes offset) → d.host ≡ host → HoldsGoodBatch form (32 + length (batches_bytes form 32 d.opened.batches)) d.rest host (events_in d.opened.batches) → ⊥
bad_at form bytes offset host d same good =
    d.bad (subst (λ (at : ℕ). HoldsGoodBatch form at d.rest d.host d.before) (sym (prefix_ends form d.prefix d.host d.before d.opened)) (subst (λ (at : ℕ). HoldsGoodBatch form (32 + length (batches_bytes form 32 d.opened.batches)) d.rest at d.before) (sym same) (subst (λ (events : List Event). HoldsGoodBatch form (32 + length (batches_bytes form 32 d.opened.batches)) d.rest host events) d.opened.events_are good)))

pub standing_is_whole : (form : Form) (bytes : List ℕ) (host offset : ℕ) (journal : List Entry) → StandsFor form bytes host journal → DamagedAt form bytes offset → ⊥
standing_is_whole form bytes host offset journal stands d =
    let both = prefixes_compared form stands.prefix d.prefix host d.host (events_of journal) d.before (0 ∷ stands.behind) (d.gate ∷ d.rest) stands.opened d.opened (sym stands.bytes_are ∙ d.bytes_are) in
    elim both.1 [
      | inl l ↦ d.gate_open (sym (ap (λ (b : List ℕ). get_or b 0 0) (no_longer form 32 d.opened.batches stands.opened.batches stands.behind (d.gate ∷ d.rest) l).1))
      | inr l ↦
          let sound : Sound (opened_journal (events_in stands.opened.batches)) host = opened_sound journal (events_in stands.opened.batches) host (sym stands.opened.events_are) stands.sound in
          d.gate_open (ap (λ (b : List ℕ). get_or b 0 0) (not_longer form 32 stands.opened.batches d.opened.batches host d.gate 0 d.rest stands.behind l sound (bad_at form bytes offset host d (sym both.0))).1)
    ]

pub standing_is_a_log : (form : Form) (bytes : List ℕ) (host : ℕ) (journal : List Entry) → StandsFor form bytes host journal → HasNoHeader form bytes → ⊥
standing_is_a_log form bytes host journal stands not = prefix_is_a_log form stands.prefix host (events_of journal) 0 stands.behind stands.opened (subst (HasNoHeader form) stands.bytes_are not)

pub damaged_is_a_log : (form : Form) (bytes : List ℕ) (offset : ℕ) → DamagedAt form bytes offset → HasNoHeader form bytes → ⊥
damaged_is_a_log form bytes offset d not = prefix_is_a_log form d.prefix d.host d.before d.gate d.rest d.opened (subst (HasNoHeader form) d.bytes_are not)

pub damaged_at_one : (form : Form) (bytes : List ℕ) (offset other : ℕ) → DamagedAt form bytes offset → DamagedAt form bytes other → offset ≡ other
damaged_at_one form bytes offset other d also =
    let both = prefixes_compared form d.prefix also.prefix d.host also.host d.before also.before (d.gate ∷ d.rest) (also.gate ∷ also.rest) d.opened also.opened (sym d.bytes_are ∙ also.bytes_are) in
    let sound : Sound (opened_journal (events_in d.opened.batches)) also.host = subst (λ (host : ℕ). Sound (opened_journal (events_in d.opened.batches)) host) both.0 (subst (λ (events : List Event). Sound (opened_journal events) d.host) (sym d.opened.events_are) d.sound) in
    let also_sound : Sound (opened_journal (events_in also.opened.batches)) d.host = subst (λ (host : ℕ). Sound (opened_journal (events_in also.opened.batches)) host) (sym both.0) (subst (λ (events : List Event). Sound (opened_journal events) also.host) (sym also.opened.events_are) also.sound) in
    let same : d.opened.batches ≡ also.opened.batches = elim both.1 [
      | inl l ↦ sym (not_longer form 32 also.opened.batches d.opened.batches d.host d.gate also.gate d.rest also.rest l also_sound (bad_at form bytes offset d.host d refl)).0
      | inr l ↦ (not_longer form 32 d.opened.batches also.opened.batches also.host also.gate d.gate also.rest d.rest l sound (bad_at form bytes other also.host also refl)).0
    ] in
    let prefixes : d.prefix ≡ also.prefix = d.opened.bytes_are ∙ (λ i. header_bytes form (both.0 i) ++ batches_bytes form 32 (same i)) ∙ sym also.opened.bytes_are in
    d.offset_is ∙ ap (λ (l : List ℕ). length l) prefixes ∙ sym also.offset_is

-- ---- headers

-- the bytes of a log begin with its header
whole_header : (form : Form) (prefix : List ℕ) (host : ℕ) (events : List Event) (gate : ℕ) (rest : List ℕ) → IsLogPrefix form prefix host events → HasHeader form (prefix ++ gate ∷ rest) host
whole_header form prefix host events gate rest is =
    let body = batches_bytes form 32 is.batches ++ gate ∷ rest in
    let bytes : prefix ++ gate ∷ rest ≡ header_bytes form host ++ body = ap (λ (l : List ℕ). l ++ gate ∷ rest) is.bytes_are ∙ append_assoc (header_bytes form host) (batches_bytes form 32 is.batches) (gate ∷ rest) in
    let all : length (prefix ++ gate ∷ rest) ≡ length (header_bytes form host ++ body) = ap (λ (l : List ℕ). length l) bytes in
    let some : length body ≡ length (batches_bytes form 32 is.batches) + (1 + length rest) = length-append (batches_bytes form 32 is.batches) (gate ∷ rest) ∙ omega arith in
    record { long = omega arith; host_fits = is.host_fits; header = ap (λ (l : List ℕ). take 32 l) bytes }

pub standing_has_header : (form : Form) (bytes : List ℕ) (host : ℕ) (journal : List Entry) → StandsFor form bytes host journal → HasHeader form bytes host
standing_has_header form bytes host journal stands = subst (λ (b : List ℕ). HasHeader form b host) (sym stands.bytes_are) (whole_header form stands.prefix host (events_of journal) 0 stands.behind stands.opened)

pub damaged_has_header : (form : Form) (bytes : List ℕ) (offset : ℕ) (d : DamagedAt form bytes offset) → HasHeader form bytes d.host
damaged_has_header form bytes offset d = subst (λ (b : List ℕ). HasHeader form b d.host) (sym d.bytes_are) (whole_header form d.prefix d.host d.before d.gate d.rest d.opened)

pub forms_apart : (form other : Form) (bytes : List ℕ) (host : ℕ) → form.digit ≢ other.digit → HasHeader form bytes host → HasNoHeader other bytes
forms_apart form other bytes host differ has = inr (λ at fits e. differ (ap (λ (l : List ℕ). get_or l 7 0) (sym has.header ∙ e)))
