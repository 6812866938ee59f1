-- What the two halves of an append mean for the journal.
use Rattle.std.proofs.Common.{◌≡◌, ℕ, ◌+◌, ◌-◌, ◌^◌, inl, inr, List, [], ◌∷◌, ◌++◌, length, take, replicate, append_assoc, sym, ◌∙◌, ap, subst, arith, Option, Some, None, Result, Ok, Err, length-append}
use Rattle.std.specs.Prelude.{IfSome, min}
use Rattle.std.specs.Int.{w32, to_be_bytes}
use Rattle.std.proofs.lemmas.List.{length-replicate, take_at, append-nil}
use Rattle.record_rules.specs.Records.{Entry}
use Rattle.record_rules.specs.Journal.{events_of, Sound}
use Rattle.record_rules.proofs.Prefixes.{Sound-prefix}
use Rattle.log_rules.specs.Body.{body_bytes, IsBatch}
use Rattle.log_rules.specs.Log.{Form, batch_digest, current_form, payload_bytes, IsLogPrefix, StandsFor}
use Rattle.log_rules.proofs.Logs.{open_gate_is_prefix}
use Rattle.log_rules.proofs.Digests.{digest_length}
use Rattle.disk_rules.specs.Disk.{Disk}
use Rattle.disk_rules.specs.Append.{IsSettled, IsInDoubt}
use Rattle.disk_rules.specs.History.{History, Images}
use Rattle.disk_rules.proofs.Settle.{doubt_leaves}
use Rattle.disk_rules.proofs.Settled.{settled_with_batch, settled_shows}
use Rattle.disk_rules.proofs.Calls.{shows_is_left}
use Rattle.disk_rules.proofs.Steps.{doubt_inside}
use Rattle.crash_rules.specs.Laws.{IsBeforeOrAfter}
use Rattle.crash_rules.proofs.Crash.{stands_before, stands_after}
use Rattle.at_edge.specs.Storing.{DiskSeen, Arrives, IsMeasurable}
use Rattle.at_edge.proofs.DiskRuns.{arrived, arrives_then, arrives_weaker}
use Rattle.record_log.specs.Gates.{IsAtRest, IsDoubtful, IsUncertain, payload_in}
use Rattle.record_log.specs.Ready.{ReadyBatch, batch_payload, closed_batch}
use Rattle.record_log.specs.Journals.{HoldsAt, DoubtsAt, LogSeen, KeepsBelow, Settles, Appends}
use Rattle.record_log.specs.Reading.{BatchBefore}
use Rattle.record_log.specs.declared.spots.Spot.{Spot}

-- ---- images

pub uncertain_images : (form : Form) (prefix : List ℕ) (host : ℕ) (journal more : List Entry) (disk : Disk) → IsLogPrefix form prefix host (events_of journal) → IsBatch (events_of more) → Sound (journal ++ more) host
    → IsUncertain prefix (payload_bytes form (length prefix) (events_of more)) disk → Images (IsBeforeOrAfter form host journal more) disk
uncertain_images form prefix host journal more disk opened batch sound (inl settled) left is = inl (stands_before form prefix left host journal opened (Sound-prefix journal more host sound) (settled.images left is))
uncertain_images form prefix host journal more disk opened batch sound (inr (inl doubt)) left is =
    elim (doubt_leaves prefix (payload_bytes form (length prefix) (events_of more)) disk left doubt is) [
      | inl before ↦ inl (stands_before form prefix left host journal opened (Sound-prefix journal more host sound) before)
      | inr after ↦ inr (stands_after form prefix left host journal more opened batch sound after)
    ]
uncertain_images form prefix host journal more disk opened batch sound (inr (inr settled)) left is =
    inr (stands_after form prefix left host journal more opened batch sound (settled_with_batch prefix (payload_bytes form (length prefix) (events_of more)) left (settled.images left is)))

-- ---- the second half

-- a prefix where none is told
abbrev zeros : ℕ → List ℕ
zeros n = replicate n 0

length-zeros : (n : ℕ) → length (zeros n) ≡ n
length-zeros n = length-replicate n 0

-- the offset of the gate behind a batch, whose body has so many bytes
abbrev next_gate : ℕ → ℕ → ℕ
next_gate gate count = min (min (gate + 21) (2 ^ 64 - 1) + count) (2 ^ 64 - 1)

pub settle_done : (form : Form) (gate count next host : ℕ) (journal more : List Entry) (old new : Option History) → IfSome old (λ h. IsDoubtful gate (20 + count) h.now) → 20 + count ≡ length (payload_bytes form gate (events_of more)) → next ≡ next_gate gate count
    → IfSome old (λ h. DoubtsAt form gate host journal more h.now)
    → ((prefix payload : List ℕ) → (length prefix ≡ gate) × IfSome old (λ h. IsInDoubt prefix payload h.now) → Arrives (IsUncertain prefix payload) (IsSettled (prefix ++ 1 ∷ payload)) old new)
    → Arrives (Images (IsBeforeOrAfter form host journal more)) (HoldsAt form next host (journal ++ more)) old new
settle_done form gate count next host journal more None new doubtful count_is next_is doubts opens = opens (zeros gate) [] (length-zeros gate, tt)
settle_done form gate count next host journal more (Some old) new doubtful count_is next_is doubts opens =
    let prefix = doubts.prefix in
    let payload = payload_bytes form (length prefix) (events_of more) in
    let log = doubts.log in
    let fits = doubtful.fits in
    let long : length (prefix ++ 1 ∷ payload) ≡ length prefix + (1 + length payload) = length-append prefix (1 ∷ payload) ∙ omega arith in
    let counted : length payload ≡ 20 + count = ap (λ (n : ℕ). length (payload_bytes form n (events_of more))) doubts.place ∙ sym count_is in
    let place : length (prefix ++ 1 ∷ payload) ≡ next = omega (arith, long, counted, next_is, fits, doubts.place) in
    arrives_weaker (Images (IsBeforeOrAfter form host journal more)) (IsUncertain prefix payload) (HoldsAt form next host (journal ++ more)) (IsSettled (prefix ++ 1 ∷ payload)) (Some old) new
    (λ disk so. uncertain_images form prefix host journal more disk log.opened log.batch log.sound so)
    (λ disk so. record { prefix = prefix ++ 1 ∷ payload; place = place; log = record { settled = so; opened = open_gate_is_prefix form prefix host 1 journal more log.opened log.batch (λ e. absurd (omega arith)); sound = log.sound } })
    (opens prefix payload (doubts.place, log.doubt))

pub settle_fails : (form : Form) (gate host : ℕ) (journal more : List Entry) (old new : Option History) → IfSome old (λ h. DoubtsAt form gate host journal more h.now)
    → ((prefix payload : List ℕ) → (length prefix ≡ gate) × IfSome old (λ h. IsInDoubt prefix payload h.now) → Arrives (IsUncertain prefix payload) (IsInDoubt prefix payload) old new)
    → Arrives (Images (IsBeforeOrAfter form host journal more)) (DoubtsAt form gate host journal more) old new
settle_fails form gate host journal more None new doubts opens = opens (zeros gate) [] (length-zeros gate, tt)
settle_fails form gate host journal more (Some old) new doubts opens =
    let prefix = doubts.prefix in
    let payload = payload_bytes form (length prefix) (events_of more) in
    let log = doubts.log in
    arrives_weaker (Images (IsBeforeOrAfter form host journal more)) (IsUncertain prefix payload) (DoubtsAt form gate host journal more) (IsInDoubt prefix payload) (Some old) new
    (λ disk so. uncertain_images form prefix host journal more disk log.opened log.batch log.sound so)
    (λ disk so. record { prefix = prefix; place = doubts.place; log = record { doubt = so; opened = log.opened; batch = log.batch; sound = log.sound } })
    (opens prefix payload (doubts.place, log.doubt))

-- any further moments, and what the last one is no longer said
pub no_end : (through at_end : Disk → Type 0) (old new : Option History) → Arrives through at_end old new → Arrives through (λ _. Unit {0}) old new
no_end through at_end old new run = arrives_weaker through through (λ _. Unit {0}) at_end old new (λ disk so. so) (λ disk so. tt) run

-- ---- the invariant after each

-- after the second half the log is at rest
pub settled_rests : (gate count next : ℕ) (old new : Option History) → IfSome old (λ h. IsDoubtful gate (20 + count) h.now) → next ≡ next_gate gate count
    → ((prefix payload : List ℕ) → (length prefix ≡ gate) × IfSome old (λ h. IsInDoubt prefix payload h.now) → Arrives (IsUncertain prefix payload) (IsSettled (prefix ++ 1 ∷ payload)) old new)
    → IfSome new (λ h. IsAtRest next h.now)
settled_rests gate count next None new doubtful next_is opens = subst (λ (seen : Option History). IfSome seen (λ h. IsAtRest next h.now)) (sym (opens (zeros gate) [] (length-zeros gate, tt))) tt
settled_rests gate count next (Some old) new doubtful next_is opens =
    let prefix = doubtful.prefix in
    let payload = doubtful.payload in
    let fits = doubtful.fits in
    let place = doubtful.gate_is in
    let counted = doubtful.count_is in
    let run = opens prefix payload (sym doubtful.gate_is, doubtful.doubt) in
    let long : length (prefix ++ 1 ∷ payload) ≡ length prefix + (1 + length payload) = length-append prefix (1 ∷ payload) ∙ omega arith in
    let there : next ≡ length (prefix ++ 1 ∷ payload) = omega (arith, long, counted, next_is, fits, place) in
    subst (λ (seen : Option History). IfSome seen (λ h. IsAtRest next h.now)) (sym run.1) (record { prefix = prefix ++ 1 ∷ payload; gate_is = there; settled = run.3; fits = omega (arith, long, counted, next_is, fits, place) })

pub doubt_rests : (gate count : ℕ) (old new : Option History) → IfSome old (λ h. IsDoubtful gate count h.now)
    → ((prefix payload : List ℕ) → (length prefix ≡ gate) × IfSome old (λ h. IsInDoubt prefix payload h.now) → Arrives (IsUncertain prefix payload) (IsInDoubt prefix payload) old new)
    → IfSome new (λ h. IsDoubtful gate count h.now)
doubt_rests gate count None new doubtful opens = subst (λ (seen : Option History). IfSome seen (λ h. IsDoubtful gate count h.now)) (sym (opens (zeros gate) [] (length-zeros gate, tt))) tt
doubt_rests gate count (Some old) new doubtful opens =
    let run = opens doubtful.prefix doubtful.payload (sym doubtful.gate_is, doubtful.doubt) in
    subst (λ (seen : Option History). IfSome seen (λ h. IsDoubtful gate count h.now)) (sym run.1)
    (record { prefix = doubtful.prefix; payload = doubtful.payload; gate_is = doubtful.gate_is; count_is = doubtful.count_is; doubt = run.3; fits = doubtful.fits })

-- ---- the first half

pub stage_fails : (form : Form) (gate host : ℕ) (journal : List Entry) (old new : Option History) → IfSome old (λ h. HoldsAt form gate host journal h.now)
    → ((prefix : List ℕ) → (length prefix ≡ gate) × IfSome old (λ h. IsSettled prefix h.now) → Arrives (IsSettled prefix) (IsSettled prefix) old new)
    → Arrives (Images (λ left. StandsFor form left host journal)) (HoldsAt form gate host journal) old new
stage_fails form gate host journal None new holds stages = stages (zeros gate) (length-zeros gate, tt)
stage_fails form gate host journal (Some old) new holds stages =
    let prefix = holds.prefix in
    arrives_weaker (Images (λ left. StandsFor form left host journal)) (IsSettled prefix) (HoldsAt form gate host journal) (IsSettled prefix) (Some old) new
    (λ disk so left is. stands_before form prefix left host journal holds.log.opened holds.log.sound (so.images left is))
    (λ disk so. record { prefix = prefix; place = holds.place; log = record { settled = so; opened = holds.log.opened; sound = holds.log.sound } })
    (stages prefix (holds.place, holds.log.settled))

pub stage_doubts : (form : Form) (gate host : ℕ) (journal more : List Entry) (payload : List ℕ) (old new : Option History) → IfSome old (λ h. HoldsAt form gate host journal h.now) → IsBatch (events_of more) → Sound (journal ++ more) host → payload ≡ payload_bytes form gate (events_of more)
    → ((prefix : List ℕ) → (length prefix ≡ gate) × IfSome old (λ h. IsSettled prefix h.now) → Arrives (IsUncertain prefix payload) (λ disk. IsInDoubt prefix payload disk × IsMeasurable disk) old new)
    → Arrives (Images (IsBeforeOrAfter form host journal more)) (DoubtsAt form gate host journal more) old new
stage_doubts form gate host journal more payload None new holds batch sound payload_is stages = stages (zeros gate) (length-zeros gate, tt)
stage_doubts form gate host journal more payload (Some old) new holds batch sound payload_is stages =
    let prefix = holds.prefix in
    let same : payload ≡ payload_bytes form (length prefix) (events_of more) = payload_is ∙ ap (λ (n : ℕ). payload_bytes form n (events_of more)) (sym holds.place) in
    arrives_weaker (Images (IsBeforeOrAfter form host journal more)) (IsUncertain prefix payload) (DoubtsAt form gate host journal more) (λ disk. IsInDoubt prefix payload disk × IsMeasurable disk) (Some old) new
    (λ disk so. uncertain_images form prefix host journal more disk holds.log.opened batch sound (subst (λ (l : List ℕ). IsUncertain prefix l disk) same so))
    (λ disk so. record { prefix = prefix; place = holds.place; log = record { doubt = subst (λ (l : List ℕ). IsInDoubt prefix l disk) same so.0; opened = holds.log.opened; batch = batch; sound = sound } })
    (stages prefix (holds.place, holds.log.settled))

pub rest_stays : (gate : ℕ) (old new : Option History) → IfSome old (λ h. IsAtRest gate h.now)
    → ((prefix : List ℕ) → (length prefix ≡ gate) × IfSome old (λ h. IsSettled prefix h.now) → Arrives (IsSettled prefix) (IsSettled prefix) old new)
    → IfSome new (λ h. IsAtRest gate h.now)
rest_stays gate None new rests stages = subst (λ (seen : Option History). IfSome seen (λ h. IsAtRest gate h.now)) (sym (stages (zeros gate) (length-zeros gate, tt))) tt
rest_stays gate (Some old) new rests stages =
    let run = stages rests.prefix (sym rests.gate_is, rests.settled) in
    subst (λ (seen : Option History). IfSome seen (λ h. IsAtRest gate h.now)) (sym run.1) (record { prefix = rests.prefix; gate_is = rests.gate_is; settled = run.3; fits = rests.fits })

pub doubt_begins : (gate count : ℕ) (payload : List ℕ) (old new : Option History) → IfSome old (λ h. IsAtRest gate h.now) → count ≡ length payload
    → ((prefix : List ℕ) → (length prefix ≡ gate) × IfSome old (λ h. IsSettled prefix h.now) → Arrives (IsUncertain prefix payload) (λ disk. IsInDoubt prefix payload disk × IsMeasurable disk) old new)
    → IfSome new (λ h. IsDoubtful gate count h.now)
doubt_begins gate count payload None new rests count_is stages = subst (λ (seen : Option History). IfSome seen (λ h. IsDoubtful gate count h.now)) (sym (stages (zeros gate) (length-zeros gate, tt))) tt
doubt_begins gate count payload (Some old) new rests count_is stages =
    let prefix = rests.prefix in
    let place = rests.gate_is in
    let run = stages prefix (sym rests.gate_is, rests.settled) in
    let doubt = run.3.0 in
    let short = run.3.1 in
    let inside = doubt_inside prefix payload run.0.now doubt in
    subst (λ (seen : Option History). IfSome seen (λ h. IsDoubtful gate count h.now)) (sym run.1)
    (record { prefix = prefix; payload = payload; gate_is = place; count_is = count_is; doubt = doubt; fits = omega (arith, inside, short, place, count_is) })

-- ---- a batch as bytes

pub payload_of_closed : (payload : List ℕ) → payload_in (payload ++ 0 ∷ []) ≡ payload
payload_of_closed payload = take_at payload (0 ∷ []) (length (payload ++ 0 ∷ []) - 1) (omega (arith, length-append payload (0 ∷ [])))

pub batch_closes : (batch : ReadyBatch) (bytes : List ℕ) → bytes ≡ closed_batch batch → bytes ≡ payload_in bytes ++ 0 ∷ []
batch_closes batch bytes e = e ∙ ap (λ (l : List ℕ). l ++ 0 ∷ []) (sym (ap payload_in e ∙ payload_of_closed (batch_payload batch)))

pub payload_length : (batch : ReadyBatch) → length (batch_payload batch) ≡ 20 + length batch.body
payload_length batch =
    let digest = batch_digest batch.offset batch.body in
    omega (arith, length-append (to_be_bytes w32 (length batch.body) ++ batch.body) digest, length-append (to_be_bytes w32 (length batch.body)) batch.body, digest_length batch.offset batch.body)

pub batch_counted : (batch : ReadyBatch) (bytes : List ℕ) → bytes ≡ closed_batch batch → 20 + length batch.body ≡ length (payload_in bytes)
batch_counted batch bytes e = sym (payload_length batch) ∙ ap (λ (l : List ℕ). length l) (sym (ap payload_in e ∙ payload_of_closed (batch_payload batch)))

-- the batch of these entries
pub payload_is_batch : (batch : ReadyBatch) (bytes : List ℕ) (gate : ℕ) (more : List Entry) → bytes ≡ closed_batch batch → batch.offset ≡ gate → batch.body ≡ body_bytes (events_of more) → payload_in bytes ≡ payload_bytes current_form gate (events_of more)
payload_is_batch batch bytes gate more e placed body_is =
    ap payload_in e ∙ payload_of_closed (batch_payload batch) ∙ (λ i. batch_payload (record { offset = placed i; body = body_is i }))

pub entries_counted : (gate : ℕ) (more : List Entry) → 20 + length (body_bytes (events_of more)) ≡ length (payload_bytes current_form gate (events_of more))
entries_counted gate more = sym (payload_length (record { offset = gate; body = body_bytes (events_of more) }))

-- ---- both halves

-- where the first half succeeded, the answer is that of the second
pub stage_then_settle : {E : Type 0} (host gate count : ℕ) (doubt : Option ℕ) (disk mid : DiskSeen) (new : LogSeen) (result : Result Spot E) (batch : ReadyBatch) (bytes : List ℕ) → bytes ≡ closed_batch batch → batch.offset ≡ gate → count ≡ length batch.body
    → ((prefix : List ℕ) → (length prefix ≡ gate) × IfSome disk.history (λ h. IsSettled prefix h.now) → Arrives (IsUncertain prefix (payload_in bytes)) (λ d. IsInDoubt prefix (payload_in bytes) d × IsMeasurable d) disk.history mid.history)
    → Settles (record { disk = mid; host = host; gate = gate; doubt = Some count }) new result → Appends (record { disk = disk; host = host; gate = gate; doubt = doubt }) new result batch
stage_then_settle host gate count doubt disk mid new (Ok value) batch bytes bytes_are placed count_is stages settles = λ journal more may.
    let run = stage_doubts current_form gate host journal more (payload_in bytes) disk.history mid.history may.journal_is.holds may.entries may.sound (payload_is_batch batch bytes gate more bytes_are placed may.body_is) stages in
    let ends = settles journal more (record { doubt = ap Some (count_is ∙ ap (λ (l : List ℕ). length l) may.body_is); holds = arrived _ _ _ _ run }) in
    (ends.0, ends.1, arrives_then _ _ _ _ _ _ (no_end _ _ _ _ run) ends.2)
stage_then_settle host gate count doubt disk mid new (Err fault) batch bytes bytes_are placed count_is stages settles = λ journal more may.
    let run = stage_doubts current_form gate host journal more (payload_in bytes) disk.history mid.history may.journal_is.holds may.entries may.sound (payload_is_batch batch bytes gate more bytes_are placed may.body_is) stages in
    let ends = settles journal more (record { doubt = ap Some (count_is ∙ ap (λ (l : List ℕ). length l) may.body_is); holds = arrived _ _ _ _ run }) in
    inr (ends.0, arrives_then _ _ _ _ _ _ (no_end _ _ _ _ run) ends.1)

-- ---- where the batch stands, and what stays before it

-- the bytes that begin a settled disk
begun_by : (prefix behind : List ℕ) (gate : ℕ) (shows : List ℕ) → length prefix ≡ gate → shows ≡ prefix ++ behind → take gate shows ≡ prefix
begun_by prefix behind gate shows place is = ap (take gate) is ∙ take_at prefix behind gate place

settled_below : (prefix : List ℕ) (gate : ℕ) (disk : Disk) → length prefix ≡ gate → IsSettled prefix disk → take gate disk.shows ≡ prefix
settled_below prefix gate disk place settled =
    let shown = settled_shows prefix disk settled in
    begun_by prefix (0 ∷ shown.0) gate disk.shows place (shown.1 ∙ append_assoc prefix (0 ∷ []) shown.0)

longer_below : (prefix more : List ℕ) (gate : ℕ) (disk : Disk) → length prefix ≡ gate → IsSettled (prefix ++ more) disk → take gate disk.shows ≡ prefix
longer_below prefix more gate disk place settled =
    let shown = settled_shows (prefix ++ more) disk settled in
    begun_by prefix (more ++ (0 ∷ shown.0)) gate disk.shows place (shown.1 ∙ append_assoc (prefix ++ more) (0 ∷ []) shown.0 ∙ append_assoc prefix more (0 ∷ shown.0))

doubt_below : (prefix payload : List ℕ) (gate : ℕ) (disk : Disk) → length prefix ≡ gate → IsInDoubt prefix payload disk → take gate disk.shows ≡ prefix
doubt_below prefix payload gate disk place doubt = elim (doubt_leaves prefix payload disk disk.shows doubt (shows_is_left disk doubt.is_disk)) [
  | inl before ↦ begun_by prefix (0 ∷ before.0) gate disk.shows place (before.1 ∙ append_assoc prefix (0 ∷ []) before.0)
  | inr after ↦ begun_by prefix ((after.0 ∷ (payload ++ 0 ∷ [])) ++ after.2.0) gate disk.shows place (after.2.1 ∙ append_assoc prefix (after.0 ∷ (payload ++ 0 ∷ [])) after.2.0)
]

some_is : (one two : History) → ◌≡◌ {A = Option History} (Some one) (Some two) → one ≡ two
some_is one two e = cc

pub rest_below : (at_end : List ℕ → Disk → Type 0) (through : List ℕ → Disk → Type 0) (gate : ℕ) (old new : Option History) → IfSome old (λ h. IsAtRest gate h.now)
    → ((prefix : List ℕ) → (length prefix ≡ gate) × IfSome old (λ h. IsSettled prefix h.now) → Arrives (through prefix) (at_end prefix) old new)
    → ((prefix : List ℕ) (disk : Disk) → length prefix ≡ gate → at_end prefix disk → take gate disk.shows ≡ prefix) → KeepsBelow gate old new
rest_below at_end through gate None new rests stages begins was now told is = absurd cc
rest_below at_end through gate (Some old) new rests stages begins was now told is =
    let run = stages rests.prefix (sym rests.gate_is, rests.settled) in
    let last = some_is run.0 now (sym run.1 ∙ is) in
    let first = some_is old was told in
    ap (λ (h : History). take gate h.now.shows) (sym last) ∙ begins rests.prefix run.0.now (sym rests.gate_is) run.3
    ∙ sym (settled_below rests.prefix gate old.now (sym rests.gate_is) rests.settled) ∙ ap (λ (h : History). take gate h.now.shows) first

pub doubtful_below : (at_end : List ℕ → List ℕ → Disk → Type 0) (through : List ℕ → List ℕ → Disk → Type 0) (gate count : ℕ) (old new : Option History) → IfSome old (λ h. IsDoubtful gate count h.now)
    → ((prefix payload : List ℕ) → (length prefix ≡ gate) × IfSome old (λ h. IsInDoubt prefix payload h.now) → Arrives (through prefix payload) (at_end prefix payload) old new)
    → ((prefix payload : List ℕ) (disk : Disk) → length prefix ≡ gate → at_end prefix payload disk → take gate disk.shows ≡ prefix) → KeepsBelow gate old new
doubtful_below at_end through gate count None new doubtful opens begins was now told is = absurd cc
doubtful_below at_end through gate count (Some old) new doubtful opens begins was now told is =
    let run = opens doubtful.prefix doubtful.payload (sym doubtful.gate_is, doubtful.doubt) in
    let last = some_is run.0 now (sym run.1 ∙ is) in
    let first = some_is old was told in
    ap (λ (h : History). take gate h.now.shows) (sym last) ∙ begins doubtful.prefix doubtful.payload run.0.now (sym doubtful.gate_is) run.3
    ∙ sym (doubt_below doubtful.prefix doubtful.payload gate old.now (sym doubtful.gate_is) doubtful.doubt) ∙ ap (λ (h : History). take gate h.now.shows) first

pub stage_failed_below : (gate : ℕ) (old new : Option History) → IfSome old (λ h. IsAtRest gate h.now) → ((prefix : List ℕ) → (length prefix ≡ gate) × IfSome old (λ h. IsSettled prefix h.now) → Arrives (IsSettled prefix) (IsSettled prefix) old new) → KeepsBelow gate old new
stage_failed_below gate old new rests stages = rest_below IsSettled IsSettled gate old new rests stages (λ prefix disk place settled. settled_below prefix gate disk place settled)

pub open_failed_below : (gate count : ℕ) (old new : Option History) → IfSome old (λ h. IsDoubtful gate count h.now) → ((prefix payload : List ℕ) → (length prefix ≡ gate) × IfSome old (λ h. IsInDoubt prefix payload h.now) → Arrives (IsUncertain prefix payload) (IsInDoubt prefix payload) old new) → KeepsBelow gate old new
open_failed_below gate count old new doubtful opens = doubtful_below IsInDoubt IsUncertain gate count old new doubtful opens (λ prefix payload disk place doubt. doubt_below prefix payload gate disk place doubt)

pub opened_below : (gate count : ℕ) (old new : Option History) → IfSome old (λ h. IsDoubtful gate count h.now) → ((prefix payload : List ℕ) → (length prefix ≡ gate) × IfSome old (λ h. IsInDoubt prefix payload h.now) → Arrives (IsUncertain prefix payload) (IsSettled (prefix ++ 1 ∷ payload)) old new) → KeepsBelow gate old new
opened_below gate count old new doubtful opens = doubtful_below (λ prefix payload. IsSettled (prefix ++ 1 ∷ payload)) IsUncertain gate count old new doubtful opens (λ prefix payload disk place settled. longer_below prefix (1 ∷ payload) gate disk place settled)

-- the second half goes on from the first
pub staged_below : (gate : ℕ) (payload : List ℕ) (old mid new : Option History) → IfSome old (λ h. IsAtRest gate h.now) → ((prefix : List ℕ) → (length prefix ≡ gate) × IfSome old (λ h. IsSettled prefix h.now) → Arrives (IsUncertain prefix payload) (λ d. IsInDoubt prefix payload d × IsMeasurable d) old mid)
    → KeepsBelow gate mid new → KeepsBelow gate old new
staged_below gate payload None mid new rests stages later was now told is = absurd cc
staged_below gate payload (Some old) mid new rests stages later was now told is =
    let run = stages rests.prefix (sym rests.gate_is, rests.settled) in
    later run.0 now run.1 is ∙ rest_below (λ prefix d. IsInDoubt prefix payload d × IsMeasurable d) (λ prefix. IsUncertain prefix payload) gate (Some old) mid rests stages (λ prefix disk place end. doubt_below prefix payload gate disk place end.0) was run.0 told run.1

-- the batch that was settled stands at its spot
pub settle_spot : (gate count next host : ℕ) (journal more : List Entry) (old new : Option History) → IfSome old (λ h. IsDoubtful gate (20 + count) h.now) → 20 + count ≡ length (payload_bytes current_form gate (events_of more)) → next ≡ next_gate gate count
    → IfSome old (λ h. DoubtsAt current_form gate host journal more h.now)
    → ((prefix payload : List ℕ) → (length prefix ≡ gate) × IfSome old (λ h. IsInDoubt prefix payload h.now) → Arrives (IsUncertain prefix payload) (IsSettled (prefix ++ 1 ∷ payload)) old new)
    → IfSome new (λ h. BatchBefore next h.now.shows (record { offset = gate; count = count }) (events_of more))
settle_spot gate count next host journal more None new doubtful count_is next_is doubts opens = subst (λ (seen : Option History). IfSome seen (λ h. BatchBefore next h.now.shows (record { offset = gate; count = count }) (events_of more))) (sym (opens (zeros gate) [] (length-zeros gate, tt))) tt
settle_spot gate count next host journal more (Some old) new doubtful count_is next_is doubts opens =
    let prefix = doubts.prefix in
    let events = events_of more in
    let payload = payload_bytes current_form (length prefix) events in
    let fits = doubtful.fits in
    let run = opens prefix payload (doubts.place, doubts.log.doubt) in
    let long : length (prefix ++ 1 ∷ payload) ≡ length prefix + (1 + length payload) = length-append prefix (1 ∷ payload) ∙ omega arith in
    let same : payload ≡ payload_bytes current_form gate events = ap (λ (n : ℕ). payload_bytes current_form n events) doubts.place in
    let counted : length payload ≡ 20 + count = ap (λ (l : List ℕ). length l) same ∙ sym count_is in
    let place : length (prefix ++ 1 ∷ payload) ≡ next = omega (arith, long, counted, next_is, fits, doubts.place) in
    let body = entries_counted gate more in
    subst (λ (seen : Option History). IfSome seen (λ h. BatchBefore next h.now.shows (record { offset = gate; count = count }) events)) (sym run.1)
    (record {
      before = prefix;
      gate = 1;
      behind = [];
      batch = doubts.log.batch;
      gate_open = λ e. absurd (omega (arith, e));
      offset_is = sym doubts.place;
      count_is = omega (arith, count_is, body);
      bytes_are = settled_below (prefix ++ 1 ∷ payload) next run.0.now place run.3 ∙ ap (λ (l : List ℕ). prefix ++ 1 ∷ l) same ∙ sym (append-nil (prefix ++ 1 ∷ payload_bytes current_form gate events));
    })
