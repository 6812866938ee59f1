-- A batch that is read from the disk, and when it is no good one.
use Rattle.std.proofs.Common.{◌≡◌, ◌≢◌, ℕ, ◌+◌, ◌-◌, ◌<◌, ◌≤◌, ◌^◌, List, ◌∷◌, ◌++◌, length, take, drop, Option, Some, None, Err, refl, sym, ◌∙◌, ap, arith, append_assoc, length-append}
use Rattle.std.specs.Prelude.{IfSome}
use Rattle.std.specs.Int.{w32, to_be_bytes, from_be_bytes}
use Rattle.std.proofs.lemmas.Nat.{from_be_bytes-to_be_bytes_4}
use Rattle.std.proofs.lemmas.List.{take_at, drop_at, drop-drop, length-drop, take-append-drop}
use Rattle.record_rules.specs.Records.{Event}
use Rattle.log_rules.specs.Body.{body_bytes, IsBatch}
use Rattle.log_rules.specs.Log.{Form, batch_digest, payload_bytes, HoldsGoodBatch}
use Rattle.log_rules.proofs.Digests.{digest_length}
use Rattle.disk_rules.specs.History.{History}
use Rattle.at_edge.specs.Storing.{DiskSeen, Tells, Rests}
use Rattle.journal_check.specs.Tallies.{Tallies}
use Rattle.log_check.specs.Checking.{BodyFound, NoBody, ReadsBody}
use Rattle.log_check.specs.declared.checking.BatchFail.{BatchFail}
use Rattle.log_check.specs.declared.checking.BatchFail.TheVariants.{Bad, DiskFault, NoMemory}
use Rattle.log_check.specs.Forms.{form_of, digest_bytes}
use Rattle.log_check.specs.Batches.{BatchShown, BatchFound, ReadsBatch}
use Rattle.log_check.specs.declared.forms.LogForm.{LogForm}
use Rattle.log_check.specs.declared.forms.LogForm.TheVariants.{Current, Old}
use Rattle.log_check.proofs.Telling.{tells_so, tells_both, tells_before}

pub digest_counted : (form : LogForm) (gate : ℕ) (body : List ℕ) → length ((form_of form).digest gate body) ≡ digest_bytes form
digest_counted Current gate body = digest_length gate body
digest_counted Old gate body = refl

-- the parts of what stands behind a gate
module _ (shows : List ℕ) (gate : ℕ) where
  after_number : drop 4 (drop (gate + 1) shows) ≡ drop (gate + 5) shows
  after_number = drop-drop 4 (gate + 1) shows ∙ ap (λ (n : ℕ). drop n shows) (omega arith)

  after_body : (limit : ℕ) → drop limit (drop (gate + 5) shows) ≡ drop (gate + 5 + limit) shows
  after_body limit = drop-drop limit (gate + 5) shows

  after_digest : (limit n : ℕ) → drop n (drop (gate + 5 + limit) shows) ≡ drop (gate + 5 + limit + n) shows
  after_digest limit n = drop-drop n (gate + 5 + limit) shows

-- in a form whose digests have n bytes there
module _ (form : Form) (gate n : ℕ) (counted : (body : List ℕ) → length (form.digest gate body) ≡ n) where
  payload_length : (events : List Event) → length (payload_bytes form gate events) ≡ 4 + length (body_bytes events) + n
  payload_length events =
      let body = body_bytes events in
      let digest = counted body in
      omega (arith, length-append (to_be_bytes w32 (length body) ++ body) (form.digest gate body), length-append (to_be_bytes w32 (length body)) body, digest)

  pub batch_shown : (shows : List ℕ) (limit next : ℕ) (body : List ℕ) (events : List Event) → to_be_bytes w32 limit ≡ take 4 (drop (gate + 1) shows) → body ≡ take limit (drop (gate + 5) shows) → length body ≡ limit → body ≡ body_bytes events
      → take n (drop (gate + 5 + limit) shows) ≡ form.digest gate body → gate + 6 + n + limit ≤ length shows → next ≡ gate + 5 + limit + n → BatchShown form gate next events shows
  batch_shown shows limit next body events number body_is long body_of digest_is fits next_is =
      let digest = form.digest gate body in
      let whole : payload_bytes form gate events ≡ to_be_bytes w32 limit ++ body ++ digest = (λ i. to_be_bytes w32 ((ap (λ (l : List ℕ). length l) (sym body_of) ∙ long) i) ++ sym body_of i ++ form.digest gate (sym body_of i)) in
      let behind : drop (gate + 5 + limit + n) shows ≡ drop next shows = ap (λ (k : ℕ). drop k shows) (sym next_is) in
      let last : drop (gate + 5 + limit) shows ≡ digest ++ drop next shows = sym (take-append-drop n (drop (gate + 5 + limit) shows)) ∙ (λ i. digest_is i ++ (after_digest shows gate limit n ∙ behind) i) in
      let mid : drop (gate + 5) shows ≡ body ++ (digest ++ drop next shows) = sym (take-append-drop limit (drop (gate + 5) shows)) ∙ (λ i. sym body_is i ++ (after_body shows gate limit ∙ last) i) in
      let first : drop (gate + 1) shows ≡ to_be_bytes w32 limit ++ (body ++ (digest ++ drop next shows)) = sym (take-append-drop 4 (drop (gate + 1) shows)) ∙ (λ i. sym number i ++ (after_number shows gate ∙ mid) i) in
      record {
        payload_is = first ∙ sym (append_assoc (to_be_bytes w32 limit ++ body) digest (drop next shows) ∙ append_assoc (to_be_bytes w32 limit) body (digest ++ drop next shows)) ∙ ap (λ (l : List ℕ). l ++ drop next shows) (sym whole);
        next_is = (let sized = payload_length events in let l = ap (λ (l : List ℕ). length l) body_of in omega (arith, sized, l, long, next_is));
        inside = omega (arith, fits, next_is);
      }

  -- the body and the digest behind it are a batch
  pub found_batch : (seen : DiskSeen) (limit next : ℕ) (digest : List ℕ) (before : List Event) (new : Tallies) (found : BodyFound seen gate limit digest before new) → Tells seen (λ d. to_be_bytes w32 limit ≡ take 4 (drop (gate + 1) d.shows))
      → Tells seen (λ d. take n (drop (gate + 5 + limit) d.shows) ≡ form.digest gate found.body) → Tells seen (λ d. gate + 6 + n + limit ≤ length d.shows) → next ≡ gate + 5 + limit + n → BatchFound form seen gate next before new
  found_batch seen limit next digest before new found number digest_is fits next_is = record {
    events = found.events;
    batch = found.batch;
    shown = told seen.history number found.shown digest_is fits;
    checked = found.checked;
  }
    where
      told : (history : Option History) → IfSome history (λ h. to_be_bytes w32 limit ≡ take 4 (drop (gate + 1) h.now.shows)) → IfSome history (λ h. found.body ≡ take limit (drop (gate + 5) h.now.shows))
          → IfSome history (λ h. take n (drop (gate + 5 + limit) h.now.shows) ≡ form.digest gate found.body) → IfSome history (λ h. gate + 6 + n + limit ≤ length h.now.shows) → IfSome history (λ h. BatchShown form gate next found.events h.now.shows)
      told None number body digest_is fits = tt
      told (Some h) number body digest_is fits = batch_shown h.now.shows limit next found.body found.events number body found.long found.body_is digest_is fits next_is

  -- what a good batch behind the gate is made of
  pub record Good (shows : List ℕ) (events : List Event) : Type 0 where
    pub number : take 4 (drop (gate + 1) shows) ≡ to_be_bytes w32 (length (body_bytes events))
    pub body : take (length (body_bytes events)) (drop (gate + 5) shows) ≡ body_bytes events
    pub digest : take n (drop (gate + 5 + length (body_bytes events)) shows) ≡ form.digest gate (body_bytes events)
    pub long : gate + 6 + n + length (body_bytes events) ≤ length shows

  pub good_parts : (shows : List ℕ) (host : ℕ) (before : List Event) (good : HoldsGoodBatch form gate (drop (gate + 1) shows) host before) → Good shows good.events
  good_parts shows host before good =
      let body = body_bytes good.events in
      let digest = form.digest gate body in
      let tail = good.gate ∷ good.behind in
      let number = to_be_bytes w32 (length body) in
      let whole : drop (gate + 1) shows ≡ number ++ (body ++ (digest ++ tail)) = good.bytes_are ∙ append_assoc (number ++ body) digest tail ∙ append_assoc number body (digest ++ tail) in
      let mid : drop (gate + 5) shows ≡ body ++ (digest ++ tail) = sym (after_number shows gate) ∙ ap (drop 4) whole in
      let last : drop (gate + 5 + length body) shows ≡ digest ++ tail = sym (after_body shows gate (length body)) ∙ ap (drop (length body)) mid ∙ drop_at body (digest ++ tail) (length body) refl in
      let all = ap (λ (l : List ℕ). length l) good.bytes_are in
      let parts = length-append (payload_bytes form gate good.events) tail in
      let dropped = length-drop (gate + 1) shows in
      let sized = payload_length good.events in
      record {
        number = ap (take 4) whole ∙ take_at number (body ++ (digest ++ tail)) 4 refl;
        body = ap (take (length body)) mid ∙ take_at body (digest ++ tail) (length body) refl;
        digest = ap (take n) last ∙ take_at digest tail n (counted body);
        long = omega (arith, all, parts, dropped, sized);
      }

  -- the length that stands there is that of the body
  pub good_length : (shows : List ℕ) (limit : ℕ) (events : List Event) → IsBatch events → limit < 2 ^ 32 → Good shows events → to_be_bytes w32 limit ≡ take 4 (drop (gate + 1) shows) → limit ≡ length (body_bytes events)
  good_length shows limit events is short good number =
      sym (from_be_bytes-to_be_bytes_4 limit short) ∙ ap (from_be_bytes w32) (number ∙ good.number) ∙ from_be_bytes-to_be_bytes_4 (length (body_bytes events)) is.body

  -- ---- what is no good batch: where the file ends too early,

  pub ends_first : (shows : List ℕ) (host end : ℕ) (before : List Event) → end ≡ length shows → end - gate < 6 + n → HoldsGoodBatch form gate (drop (gate + 1) shows) host before → ⊥
  ends_first shows host end before end_is short good =
      let parts = good_parts shows host before good in
      let long = parts.long in
      absurd (omega (arith, long, end_is, short))

  pub ends_within : (shows : List ℕ) (host end limit : ℕ) (before : List Event) → end ≡ length shows → limit < 2 ^ 32 → to_be_bytes w32 limit ≡ take 4 (drop (gate + 1) shows) → end - gate - (6 + n) < limit → HoldsGoodBatch form gate (drop (gate + 1) shows) host before → ⊥
  ends_within shows host end limit before end_is small number short good =
      let parts = good_parts shows host before good in
      let long = parts.long in
      let limit_is = good_length shows limit good.events good.batch small parts number in
      absurd (omega (arith, long, end_is, short, limit_is))

  -- where no batch has the body,
  pub no_body_no_batch : (shows : List ℕ) (limit host : ℕ) (before : List Event) → limit < 2 ^ 32 → to_be_bytes w32 limit ≡ take 4 (drop (gate + 1) shows) → NoBody host gate limit before shows → HoldsGoodBatch form gate (drop (gate + 1) shows) host before → ⊥
  no_body_no_batch shows limit host before short number none good =
      let parts = good_parts shows host before good in
      let limit_is = good_length shows limit good.events good.batch short parts number in
      none good.events good.batch (sym (ap (λ (k : ℕ). take k (drop (gate + 5) shows)) limit_is ∙ parts.body)) good.sound

  -- and where the digest is another
  pub other_digest : (shows body : List ℕ) (limit host : ℕ) (before : List Event) → limit < 2 ^ 32 → to_be_bytes w32 limit ≡ take 4 (drop (gate + 1) shows) → body ≡ take limit (drop (gate + 5) shows) → take n (drop (gate + 5 + limit) shows) ≢ form.digest gate body
      → HoldsGoodBatch form gate (drop (gate + 1) shows) host before → ⊥
  other_digest shows body limit host before short number body_is other good =
      let parts = good_parts shows host before good in
      let limit_is = good_length shows limit good.events good.batch short parts number in
      let same : body ≡ body_bytes good.events = body_is ∙ ap (λ (k : ℕ). take k (drop (gate + 5) shows)) limit_is ∙ parts.body in
      other (ap (λ (k : ℕ). take n (drop (gate + 5 + k) shows)) limit_is ∙ parts.digest ∙ ap (form.digest gate) (sym same))

-- ---- on a disk that may tell

-- the length behind the gate
abbrev pub NumberAt : DiskSeen → (gate limit : ℕ) → Type 0
NumberAt seen gate limit = Tells seen (λ d. to_be_bytes w32 limit ≡ take 4 (drop (gate + 1) d.shows))

-- no good batch stands there
abbrev pub NoneGood : LogForm → DiskSeen → (gate host : ℕ) → List Event → Type 0
NoneGood form seen gate host before = Tells seen (λ d. HoldsGoodBatch (form_of form) gate (drop (gate + 1) d.shows) host before → ⊥)

-- what was read of a disk that rested is what it showed before
pub body_before : (seen now : DiskSeen) (gate limit : ℕ) (digest : List ℕ) (before : List Event) (new : Tallies) → Rests seen now → BodyFound now gate limit digest before new → BodyFound seen gate limit digest before new
body_before seen now gate limit digest before new rests found = record {
  body = found.body;
  long = found.long;
  shown = tells_before seen now (λ d. found.body ≡ take limit (drop (gate + 5) d.shows)) rests found.shown;
  digest_is = found.digest_is;
  events = found.events;
  batch = found.batch;
  body_is = found.body_is;
  checked = found.checked;
}

module _ (form : LogForm) (seen : DiskSeen) (gate end : ℕ) (whole : Tells seen (λ d. end ≡ length d.shows)) where
  pub short_file : (host : ℕ) (before : List Event) → end - gate < 6 + digest_bytes form → NoneGood form seen gate host before
  short_file host before short =
      tells_so seen (λ d. end ≡ length d.shows) (λ d. HoldsGoodBatch (form_of form) gate (drop (gate + 1) d.shows) host before → ⊥)
      (λ d end_is. ends_first (form_of form) gate (digest_bytes form) (digest_counted form gate) d.shows host end before end_is short) whole

  pub short_body : (host limit : ℕ) (before : List Event) → limit < 2 ^ 32 → NumberAt seen gate limit → end - gate - (6 + digest_bytes form) < limit → NoneGood form seen gate host before
  short_body host limit before small number short =
      tells_so seen (λ d. (end ≡ length d.shows) × (to_be_bytes w32 limit ≡ take 4 (drop (gate + 1) d.shows))) (λ d. HoldsGoodBatch (form_of form) gate (drop (gate + 1) d.shows) host before → ⊥)
      (λ d told. ends_within (form_of form) gate (digest_bytes form) (digest_counted form gate) d.shows host end limit before told.0 small told.1 short)
      (tells_both seen (λ d. end ≡ length d.shows) (λ d. to_be_bytes w32 limit ≡ take 4 (drop (gate + 1) d.shows)) whole number)

  pub body_fails : (fail : BatchFail) (now : DiskSeen) (limit : ℕ) (old new : Tallies) → Rests seen now → limit < 2 ^ 32 → NumberAt seen gate limit → ReadsBody (Err fail) now gate limit old new → ReadsBatch (form_of form) (Err fail) seen gate old new
  body_fails Bad now limit old new rests small number reads = λ before is.
      tells_so seen (λ d. (to_be_bytes w32 limit ≡ take 4 (drop (gate + 1) d.shows)) × NoBody old.host gate limit before d.shows) (λ d. HoldsGoodBatch (form_of form) gate (drop (gate + 1) d.shows) old.host before → ⊥)
      (λ d told. no_body_no_batch (form_of form) gate (digest_bytes form) (digest_counted form gate) d.shows limit old.host before small told.0 told.1)
      (tells_both seen (λ d. to_be_bytes w32 limit ≡ take 4 (drop (gate + 1) d.shows)) (λ d. NoBody old.host gate limit before d.shows) number (tells_before seen now (λ d. NoBody old.host gate limit before d.shows) rests (reads before is)))
  body_fails DiskFault now limit old new rests small number reads = tt
  body_fails NoMemory now limit old new rests small number reads = tt

  pub batch_there : (limit next : ℕ) (digest : List ℕ) (before : List Event) (new : Tallies) (found : BodyFound seen gate limit digest before new) → NumberAt seen gate limit → Tells seen (λ d. take (digest_bytes form) (drop (gate + 5 + limit) d.shows) ≡ (form_of form).digest gate found.body)
      → gate + 6 + digest_bytes form + limit ≤ end → next ≡ gate + 5 + limit + digest_bytes form → BatchFound (form_of form) seen gate next before new
  batch_there limit next digest before new found number digest_is fits next_is =
      found_batch (form_of form) gate (digest_bytes form) (digest_counted form gate) seen limit next digest before new found number digest_is
      (tells_so seen (λ d. end ≡ length d.shows) (λ d. gate + 6 + digest_bytes form + limit ≤ length d.shows) (λ d end_is. omega (arith, end_is, fits)) whole) next_is

  pub digest_differs : (host limit : ℕ) (digest : List ℕ) (before : List Event) (new : Tallies) (found : BodyFound seen gate limit digest before new) → limit < 2 ^ 32 → NumberAt seen gate limit → Tells seen (λ d. take (digest_bytes form) (drop (gate + 5 + limit) d.shows) ≢ (form_of form).digest gate found.body) → NoneGood form seen gate host before
  digest_differs host limit digest before new found small number other =
      tells_so seen (λ d. (to_be_bytes w32 limit ≡ take 4 (drop (gate + 1) d.shows)) × ((found.body ≡ take limit (drop (gate + 5) d.shows)) × (take (digest_bytes form) (drop (gate + 5 + limit) d.shows) ≢ (form_of form).digest gate found.body))) (λ d. HoldsGoodBatch (form_of form) gate (drop (gate + 1) d.shows) host before → ⊥)
      (λ d told. other_digest (form_of form) gate (digest_bytes form) (digest_counted form gate) d.shows found.body limit host before small told.0 told.1.0 told.1.1)
      (tells_both seen (λ d. to_be_bytes w32 limit ≡ take 4 (drop (gate + 1) d.shows)) (λ d. (found.body ≡ take limit (drop (gate + 5) d.shows)) × (take (digest_bytes form) (drop (gate + 5 + limit) d.shows) ≢ (form_of form).digest gate found.body)) number
      (tells_both seen (λ d. found.body ≡ take limit (drop (gate + 5) d.shows)) (λ d. take (digest_bytes form) (drop (gate + 5 + limit) d.shows) ≢ (form_of form).digest gate found.body) found.shown other))

-- ---- a digest that is compared, and one of no bytes

digest_long : (gate : ℕ) (digest body : List ℕ) → digest ≡ batch_digest gate body → length digest ≡ 16
digest_long gate digest body is = ap (λ (l : List ℕ). length l) is ∙ digest_length gate body

pub digest_same : (seen now : DiskSeen) (gate limit at : ℕ) (digest body : List ℕ) → Rests seen now → digest ≡ batch_digest gate body → at ≡ gate + 5 + limit → Tells now (λ d. take (length digest) (drop at d.shows) ≡ digest) → Tells seen (λ d. take 16 (drop (gate + 5 + limit) d.shows) ≡ batch_digest gate body)
digest_same seen now gate limit at digest body rests is at_is same =
    tells_so seen (λ d. take (length digest) (drop at d.shows) ≡ digest) (λ d. take 16 (drop (gate + 5 + limit) d.shows) ≡ batch_digest gate body)
    (λ d told. sym (λ i. take (digest_long gate digest body is i) (drop (at_is i) d.shows)) ∙ told ∙ is) (tells_before seen now (λ d. take (length digest) (drop at d.shows) ≡ digest) rests same)

pub digest_other : (seen now : DiskSeen) (gate limit at : ℕ) (digest body : List ℕ) → Rests seen now → digest ≡ batch_digest gate body → at ≡ gate + 5 + limit → Tells now (λ d. take (length digest) (drop at d.shows) ≢ digest) → Tells seen (λ d. take 16 (drop (gate + 5 + limit) d.shows) ≢ batch_digest gate body)
digest_other seen now gate limit at digest body rests is at_is other =
    tells_so seen (λ d. take (length digest) (drop at d.shows) ≢ digest) (λ d. take 16 (drop (gate + 5 + limit) d.shows) ≢ batch_digest gate body)
    (λ d told same. told ((λ i. take (digest_long gate digest body is i) (drop (at_is i) d.shows)) ∙ same ∙ sym is)) (tells_before seen now (λ d. take (length digest) (drop at d.shows) ≢ digest) rests other)

pub no_digest : (seen : DiskSeen) (gate end limit : ℕ) (body : List ℕ) → Tells seen (λ d. end ≡ length d.shows) → Tells seen (λ d. take 0 (drop (gate + 5 + limit) d.shows) ≡ (form_of Old).digest gate body)
no_digest seen gate end limit body whole = tells_so seen (λ d. end ≡ length d.shows) (λ d. take 0 (drop (gate + 5 + limit) d.shows) ≡ (form_of Old).digest gate body) (λ d told. refl) whole
