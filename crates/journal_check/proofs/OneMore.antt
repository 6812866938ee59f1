-- What one more entry makes of what is kept.
use Rattle.std.proofs.Common.{◌≡◌, ◌≢◌, ℕ, zero, suc, ◌+◌, ◌-◌, Bool, true, false, not, cond, List, [], ◌∷◌, ◌++◌, filter, Some, refl, sym, ◌∙◌, ap}
use Rattle.std.specs.Prelude.{◌||◌, ◌==◌, nat_eq, slice_get}
use Rattle.std.specs.List.{list_any}
use Rattle.std.specs.Cmp.Lexicographic.{pointwise}
use Rattle.std.proofs.lemmas.Bool.{eqb-true, eq-eqb, true≢false}
use Rattle.std.proofs.lemmas.List.Folds.{list_any-append}
use Rattle.std.proofs.lemmas.Slice.Eq.{bytes_eq-Decides}
use Rattle.definitions.proofs.Items.{both_true}
use Rattle.definitions.specs.Journal.{StartedRecord}
use Rattle.record_rules.specs.Records.{Entry, Event, Started, Local, Taken}
use Rattle.record_rules.specs.Journal.{events_of, is_running, running}
use Rattle.record_rules.specs.OneMore.{running_with}
use Rattle.record_rules.proofs.OneMore.{running_with_one}
use Rattle.record_rules.proofs.Soundness.{events_more}
use Rattle.journal_check.specs.Tallies.{begins, has_begun, ChainKey, same_key}

-- ---- started commands

pub begun_one : (journal : List Entry) (entry : Entry) (event : Event) (q : ℕ) → entry.event ≡ event → has_begun q (events_of (journal ++ entry ∷ [])) ≡ (has_begun q (events_of journal) || (begins q event || false))
begun_one journal entry event q e = ap (has_begun q) (events_more journal entry) ∙ list_any-append (begins q) (events_of journal) (entry.event ∷ []) ∙ ap (λ (x : Event). has_begun q (events_of journal) || (begins q x || false)) e

abbrev pub with_id : ℕ → List StartedRecord → Bool
with_id q started = list_any (λ (s : StartedRecord). s.id == q) started

pub running_one : (journal : List Entry) (entry : Entry) (event : Event) (q : ℕ) → entry.event ≡ event → is_running q (events_of (journal ++ entry ∷ [])) ≡ with_id q (running_with (running journal) event)
running_one journal entry event q e = ap (with_id q) (running_with_one journal entry ∙ ap (running_with (running journal)) e)

pub begins_known : (known same : Bool) → cond same true known ≡ (known || (same || false))
begins_known true true = refl
begins_known true false = refl
begins_known false true = refl
begins_known false false = refl

pub nothing_known : (known : Bool) → known ≡ (known || (false || false))
nothing_known true = refl
nothing_known false = refl

pub runs_one : (started : List StartedRecord) (s : StartedRecord) (q : ℕ) → cond (s.id == q) true (with_id q started) ≡ with_id q (started ++ s ∷ [])
runs_one started s q = begins_known (with_id q started) (s.id == q) ∙ sym (list_any-append (λ (x : StartedRecord). x.id == q) started (s ∷ []))

pub closed_one : (started : List StartedRecord) (id q : ℕ) → cond (id == q) false (with_id q started) ≡ with_id q (filter (λ (s : StartedRecord). not (id == s.id)) started)
closed_one [] id q = by (id == q)
  where
    by : (b : Bool) → cond b false false ≡ false
    by true = refl
    by false = refl
closed_one (s ∷ started) id q = by (id == s.id) (id == q) (s.id == q) refl refl refl (closed_one started id q)
  where
    rest : List StartedRecord
    rest = filter (λ (s : StartedRecord). not (id == s.id)) started

    by : (a b c : Bool) → (id == s.id) ≡ a → (id == q) ≡ b → (s.id == q) ≡ c → cond b false (with_id q started) ≡ with_id q rest → cond b false (c || with_id q started) ≡ with_id q (cond (not a) (s ∷ rest) rest)
    by true true c p r t h = h
    by true false true p r t h =
        let same : id ≡ q = eqb-true id s.id p ∙ eqb-true s.id q t in
        absurd (true≢false (sym (eq-eqb id q same) ∙ r))
    by true false false p r t h = h
    by false true true p r t h =
        let same : id ≡ s.id = eqb-true id q r ∙ sym (eqb-true s.id q t) in
        absurd (true≢false (sym (eq-eqb id s.id same) ∙ p))
    by false true false p r t h = h ∙ ap (λ (x : Bool). x || with_id q rest) (sym t)
    by false false c p r t h = (λ i. (sym t) i || h i)

-- ---- which command has an id

pub begun_at : (events : List Event) (k : ℕ) (s : StartedRecord) → slice_get events k ≡ Some (Started s) → has_begun s.id events ≡ true
begun_at [] k s e = cc
begun_at (event ∷ events) zero s e =
    let same : event ≡ Started s = cc in
    ap (λ (x : Event). begins s.id x || has_begun s.id events) same ∙ ap (λ (b : Bool). b || has_begun s.id events) (eq-eqb s.id s.id refl)
begun_at (event ∷ events) (suc k) s e = ap (λ (b : Bool). begins s.id event || b) (begun_at events k s e) ∙ by (begins s.id event)
  where
    by : (b : Bool) → (b || true) ≡ true
    by true = refl
    by false = refl

pub begun_place : (events : List Event) (id : ℕ) → has_begun id events ≡ true → (k : ℕ) × (s : StartedRecord) × (slice_get events k ≡ Some (Started s)) × (s.id ≡ id)
begun_place [] id e = absurd (true≢false (sym e))
begun_place (Started s ∷ events) id e = by (s.id == id) refl e (begun_place events id)
  where
    by : (b : Bool) → (s.id == id) ≡ b → (b || has_begun id events) ≡ true → (has_begun id events ≡ true → (k : ℕ) × (x : StartedRecord) × (slice_get events k ≡ Some (Started x)) × (x.id ≡ id))
        → (k : ℕ) × (x : StartedRecord) × (slice_get (Started s ∷ events) k ≡ Some (Started x)) × (x.id ≡ id)
    by true p e found = (0, s, refl, eqb-true s.id id p)
    by false p e found = let later = found e in (suc later.0, later.1, later.2, later.3)
begun_place (Local closes r ∷ events) id e = let later = begun_place events id e in (suc later.0, later.1, later.2, later.3)
begun_place (Taken owner r ∷ events) id e = let later = begun_place events id e in (suc later.0, later.1, later.2, later.3)

-- ---- chains

pub record Alike (key q : ChainKey) : Type 0 where
  pub owner : key.0 ≡ q.0
  pub host : key.1.0 ≡ q.1.0
  pub tag : key.1.1.items ≡ q.1.1.items

pub alike : (key q : ChainKey) → same_key key q ≡ true → Alike key q
alike key q e =
    let one = both_true (nat_eq key.0 q.0) _ e in
    let two = both_true (nat_eq key.1.0 q.1.0) (pointwise nat_eq key.1.1.items q.1.1.items) one.1 in
    record { owner = eqb-true _ _ one.0; host = eqb-true _ _ two.0; tag = (bytes_eq-Decides key.1.1.items q.1.1.items).0 two.1 }
