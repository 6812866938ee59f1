-- Reading a field passes bytes that are there, and changes nothing else.
use Rattle.std.proofs.Common.{◌≡◌, ℕ, ◌+◌, ◌≤◌, cond, inl, inr, List, length, drop, Option, Some, None, Result, Ok, Err, sym, ◌∙◌, ap, subst, arith}
use Rattle.std.specs.Prelude.{nat_lt, nat_le, ◌&&◌, ◌==◌}
use Rattle.std.proofs.lemmas.Bool.{ltb-false}
use Rattle.std.proofs.lemmas.List.{length-drop, drop-drop}
use Rattle.byteorder.specs.Endian.{big_number}
use Rattle.definitions.specs.Journal.{StartedRecord}
use Rattle.record_rules.specs.Records.{SealedRecord, Event, Started}
use Rattle.log_rules.specs.Reading.{Reading, Stop, Cut, Wrong, Field, ◌>>=◌, ◌&◌, field_as, passed, number_at, text_at, made_record, record_at, made_started, started_at, closes_of, closes_at, event_of, event_at, count_at}
use Rattle.log_rules.specs.Pieces.{left_by}
use Rattle.log_rules.proofs.Readers.{bind_ok, ok_is, passed_test, text_was_there}
use Rattle.log_rules.proofs.Bodies.{chosen, made_local, made_taken}

-- the reading stands further on, behind bytes that are there
abbrev pub Moved : Reading → Reading → Type 0
Moved r next = (n : ℕ) × (n ≤ length r.rest) × (next ≡ passed n r)

abbrev pub Moves : (A : Type 0) → Field A → Type 0
Moves A f = (r next : Reading) (x : A) → f r ≡ Ok (x, next) → Moved r next

stays : (r : Reading) → Moved r r
stays r = (0, omega arith, λ i. record { limit = r.limit; at = (let plain : r.at ≡ r.at + 0 = omega arith in plain) i; rest = r.rest })

moved_then : (r mid next : Reading) → Moved r mid → Moved mid next → Moved r next
moved_then r mid next (n, n_fits, mid_is) (m, m_fits, next_is) =
    let left : length mid.rest ≡ length (drop n r.rest) = ap (λ (s : Reading). length s.rest) mid_is in
    let counted = length-drop n r.rest in
    let place : (r.at + n) + m ≡ r.at + (n + m) = omega arith in
    (n + m, omega (arith, m_fits, left, counted, n_fits), next_is ∙ ap (passed m) mid_is ∙ (λ i. record { limit = r.limit; at = place i; rest = drop-drop m n r.rest i }))

both_move : (A B : Type 0) (f : Field A) (g : Field B) → Moves A f → Moves B g → Moves (A × B) (f & g)
both_move A B f g first second r next x e =
    let a = bind_ok (f r) (λ a. g a.1 >>= λ b. Ok ((a.0, b.0), b.1)) (x, next) e in
    let b = bind_ok (g a.0.1) (λ b. Ok ((a.0.0, b.0), b.1)) (x, next) a.2 in
    let same : ((a.0.0, b.0.0), b.0.1) ≡ (x, next) = ok_is _ _ b.2 in
    moved_then r a.0.1 next (first r a.0.1 a.0.0 a.1) (subst (Moved a.0.1) (ap (λ (p : (A × B) × Reading). p.1) same) (second a.0.1 b.0.1 b.0.0 b.1))

made_moves : (A B : Type 0) (f : Field A) (make : A → B) → Moves A f → Moves B (field_as make f)
made_moves A B f make moves r next y e =
    let a = bind_ok (f r) (λ a. Ok (make a.0, a.1)) (y, next) e in
    let same : (make a.0.0, a.0.1) ≡ (y, next) = ok_is _ _ a.2 in
    subst (Moved r) (ap (λ (p : B × Reading). p.1) same) (moves r a.0.1 a.0.0 a.1)

number_moves : (n : ℕ) → Moves ℕ (number_at n)
unfolding number_at
number_moves n r next x e =
    let test = passed_test (nat_lt (length r.rest) n) (Cut r.at) (Ok (big_number n r.rest, passed n r)) (x, next) e in
    let same : (big_number n r.rest, passed n r) ≡ (x, next) = ok_is _ _ test.1 in
    (n, ltb-false (length r.rest) n test.0, sym (ap (λ (p : ℕ × Reading). p.1) same))

text_moves : Moves (List ℕ) text_at
text_moves r next x e =
    let t = text_was_there r x next e in
    (4 + big_number 4 r.rest, omega (arith, t.long, t.there, length-drop 4 r.rest), sym (ap (λ (p : List ℕ × Reading). p.1) t.same))

record_moves : Moves SealedRecord record_at
unfolding record_at
record_moves =
    made_moves _ SealedRecord _ made_record
    (both_move _ _ _ _ (both_move _ _ _ _ (both_move _ _ _ _ (both_move _ _ _ _ (both_move _ _ _ _ (both_move _ _ _ _ (both_move _ _ _ _ (both_move _ _ _ _ (number_moves 16) (number_moves 8)) (number_moves 16)) text_moves) (number_moves 8)) text_moves) text_moves) text_moves) text_moves)

started_moves : Moves StartedRecord started_at
unfolding started_at
started_moves = made_moves _ StartedRecord _ made_started (both_move _ _ _ _ (both_move _ _ _ _ (both_move _ _ _ _ (both_move _ _ _ _ (both_move _ _ _ _ (number_moves 16) (number_moves 8)) text_moves) text_moves) text_moves) text_moves)

no_value : {A : Type 0} (stop : Stop) (x : A) → ◌≡◌ {A = Result A Stop} (Err stop) (Ok x) → ⊥
no_value stop x e = cc

closes_of_moves : (mark at : ℕ) → Moves (Option ℕ) (closes_of mark at)
closes_of_moves mark at r next x e = elim (chosen (mark == 0) (Ok (None, r)) (cond (mark == 1) (field_as Some (number_at 16) r) (Err (Wrong at))) (Ok (x, next)) e) [
  | inl none ↦ subst (Moved r) (ap (λ (p : Option ℕ × Reading). p.1) (ok_is (None, r) (x, next) none.1)) (stays r)
  | inr other ↦ elim (chosen (mark == 1) (field_as Some (number_at 16) r) (Err (Wrong at)) (Ok (x, next)) other.1) [
    | inl some ↦ made_moves ℕ (Option ℕ) (number_at 16) Some (number_moves 16) r next x some.1
    | inr wrong ↦ absurd (no_value (Wrong at) (x, next) wrong.1)
  ]
]

-- behind a byte that chooses
tagged_moves : (A : Type 0) (behind : (tag at : ℕ) → Field A) → ((tag at : ℕ) → Moves A (behind tag at)) → Moves A (λ r. number_at 1 r >>= λ tag. behind tag.0 r.at tag.1)
tagged_moves A behind moves r next x e =
    let a = bind_ok (number_at 1 r) (λ tag. behind tag.0 r.at tag.1) (x, next) e in
    moved_then r a.0.1 next (number_moves 1 r a.0.1 a.0.0 a.1) (moves a.0.0 r.at a.0.1 next x a.2)

closes_moves : Moves (Option ℕ) closes_at
unfolding closes_at
closes_moves = tagged_moves (Option ℕ) closes_of closes_of_moves

event_of_moves : (kind at : ℕ) → Moves Event (event_of kind at)
event_of_moves kind at r next x e = elim (chosen (kind == 1) (field_as Started started_at r) _ (Ok (x, next)) e) [
  | inl one ↦ made_moves StartedRecord Event started_at Started started_moves r next x one.1
  | inr not_one ↦ elim (chosen (kind == 2) (field_as made_local (closes_at & record_at) r) _ (Ok (x, next)) not_one.1) [
    | inl two ↦ made_moves (Option ℕ × SealedRecord) Event (closes_at & record_at) made_local (both_move (Option ℕ) SealedRecord closes_at record_at closes_moves record_moves) r next x two.1
    | inr not_two ↦ elim (chosen (kind == 3) (field_as made_taken (number_at 4 & record_at) r) (Err (Wrong at)) (Ok (x, next)) not_two.1) [
      | inl three ↦ made_moves (ℕ × SealedRecord) Event (number_at 4 & record_at) made_taken (both_move ℕ SealedRecord (number_at 4) record_at (number_moves 4) record_moves) r next x three.1
      | inr none ↦ absurd (no_value (Wrong at) (x, next) none.1)
    ]
  ]
]

pub event_moves : Moves Event event_at
unfolding event_at
event_moves = tagged_moves Event event_of event_of_moves

pub count_moves : Moves ℕ count_at
unfolding count_at
count_moves r next x e =
    let a = bind_ok (number_at 4 r) (λ n. cond (nat_le 1 n.0 && nat_le n.0 100) (Ok n) (Err (Wrong r.at))) (x, next) e in
    elim (chosen (nat_le 1 a.0.0 && nat_le a.0.0 100) (Ok a.0) (Err (Wrong r.at)) (Ok (x, next)) a.2) [
      | inl good ↦ subst (Moved r) (ap (λ (p : ℕ × Reading). p.1) (ok_is a.0 (x, next) good.1)) (number_moves 4 r a.0.1 a.0.0 a.1)
      | inr bad ↦ absurd (no_value (Wrong r.at) (x, next) bad.1)
    ]

-- to the next event, and behind it
pub left_moves : (left : Option ℕ) (r start : Reading) (n : ℕ) → left_by left r ≡ Ok (n, start) → Moved r start
left_moves None r start n e = count_moves r start n e
left_moves (Some m) r start n e = subst (Moved r) (ap (λ (p : ℕ × Reading). p.1) (ok_is (m, r) (n, start) e)) (stays r)

pub next_moves : (left : Option ℕ) (r start after : Reading) (n : ℕ) (event : Event) → left_by left r ≡ Ok (n, start) → event_at start ≡ Ok (event, after) → Moved r after
next_moves left r start after n event e f = moved_then r start after (left_moves left r start n e) (event_moves start after event f)
