-- A body in pieces whose events are checked as they come.
use Rattle.std.proofs.Common.{◌≡◌, ℕ, zero, suc, ◌+◌, ◌-◌, ◌<◌, ◌≤◌, ◌^◌, ◌⊎◌, inl, inr, Bool, true, false, cond, List, [], ◌∷◌, ◌++◌, length, Option, Some, None, Result, Ok, Err, refl, sym, ◌∙◌, ap, subst, arith, append_assoc}
use Rattle.std.specs.Prelude.{nat_le, ◌&&◌, ◌==◌}
use Rattle.std.proofs.lemmas.Bool.{leb-true, eq-eqb, eqb-true, ne_eqb}
use Rattle.std.proofs.lemmas.List.{append-nil, map-append, length-drop}
use Rattle.std.proofs.lemmas.Option.{none-some}
use Rattle.definitions.proofs.Items.{both_true}
use Rattle.definitions.specs.Spelling.{IsBytes}
use Rattle.record_rules.specs.Records.{Entry, Event}
use Rattle.record_rules.specs.Journal.{Sound, MayFollow}
use Rattle.record_rules.proofs.Soundness.{Sound-push}
use Rattle.record_rules.proofs.Prefixes.{Sound-prefix, last_may_follow}
use Rattle.log_rules.specs.Body.{body_bytes, IsBatch}
use Rattle.log_rules.specs.Opened.{opened_entry, opened_journal}
use Rattle.log_rules.specs.Reading.{Reading, Stop, Cut, Wrong, ◌>>=◌, passed, at_start, number_at, count_at, event_at, events_at, body_events_at, whole_body, body_at}
use Rattle.log_rules.specs.Pieces.{Pieces, no_piece, pushed, left_by, Next, Given, Awaits, Over, Faulty, next_event, next_of, next_by, next_in, is_over, end_fault, HasGivenBy, HasGiven}
use Rattle.log_rules.proofs.Readers.{bind_ok, ok_is}
use Rattle.log_rules.proofs.Bodies.{chosen, body_field, read_body}
use Rattle.log_rules.proofs.Pieces.{nothing_given, given_pushed, given_next, ReadsAs, reads_as}
use Rattle.log_rules.proofs.Moves.{next_moves}
use Rattle.journal_check.specs.Tallies.{Tallies, Keeps}
use Rattle.log_check.specs.Checking.{IsChecked, HasChecked, BadBody}

abbrev so : {A : Type 0} → A → Result A Stop
so x = Ok x

-- ---- fewer events are left

count_few : (r start : Reading) (n : ℕ) → count_at r ≡ Ok (n, start) → n ≤ 100
unfolding count_at
count_few r start n e =
    let a = bind_ok (number_at 4 r) (λ n. cond (nat_le 1 n.0 && nat_le n.0 100) (Ok n) (Err (Wrong r.at))) (n, start) e in
    elim (chosen (nat_le 1 a.0.0 && nat_le a.0.0 100) (Ok a.0) (Err (Wrong r.at)) (Ok (n, start)) a.2) [
      | inl good ↦ subst (λ (k : ℕ). k ≤ 100) (ap (λ (p : ℕ × Reading). p.0) (ok_is a.0 (n, start) good.1)) (leb-true a.0.0 100 (both_true (nat_le 1 a.0.0) (nat_le a.0.0 100) good.0).1)
      | inr bad ↦ absurd (no_count bad.1)
    ]
  where
    no_count : {place : ℕ} {x : ℕ × Reading} → ◌≡◌ {A = Result (ℕ × Reading) Stop} (Err (Wrong place)) (Ok x) → ⊥
    no_count e = cc

-- how many may still come
abbrev pub most_left : Option ℕ → ℕ
most_left None = 101
most_left (Some n) = n

pub fewer_left : (pieces next : Pieces) (event : Event) → next_in pieces ≡ Given event next → most_left next.left < most_left pieces.left
fewer_left pieces next event e = by_left pieces.left pieces.reading e
  where
    by_event : (n : ℕ) (read : Result (Event × Reading) Stop) → next_event n read ≡ Given event next → next.left ≡ Some n
    by_event n (Ok x) e = cc
    by_event n (Err (Cut place)) e = absurd cc
    by_event n (Err (Wrong place)) e = absurd cc

    by_number : (n : ℕ) (r : Reading) → next_of n r ≡ Given event next → most_left next.left < n
    by_number zero r e = absurd cc
    by_number (suc n) r e = let left = ap most_left (by_event n (event_at r) e) in omega (arith, left)

    by_count : (r : Reading) (read : Result (ℕ × Reading) Stop) → count_at r ≡ read → next_by read ≡ Given event next → most_left next.left < 101
    by_count r (Ok (n, start)) at_r e = let few = count_few r start n at_r in let less = by_number n start e in omega (arith, few, less)
    by_count r (Err (Cut place)) at_r e = absurd cc
    by_count r (Err (Wrong place)) at_r e = absurd cc

    by_left : (left : Option ℕ) (r : Reading) → next_by (left_by left r) ≡ Given event next → most_left next.left < most_left left
    by_left None r e = by_count r (count_at r) refl e
    by_left (Some n) r e = by_number n r e

-- ---- what was given comes first in any whole body

events_first : (n more : ℕ) (r mid last : Reading) (given events : List Event) → events_at n r ≡ Ok (given, mid) → events_at (n + more) r ≡ Ok (events, last) → (later : List Event) × (events ≡ given ++ later)
unfolding events_at
events_first zero more r mid last given events e f =
    let none : [] ≡ given = ap (λ (p : List Event × Reading). p.0) (ok_is ([], r) (given, mid) e) in
    (events, ap (λ (l : List Event). l ++ events) none)
events_first (suc n) more r mid last given events e f =
    let first = bind_ok (event_at r) (λ event. events_at n event.1 >>= λ later. Ok (event.0 ∷ later.0, later.1)) (given, mid) e in
    let later = bind_ok (events_at n first.0.1) (λ later. Ok (first.0.0 ∷ later.0, later.1)) (given, mid) first.2 in
    let plain : suc n + more ≡ suc (n + more) = omega arith in
    let whole : events_at (suc (n + more)) r ≡ Ok (events, last) = sym (ap (λ (k : ℕ). events_at k r) plain) ∙ f in
    let same = bind_ok (event_at r) (λ event. events_at (n + more) event.1 >>= λ later. Ok (event.0 ∷ later.0, later.1)) (events, last) whole in
    let one : first.0 ≡ same.0 = ok_is first.0 same.0 (sym first.1 ∙ same.1) in
    let rest = bind_ok (events_at (n + more) same.0.1) (λ later. Ok (same.0.0 ∷ later.0, later.1)) (events, last) same.2 in
    let there : events_at (n + more) first.0.1 ≡ Ok (rest.0.0, rest.0.1) = ap (λ (x : Event × Reading). events_at (n + more) x.1) one ∙ rest.1 in
    let tail = events_first n more first.0.1 later.0.1 rest.0.1 later.0.0 rest.0.0 later.1 there in
    let given_is : first.0.0 ∷ later.0.0 ≡ given = ap (λ (p : List Event × Reading). p.0) (ok_is (first.0.0 ∷ later.0.0, later.0.1) (given, mid) later.2) in
    let events_is : same.0.0 ∷ rest.0.0 ≡ events = ap (λ (p : List Event × Reading). p.0) (ok_is (same.0.0 ∷ rest.0.0, rest.0.1) (events, last) rest.2) in
    (tail.0, sym events_is ∙ (λ i. sym (ap (λ (x : Event × Reading). x.0) one) i ∷ tail.1 i) ∙ ap (λ (l : List Event). l ++ tail.0) given_is)

given_first : (limit : ℕ) (pieces : Pieces) (bytes : List ℕ) (given events : List Event) (last : Reading) → HasGiven limit pieces bytes given → body_events_at (at_start limit bytes) ≡ Ok (events, last) → (later : List Event) × (events ≡ given ++ later)
unfolding body_events_at
given_first limit pieces bytes given events last has e = by_left pieces.left pieces.reading has
  where
    by_left : (left : Option ℕ) (r : Reading) → HasGivenBy limit left r bytes given → (later : List Event) × (events ≡ given ++ later)
    by_left None r has = (events, ap (λ (l : List Event). l ++ events) (sym has.0))
    by_left (Some n) r (start, counted, read) = events_first (length given) n start r last given events read (sym (ap (λ (s : Result (ℕ × Reading) Stop). s >>= λ n. events_at n.0 n.1) counted) ∙ e)

-- the whole body reads as its events
whole_reads : (limit : ℕ) (bytes rest : List ℕ) (events : List Event) → IsBatch events → body_bytes events ≡ bytes ++ rest → length (bytes ++ rest) ≡ limit → (last : Reading) × (body_events_at (at_start limit (bytes ++ rest)) ≡ Ok (events, last))
whole_reads limit bytes rest events is same long =
    let body = body_bytes events in
    let fits : 0 + length body ≤ limit = (let l = ap (λ (b : List ℕ). length b) same in omega (arith, l, long)) in
    (_, ap (λ (l : List ℕ). body_events_at (record { limit = limit; at = 0; rest = l })) (sym same ∙ sym (append-nil body)) ∙ body_field.again limit 0 events [] ((is.some, is.few), is.each) fits)

-- ---- one event more

journal_one : (before given : List Event) (event : Event) → opened_journal (before ++ given) ++ opened_entry event ∷ [] ≡ opened_journal (before ++ (given ++ event ∷ []))
journal_one before given event = sym (map-append opened_entry (before ++ given) (event ∷ [])) ∙ ap opened_journal (append_assoc before given (event ∷ []))

pub checked_one : (limit : ℕ) (before : List Event) (bytes : List ℕ) (pieces next : Pieces) (check new : Tallies) (event : Event) (has : HasChecked limit before bytes pieces check) → next_in pieces ≡ Given event next → new.host ≡ check.host
    → MayFollow (opened_journal (before ++ has.given)) check.host event × ((entry : Entry) → entry.event ≡ event → Keeps new (opened_journal (before ++ has.given) ++ entry ∷ []))
    → HasChecked limit before bytes next new
checked_one limit before bytes pieces next check new event has e host takes = record {
  given = has.given ++ event ∷ [];
  given_are = given_next limit pieces next bytes has.given event has.given_are e;
  checked = record {
    keeps = subst (λ (j : List Entry). Keeps new j) (journal_one before has.given event) (takes.1 (opened_entry event) refl);
    sound = subst (λ (j : List Entry). Sound j new.host) (journal_one before has.given event) (subst (λ (h : ℕ). Sound (opened_journal (before ++ has.given) ++ opened_entry event ∷ []) h) (sym host) (Sound-push (opened_journal (before ++ has.given)) (opened_entry event) check.host has.checked.sound takes.0));
  };
}

-- ---- what makes a body bad

pub refused_bad : (limit : ℕ) (before : List Event) (bytes : List ℕ) (pieces next : Pieces) (check : Tallies) (event : Event) (has : HasChecked limit before bytes pieces check) → next_in pieces ≡ Given event next
    → (MayFollow (opened_journal (before ++ has.given)) check.host event → ⊥) → BadBody limit check.host before bytes
refused_bad limit before bytes pieces next check event has e refused events rest is same long sound =
    let whole = whole_reads limit bytes rest events is same long in
    let given = given_pushed limit next bytes rest (has.given ++ event ∷ []) (given_next limit pieces next bytes has.given event has.given_are e) in
    let first = given_first limit (pushed next rest) (bytes ++ rest) (has.given ++ event ∷ []) events whole.0 given whole.1 in
    let parts : before ++ events ≡ (before ++ (has.given ++ event ∷ [])) ++ first.0 = ap (λ (l : List Event). before ++ l) first.1 ∙ sym (append_assoc before (has.given ++ event ∷ []) first.0) in
    let all : Sound (opened_journal (before ++ (has.given ++ event ∷ [])) ++ opened_journal first.0) check.host = subst (λ (j : List Entry). Sound j check.host) (ap opened_journal parts ∙ map-append opened_entry (before ++ (has.given ++ event ∷ [])) first.0) sound in
    let one = Sound-prefix (opened_journal (before ++ (has.given ++ event ∷ []))) (opened_journal first.0) check.host all in
    refused (last_may_follow (opened_journal (before ++ has.given)) check.host (opened_entry event) (subst (λ (j : List Entry). Sound j check.host) (sym (journal_one before has.given event)) one))

no_value : {A : Type 0} (stop : Stop) (x : A) → ◌≡◌ {A = Result A Stop} (Err stop) (Ok x) → ⊥
no_value stop x e = cc

pub faulty_bad : (limit place : ℕ) (before : List Event) (bytes : List ℕ) (pieces : Pieces) (check : Tallies) → HasChecked limit before bytes pieces check → next_in pieces ≡ Faulty place → BadBody limit check.host before bytes
faulty_bad limit place before bytes pieces check has e events rest is same long sound =
    let whole = whole_reads limit bytes rest events is same long in
    let wrong : body_events_at (at_start limit bytes) ≡ Err (Wrong place) = subst (λ (n : Next). ReadsAs n limit pieces.reading bytes has.given) e (reads_as limit pieces bytes has.given has.given_are) in
    no_value (Wrong place) (events, whole.0) (sym (body_field.judged (at_start limit bytes) rest place wrong) ∙ whole.1)

-- ---- the number of events is at least one

count_some : (r start : Reading) (n : ℕ) → count_at r ≡ Ok (n, start) → 1 ≤ n
unfolding count_at
count_some r start n e =
    let a = bind_ok (number_at 4 r) (λ n. cond (nat_le 1 n.0 && nat_le n.0 100) (Ok n) (Err (Wrong r.at))) (n, start) e in
    elim (chosen (nat_le 1 a.0.0 && nat_le a.0.0 100) (Ok a.0) (Err (Wrong r.at)) (Ok (n, start)) a.2) [
      | inl good ↦ subst (λ (k : ℕ). 1 ≤ k) (ap (λ (p : ℕ × Reading). p.0) (ok_is a.0 (n, start) good.1)) (leb-true 1 a.0.0 (both_true (nat_le 1 a.0.0) (nat_le a.0.0 100) good.0).0)
      | inr bad ↦ absurd (no_value (Wrong r.at) (n, start) bad.1)
    ]

-- ---- where reading stands

-- an event that is given passes bytes that are there
pub given_place : (pieces next : Pieces) (event : Event) → next_in pieces ≡ Given event next → (next.reading.at + length next.reading.rest ≡ pieces.reading.at + length pieces.reading.rest) × (next.reading.limit ≡ pieces.reading.limit)
given_place pieces next event e = by_left pieces.left pieces.reading (left_by pieces.left pieces.reading) refl e
  where
    Same : Reading → Type 0
    Same r = (next.reading.at + length next.reading.rest ≡ r.at + length r.rest) × (next.reading.limit ≡ r.limit)

    by_event : (left : Option ℕ) (r start : Reading) (n m : ℕ) (read : Result (Event × Reading) Stop) → left_by left r ≡ Ok (n, start) → event_at start ≡ read → next_event m read ≡ Given event next → Same r
    by_event left r start n m (Err (Cut place)) at_left at_start e = absurd cc
    by_event left r start n m (Err (Wrong place)) at_left at_start e = absurd cc
    by_event left r start n m (Ok (x, after)) at_left at_start e =
        let moved = next_moves left r start after n x at_left at_start in
        let is : next.reading ≡ after = cc in
        let there : next.reading ≡ passed moved.0 r = is ∙ moved.2 in
        let place = ap (λ (s : Reading). s.at) there in
        let rest = ap (λ (s : Reading). length s.rest) there in
        let dropped = length-drop moved.0 r.rest in
        let within = moved.1 in
        (omega (arith, place, rest, dropped, within), ap (λ (s : Reading). s.limit) there)

    by_left : (left : Option ℕ) (r : Reading) (got : Result (ℕ × Reading) Stop) → left_by left r ≡ got → next_by got ≡ Given event next → Same r
    by_left left r (Err (Cut place)) at_left e = absurd cc
    by_left left r (Err (Wrong place)) at_left e = absurd cc
    by_left left r (Ok (zero, start)) at_left e = absurd cc
    by_left left r (Ok (suc n, start)) at_left e = by_event left r start (suc n) n (event_at start) at_left refl e

-- ---- the end of a body

-- with all events given, the body reads as they are
over_reads : (limit : ℕ) (r : Reading) (bytes : List ℕ) (given : List Event) → HasGivenBy limit (Some 0) r bytes given → body_events_at (at_start limit bytes) ≡ Ok (given, r)
unfolding body_events_at
over_reads limit r bytes given (start, counted, read) = ap (λ (s : Result (ℕ × Reading) Stop). s >>= λ n. events_at n.0 n.1) counted ∙ ap (λ (k : ℕ). events_at k start) (omega arith) ∙ read

place_none : (b : Bool) (place : ℕ) → ◌≡◌ {A = Option ℕ} (cond b None (Some place)) None → b ≡ true
place_none true place e = refl
place_none false place e = absurd cc

ended_left : (left : Option ℕ) (r : Reading) → end_fault (record { left = left; reading = r }) ≡ None → (left ≡ Some 0) × (length r.rest ≡ 0)
ended_left None r e = absurd cc
ended_left (Some zero) r e = (refl, eqb-true (length r.rest) 0 (both_true (length r.rest == 0) (r.at == r.limit) (place_none (length r.rest == 0 && r.at == r.limit) r.at e)).0)
ended_left (Some (suc n)) r e =
    absurd (none-some (r.at + length r.rest) (sym e ∙ ap (λ (b : Bool). cond b (cond (length r.rest == 0 && r.at == r.limit) None (Some r.at)) (Some (r.at + length r.rest))) (ne_eqb (suc n) 0 (λ z. absurd (omega (arith, z))))))

-- the pieces are a whole body where nothing is wrong at their end
pub finished : (limit : ℕ) (before : List Event) (bytes : List ℕ) (pieces : Pieces) (check : Tallies) (has : HasChecked limit before bytes pieces check) → IsBytes bytes → limit < 2 ^ 32 → length bytes ≡ limit → end_fault pieces ≡ None → IsBatch has.given × (bytes ≡ body_bytes has.given)
finished limit before bytes pieces check has are short long e =
    let ended = ended_left pieces.left pieces.reading e in
    let given = subst (λ (left : Option ℕ). HasGivenBy limit left pieces.reading bytes has.given) ended.0 has.given_are in
    let whole : List Event → Result (List Event) ℕ = λ events. Ok events in
    let reads : body_at bytes ≡ Ok has.given =
    ap (λ (n : ℕ). whole_body (body_events_at (at_start n bytes))) long ∙ ap whole_body (over_reads limit pieces.reading bytes has.given given)
    ∙ ap (λ (b : Bool). cond b (whole has.given) (Err pieces.reading.at)) (eq-eqb (length pieces.reading.rest) 0 ended.1) in
    read_body bytes has.given are (subst (λ (n : ℕ). n < 2 ^ 32) (sym long) short) reads

next_some : (n : ℕ) (read : Result (Event × Reading) Stop) → next_event n read ≡ Over → ⊥
next_some n (Ok x) e = cc
next_some n (Err (Cut place)) e = cc
next_some n (Err (Wrong place)) e = cc

over_count : (r : Reading) (got : Result (ℕ × Reading) Stop) → count_at r ≡ got → next_by got ≡ Over → ⊥
over_count r (Err (Cut place)) at_r e = cc
over_count r (Err (Wrong place)) at_r e = cc
over_count r (Ok (zero, start)) at_r e = let some = count_some r start 0 at_r in absurd (omega (arith, some))
over_count r (Ok (suc n, start)) at_r e = next_some n (event_at start) e

over_left : (left : Option ℕ) (r : Reading) → next_by (left_by left r) ≡ Over → left ≡ Some 0
over_left None r e = absurd (over_count r (count_at r) refl e)
over_left (Some zero) r e = refl
over_left (Some (suc n)) r e = absurd (next_some n (event_at r) e)

-- and none is where something is
pub unfinished : (limit place : ℕ) (before : List Event) (bytes : List ℕ) (pieces : Pieces) (check : Tallies) (has : HasChecked limit before bytes pieces check) → (next_in pieces ≡ Awaits) ⊎ (next_in pieces ≡ Over) → pieces.reading.limit ≡ limit → end_fault pieces ≡ Some place
    → (events : List Event) → IsBatch events → body_bytes events ≡ bytes → length bytes ≡ limit → ⊥
unfinished limit place before bytes pieces check has (inl awaits) limit_is e events is same long =
    let whole = whole_reads limit bytes [] events is (same ∙ sym (append-nil bytes)) (ap (λ (l : List ℕ). length l) (append-nil bytes) ∙ long) in
    let cut = subst (λ (n : Next). ReadsAs n limit pieces.reading bytes has.given) awaits (reads_as limit pieces bytes has.given has.given_are) in
    no_value (Cut cut.0) (events, whole.0) (sym cut.1 ∙ ap (λ (l : List ℕ). body_events_at (at_start limit l)) (sym (append-nil bytes)) ∙ whole.1)
unfinished limit place before bytes pieces check has (inr over) limit_is e events is same long =
    let left_is = over_left pieces.left pieces.reading over in
    let given = subst (λ (left : Option ℕ). HasGivenBy limit left pieces.reading bytes has.given) left_is has.given_are in
    let body = body_bytes events in
    let counted = ap (λ (l : List ℕ). length l) same in
    let fits : 0 + length body ≤ limit = omega (arith, counted, long) in
    let reads = ap (λ (l : List ℕ). body_events_at (record { limit = limit; at = 0; rest = l })) (sym same ∙ sym (append-nil body)) ∙ body_field.again limit 0 events [] ((is.some, is.few), is.each) fits in
    let there : pieces.reading ≡ record { limit = limit; at = 0 + length body; rest = [] } = ap (λ (p : List Event × Reading). p.1) (ok_is (has.given, pieces.reading) (events, record { limit = limit; at = 0 + length body; rest = [] }) (sym (over_reads limit pieces.reading bytes has.given given) ∙ reads)) in
    let empty : length pieces.reading.rest ≡ 0 = ap (λ (s : Reading). length s.rest) there in
    let at_end : pieces.reading.at ≡ pieces.reading.limit = (let at = ap (λ (s : Reading). s.at) there in omega (arith, at, counted, long, limit_is)) in
    let zero_rest : (length pieces.reading.rest == 0) ≡ true = eq-eqb (length pieces.reading.rest) 0 empty in
    let at_limit : (pieces.reading.at == pieces.reading.limit) ≡ true = eq-eqb pieces.reading.at pieces.reading.limit at_end in
    let none : end_fault pieces ≡ None = (λ i. cond (is_over (left_is i)) (cond (zero_rest i && at_limit i) None (Some pieces.reading.at)) (Some (pieces.reading.at + length pieces.reading.rest))) in
    none-some place (sym none ∙ e)

-- ---- pieces

-- nothing was pushed yet
pub begun_checked : (limit : ℕ) (before : List Event) (check : Tallies) → IsChecked check before → HasChecked limit before [] (no_piece limit) check
begun_checked limit before check is = record { given = []; given_are = nothing_given limit; checked = subst (IsChecked check) (sym (append-nil before)) is }

-- one more piece
pub pushed_checked : (limit : ℕ) (before : List Event) (bytes piece : List ℕ) (pieces next : Pieces) (check : Tallies) → HasChecked limit before bytes pieces check → next ≡ pushed pieces piece → HasChecked limit before (bytes ++ piece) next check
pushed_checked limit before bytes piece pieces next check has is = record {
  given = has.given;
  given_are = subst (λ (p : Pieces). HasGiven limit p (bytes ++ piece) has.given) (sym is) (given_pushed limit pieces bytes piece has.given has.given_are);
  checked = has.checked;
}
