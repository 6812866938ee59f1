-- What computing tells of whether events may come next.
use Rattle.std.proofs.Common.{◌≡◌, ◌≢◌, ℕ, zero, suc, ◌≤◌, Bool, true, false, not, ◌&&◌, ◌==◌, List, [], ◌∷◌, ◌++◌, length, Option, Some, None, refl, sym, ◌∙◌, ap, subst, append_assoc, append-nil}
use Rattle.std.specs.Prelude.{nat_le, slice_get, IsTrue, ◌↔◌}
use Rattle.std.specs.Bool.{Decides}
use Rattle.std.specs.Option.{is_none}
use Rattle.std.proofs.lemmas.Bool.{leb-true, le-leb, eqb-true, eq-eqb, ne_eqb, true≢false, or_from, or_parts}
use Rattle.std.proofs.lemmas.Bool.Decides.{Decides-and}
use Rattle.std.proofs.lemmas.Option.{none-some, same_Some}
use Rattle.definitions.specs.Journal.{StartedRecord}
use Rattle.definitions.specs.Limits.{most_value_bytes, most_name_bytes, most_tag_bytes, most_page_weight}
use Rattle.record_rules.specs.Records.{SealedRecord, Event, Started, Local, Taken, record_weight, event_weight}
use Rattle.record_rules.specs.Journal.{event_owner, event_place, own_of, chain_of, limit_passed, is_running, closes_id, RecordFits, StartedFits, SoundEvents, MayComeNext}
use Rattle.record_rules.specs.Deciding.{record_fits, started_fits, starts_id, was_started, is_next, closes_running, may_be_said, has_room, may_come, may_all_come}
use Rattle.record_rules.proofs.Soundness.{SoundEvents-push, local_not_started, taken_not_started}
use Rattle.record_rules.proofs.Prefixes.{SoundEvents-prefix, last_may_come}

-- ---- tests

le_told : (a b : ℕ) → Decides (nat_le a b) (a ≤ b)
le_told a b = (leb-true a b, le-leb a b)

eq_told : (a b : ℕ) → Decides (a == b) (a ≡ b)
eq_told a b = (eqb-true a b, eq-eqb a b)

none_told : {A : Type 0} (o : Option A) → Decides (is_none o) (o ≡ None)
none_told None = (λ e. refl, λ e. refl)
none_told (Some x) = (λ e. absurd (true≢false (sym e)), λ e. absurd (none-some x (sym e)))

true_told : (b : Bool) → Decides b (b ≡ true)
true_told b = (λ e. e, λ e. e)

not_told : (b : Bool) → Decides (not b) (b ≡ false)
not_told true = (λ e. absurd (true≢false (sym e)), λ e. absurd (true≢false e))
not_told false = (λ e. refl, λ e. refl)

record_told : (r : SealedRecord) → Decides (record_fits r) (RecordFits r)
record_told r =
    let d = Decides-and (nat_le (length r.host_name) most_name_bytes) (nat_le (length r.version) most_tag_bytes && (nat_le (length r.tag) most_tag_bytes && nat_le (record_weight r) most_page_weight)) (le_told (length r.host_name) most_name_bytes)
    (Decides-and (nat_le (length r.version) most_tag_bytes) (nat_le (length r.tag) most_tag_bytes && nat_le (record_weight r) most_page_weight) (le_told (length r.version) most_tag_bytes)
    (Decides-and (nat_le (length r.tag) most_tag_bytes) (nat_le (record_weight r) most_page_weight) (le_told (length r.tag) most_tag_bytes) (le_told (record_weight r) most_page_weight))) in (
      λ e. let p = d.0 e in record { host_name = p.0; version = p.1.0; tag = p.1.1.0; weight = p.1.1.1 },
      λ f. d.1 (f.host_name, (f.version, (f.tag, f.weight))),
    )

started_told : (s : StartedRecord) → Decides (started_fits s) (StartedFits s)
started_told s =
    let d = Decides-and (nat_le (length s.command) most_value_bytes) (nat_le (length s.cwd) most_name_bytes && (nat_le (length s.session) most_name_bytes && nat_le (length s.hostname) most_name_bytes)) (le_told (length s.command) most_value_bytes)
    (Decides-and (nat_le (length s.cwd) most_name_bytes) (nat_le (length s.session) most_name_bytes && nat_le (length s.hostname) most_name_bytes) (le_told (length s.cwd) most_name_bytes)
    (Decides-and (nat_le (length s.session) most_name_bytes) (nat_le (length s.hostname) most_name_bytes) (le_told (length s.session) most_name_bytes) (le_told (length s.hostname) most_name_bytes))) in (
      λ e. let p = d.0 e in record { command = p.0; cwd = p.1.0; session = p.1.1.0; hostname = p.1.1.1 },
      λ f. d.1 (f.command, (f.cwd, (f.session, f.hostname))),
    )

both_true : (a b : Bool) → (a && b) ≡ true → (a ≡ true) × (b ≡ true)
both_true true b e = (refl, e)
both_true false b e = absurd (true≢false (sym e))

and_true : (a b : Bool) → a ≡ true → b ≡ true → (a && b) ≡ true
and_true a b first second = λ i. first i && second i

-- ---- no command with that id was started

abbrev NoneStarted : ℕ → List Event → Type 0
NoneStarted id events = (k : ℕ) (s : StartedRecord) → slice_get events k ≡ Some (Started s) → s.id ≢ id

none_started : (id : ℕ) (events : List Event) → was_started id events ≡ false → NoneStarted id events
none_started id [] none k s at same = absurd (none-some (Started s) at)
none_started id (event ∷ events) none zero s at same =
    let here : event ≡ Started s = same_Some event (Started s) at in
    let parts = or_parts (starts_id id event) (was_started id events) none in
    true≢false (sym (ap (starts_id id) here ∙ eq-eqb s.id id same) ∙ parts.0)
none_started id (event ∷ events) none (suc k) s at same = none_started id events (or_parts (starts_id id event) (was_started id events) none).1 k s at same

started_none : (id : ℕ) (events : List Event) → NoneStarted id events → was_started id events ≡ false
started_none id [] none = refl
started_none id (Started s ∷ events) none = or_from (s.id == id) (was_started id events) (ne_eqb s.id id (none zero s refl)) (started_none id events (λ k. none (suc k)))
started_none id (Local closes r ∷ events) none = started_none id events (λ k. none (suc k))
started_none id (Taken owner r ∷ events) none = started_none id events (λ k. none (suc k))

-- ---- what may be said

module _ (events : List Event) (host : ℕ) where
  from_started : (s : StartedRecord) → has_room events (Started s) ≡ true → may_be_said events host (Started s) ≡ true → MayComeNext events host (Started s)
  from_started s room said =
      let d = Decides-and (not (was_started s.id events)) (started_fits s) (not_told (was_started s.id events)) (started_told s) in
      let p = d.0 said in
      record {
        numbered = tt;
        made_here = tt;
        closes_running = λ closed closes. absurd (true≢false (sym closes));
        started_apart = λ k other t at is. let same : s ≡ t = cc in λ e. none_started s.id events p.0 k other at (e ∙ ap (λ (x : StartedRecord). x.id) (sym same));
        event_fits = p.1;
        held_fits = (none_told (limit_passed (own_of events 0) (event_weight (Started s)) None)).0 room;
      }

  to_started : (s : StartedRecord) → MayComeNext events host (Started s) → may_be_said events host (Started s) ≡ true
  to_started s may =
      let d = Decides-and (not (was_started s.id events)) (started_fits s) (not_told (was_started s.id events)) (started_told s) in
      d.1 (started_none s.id events (λ k other at. may.started_apart k other s at refl), may.event_fits)

  closing : (closes : Option ℕ) (r : SealedRecord) → closes_running events closes ≡ true → (closed : ℕ) → IsTrue (closes_id closed (Local closes r)) → IsTrue (is_running closed events)
  closing None r runs closed closes = absurd (true≢false (sym closes))
  closing (Some id) r runs closed closes = subst (λ n. IsTrue (is_running n events)) (eqb-true id closed closes) runs

  closed : (closes : Option ℕ) (r : SealedRecord) → ((id : ℕ) → IsTrue (closes_id id (Local closes r)) → IsTrue (is_running id events)) → closes_running events closes ≡ true
  closed None r all = refl
  closed (Some id) r all = all id (eq-eqb id id refl)

  local_told : (closes : Option ℕ) (r : SealedRecord) → Decides (may_be_said events host (Local closes r)) ((r.idx ≡ length (chain_of events 0 r.host r.tag)) × ((r.host ≡ host) × ((closes_running events closes ≡ true) × RecordFits r)))
  local_told closes r =
      Decides-and (is_next events 0 r) (r.host == host && (closes_running events closes && record_fits r)) (eq_told r.idx (length (chain_of events 0 r.host r.tag)))
      (Decides-and (r.host == host) (closes_running events closes && record_fits r) (eq_told r.host host) (Decides-and (closes_running events closes) (record_fits r) (true_told (closes_running events closes)) (record_told r)))

  from_local : (closes : Option ℕ) (r : SealedRecord) → has_room events (Local closes r) ≡ true → may_be_said events host (Local closes r) ≡ true → MayComeNext events host (Local closes r)
  from_local closes r room said =
      let p = (local_told closes r).0 said in
      record {
        numbered = p.0;
        made_here = p.1.0;
        closes_running = closing closes r p.1.1.0;
        started_apart = λ k s t at is. absurd (local_not_started closes r t is);
        event_fits = p.1.1.1;
        held_fits = (none_told (limit_passed (own_of events 0) (event_weight (Local closes r)) (event_place (Local closes r)))).0 room;
      }

  to_local : (closes : Option ℕ) (r : SealedRecord) → MayComeNext events host (Local closes r) → may_be_said events host (Local closes r) ≡ true
  to_local closes r may = (local_told closes r).1 (may.numbered, (may.made_here, (closed closes r may.closes_running, may.event_fits)))

  taken_told : (owner : ℕ) (r : SealedRecord) → Decides (may_be_said events host (Taken owner r)) ((r.idx ≡ length (chain_of events owner r.host r.tag)) × RecordFits r)
  taken_told owner r = Decides-and (is_next events owner r) (record_fits r) (eq_told r.idx (length (chain_of events owner r.host r.tag))) (record_told r)

  from_taken : (owner : ℕ) (r : SealedRecord) → has_room events (Taken owner r) ≡ true → may_be_said events host (Taken owner r) ≡ true → MayComeNext events host (Taken owner r)
  from_taken owner r room said =
      let p = (taken_told owner r).0 said in
      record {
        numbered = p.0;
        made_here = tt;
        closes_running = λ id closes. absurd (true≢false (sym closes));
        started_apart = λ k s t at is. absurd (taken_not_started owner r t is);
        event_fits = p.1;
        held_fits = (none_told (limit_passed (own_of events owner) (event_weight (Taken owner r)) (event_place (Taken owner r)))).0 room;
      }

  said_told : (event : Event) → has_room events event ≡ true → may_be_said events host event ≡ true → MayComeNext events host event
  said_told (Started s) room said = from_started s room said
  said_told (Local closes r) room said = from_local closes r room said
  said_told (Taken owner r) room said = from_taken owner r room said

  told_said : (event : Event) → MayComeNext events host event → may_be_said events host event ≡ true
  told_said (Started s) may = to_started s may
  told_said (Local closes r) may = to_local closes r may
  told_said (Taken owner r) may = (taken_told owner r).1 (may.numbered, may.event_fits)

  pub may_come_told : (event : Event) → (may_come events host event ≡ true) ↔ MayComeNext events host event
  may_come_told event =
      let room = none_told (limit_passed (own_of events (event_owner event)) (event_weight event) (event_place event)) in (
        λ e. let both = both_true (has_room events event) (may_be_said events host event) e in said_told event both.0 both.1,
        λ may. and_true (has_room events event) (may_be_said events host event) (room.1 may.held_fits) (told_said event may),
      )

-- ---- one behind the other

pub may_all_come_told : (before : List Event) (host : ℕ) (events : List Event) → SoundEvents before host → (may_all_come before host events ≡ true) ↔ SoundEvents (before ++ events) host
may_all_come_told before host [] sound = (λ e. subst (λ all. SoundEvents all host) (sym (append-nil before)) sound, λ all. refl)
may_all_come_told before host (event ∷ events) sound =
    let told = may_come_told before host event in (
      λ e.
          let both = both_true (may_come before host event) (may_all_come (before ++ event ∷ []) host events) e in
          let next = may_all_come_told (before ++ event ∷ []) host events (SoundEvents-push before event host sound (told.0 both.0)) in
          subst (λ all. SoundEvents all host) (append_assoc before (event ∷ []) events) (next.0 both.1),
      λ all.
          let whole : SoundEvents ((before ++ event ∷ []) ++ events) host = subst (λ l. SoundEvents l host) (sym (append_assoc before (event ∷ []) events)) all in
          let first = SoundEvents-prefix (before ++ event ∷ []) events host whole in
          let next = may_all_come_told (before ++ event ∷ []) host events first in
          and_true (may_come before host event) (may_all_come (before ++ event ∷ []) host events) (told.1 (last_may_come before host event first)) (next.1 whole),
    )
