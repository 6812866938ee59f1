-- What a step appends may follow the journal.
use Rattle.std.proofs.Common.{◌≡◌, ℕ, ◌≤◌, true, false, cond, ◌⊎◌, inl, inr, List, [], ◌∷◌, length, Option, Some, None, refl, sym, ◌∙◌, ap, subst, arith}
use Rattle.std.specs.Prelude.{◌-◌, nat_lt, ◌==◌, IsTrue, drop}
use Rattle.std.specs.List.{list_any}
use Rattle.std.proofs.lemmas.List.{length-drop}
use Rattle.std.proofs.lemmas.Option.{none-some, same_Some}
use Rattle.std.proofs.lemmas.Bool.{true≢false, ltb-false, eqb-false, eqb-true}
use Rattle.payload_rules.specs.Payloads.{Payload, HistoryCreate, HistoryDelete, KvSet, KvDelete, AliasSet, AliasDelete, Version, version_0, version_1, version_text, tag_of, payload_version}
use Rattle.definitions.specs.Journal.{StartedRecord}
use Rattle.definitions.specs.Search.{author_length}
use Rattle.definitions.specs.Limits.{most_name_bytes, most_tag_bytes, most_page_weight, most_call_bytes}
use Rattle.record_rules.specs.Records.{SealedRecord, Entry, Event, Started, Local, Taken, record_weight, event_weight}
use Rattle.record_rules.specs.Journal.{running, still_running, closes_id, is_running, events_of, chain, first_limit_passed, StartedFits, EventFits, Sound, MayFollow}
use Rattle.record_rules.proofs.Options.{cond_none}
use Rattle.record_rules.proofs.Members.{Has, find_has}
use Rattle.record_rules.proofs.Soundness.{local_not_started}
use Rattle.step_rules.specs.Calls.{Call, start_call, LimitedText, LongText, name_field, value_field, author_field, first_long, long_text, call_bytes, CallFits}
use Rattle.step_rules.specs.Store.{Head, KeyedStore, sealed_record, payload_text_bytes, SealsWell}
use Rattle.step_rules.specs.Step.{Draft, start_draft, record_draft, running_under, started_record, Drafts, start_drafts, end_drafts, delete_drafts, kv_set_drafts, kv_delete_drafts, alias_set_drafts, alias_delete_drafts, draft_passes, draws, drawn_id, next_head, draft_event, starts_id, is_taken}
use Rattle.step_rules.proofs.Finding.{some_passes, none_passes, of_each}

-- ---- texts

-- where no text is too long, the first one isn't, and none of the others is
short_texts : (limited : LimitedText) (later : List LimitedText) → first_long (limited ∷ later) ≡ None → (length limited.text ≤ limited.most) × (first_long later ≡ None)
short_texts limited later short =
    let parts = cond_none {A = LongText} (nat_lt limited.most (length limited.text)) (record { field = limited.field; length = length limited.text }) (first_long later) short in
    (ltb-false limited.most (length limited.text) parts.0, parts.1)

started_fits : (id now : ℕ) (command cwd session hostname : List ℕ) → long_text (start_call command cwd session hostname) ≡ None → StartedFits (started_record id now command cwd session hostname)
started_fits id now command cwd session hostname short =
    let first = short_texts (value_field 1 command) (name_field 2 cwd ∷ name_field 3 session ∷ name_field 4 hostname ∷ []) short in
    let second = short_texts (name_field 2 cwd) (name_field 3 session ∷ name_field 4 hostname ∷ []) first.1 in
    let third = short_texts (name_field 3 session) (name_field 4 hostname ∷ []) second.1 in
    let fourth = short_texts (name_field 4 hostname) [] third.1 in
    record { command = first.0; cwd = second.0; session = third.0; hostname = fourth.0 }

-- an author that isn't too long
author_fits : (author : Option (List ℕ)) → first_long (author_field author) ≡ None → author_length author ≤ most_name_bytes
author_fits None short = omega arith
author_fits (Some author) short = (short_texts (name_field 4 author) [] short).0

-- ---- what runs

here_or_rest : (t s : StartedRecord) (later : List Event) → (Has (still_running later) s → Has later (Started s)) → (t ≡ s) ⊎ Has (still_running later) s → (Started t ≡ Started s) ⊎ Has later (Started s)
here_or_rest t s later rest (inl here) = inl (ap Started here)
here_or_rest t s later rest (inr has) = inr (rest has)

-- what runs was started
was_started : (events : List Event) (s : StartedRecord) → Has (still_running events) s → Has events (Started s)
was_started [] s has = absurd has
was_started (Started t ∷ later) s has =
    let rest = was_started later s in
    elim (list_any (closes_id t.id) later) as (λ b. Has (cond b (still_running later) (t ∷ still_running later)) s → (Started t ≡ Started s) ⊎ Has later (Started s)) [
      | true ↦ λ h. inr (rest h)
      | false ↦ λ h. here_or_rest t s later rest h
    ] has
was_started (Local closes r ∷ later) s has = inr (was_started later s has)
was_started (Taken owner r ∷ later) s has = inr (was_started later s has)

running_fits : (journal : List Entry) (host id : ℕ) (s : StartedRecord) → Sound journal host → running_under id journal ≡ Some s → StartedFits s
running_fits journal host id s sound found =
    of_each EventFits (events_of journal) (Started s) sound.events_fit (was_started (events_of journal) s (find_has (λ (t : StartedRecord). t.id == id) (running journal) s found).1)

closes_what_runs : (journal : List Entry) (id : ℕ) (s : StartedRecord) → running_under id journal ≡ Some s → is_running id (events_of journal) ≡ true
closes_what_runs journal id s found = some_passes (λ (t : StartedRecord). t.id == id) (running journal) s found

-- ---- the drafts of a call

-- what may stand in a draft: texts of a start within their limits, an id that runs, and no more text than one call holds
pub data DraftFits (journal : List Entry) (draft : Draft) : Type 0 where
  start_fits : (command cwd session hostname : List ℕ) → draft ≡ start_draft command cwd session hostname → long_text (start_call command cwd session hostname) ≡ None → DraftFits journal draft
  record_fits : (closes : Option ℕ) (payload : Payload) → draft ≡ record_draft closes payload → ((closed : ℕ) → closes ≡ Some closed → IsTrue (is_running closed (events_of journal))) → payload_text_bytes payload ≤ most_call_bytes → DraftFits journal draft

none_closes : (journal : List Entry) (closed : ℕ) → None ≡ Some closed → IsTrue (is_running closed (events_of journal))
none_closes journal closed some = absurd (none-some closed some)

pub drafts_fit : (store : KeyedStore) (journal : List Entry) (host : ℕ) (call : Call) (draft : Draft) → CallFits call → Sound journal host → long_text call ≡ None → Drafts store journal call draft → DraftFits journal draft
drafts_fit store journal host call draft asked sound short (start_drafts command cwd session hostname call_is draft_is) = start_fits command cwd session hostname draft_is (sym (ap long_text call_is) ∙ short)
drafts_fit store journal host call draft asked sound short (end_drafts id duration exit author s call_is found draft_is) =
    let texts = running_fits journal host id s sound found in
    let command = texts.command in
    let cwd = texts.cwd in
    let session = texts.session in
    let hostname = texts.hostname in
    let by = author_fits author (sym (ap long_text call_is) ∙ short) in
    record_fits (Some id) _ draft_is (λ closed same. subst (λ n. IsTrue (is_running n (events_of journal))) (same_Some id closed same) (closes_what_runs journal id s found)) (omega (arith, command, cwd, session, hostname, by))
drafts_fit store journal host call draft asked sound short (delete_drafts id call_is shown draft_is) = record_fits None _ draft_is (none_closes journal) (omega arith)
drafts_fit store journal host call draft asked sound short (kv_set_drafts namespace key value call_is draft_is) = record_fits None _ draft_is (none_closes journal) (subst (λ n. n ≤ most_call_bytes) (ap call_bytes call_is) asked.texts)
drafts_fit store journal host call draft asked sound short (kv_delete_drafts namespace key call_is shown draft_is) = record_fits None _ draft_is (none_closes journal) (subst (λ n. n ≤ most_call_bytes) (ap call_bytes call_is) asked.texts)
drafts_fit store journal host call draft asked sound short (alias_set_drafts name value call_is draft_is) = record_fits None _ draft_is (none_closes journal) (subst (λ n. n ≤ most_call_bytes) (ap call_bytes call_is) asked.texts)
drafts_fit store journal host call draft asked sound short (alias_delete_drafts name call_is shown draft_is) = record_fits None _ draft_is (none_closes journal) (subst (λ n. n ≤ most_call_bytes) (ap call_bytes call_is) asked.texts)

pub tag_fits : (payload : Payload) → length (tag_of payload) ≤ most_tag_bytes
tag_fits (HistoryCreate h) = omega arith
tag_fits (HistoryDelete id) = omega arith
tag_fits (KvSet namespace key value) = omega arith
tag_fits (KvDelete namespace key) = omega arith
tag_fits (AliasSet name value) = omega arith
tag_fits (AliasDelete name) = omega arith

pub version_length : (version : Version) → length (version_text version) ≡ 2
version_length version_0 = refl
version_length version_1 = refl

-- ---- one more entry

abbrev id_of_start : Event → ℕ
id_of_start (Started s) = s.id
id_of_start (Local closes r) = 0
id_of_start (Taken owner r) = 0

start_follows : (journal : List Entry) (host : ℕ) (new : StartedRecord) → StartedFits new → list_any (starts_id new.id) (events_of journal) ≡ false → first_limit_passed journal 0 (event_weight (Started new)) None ≡ None → MayFollow journal host (Started new)
start_follows journal host new texts apart room = record {
  numbered = tt;
  made_here = tt;
  closes_running = λ closed closes. absurd (true≢false (sym closes));
  started_apart = λ k s t at same ids.
      let other : (s.id == new.id) ≡ false = none_passes (starts_id new.id) (events_of journal) k (Started s) apart at in
      eqb-false s.id new.id other (ids ∙ ap id_of_start (sym same));
  event_fits = texts;
  held_fits = room;
}

-- what is left of the bytes that a record draws, once its id is made
pub seal_bytes : (drawn : List ℕ) → length drawn ≡ 106 → length (drop 10 drawn) ≡ 96
seal_bytes drawn many = length-drop 10 drawn ∙ ap (λ n. n - 10) many

module _ (store : KeyedStore) (journal : List Entry) (closes : Option ℕ) (payload : Payload) (head : Head) (now : ℕ) (random : List ℕ) where
  abbrev made : SealedRecord
  made = sealed_record head now (store.seal head payload random)

  closes_some : (closed : ℕ) (c : Option ℕ) (r : SealedRecord) → IsTrue (closes_id closed (Local c r)) → c ≡ Some closed
  closes_some closed None r is = absurd (true≢false (sym is))
  closes_some closed (Some id) r is = ap Some (eqb-true id closed is)

  record_follows : SealsWell store → head.tag ≡ tag_of payload → head.host ≡ store.host → head.version ≡ version_text (payload_version payload) → head.idx ≡ length (chain journal 0 head.host head.tag)
      → ((closed : ℕ) → closes ≡ Some closed → IsTrue (is_running closed (events_of journal))) → length random ≡ 96 → payload_text_bytes payload ≤ most_call_bytes
      → first_limit_passed journal 0 (store.weight_of payload) (Some (record { host = head.host; tag = head.tag })) ≡ None → MayFollow journal store.host (Local closes made)
  record_follows well tag_is host_is version_is idx_is runs many short room =
      let heavy : record_weight made ≡ store.weight_of payload = well.weighs head payload now random tag_is version_is many in
      let light : store.weight_of payload ≤ most_page_weight = well.light payload short in
      record {
        numbered = idx_is;
        made_here = host_is;
        closes_running = λ closed is. runs closed (closes_some closed closes made is);
        started_apart = λ k s t at same. absurd (local_not_started closes made t same);
        event_fits = record {
          host_name = omega arith;
          version = subst (λ (text : List ℕ). length text ≤ most_tag_bytes) (sym version_is) (let two = version_length (payload_version payload) in omega (arith, two));
          tag = subst (λ (text : List ℕ). length text ≤ most_tag_bytes) (sym tag_is) (tag_fits payload);
          weight = subst (λ n. n ≤ most_page_weight) (sym heavy) light;
        };
        held_fits = ap (λ w. first_limit_passed journal 0 w (Some (record { host = head.host; tag = head.tag }))) heavy ∙ room;
      }

pub draft_follows : (store : KeyedStore) (journal : List Entry) (call : Call) (draft : Draft) (now : ℕ) (drawn : List ℕ) → SealsWell store → length drawn ≡ draws draft → DraftFits journal draft → draft_passes store journal draft ≡ None → is_taken journal draft (drawn_id now drawn) ≡ false → MayFollow journal store.host (draft_event store journal draft now drawn)
draft_follows store journal call draft now drawn well many (start_fits command cwd session hostname draft_is short) room free =
    let room_there : draft_passes store journal (start_draft command cwd session hostname) ≡ None = sym (ap (draft_passes store journal) draft_is) ∙ room in
    let free_there : is_taken journal (start_draft command cwd session hostname) (drawn_id now drawn) ≡ false = sym (ap (λ d. is_taken journal d (drawn_id now drawn)) draft_is) ∙ free in
    subst (λ d. MayFollow journal store.host (draft_event store journal d now drawn)) (sym draft_is)
    (start_follows journal store.host (started_record (drawn_id now drawn) now command cwd session hostname) (started_fits (drawn_id now drawn) now command cwd session hostname short) free_there room_there)
draft_follows store journal call draft now drawn well many (record_fits closes payload draft_is runs short) room free =
    let room_there : draft_passes store journal (record_draft closes payload) ≡ None = sym (ap (draft_passes store journal) draft_is) ∙ room in
    subst (λ d. MayFollow journal store.host (draft_event store journal d now drawn)) (sym draft_is)
    (record_follows store journal closes payload (next_head store journal payload (drawn_id now drawn)) now (drop 10 drawn) well refl refl refl refl runs (seal_bytes drawn (many ∙ ap draws draft_is)) short room_there)
