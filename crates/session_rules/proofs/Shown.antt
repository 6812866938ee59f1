-- What a call is shown, or told that it doesn't know, is within the bounds of one reply, at a sound journal.
use Rattle.std.proofs.Common.{◌≡◌, ℕ, ◌+◌, ◌≤◌, Bool, true, false, cond, inl, inr, Option, Some, None, List, [], ◌∷◌, ◌++◌, length, map, take, drop, filter, refl, sym, ap, subst, arith}
use Rattle.std.specs.Prelude.{All, bytes_eq, not, ◌&&◌}
use Rattle.std.specs.Option.{option_map}
use Rattle.std.specs.List.{Contains, sum_by, cons_option, list_any}
use Rattle.std.specs.Ordering.{is_lt}
use Rattle.std.proofs.lemmas.List.{take_at, length-map}
use Rattle.std.proofs.lemmas.List.Elements.{All-nil, All-cons, All-head, All-tail, All-filter, All-take, All-drop, All-map, All-weaker, All-contains, All-contains_itself}
use Rattle.std.proofs.lemmas.List.Sorted.{All-permutation}
use Rattle.std.proofs.lemmas.List.Sums.{sum_by-cons, sum_by-le}
use Rattle.definitions.specs.Uses.{Used}
use Rattle.definitions.specs.Journal.{HistoryRecord}
use Rattle.definitions.specs.Limits.{most_shown_bytes, most_page_weight, most_places, most_tag_bytes, most_listed}
use Rattle.definitions.specs.Search.{hit_bytes, FitsPage, IsPage}
use Rattle.payload_rules.specs.Payloads.{Payload, KvSet, KvDelete, AliasSet, AliasDelete}
use Rattle.record_rules.specs.Records.{SealedRecord, Caller, Entry, Event, Started, Local, Taken, record_weight}
use Rattle.record_rules.specs.Journal.{ChainPlace, ChainCount, events_of, own_of, records_of, in_place, is_owned_by, put_in_order, place_cmp, places_of, status, RecordFits, EventFits, Sound}
use Rattle.view_rules.specs.Changes.{Change, change_of, changes_of, viewed}
use Rattle.view_rules.specs.Views.{ShowsHistory, of_key, of_name, ShowsKv, ShowsAlias}
use Rattle.view_rules.proofs.Settings.{of_key_set, of_name_set}
use Rattle.view_rules.specs.Answers.{ScopedQuery, firsts, is_found, SearchAnswer, Named, named_bytes, IsListOf, IsKey}
use Rattle.step_rules.specs.Calls.{Call, CallFits}
use Rattle.step_rules.specs.Answers.{Answer, Refusal, refused, hits, value_is, keys, aliases, places}
use Rattle.step_rules.specs.Store.{KeyedStore, payload_text_bytes, shown_changes}
use Rattle.step_rules.specs.Step.{Draft, start_draft, record_draft, draft_answer, Unknown, end_unknown, delete_unknown, key_unknown, alias_unknown, Shows, shows_hits, shows_value, shows_no_value, shows_keys, shows_aliases, shows_places, Step, long_step, unknown_step, full_step, taken_step, append_step, read_step}
use Rattle.session_rules.specs.Sessions.{Asked, a_call, SessionAnswer, to_call, Told, told_step, told_disk_fault, told_random_fault, told_no_memory, told_no_memory_at_once, told_bad, told_no_memory_for_bad, told_page, told_page_refused, told_page_disk_fault, told_page_no_memory, told_read, told_unrouted, told_no_memory_for_unrouted}
use Rattle.session_rules.specs.Bytes.{reply_bytes}
use Rattle.step_rules.specs.Sealing.{TextsWithinRecords}
use Rattle.session_rules.specs.Within.{most_reply_bytes, ShowsWithin}
use Rattle.session_rules.proofs.Within.{answer-short}

-- ---- the records of a sound journal

-- the records of events that fit, fit
records_fit : (events : List Event) → All EventFits events → All RecordFits (records_of events)
records_fit [] fit = All-nil RecordFits
records_fit (Started s ∷ events) fit = records_fit events (All-tail EventFits (Started s) events fit)
records_fit (Local closes r ∷ events) fit = All-cons RecordFits r (records_of events) (All-head EventFits (Local closes r) events fit) (records_fit events (All-tail EventFits (Local closes r) events fit))
records_fit (Taken owner r ∷ events) fit = All-cons RecordFits r (records_of events) (All-head EventFits (Taken owner r) events fit) (records_fit events (All-tail EventFits (Taken owner r) events fit))

viewed_fit : (journal : List Entry) (host : ℕ) → Sound journal host → All RecordFits (viewed journal)
viewed_fit journal host sound = records_fit (own_of (events_of journal) 0) (All-filter (is_owned_by 0) EventFits (events_of journal) sound.events_fit)

-- what the change says is no heavier than a record
abbrev IsLight : Change → Type 0
IsLight c = payload_text_bytes c.payload ≤ most_page_weight

-- the change of one more record, which opens to this or doesn't
one_light : (store : KeyedStore) (r : SealedRecord) (records : List SealedRecord) → TextsWithinRecords store → RecordFits r → All IsLight (changes_of store.opens records) → (opened : Option Payload) → store.opens r ≡ opened → All IsLight (changes_of store.opens (r ∷ records))
one_light store r records weighs fits later None is = subst (λ o. All IsLight (cons_option (option_map (change_of r) o) (changes_of store.opens records))) (sym is) later
one_light store r records weighs fits later (Some payload) is =
    let texts : payload_text_bytes payload ≤ record_weight r = weighs r payload is in
    let weight : record_weight r ≤ most_page_weight = fits.weight in
    subst (λ o. All IsLight (cons_option (option_map (change_of r) o) (changes_of store.opens records))) (sym is) (All-cons IsLight (change_of r payload) (changes_of store.opens records) (omega (arith, texts, weight)) later)

-- the changes of records that fit are light
changes_light : (store : KeyedStore) → TextsWithinRecords store → (records : List SealedRecord) → All RecordFits records → All IsLight (changes_of store.opens records)
changes_light store weighs [] fit = All-nil IsLight
changes_light store weighs (r ∷ records) fit = one_light store r records weighs (All-head RecordFits r records fit) (changes_light store weighs records (All-tail RecordFits r records fit)) (store.opens r) refl

shown_light : (store : KeyedStore) (journal : List Entry) → TextsWithinRecords store → Sound journal store.host → All IsLight (shown_changes store journal)
shown_light store journal weighs sound = changes_light store weighs (viewed journal) (viewed_fit journal store.host sound)

-- ---- what light changes show

delete_says_none : (t : Bool) (value : List ℕ) → cond t (Some None) None ≡ Some (Some value) → ⊥
delete_says_none true value is = cc is
delete_says_none false value is = cc is

value_in : Option (List ℕ) → List ℕ → List ℕ
value_in None other = other
value_in (Some value) other = value

kv_light : (namespace key value : List ℕ) (payload : Payload) → payload_text_bytes payload ≤ most_page_weight → of_key namespace key payload ≡ Some (Some value) → length key + length value ≤ most_page_weight
unfolding value_in
kv_light namespace key value (KvSet n k v) light says =
    let is = of_key_set namespace key n k v (Some value) says in
    let same_key : length k ≡ length key = ap length is.1 in
    let same : length v ≡ length value = ap (λ o. length (value_in o [])) is.2 in
    omega (arith, light, same_key, same)
kv_light namespace key value (KvDelete n k) light says = absurd (delete_says_none (bytes_eq n namespace && bytes_eq k key) value says)
kv_light namespace key value _ light says = absurd cc

alias_light : (name value : List ℕ) (payload : Payload) → payload_text_bytes payload ≤ most_page_weight → of_name name payload ≡ Some (Some value) → length name + length value ≤ most_page_weight
unfolding value_in
alias_light name value (AliasSet n v) light says =
    let is = of_name_set name n v (Some value) says in
    let same_name : length n ≡ length name = ap length is.0 in
    let same : length v ≡ length value = ap (λ o. length (value_in o [])) is.1 in
    omega (arith, light, same_name, same)
alias_light name value (AliasDelete n) light says = absurd (delete_says_none (bytes_eq n name) value says)
alias_light name value _ light says = absurd cc

module _ (changes : List Change) (light : All IsLight changes) where
  command_light : (h : HistoryRecord) → ShowsHistory changes h → hit_bytes h ≤ most_page_weight
  command_light h shows =
      let created = shows.1.created in
      subst (λ p. payload_text_bytes p ≤ most_page_weight) created.creates (All-contains IsLight changes shows.0 light created.among)

  value_light : (namespace key value : List ℕ) → ShowsKv changes namespace key value → length key + length value ≤ most_page_weight
  value_light namespace key value shows = kv_light namespace key value shows.0.payload (All-contains IsLight changes shows.0 light shows.1.here.among) shows.1.here.says

  name_light : (name value : List ℕ) → ShowsAlias changes name value → length name + length value ≤ most_page_weight
  name_light name value shows = alias_light name value shows.0.payload (All-contains IsLight changes shows.0 light shows.1.here.among) shows.1.here.says

-- ---- pages

-- what holds of all holds of a page of them
page_of : {X : Type 0} (P : X → Type 0) (bytes_of : X → ℕ) (limit : ℕ) (all page : List X) → IsPage bytes_of limit all page → All P all → All P page
page_of P bytes_of limit all page cut holds = subst (All P) (take_at page cut.rest (length page) refl) (All-take P (length page) (page ++ cut.rest) (subst (All P) cut.begins holds))

-- a page of items of which none is too heavy is light
page_light : {X : Type 0} (bytes_of : X → ℕ) (limit : ℕ) (page : List X) → FitsPage bytes_of limit page → All (λ x. bytes_of x ≤ most_page_weight) page → sum_by bytes_of page ≤ most_shown_bytes
page_light bytes_of limit page (few, inl one) each = let sum = sum_by-le bytes_of 4194304 page each in omega (arith, sum, one)
page_light bytes_of limit page (few, inr light) each = light

firsts_hold : (P : HistoryRecord → Type 0) (found : List HistoryRecord) → All P found → All P (firsts found)
firsts_hold P [] holds = All-nil P
firsts_hold P (h ∷ found) holds =
    All-cons P h _ (All-head P h found holds) (All-filter (λ (later : HistoryRecord). not (bytes_eq later.command h.command)) P (firsts found) (firsts_hold P found (All-tail P h found holds)))

chosen_hold : (P : HistoryRecord → Type 0) (unique : Bool) (found : List HistoryRecord) → All P found → All P (cond unique (firsts found) found)
chosen_hold P true found holds = firsts_hold P found holds
chosen_hold P false found holds = holds

-- what holds of each that a list may have, holds of all of it
of_each : {X : Type 0} (P There : X → Type 0) (all : List X) → ((x : X) → Contains all x → There x) → ((x : X) → There x → P x) → All P all
of_each P There all same holds = All-weaker (Contains all) P (λ x has. holds x (same x has)) all (All-contains_itself all)

module _ (changes : List Change) (light : All IsLight changes) where
  hits_within : (asked : ScopedQuery) (page : List HistoryRecord) → asked.query.limit ≤ most_listed → SearchAnswer changes asked page → ShowsWithin (hits page)
  hits_within asked page few answer =
      let P : HistoryRecord → Type 0 = λ h. hit_bytes h ≤ most_page_weight in
      let a = answer.answer in
      let entries : All P answer.entries = of_each P (ShowsHistory changes) answer.entries (λ h. (answer.listed.same h).0) (command_light changes light) in
      let ordered : All P a.in_order = All-permutation P (filter (is_found asked) answer.entries) a.in_order a.found (All-filter (is_found asked) P answer.entries entries) in
      let chosen : List HistoryRecord = cond asked.unique (firsts a.in_order) a.in_order in
      let left : All P (drop asked.query.offset chosen) = All-drop P asked.query.offset chosen (chosen_hold P asked.unique a.in_order ordered) in
      let paged : All P page = page_of P hit_bytes asked.query.limit (drop asked.query.offset chosen) page a.cut left in
      let count : length page ≤ asked.query.limit = a.cut.fits.0 in
      (omega (arith, few, count), page_light hit_bytes asked.query.limit page a.cut.fits paged)

  list_within : (There : Named → Type 0) (after : List ℕ) (limit : ℕ) (page : List Named) → limit ≤ most_listed → ((item : Named) → There item → named_bytes item ≤ most_page_weight) → IsListOf There after limit page → (length page ≤ most_listed) × (sum_by named_bytes page ≤ most_shown_bytes)
  list_within There after limit page few each list =
      let P : Named → Type 0 = λ item. named_bytes item ≤ most_page_weight in
      let all : All P list.all = of_each P There list.all (λ item has. ((list.same item).0 has).0) each in
      let paged : All P page = page_of P named_bytes limit list.all page list.cut all in
      let count : length page ≤ limit = list.cut.fits.0 in
      (omega (arith, few, count), page_light named_bytes limit page list.cut.fits paged)

  key_light : (namespace : List ℕ) (item : Named) → IsKey changes namespace item → named_bytes item ≤ most_page_weight
  key_light namespace item is =
      let none : length item.value ≡ 0 = ap length is.0 in
      let both = value_light changes light namespace item.name is.1.0 is.1.1 in
      omega (arith, none, both)

-- the names of a list weigh no more than its items
names_light : (page : List Named) → sum_by (λ (key : List ℕ). length key) (map (λ (item : Named). item.name) page) ≤ sum_by named_bytes page
names_light [] = omega arith
names_light (item ∷ page) =
    let first = sum_by-cons (λ (key : List ℕ). length key) item.name (map (λ (i : Named). i.name) page) in
    let second = sum_by-cons named_bytes item page in
    let later = names_light page in
    omega (arith, first, second, later)

-- ---- places

abbrev TagFits : ChainPlace → Type 0
TagFits place = length place.tag ≤ most_tag_bytes

put_holds : (P : ChainPlace → Type 0) (place : ChainPlace) (later : List ChainPlace) → P place → All P later → All P (put_in_order place later)
put_holds P place [] here holds = All-cons P place [] here holds
put_holds P place (other ∷ later) here holds = elim (is_lt (place_cmp place other)) as (λ b. All P (cond b (place ∷ other ∷ later) (other ∷ put_in_order place later))) [
  | true ↦ All-cons P place (other ∷ later) here holds
  | false ↦ All-cons P other (put_in_order place later) (All-head P other later holds) (put_holds P place later here (All-tail P other later holds))
]

places_hold : (records : List SealedRecord) → All RecordFits records → All TagFits (places_of records)
places_hold [] fit = All-nil TagFits
places_hold (r ∷ records) fit =
    let later : All TagFits (places_of records) = places_hold records (All-tail RecordFits r records fit) in
    elim (list_any (in_place r.host r.tag) records) as (λ b. All TagFits (cond b (places_of records) (put_in_order (record { host = r.host; tag = r.tag }) (places_of records)))) [
      | true ↦ later
      | false ↦ put_holds TagFits (record { host = r.host; tag = r.tag }) (places_of records) (All-head RecordFits r records fit).tag later
    ]

places_within : (journal : List Entry) (host : ℕ) → Sound journal host → ShowsWithin (places (status journal 0))
places_within journal host sound =
    let records : List SealedRecord = viewed journal in
    let count : ChainPlace → ChainCount = λ place. record { host = place.host; tag = place.tag; count = length (filter (in_place place.host place.tag) records) } in
    let many : length (places_of records) ≤ most_places = (sound.held_fits 0).places in
    let same : length (map count (places_of records)) ≡ length (places_of records) = length-map (places_of records) count in
    (omega (arith, many, same), All-map (λ (chain : ChainCount). length chain.tag ≤ most_tag_bytes) count (places_of records) (places_hold records (viewed_fit journal host sound)))

-- ---- calls

module _ (store : KeyedStore) (journal : List Entry) (call : Call) (weighs : TextsWithinRecords store) (fits : CallFits call) (sound : Sound journal store.host) where
  within_is : (answer other : Answer) → answer ≡ other → ShowsWithin other → ShowsWithin answer
  within_is answer other is within = subst ShowsWithin (sym is) within

  shows_within : (answer : Answer) → Shows store journal call answer → ShowsWithin answer
  shows_within answer (shows_hits asked page is found same) =
      let numbers = subst (λ c. CallFits c) is fits in
      within_is answer (hits page) same (hits_within (shown_changes store journal) (shown_light store journal weighs sound) asked page numbers.numbers.1.1 found)
  shows_within answer (shows_value namespace key value is shows same) =
      let both = value_light (shown_changes store journal) (shown_light store journal weighs sound) namespace key value shows in
      within_is answer (value_is (Some value)) same (omega (arith, both))
  shows_within answer (shows_no_value _ _ _ _ same) = within_is answer (value_is None) same tt
  shows_within answer (shows_keys namespace after limit page is listed same) =
      let numbers = subst (λ c. CallFits c) is fits in
      let changes = shown_changes store journal in
      let within = list_within changes (shown_light store journal weighs sound) (IsKey changes namespace) after limit page numbers.numbers.1 (key_light changes (shown_light store journal weighs sound) namespace) listed in
      let few = within.0 in
      let light = within.1 in
      let names = names_light page in
      let many = length-map page (λ (item : Named). item.name) in
      within_is answer (keys (map (λ (item : Named). item.name) page)) same (omega (arith, few, many), omega (arith, names, light))
  shows_within answer (shows_aliases after limit page is listed same) =
      let numbers = subst (λ c. CallFits c) is fits in
      let changes = shown_changes store journal in
      within_is answer (aliases page) same (list_within changes (shown_light store journal weighs sound) (λ (item : Named). ShowsAlias changes item.name item.value) after limit page numbers.numbers.1 (λ item shows. name_light changes (shown_light store journal weighs sound) item.name item.value shows) listed)
  shows_within answer (shows_places _ same) = within_is answer (places (status journal 0)) same (places_within journal store.host sound)

unknown_within : (store : KeyedStore) (journal : List Entry) (call : Call) (refusal : Refusal) → CallFits call → Unknown store journal call refusal → ShowsWithin (refused refusal)
unknown_within store journal call refusal fits (end_unknown _ _ _ _ _ _ is) = subst (λ r. ShowsWithin (refused r)) (sym is) tt
unknown_within store journal call refusal fits (delete_unknown _ _ _ is) = subst (λ r. ShowsWithin (refused r)) (sym is) tt
unknown_within store journal call refusal fits (key_unknown namespace key is_call _ is) = let texts = (subst (λ c. CallFits c) is_call fits).texts in subst (λ r. ShowsWithin (refused r)) (sym is) (omega (arith, texts))
unknown_within store journal call refusal fits (alias_unknown name is_call _ is) = let texts = (subst (λ c. CallFits c) is_call fits).texts in subst (λ r. ShowsWithin (refused r)) (sym is) texts

draft_within : (store : KeyedStore) (journal : List Entry) (draft : Draft) (id : ℕ) → ShowsWithin (draft_answer store journal draft id)
draft_within store journal (start_draft command cwd session hostname) id = tt
draft_within store journal (record_draft closes payload) id = tt

-- what a step answers at a sound journal
pub step_within : (store : KeyedStore) (journal : List Entry) (caller : Caller) (call : Call) (used : Used) (after : List Entry) (answer : Answer) → TextsWithinRecords store → CallFits call → Sound after store.host → Step store journal caller call used after answer → ShowsWithin answer
step_within store journal caller call used after answer weighs fits sound (long_step _ _ _ _ r) = subst ShowsWithin (sym r.answer_is) tt
step_within store journal caller call used after answer weighs fits sound (unknown_step _ refusal _ _ unknown r) = subst ShowsWithin (sym r.answer_is) (unknown_within store journal call refusal fits unknown)
step_within store journal caller call used after answer weighs fits sound (full_step _ _ _ _ _ _ _ r) = subst ShowsWithin (sym r.answer_is) tt
step_within store journal caller call used after answer weighs fits sound (taken_step _ _ _ _ _ _ _ r) = subst ShowsWithin (sym r.answer_is) tt
step_within store journal caller call used after answer weighs fits sound (append_step _ _ draft _ _ _ _ _ is) = subst ShowsWithin (sym is) (draft_within store journal draft _)
step_within store journal caller call used after answer weighs fits sound (read_step _ shows stays) = shows_within store journal call weighs fits (subst (λ j. Sound j store.host) stays sound) answer shows

-- ---- replies

abbrev answer_or : SessionAnswer → Answer → Answer
answer_or (to_call answer) other = answer
answer_or _ other = other

module _ (store : KeyedStore) (journal : List Entry) (caller : Caller) (asked : Asked) (front : ℕ) (used : Used) (answer : Answer) (commit : List Entry) where
  is_within : (other : Answer) → to_call answer ≡ to_call other → ShowsWithin other → ShowsWithin answer
  is_within other is within = subst ShowsWithin (sym (ap (λ a. answer_or a answer) is)) within

  told_within : TextsWithinRecords store → ((call : Call) → asked ≡ a_call call → CallFits call) → Sound (take front journal) store.host → Told store journal caller asked front used (to_call answer) commit → ShowsWithin answer
  told_within weighs fits sound (told_step call before given is _ step same) = is_within given same (step_within store before caller call used (take front journal) given weighs (fits call is) sound step)
  told_within weighs fits sound (told_disk_fault _ _ _ _ same _) = is_within _ same tt
  told_within weighs fits sound (told_random_fault _ _ _ _ _ _ same _) = is_within _ same tt
  told_within weighs fits sound (told_no_memory _ _ _ _ same _) = is_within _ same tt
  told_within weighs fits sound (told_no_memory_at_once _ _ _ same _) = is_within _ same tt
  told_within weighs fits sound (told_bad _ _ _ same _) = is_within _ same tt
  told_within weighs fits sound (told_no_memory_for_bad _ _ _ same _) = is_within _ same tt
  told_within weighs fits sound (told_page _ _ _ _ _ _ _ same) = absurd (cc same)
  told_within weighs fits sound (told_page_refused _ _ _ _ _ _ same _) = absurd (cc same)
  told_within weighs fits sound (told_page_disk_fault _ _ _ _ same _) = absurd (cc same)
  told_within weighs fits sound (told_page_no_memory _ _ _ _ same _) = absurd (cc same)
  told_within weighs fits sound (told_read _ _ _ _ _ same _) = absurd (cc same)
  told_within weighs fits sound (told_unrouted _ _ _ same _) = absurd (cc same)
  told_within weighs fits sound (told_no_memory_for_unrouted _ _ _ same _) = absurd (cc same)

pub reply-short : (store : KeyedStore) (journal : List Entry) (caller : Caller) (asked : Asked) (front : ℕ) (used : Used) (answer : Answer) (commit : List Entry) → TextsWithinRecords store → ((call : Call) → asked ≡ a_call call → CallFits call) → Sound (take front journal) store.host
    → Told store journal caller asked front used (to_call answer) commit → length (reply_bytes (record { front = front; answer = answer })) ≤ most_reply_bytes
reply-short store journal caller asked front used answer commit weighs fits sound told = answer-short front answer (told_within store journal caller asked front used answer commit weighs fits sound told)
