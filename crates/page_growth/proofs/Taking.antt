-- A page taken record by record, with marks for what is fresh.
use Rattle.std.proofs.Common.{◌≡◌, ℕ, ◌+◌, ◌-◌, ◌≤◌, ◌<◌, ◌^◌, Bool, true, false, cond, List, [], ◌∷◌, ◌++◌, length, take, drop, get_or, map, filter, Option, Some, None, Result, Ok, Err, refl, sym, ◌∙◌, ap, subst, arith, append_assoc, length-append}
use Rattle.std.specs.Prelude.{min, nat_le, nat_lt, ◌||◌, ◌==◌}
use Rattle.std.specs.Option.{option_or, option_map}
use Rattle.std.proofs.lemmas.Bool.{eq-eqb, ne_eqb}
use Rattle.std.proofs.lemmas.List.{append-nil, map-append, length_push, take_more, take-append-drop}
use Rattle.std.proofs.lemmas.List.Folds.{find-append}
use Rattle.std.proofs.lemmas.List.Sums.{length-filter, count_by-le-length, sum_by_push}
use Rattle.std.proofs.lemmas.List.Elements.{filter-append, filter_map-append}
use Rattle.record_rules.specs.Records.{SealedRecord, Caller, Entry, Event, Started, Local, Taken, record_weight, page_weight}
use Rattle.record_rules.specs.Journal.{PassedLimit, own_events, event_record, records_of, in_place, limit_passed, chain}
use Rattle.record_rules.specs.Growth.{PageRefusal, PageTooLong, PageForked, PageGap, PageFull, same_place, holder, has_long_text, taken_entry, grow}
use Rattle.record_rules.specs.InTurn.{PageTaken, nothing_taken, passed_over, taken_too, take_or_full, take_next, take_beside, take_record, go_on, take_records, batch_of}
use Rattle.record_rules.proofs.Owned.{records_of_taken}
use Rattle.record_rules.proofs.InTurn.{growth_is_in_turn}
use Rattle.chain_index.specs.Meaning.{held_at}
use Rattle.record_model.specs.declared.sealed.Record.{Record}
use Rattle.record_model.specs.Seen.{record_seen, records_seen}
use Rattle.page_growth.specs.declared.pages.PageFail.{PageFail}
use Rattle.page_growth.specs.declared.pages.PageFail.TheVariants.{Refused, NoMemory}
use Rattle.page_growth.specs.Checking.{chosen, taken_so_far, held_so_far, refusal_seen, TakesNext, Checks}
use Rattle.page_growth.proofs.Chosen.{chosen-push}

-- ---- what is held then

module _ (journal : List Entry) (owner : ℕ) (before : List SealedRecord) (marks : List Bool) where
  abbrev owned : List Event
  owned = own_events journal owner

  abbrev fresh : List SealedRecord
  fresh = chosen marks before

  abbrev then_held : List Event
  then_held = held_so_far journal owner before marks

  records_then : records_of then_held ≡ records_of owned ++ fresh
  records_then = filter_map-append event_record owned (map (Taken owner) fresh) ∙ ap (λ (rest : List SealedRecord). records_of owned ++ rest) (records_of_taken owner fresh)

  module _ (r : SealedRecord) where
    holder_then : holder (records_of then_held) r ≡ option_or (holder (records_of owned) r) (holder fresh r)
    holder_then = ap (λ (records : List SealedRecord). holder records r) records_then ∙ find-append (same_place r) (records_of owned) fresh

    abbrev id_in : Option SealedRecord → Option ℕ
    id_in found = option_map (λ (other : SealedRecord). other.id) found

    first_of : (o p : Option SealedRecord) (id : ℕ) → Some id ≡ id_in o → Some id ≡ id_in (option_or o p)
    first_of None p id e = absurd cc
    first_of (Some x) p id e = e

    later_of : (o p : Option SealedRecord) (found : Option ℕ) → None ≡ id_in o → found ≡ id_in p → found ≡ id_in (option_or o p)
    later_of None p found e h = h
    later_of (Some x) p found e h = absurd cc

    -- an id that the journal has, and one that it hasn't
    pub held_first : (id : ℕ) → Some id ≡ held_at journal owner r → Some id ≡ option_map (λ (other : SealedRecord). other.id) (holder (records_of (held_so_far journal owner before marks)) r)
    held_first id e = first_of (holder (records_of owned) r) (holder fresh r) id e ∙ ap id_in (sym holder_then)

    pub held_later : (found : Option ℕ) → None ≡ held_at journal owner r → found ≡ option_map (λ (other : SealedRecord). other.id) (holder (chosen marks before) r)
        → found ≡ option_map (λ (other : SealedRecord). other.id) (holder (records_of (held_so_far journal owner before marks)) r)
    held_later found e h = later_of (holder (records_of owned) r) (holder fresh r) found e h ∙ ap id_in (sym holder_then)

    counted_then : length (filter (in_place r.host r.tag) (records_of then_held)) ≡ length (filter (in_place r.host r.tag) (records_of owned)) + length (filter (in_place r.host r.tag) fresh)
    counted_then =
        ap (λ (records : List SealedRecord). length (filter (in_place r.host r.tag) records)) records_then
        ∙ ap (λ (records : List SealedRecord). length records) (filter-append (in_place r.host r.tag) (records_of owned) fresh)
        ∙ length-append (filter (in_place r.host r.tag) (records_of owned)) (filter (in_place r.host r.tag) fresh)

records_few : (events : List Event) → length (records_of events) ≤ length events
records_few [] = omega arith
records_few (Started s ∷ events) = let few = records_few events in omega (arith, few)
records_few (Local closes r ∷ events) = let few = records_few events in omega (arith, few)
records_few (Taken owner r ∷ events) = let few = records_few events in omega (arith, few)

filter_few : (p : SealedRecord → Bool) (records : List SealedRecord) → length (filter p records) ≤ length records
filter_few p records = let is = length-filter p records in let few = count_by-le-length p records in omega (arith, is, few)

-- the idx that is wanted next, by the chain's length and the fresh records of it; it is at most the number of entries
pub wanted_is : (journal : List Entry) (owner : ℕ) (before : List SealedRecord) (marks : List Bool) (r : SealedRecord) (count more entries : ℕ) → count ≡ length (chain journal owner r.host r.tag) → more ≡ length (filter (in_place r.host r.tag) (chosen marks before))
    → entries < 2 ^ 64 → entries ≡ length (held_so_far journal owner before marks) → min (min (count + more) (2 ^ 64 - 1)) entries ≡ length (filter (in_place r.host r.tag) (records_of (held_so_far journal owner before marks)))
wanted_is journal owner before marks r count more entries c m fits all =
    let held = held_so_far journal owner before marks in
    let sum : length (filter (in_place r.host r.tag) (records_of held)) ≡ length (filter (in_place r.host r.tag) (records_of (own_events journal owner))) + length (filter (in_place r.host r.tag) (chosen marks before)) = counted_then journal owner before marks r in
    let here : count ≡ length (filter (in_place r.host r.tag) (records_of (own_events journal owner))) = c in
    let one = records_few held in
    let two = filter_few (in_place r.host r.tag) (records_of held) in
    omega (arith, sum, here, m, one, two, fits, all)

-- ---- one record

-- a record whose place nobody holds
module _ (held : List Event) (so_far : PageTaken) (r : SealedRecord) where
  abbrev wanted : ℕ
  wanted = length (filter (in_place r.host r.tag) (records_of held))

  abbrev passed_by : Option PassedLimit
  passed_by = limit_passed held (record_weight r) (Some (record { host = r.host; tag = r.tag }))

  next_or_gap : Bool → Result PageTaken PageRefusal
  next_or_gap b = cond b (take_or_full so_far r passed_by) (Err (PageGap so_far.position wanted))

  pub is_gap : (position idx : ℕ) → position ≡ so_far.position → idx ≡ length (filter (in_place r.host r.tag) (records_of held)) → (r.idx ≡ idx → ⊥) → take_next held so_far r ≡ Err (PageGap position idx)
  is_gap position idx p w differs =
      ap (λ (b : Bool). cond b (take_or_full so_far r passed_by) (Err (PageGap so_far.position wanted))) (ne_eqb r.idx wanted (λ e. differs (e ∙ sym w)))
      ∙ (λ i. Err (PageGap (sym p i) (sym w i)))

  is_next : r.idx ≡ wanted → take_next held so_far r ≡ take_or_full so_far r passed_by
  is_next e = ap (λ (b : Bool). cond b (take_or_full so_far r passed_by) (Err (PageGap so_far.position wanted))) (eq-eqb r.idx wanted e)

  pub is_full : (idx : ℕ) (passed : PassedLimit) → idx ≡ length (filter (in_place r.host r.tag) (records_of held)) → r.idx ≡ idx → limit_passed held (record_weight r) (Some (record { host = r.host; tag = r.tag })) ≡ Some passed → take_next held so_far r ≡ Err (PageFull passed)
  is_full idx passed w e full = is_next (e ∙ w) ∙ ap (take_or_full so_far r) full

  pub is_taken : (idx : ℕ) → idx ≡ length (filter (in_place r.host r.tag) (records_of held)) → r.idx ≡ idx → limit_passed held (record_weight r) (Some (record { host = r.host; tag = r.tag })) ≡ None → take_next held so_far r ≡ Ok (taken_too so_far r)
  is_taken idx w e room = is_next (e ∙ w) ∙ ap (take_or_full so_far r) room

module _ (journal : List Entry) (owner : ℕ) (before : List SealedRecord) (marks : List Bool) (r : SealedRecord) (weight : ℕ) (weighs : weight ≡ page_weight before + record_weight r) where
  abbrev so_far : PageTaken
  so_far = taken_so_far before marks

  abbrev held_then : List Event
  held_then = held_so_far journal owner before marks

  abbrev beside : Result PageTaken PageRefusal
  beside = take_beside held_then so_far r (holder (records_of held_then) r)

  -- the test as code makes it
  abbrev long_by : ℕ → Bool
  long_by w = (nat_le 100 (length before) || nat_lt 4194304 w) || has_long_text r

  pub is_long : long_by weight ≡ true → take_record owner (own_events journal owner) (taken_so_far before marks) r ≡ Err (PageTooLong (length before) weight)
  is_long h =
      let too : long_by (page_weight before + record_weight r) ≡ true = subst (λ (w : ℕ). long_by w ≡ true) weighs h in
      ap (λ (b : Bool). cond b (Err (PageTooLong (length before) (page_weight before + record_weight r))) beside) too
      ∙ ap (λ (w : ℕ). Err (PageTooLong (length before) w)) (sym weighs)

  short_enough : long_by weight ≡ false → take_record owner (own_events journal owner) (taken_so_far before marks) r ≡ beside
  short_enough h =
      let fits : long_by (page_weight before + record_weight r) ≡ false = subst (λ (w : ℕ). long_by w ≡ false) weighs h in
      ap (λ (b : Bool). cond b (Err (PageTooLong (length before) (page_weight before + record_weight r))) beside) fits

  by_id : (o : Option SealedRecord) (id : ℕ) → Some id ≡ option_map (λ (other : SealedRecord). other.id) o → take_beside held_then so_far r o ≡ cond (id == r.id) (Ok (passed_over so_far r)) (Err (PageForked (length before) id))
  by_id None id e = absurd cc
  by_id (Some other) id e = let same : other.id ≡ id = cc in ap (λ (i : ℕ). cond (i == r.id) (Ok (passed_over so_far r)) (Err (PageForked (length before) i))) same

  by_none : (o : Option SealedRecord) → None ≡ option_map (λ (other : SealedRecord). other.id) o → take_beside held_then so_far r o ≡ take_next held_then so_far r
  by_none None e = refl
  by_none (Some other) e = absurd cc

  pub is_stale : (id : ℕ) → long_by weight ≡ false → Some id ≡ option_map (λ (other : SealedRecord). other.id) (holder (records_of (held_so_far journal owner before marks)) r) → id ≡ r.id
      → take_record owner (own_events journal owner) (taken_so_far before marks) r ≡ Ok (passed_over (taken_so_far before marks) r)
  is_stale id h found same =
      short_enough h ∙ by_id (holder (records_of held_then) r) id found ∙ ap (λ (b : Bool). cond b (Ok (passed_over so_far r)) (Err (PageForked (length before) id))) (eq-eqb id r.id same)

  pub is_forked : (id : ℕ) → long_by weight ≡ false → Some id ≡ option_map (λ (other : SealedRecord). other.id) (holder (records_of (held_so_far journal owner before marks)) r) → (id ≡ r.id → ⊥)
      → take_record owner (own_events journal owner) (taken_so_far before marks) r ≡ Err (PageForked (length before) id)
  is_forked id h found differs =
      short_enough h ∙ by_id (holder (records_of held_then) r) id found ∙ ap (λ (b : Bool). cond b (Ok (passed_over so_far r)) (Err (PageForked (length before) id))) (ne_eqb id r.id differs)

  pub is_fresh : long_by weight ≡ false → None ≡ option_map (λ (other : SealedRecord). other.id) (holder (records_of (held_so_far journal owner before marks)) r)
      → take_record owner (own_events journal owner) (taken_so_far before marks) r ≡ take_next (held_so_far journal owner before marks) (taken_so_far before marks) r
  is_fresh h found = short_enough h ∙ by_none (holder (records_of held_then) r) found

-- ---- one record more

go_on_ok : (x : Result PageTaken PageRefusal) → go_on x (λ s. Ok s) ≡ x
go_on_ok (Ok s) = refl
go_on_ok (Err e) = refl

take_both : (whose : ℕ) (events : List Event) (s : PageTaken) (first page : List SealedRecord) → take_records whose events s (first ++ page) ≡ go_on (take_records whose events s first) (λ t. take_records whose events t page)
take_both whose events s [] page = refl
take_both whose events s (r ∷ first) page =
    elim (take_record whose events s r) as (λ (one : Result PageTaken PageRefusal). go_on one (λ t. take_records whose events t (first ++ page)) ≡ go_on (go_on one (λ t. take_records whose events t first)) (λ t. take_records whose events t page)) [
      | Ok t ↦ take_both whose events t first page
      | Err refusal ↦ refl
    ]

pub refused_early : (whose : ℕ) (events : List Event) (s : PageTaken) (first page : List SealedRecord) (refusal : PageRefusal) → take_records whose events s first ≡ Err refusal → take_records whose events s (first ++ page) ≡ Err refusal
refused_early whose events s first page refusal e = take_both whose events s first page ∙ ap (λ (one : Result PageTaken PageRefusal). go_on one (λ t. take_records whose events t page)) e

pub take_last : (whose : ℕ) (events : List Event) (s t : PageTaken) (first : List SealedRecord) (r : SealedRecord) → take_records whose events s first ≡ Ok t → take_records whose events s (first ++ r ∷ []) ≡ take_record whose events t r
take_last whose events s t first r e =
    take_both whose events s first (r ∷ []) ∙ ap (λ (one : Result PageTaken PageRefusal). go_on one (λ u. take_records whose events u (r ∷ []))) e ∙ go_on_ok (take_record whose events t r)

module _ (journal : List Entry) (owner : ℕ) (before : List SealedRecord) (marks more : List Bool) (r : SealedRecord) (each : length marks ≡ length before) where
  heavier : page_weight before + record_weight r ≡ page_weight (before ++ r ∷ [])
  heavier = sym (sum_by_push record_weight before r)

  longer : length before + 1 ≡ length (before ++ r ∷ [])
  longer = sym (length_push before r)

  chosen_more : (mark : Bool) → more ≡ marks ++ mark ∷ [] → chosen more (before ++ r ∷ []) ≡ chosen marks before ++ cond mark (r ∷ []) []
  chosen_more mark is = ap (λ (ms : List Bool). chosen ms (before ++ r ∷ [])) is ∙ chosen-push marks before mark r each

  pub marked_so_far : more ≡ marks ++ true ∷ [] → taken_too (taken_so_far before marks) r ≡ taken_so_far (before ++ r ∷ []) more
  marked_so_far is =
      let taken = sym (chosen_more true is) in
      λ i. record { position = longer i; weight = heavier i; taken = taken i }

  pub passed_so_far : more ≡ marks ++ false ∷ [] → passed_over (taken_so_far before marks) r ≡ taken_so_far (before ++ r ∷ []) more
  passed_so_far is =
      let taken = sym (chosen_more false is ∙ append-nil (chosen marks before)) in
      λ i. record { position = longer i; weight = heavier i; taken = taken i }

  pub held_with_it : more ≡ marks ++ true ∷ [] → held_so_far journal owner before marks ++ Taken owner r ∷ [] ≡ held_so_far journal owner (before ++ r ∷ []) more
  held_with_it is =
      append_assoc (own_events journal owner) (map (Taken owner) (chosen marks before)) (Taken owner r ∷ [])
      ∙ ap (λ (events : List Event). own_events journal owner ++ events) (sym (map-append (Taken owner) (chosen marks before) (r ∷ [])) ∙ ap (λ (records : List SealedRecord). map (Taken owner) records) (sym (chosen_more true is)))

  pub held_without : more ≡ marks ++ false ∷ [] → held_so_far journal owner before marks ≡ held_so_far journal owner (before ++ r ∷ []) more
  held_without is = ap (λ (records : List SealedRecord). own_events journal owner ++ map (Taken owner) records) (sym (chosen_more false is ∙ append-nil (chosen marks before)))

-- ---- the whole page

pub grown_is : (journal : List Entry) (owner : ℕ) (page : List SealedRecord) (marks : List Bool) → take_records owner (own_events journal owner) nothing_taken page ≡ Ok (taken_so_far page marks) → (caller : Caller) → grow journal caller owner page ≡ Ok (map (taken_entry caller owner) (chosen marks page))
grown_is journal owner page marks e caller = sym (growth_is_in_turn journal caller owner page) ∙ ap (batch_of caller owner) e

pub refusal_is : (journal : List Entry) (owner : ℕ) (page : List SealedRecord) (refusal : PageRefusal) → take_records owner (own_events journal owner) nothing_taken page ≡ Err refusal → (caller : Caller) → grow journal caller owner page ≡ Err refusal
refusal_is journal owner page refusal e caller = sym (growth_is_in_turn journal caller owner page) ∙ ap (batch_of caller owner) e

-- a page up to one record, with it, and with the records behind it
pub seen_more : (page : List Record) (at : ℕ) (x : Record) → at < length page → x ≡ get_or page at x → records_seen (take (at + 1) page) ≡ records_seen (take at page) ++ record_seen x ∷ []
seen_more page at x below is =
    ap records_seen (take_more page at x below ∙ ap (λ (y : Record). take at page ++ y ∷ []) (sym is)) ∙ map-append record_seen (take at page) (x ∷ [])

pub seen_whole : (page : List Record) (at : ℕ) (x : Record) → at < length page → x ≡ get_or page at x → (records_seen (take at page) ++ record_seen x ∷ []) ++ records_seen (drop (at + 1) page) ≡ records_seen page
seen_whole page at x below is =
    ap (λ (rs : List SealedRecord). rs ++ records_seen (drop (at + 1) page)) (sym (seen_more page at x below is))
    ∙ sym (map-append record_seen (take (at + 1) page) (drop (at + 1) page)) ∙ ap records_seen (take-append-drop (at + 1) page)

-- a page that was refused at one of its records is refused
pub fails_early : (journal : List Entry) (owner : ℕ) (before after page : List SealedRecord) (r : SealedRecord) (fail : PageFail) → (before ++ r ∷ []) ++ after ≡ page → TakesNext (Err fail) journal owner before r → Checks (Err fail) journal owner page
fails_early journal owner before after page r (Refused refusal) whole takes =
    subst (λ (rs : List SealedRecord). Checks (Err (Refused refusal)) journal owner rs) whole
    (refusal_is journal owner ((before ++ r ∷ []) ++ after) (refusal_seen refusal) (refused_early owner (own_events journal owner) nothing_taken (before ++ r ∷ []) after (refusal_seen refusal) takes))
fails_early journal owner before after page r NoMemory whole takes = tt
