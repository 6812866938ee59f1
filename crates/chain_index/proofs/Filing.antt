-- What an index tells of the journal of its entries, and what one entry more makes of it.
use Rattle.std.proofs.Common.{◌≡◌, ℕ, zero, suc, ◌+◌, ◌<◌, List, [], ◌∷◌, ◌++◌, length, map, filter, Option, Some, None, Bool, true, false, cond, refl, sym, ap, subst, ◌∙◌, arith}
use Rattle.std.specs.Prelude.{nat_eq, bytes_eq, ◌&&◌, ◌||◌, ◌==◌, slice_get, sum_by, find}
use Rattle.std.specs.List.{list_any}
use Rattle.std.specs.Option.{option_map}
use Rattle.std.specs.Cmp.{nat_eq_equiv}
use Rattle.std.proofs.lemmas.Bool.{ne_eqb, eq-eqb}
use Rattle.std.proofs.lemmas.List.{map-append, length-map, append-nil}
use Rattle.std.proofs.lemmas.List.Elements.{filter-append, filter_map-append}
use Rattle.std.proofs.lemmas.List.Folds.{list_any-append}
use Rattle.std.proofs.lemmas.Option.{slice_get-map}
use Rattle.definitions.specs.Journal.{StartedRecord}
use Rattle.record_rules.specs.Records.{SealedRecord, Entry, Event, Started, Local, Taken, record_weight, event_weight, started_weight}
use Rattle.record_rules.specs.Journal.{Totals, event_record, event_place, is_owned_by, in_place, events_of, own_events, records_of, chain, held, held_of, places_of, places_added, IsNumbered}
use Rattle.record_rules.specs.OneMore.{held_with}
use Rattle.record_rules.proofs.OneMore.{held_with_one}
use Rattle.record_rules.proofs.Soundness.{events_more}
use Rattle.chain_index.specs.declared.links.Link.{Link}
use Rattle.chain_index.specs.declared.owner.Held.{Held}
use Rattle.chain_index.specs.Chains.{IndexSeen, OwnerSeen, links_in, held_in, has_id, held_with_entry, places_by, reserved_in, IdsGrow, OwnersAdd, IndexGrows, HostsSeen, chain_of_host, chain_of_owner, other_in}
use Rattle.chain_index.specs.Meaning.{Filed, journal_of, place_has, is_of, filed_at, id_of, link_of, has_that_id, is_taken, totals_seen, IsIndexOf, SaysRecord, MayAdd, KeepsRooms, spot_seen, StandsAt, held_at}

abbrev record_in : Filed → Option SealedRecord
record_in f = event_record f.entry.event

-- ---- the entries of a chain and its records

map_if : {A B : Type 0} (g : A → B) (t : Bool) (x : A) (xs : List A) → map g (cond t (x ∷ xs) xs) ≡ cond t (g x ∷ map g xs) (map g xs)
map_if g true x xs = refl
map_if g false x xs = refl

module _ (host : ℕ) (tag : List ℕ) where
  one_in : (event : Event) (owned : Bool) (records : List (Option SealedRecord)) (events : List Event) → records ≡ map Some (filter (in_place host tag) (records_of events))
      → cond (owned && place_has host tag (event_record event)) (event_record event ∷ records) records ≡ map Some (filter (in_place host tag) (records_of (cond owned (event ∷ events) events)))
  one_in event false records events h = h
  one_in (Started s) true records events h = h
  one_in (Local closes r) true records events h = ap (λ (rs : List (Option SealedRecord)). cond (in_place host tag r) (Some r ∷ rs) rs) h ∙ sym (map_if Some (in_place host tag r) r (filter (in_place host tag) (records_of events)))
  one_in (Taken whose r) true records events h = ap (λ (rs : List (Option SealedRecord)). cond (in_place host tag r) (Some r ∷ rs) rs) h ∙ sym (map_if Some (in_place host tag r) r (filter (in_place host tag) (records_of events)))

  -- the entries of a chain say its records, in order
  pub records_filed : (filed : List Filed) (owner : ℕ) → map record_in (filed_at filed owner host tag) ≡ map Some (chain (journal_of filed) owner host tag)
  records_filed [] owner = refl
  records_filed (f ∷ filed) owner =
      map_if record_in (is_of owner host tag f) f (filed_at filed owner host tag)
      ∙ one_in f.entry.event (is_owned_by owner f.entry.event) (map record_in (filed_at filed owner host tag)) (own_events (journal_of filed) owner) (records_filed filed owner)

  pub as_many : (filed : List Filed) (owner : ℕ) → length (filed_at filed owner host tag) ≡ length (chain (journal_of filed) owner host tag)
  as_many filed owner = sym (length-map (filed_at filed owner host tag) record_in) ∙ ap (λ (rs : List (Option SealedRecord)). length rs) (records_filed filed owner) ∙ length-map (chain (journal_of filed) owner host tag) Some

ids_of_links : (filed : List Filed) → map (λ (l : Link). l.id) (map link_of filed) ≡ map id_of (map record_in filed)
ids_of_links [] = refl
ids_of_links (f ∷ filed) = ap (λ (ids : List ℕ). id_of (record_in f) ∷ ids) (ids_of_links filed)

ids_of_records : (records : List SealedRecord) → map id_of (map Some records) ≡ map (λ (r : SealedRecord). r.id) records
ids_of_records [] = refl
ids_of_records (r ∷ records) = ap (λ (ids : List ℕ). r.id ∷ ids) (ids_of_records records)

pub option_map-map : {A B C : Type 0} (g : B → C) (f : A → B) (o : Option A) → option_map g (option_map f o) ≡ option_map (λ x. g (f x)) o
option_map-map g f None = refl
option_map-map g f (Some x) = refl

module _ (index : IndexSeen) (filed : List Filed) (is : IsIndexOf index filed) (owner host : ℕ) (tag : List ℕ) where
  -- a chain has as many links as records
  pub counted : length (links_in index owner host tag) ≡ length (chain (journal_of filed) owner host tag)
  counted = ap (λ (ls : List Link). length ls) (is.links owner host tag) ∙ length-map (filed_at filed owner host tag) link_of ∙ as_many host tag filed owner

  -- with the same ids
  pub id_found : (idx : ℕ) → option_map (λ (l : Link). l.id) (slice_get (links_in index owner host tag) idx) ≡ option_map (λ (r : SealedRecord). r.id) (slice_get (chain (journal_of filed) owner host tag) idx)
  id_found idx =
      sym (slice_get-map (λ (l : Link). l.id) (links_in index owner host tag) idx)
      ∙ ap (λ (ids : List ℕ). slice_get ids idx)
      (ap (λ (ls : List Link). map (λ (l : Link). l.id) ls) (is.links owner host tag) ∙ ids_of_links (filed_at filed owner host tag) ∙ ap (λ (rs : List (Option SealedRecord)). map id_of rs) (records_filed host tag filed owner) ∙ ids_of_records (chain (journal_of filed) owner host tag))
      ∙ slice_get-map (λ (r : SealedRecord). r.id) (chain (journal_of filed) owner host tag) idx

  -- at the spots of its entries
  pub spot_found : (idx : ℕ) → option_map (λ (l : Link). (l.spot, l.at)) (slice_get (links_in index owner host tag) idx) ≡ option_map spot_seen (slice_get (filed_at filed owner host tag) idx)
  spot_found idx =
      ap (λ (ls : List Link). option_map (λ (l : Link). (l.spot, l.at)) (slice_get ls idx)) (is.links owner host tag)
      ∙ ap (λ (o : Option Link). option_map (λ (l : Link). (l.spot, l.at)) o) (slice_get-map link_of (filed_at filed owner host tag) idx)
      ∙ option_map-map (λ (l : Link). (l.spot, l.at)) link_of (slice_get (filed_at filed owner host tag) idx)

-- ---- the record that is compared with another

find_in : (p q : SealedRecord → Bool) (records : List SealedRecord) → find (λ r. p r && q r) records ≡ find q (filter p records)
find_in p q [] = refl
find_in p q (r ∷ records) = by (p r) (find_in p q records)
  where
    by : (t : Bool) → find (λ r. p r && q r) records ≡ find q (filter p records) → cond (t && q r) (Some r) (find (λ r. p r && q r) records) ≡ find q (cond t (r ∷ filter p records) (filter p records))
    by true more = ap (λ (o : Option SealedRecord). cond (q r) (Some r) o) more
    by false more = more

at_idx : (records : List SealedRecord) (k n m : ℕ) → m ≡ k + n → ((j : ℕ) (r : SealedRecord) → slice_get records j ≡ Some r → r.idx ≡ k + j) → find (λ (r : SealedRecord). r.idx == m) records ≡ slice_get records n
at_idx [] k n m is numbered = refl
at_idx (r ∷ records) k zero m is numbered =
    let first : r.idx ≡ m = numbered 0 r refl ∙ sym is in
    ap (λ (t : Bool). cond t (Some r) (find (λ (r : SealedRecord). r.idx == m) records)) (eq-eqb r.idx m first)
at_idx (r ∷ records) k (suc n) m is numbered =
    let first = numbered 0 r refl in
    ap (λ (t : Bool). cond t (Some r) (find (λ (r : SealedRecord). r.idx == m) records)) (ne_eqb r.idx m (λ e. absurd (omega (arith, e, first, is))))
    ∙ at_idx records (k + 1) n m (omega (arith, is)) (λ j x at. let next = numbered (suc j) x at in omega (arith, next))

pub holder_found : (journal : List Entry) (owner host idx : ℕ) (tag : List ℕ) (r : SealedRecord) → IsNumbered (chain journal owner host tag) → StandsAt r host tag idx → option_map (λ (x : SealedRecord). x.id) (slice_get (chain journal owner host tag) idx) ≡ held_at journal owner r
holder_found journal owner host idx tag r numbered stands =
    ap (λ (o : Option SealedRecord). option_map (λ (x : SealedRecord). x.id) o)
    (sym (at_idx (chain journal owner host tag) 0 idx idx (omega arith) (λ j x at. let e = numbered j x at in omega (arith, e))) ∙ sym (find_in (in_place host tag) (λ (x : SealedRecord). x.idx == idx) (records_of (own_events journal owner)))
    ∙ (λ i. find (λ (x : SealedRecord). in_place (sym stands.host_is i) (sym stands.tag_is i) x && x.idx == sym stands.idx_is i) (records_of (own_events journal owner))))

-- ---- where only memory was taken

pub grown_is : (old new : IndexSeen) → IndexGrows old new → (filed : List Filed) → IsIndexOf old filed → IsIndexOf new filed
grown_is old new grow filed is = record {
  links = λ o h q. ((grow.owners o).hosts h q).0 ∙ is.links o h q;
  held = λ o. ap totals_seen (grow.owners o).held ∙ is.held o;
  ids = λ id. grow.has id ∙ is.ids id;
}

-- ---- one entry more

put_if : {A : Type 0} (t : Bool) (xs : List A) (x : A) → xs ++ cond t (x ∷ []) [] ≡ cond t (xs ++ x ∷ []) xs
put_if true xs x = refl
put_if false xs x = append-nil xs

module _ (filed : List Filed) (f : Filed) where
  journal_more : journal_of (filed ++ f ∷ []) ≡ journal_of filed ++ f.entry ∷ []
  journal_more = map-append (λ (g : Filed). g.entry) filed (f ∷ [])

  links_more : (owner host : ℕ) (tag : List ℕ) → map link_of (filed_at (filed ++ f ∷ []) owner host tag) ≡ cond (is_of owner host tag f) (map link_of (filed_at filed owner host tag) ++ link_of f ∷ []) (map link_of (filed_at filed owner host tag))
  links_more owner host tag =
      ap (λ (gs : List Filed). map link_of gs) (filter-append (is_of owner host tag) filed (f ∷ []))
      ∙ map-append link_of (filed_at filed owner host tag) (filter (is_of owner host tag) (f ∷ []))
      ∙ ap (λ (ls : List Link). map link_of (filed_at filed owner host tag) ++ ls) (map_if link_of (is_of owner host tag f) f [])
      ∙ put_if (is_of owner host tag f) (map link_of (filed_at filed owner host tag)) (link_of f)

  held_more : (o : ℕ) → held (journal_of (filed ++ f ∷ [])) o ≡ held_with o (own_events (journal_of filed) o) f.entry.event
  held_more o = ap (λ (j : List Entry). held j o) journal_more ∙ held_with_one (journal_of filed) f.entry o

  taken_more : (id : ℕ) → is_taken (journal_of (filed ++ f ∷ [])) id ≡ (is_taken (journal_of filed) id || list_any (has_that_id id) (records_of (f.entry.event ∷ [])))
  taken_more id =
      ap (λ (j : List Entry). is_taken j id) journal_more
      ∙ ap (λ (es : List Event). list_any (has_that_id id) (records_of es)) (events_more (journal_of filed) f.entry)
      ∙ ap (λ (rs : List SealedRecord). list_any (has_that_id id) rs) (filter_map-append event_record (events_of (journal_of filed)) (f.entry.event ∷ []))
      ∙ list_any-append (has_that_id id) (records_of (events_of (journal_of filed))) (records_of (f.entry.event ∷ []))

-- how many places a record adds, by its chain
added_by_count : (host : ℕ) (tag : List ℕ) (records : List SealedRecord) → places_by (length (filter (in_place host tag) records)) ≡ cond (list_any (in_place host tag) records) 0 1
added_by_count host tag [] = refl
added_by_count host tag (r ∷ records) = by (in_place host tag r) (added_by_count host tag records)
  where
    by : (b : Bool) → places_by (length (filter (in_place host tag) records)) ≡ cond (list_any (in_place host tag) records) 0 1
        → places_by (length (cond b (r ∷ filter (in_place host tag) records) (filter (in_place host tag) records))) ≡ cond (b || list_any (in_place host tag) records) 0 1
    by true h = ap (λ (b : Bool). cond b 1 0) (ne_eqb (suc (length (filter (in_place host tag) records))) 0 (λ e. absurd (omega (arith, e))))
    by false h = h

-- what an owner holds, with one more event of this weight and so many places more
held_one : (owned : Bool) (events : List Event) (event : Event) (old new : Held) (weight places : ℕ) → totals_seen old ≡ held_of events → new ≡ cond owned (held_with_entry old weight places) old → weight ≡ event_weight event → places ≡ places_added events (event_place event)
    → totals_seen new ≡ cond owned (record { entries = length events + 1; weight = sum_by event_weight events + event_weight event; places = length (places_of (records_of events)) + places_added events (event_place event) }) (held_of events)
held_one true events event old new weight places was is weighs adds =
    ap totals_seen is
    ∙ (λ i. record { entries = ap (λ (t : Totals). t.entries) was i + 1; weight = ap (λ (t : Totals). t.weight) was i + weighs i; places = ap (λ (t : Totals). t.places) was i + adds i })
held_one false events event old new weight places was is weighs adds = ap totals_seen is ∙ was

weight_of_record : (event : Event) (r : SealedRecord) → event_record event ≡ Some r → record_weight r ≡ event_weight event
weight_of_record (Started s) r e = absurd cc
weight_of_record (Local closes other) r e = let same : other ≡ r = cc in ap record_weight (sym same)
weight_of_record (Taken whose other) r e = let same : other ≡ r = cc in ap record_weight (sym same)

place_of_record : (event : Event) (r : SealedRecord) → event_record event ≡ Some r → event_place event ≡ Some (record { host = r.host; tag = r.tag })
place_of_record (Started s) r e = absurd cc
place_of_record (Local closes other) r e = let same : other ≡ r = cc in ap (λ (x : SealedRecord). Some (record { host = x.host; tag = x.tag })) same
place_of_record (Taken whose other) r e = let same : other ≡ r = cc in ap (λ (x : SealedRecord). Some (record { host = x.host; tag = x.tag })) same

records_of_one : (event : Event) (r : SealedRecord) → event_record event ≡ Some r → records_of (event ∷ []) ≡ r ∷ []
records_of_one (Started s) r e = absurd cc
records_of_one (Local closes other) r e = let same : other ≡ r = cc in ap (λ (x : SealedRecord). x ∷ []) same
records_of_one (Taken whose other) r e = let same : other ≡ r = cc in ap (λ (x : SealedRecord). x ∷ []) same

or_last : (known same : Bool) → cond same true known ≡ (known || (same || false))
or_last true true = refl
or_last true false = refl
or_last false true = refl
or_last false false = refl

or_nothing : (known : Bool) → known ≡ (known || false)
or_nothing true = refl
or_nothing false = refl

module _ (old new : IndexSeen) (filed : List Filed) (f : Filed) (owner : ℕ) (r : SealedRecord) (is : IsIndexOf old filed) (says : SaysRecord f.entry owner r)
    (adds : OwnersAdd owner r.host r.tag (record_weight r) (link_of f) old new) (ids : (q : ℕ) → has_id new.ids q ≡ cond (nat_eq r.id q) true (has_id old.ids q)) where
  here : (o h : ℕ) (q : List ℕ) → (nat_eq owner o && (nat_eq r.host h && bytes_eq r.tag q)) ≡ is_of o h q f
  here o h q = sym ((λ i. nat_eq (says.owned i) o && place_has h q (says.is i)))

  links_put : (o h : ℕ) (q : List ℕ) → links_in new o h q ≡ map link_of (filed_at (filed ++ f ∷ []) o h q)
  links_put o h q =
      ((adds o).chains h q).0
      ∙ (λ i. cond (here o h q i) (is.links o h q i ++ link_of f ∷ []) (is.links o h q i))
      ∙ sym (links_more filed f o h q)

  held_put : (o : ℕ) → totals_seen (held_in new o) ≡ held (journal_of (filed ++ f ∷ [])) o
  held_put o =
      let places : places_by (length (links_in old o r.host r.tag)) ≡ places_added (own_events (journal_of filed) o) (event_place f.entry.event)
      = ap places_by (counted old filed is o r.host r.tag) ∙ added_by_count r.host r.tag (records_of (own_events (journal_of filed) o)) ∙ ap (places_added (own_events (journal_of filed) o)) (sym (place_of_record f.entry.event r says.is)) in
      let mine : nat_eq owner o ≡ is_owned_by o f.entry.event = ap (λ (n : ℕ). n == o) (sym says.owned) in
      held_one (is_owned_by o f.entry.event) (own_events (journal_of filed) o) f.entry.event (held_in old o) (held_in new o) (record_weight r) (places_by (length (links_in old o r.host r.tag))) (is.held o)
      (subst (λ (t : Bool). held_in new o ≡ cond t (held_with_entry (held_in old o) (record_weight r) (places_by (length (links_in old o r.host r.tag)))) (held_in old o)) mine (adds o).held)
      (weight_of_record f.entry.event r says.is) places
      ∙ sym (held_more filed f o)

  taken_put : (id : ℕ) → has_id new.ids id ≡ is_taken (journal_of (filed ++ f ∷ [])) id
  taken_put id =
      ids id ∙ ap (cond (nat_eq r.id id) true) (is.ids id) ∙ or_last (is_taken (journal_of filed) id) (nat_eq r.id id)
      ∙ ap (λ (rs : List SealedRecord). is_taken (journal_of filed) id || list_any (has_that_id id) rs) (sym (records_of_one f.entry.event r says.is))
      ∙ sym (taken_more filed f id)

  pub filed_is : IsIndexOf new (filed ++ f ∷ [])
  filed_is = record { links = links_put; held = held_put; ids = taken_put }

-- ---- a started command more

and_false : (t : Bool) → (t && false) ≡ false
and_false true = refl
and_false false = refl

module _ (old new : IndexSeen) (filed : List Filed) (f : Filed) (s : StartedRecord) (weight : ℕ) (is : IsIndexOf old filed) (says : f.entry.event ≡ Started s) (weighs : started_weight s ≡ weight)
    (held_is : new.here.held ≡ held_with_entry old.here.held weight 0) (hosts_are : new.here.hosts ≡ old.here.hosts) (others_are : new.others ≡ old.others) (ids_are : new.ids ≡ old.ids) where
  same_links : (o h : ℕ) (q : List ℕ) → links_in new o h q ≡ links_in old o h q
  same_links o h q = by (nat_eq o 0)
    where
      by : (t : Bool) → (chain_of_owner (cond t new.here (other_in new.others o)) h q).links ≡ (chain_of_owner (cond t old.here (other_in old.others o)) h q).links
      by true = ap (λ (hs : HostsSeen). (chain_of_host hs h q).links) hosts_are
      by false = ap (λ (os : List (ℕ × OwnerSeen)). (chain_of_owner (other_in os o) h q).links) others_are

  one_held : (o : ℕ) → held_in new o ≡ cond (is_owned_by o f.entry.event) (held_with_entry (held_in old o) weight 0) (held_in old o)
  one_held o = by (nat_eq o 0) ∙ ap (λ (t : Bool). cond t (held_with_entry (held_in old o) weight 0) (held_in old o)) (nat_eq_equiv.symm o 0 ∙ ap (is_owned_by o) (sym says))
    where
      by : (t : Bool) → (cond t new.here (other_in new.others o)).held ≡ cond t (held_with_entry (cond t old.here (other_in old.others o)).held weight 0) (cond t old.here (other_in old.others o)).held
      by true = held_is
      by false = ap (λ (os : List (ℕ × OwnerSeen)). (other_in os o).held) others_are

  no_place : (o h : ℕ) (q : List ℕ) → is_of o h q f ≡ false
  no_place o h q = ap (λ (e : Event). is_owned_by o e && place_has h q (event_record e)) says ∙ and_false (0 == o)

  pub started_is : IsIndexOf new (filed ++ f ∷ [])
  started_is = record {
    links = λ o h q. same_links o h q ∙ is.links o h q
        ∙ sym (links_more filed f o h q ∙ ap (λ (t : Bool). cond t (map link_of (filed_at filed o h q) ++ link_of f ∷ []) (map link_of (filed_at filed o h q))) (no_place o h q));
    held = λ o. held_one (is_owned_by o f.entry.event) (own_events (journal_of filed) o) f.entry.event (held_in old o) (held_in new o) weight 0 (is.held o) (one_held o)
        (sym weighs ∙ ap event_weight (sym says)) (ap (λ (e : Event). places_added (own_events (journal_of filed) o) (event_place e)) (sym says))
        ∙ sym (held_more filed f o);
    ids = λ id. ap (λ (ids : List (ℕ × Bool)). has_id ids id) ids_are ∙ is.ids id ∙ or_nothing (is_taken (journal_of filed) id)
        ∙ ap (λ (e : Event). is_taken (journal_of filed) id || list_any (has_that_id id) (records_of (e ∷ []))) (sym says) ∙ sym (taken_more filed f id);
  }

-- ---- rooms

pub room_there : (index : IndexSeen) (owner : ℕ) (r : SealedRecord) → MayAdd index owner r → length (links_in index owner r.host r.tag) < reserved_in index owner r.host r.tag
room_there index owner r may = subst (λ (n : ℕ). n < reserved_in index owner r.host r.tag) (may.next ∙ sym (counted index may.filed may.is owner r.host r.tag)) may.ready.chain

pub rooms_kept : (old new : IndexSeen) (owner host : ℕ) (tag : List ℕ) (weight : ℕ) (link : Link) → OwnersAdd owner host tag weight link old new → IdsGrow old.ids new.ids → KeepsRooms old new
rooms_kept old new owner host tag weight link adds ids o r ready =
    let was = ready.chain in
    let kept = ((adds o).chains r.host r.tag).1 in
    record { chain = omega (arith, was, kept); id = ids r.id ready.id }
