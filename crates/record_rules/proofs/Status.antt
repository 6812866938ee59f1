-- A status tells the length of each chain.
use Rattle.std.proofs.Common.{◌≡◌, ℕ, ◌<◌, Bool, true, false, ◌||◌, ◌&&◌, cond, inl, inr, List, [], ◌∷◌, length, map, filter, refl, sym, ◌∙◌, ap, subst, arith}
use Rattle.std.specs.Prelude.{All, bytes_eq, nat_lt, ◌==◌}
use Rattle.std.specs.Cmp.{IsTotalOrder}
use Rattle.std.specs.Cmp.Lexicographic.{slice_cmp, texts_ties}
use Rattle.std.specs.declared.cmp.Ordering.{Ordering}
use Rattle.std.specs.declared.cmp.Ordering.TheVariants.{Less, Equal, Greater}
use Rattle.std.specs.Ordering.{is_lt, is_eq, nat_cmp, ordering_then, ordering_reverse}
use Rattle.std.proofs.lemmas.Cmp.{then_total, on_total, nat_cmp_total, nat_list_cmp_total, ranked, tied_itself}
use Rattle.std.specs.List.{list_any, AllByRecursion}
use Rattle.std.proofs.lemmas.Bool.{true≢false, cases_Bool, and_parts, eqb-true, eq-eqb, and_from, or_left, or_right, or_from, or_parts, false_from_ne_true, lt-ltb}
use Rattle.std.proofs.lemmas.List.Elements.{All-from_recursion, All-head, All-tail}
use Rattle.std.proofs.lemmas.Slice.Eq.{bytes_eq-Decides}
use Rattle.record_rules.specs.Records.{SealedRecord, Entry}
use Rattle.record_rules.specs.Journal.{ChainPlace, ChainCount, own_events, records_of, in_place, chain, place_cmp, put_in_order, places_of, status, count_at, Ascends}
use Rattle.record_rules.proofs.Spots.{in_place-true, in_place_itself}

-- whether a place is of that host and tag
abbrev pub is_place : ℕ → List ℕ → ChainPlace → Bool
is_place host tag place = place.host == host && bytes_eq place.tag tag

-- the count of one place
abbrev pub count_of : List SealedRecord → ChainPlace → ChainCount
count_of records place = record { host = place.host; tag = place.tag; count = length (filter (in_place place.host place.tag) records) }

count_at_places : (records : List SealedRecord) (places : List ChainPlace) (host : ℕ) (tag : List ℕ) → count_at (map (count_of records) places) host tag ≡ cond (list_any (is_place host tag) places) (length (filter (in_place host tag) records)) 0
count_at_places records [] host tag = refl
count_at_places records (place ∷ places) host tag =
    elim (cases_Bool (is_place host tag place)) [
      | inl here ↦
          let parts = and_parts (place.host == host) (bytes_eq place.tag tag) here in
          let at = eqb-true place.host host parts.0 in
          let tagged = (bytes_eq-Decides place.tag tag).0 parts.1 in
          rw here (λ i. length (filter (in_place (at i) (tagged i)) records))
      | inr elsewhere ↦ rw elsewhere (count_at_places records places host tag)
    ]

or_swap : (a b c : Bool) → (a || (b || c)) ≡ (b || (a || c))
or_swap true true c = refl
or_swap true false c = refl
or_swap false true c = refl
or_swap false false c = refl

any_put : (p : ChainPlace → Bool) (place : ChainPlace) (places : List ChainPlace) → list_any p (put_in_order place places) ≡ (p place || list_any p places)
any_put p place [] = refl
any_put p place (other ∷ places) =
    elim (is_lt (place_cmp place other)) as (λ b. list_any p (cond b (place ∷ other ∷ places) (other ∷ put_in_order place places)) ≡ (p place || (p other || list_any p places))) [
      | true ↦ refl
      | false ↦ ap (λ rest. p other || rest) (any_put p place places) ∙ or_swap (p other) (p place) (list_any p places)
    ]

-- a place is listed where a record is in it
pub any_place : (host : ℕ) (tag : List ℕ) (records : List SealedRecord) → list_any (is_place host tag) (places_of records) ≡ list_any (in_place host tag) records
any_place host tag [] = refl
any_place host tag (r ∷ records) =
    let place : ChainPlace = record { host = r.host; tag = r.tag } in
    let later = any_place host tag records in
    elim (cases_Bool (list_any (in_place r.host r.tag) records)) [
      | inl again ↦ rw again (later ∙ known again)
      | inr new ↦ rw new (any_put (is_place host tag) place (places_of records) ∙ ap (λ b. in_place host tag r || b) later)
    ]
  where
    known : list_any (in_place r.host r.tag) records ≡ true → list_any (in_place host tag) records ≡ (in_place host tag r || list_any (in_place host tag) records)
    known again =
        elim (cases_Bool (in_place host tag r)) [
          | inl here ↦
              let at = in_place-true host tag r here in
              let any : list_any (in_place host tag) records ≡ true = (λ i. list_any (in_place (sym at.host_is i) (sym at.tag_is i)) records) ∙ again in
              any ∙ ap (λ b. b || list_any (in_place host tag) records) (sym here)
          | inr elsewhere ↦ ap (λ b. b || list_any (in_place host tag) records) (sym elsewhere)
        ]

none_in_place : (p : SealedRecord → Bool) (records : List SealedRecord) → list_any p records ≡ false → length (filter p records) ≡ 0
none_in_place p [] none = refl
none_in_place p (r ∷ records) none =
    elim (p r) as (λ b. (b || list_any p records) ≡ false → length (cond b (r ∷ filter p records) (filter p records)) ≡ 0) [
      | true ↦ λ absent. absurd (true≢false absent)
      | false ↦ λ rest. none_in_place p records rest
    ] none

some_in_place : (p : SealedRecord → Bool) (records : List SealedRecord) → list_any p records ≡ true → 0 < length (filter p records)
some_in_place p [] any = absurd (true≢false (sym any))
some_in_place p (r ∷ records) any =
    elim (p r) as (λ b. (b || list_any p records) ≡ true → 0 < length (cond b (r ∷ filter p records) (filter p records))) [
      | true ↦ λ _. omega arith
      | false ↦ λ rest. some_in_place p records rest
    ] any

pub count_is_length : (records : List SealedRecord) (host : ℕ) (tag : List ℕ) → count_at (map (count_of records) (places_of records)) host tag ≡ length (filter (in_place host tag) records)
count_is_length records host tag =
    count_at_places records (places_of records) host tag ∙ ap (λ b. cond b (length (filter (in_place host tag) records)) 0) (any_place host tag records) ∙ elim (cases_Bool (list_any (in_place host tag) records)) [
      | inl any ↦ ap (λ b. cond b (length (filter (in_place host tag) records)) 0) any
      | inr none ↦ ap (λ b. cond b (length (filter (in_place host tag) records)) 0) none ∙ sym (none_in_place (in_place host tag) records none)
    ]

pub status_counts : (journal : List Entry) (owner host : ℕ) (tag : List ℕ) → count_at (status journal owner) host tag ≡ length (chain journal owner host tag)
status_counts journal owner host tag = count_is_length (records_of (own_events journal owner)) host tag

-- ---- in order, and no chain empty

pub place_total : IsTotalOrder place_cmp
place_total = then_total (on_total (λ (place : ChainPlace). place.host) nat_cmp_total) (on_total (λ (place : ChainPlace). place.tag) nat_list_cmp_total)

both_equal : (a b : Ordering) → ordering_then a b ≡ Equal → (a ≡ Equal) × (b ≡ Equal)
both_equal Less b h = cc
both_equal Equal b h = (refl, h)
both_equal Greater b h = cc

tied_places : (place other : ChainPlace) → place_cmp place other ≡ Equal → is_place place.host place.tag other ≡ true
tied_places place other tied =
    let both = both_equal (nat_cmp place.host other.host) (slice_cmp nat_cmp place.tag other.tag) tied in
    let hosts : place.host ≡ other.host = ranked place.host other.host Equal (sym both.0) in
    let tags : place.tag ≡ other.tag = (bytes_eq-Decides place.tag other.tag).0 (texts_ties place.tag other.tag ∙ ap is_eq both.1) in
    and_from (other.host == place.host) (bytes_eq other.tag place.tag) (eq-eqb other.host place.host (sym hosts)) ((bytes_eq-Decides other.tag place.tag).1 (sym tags))

put_all : (P : ChainPlace → Type 0) (place : ChainPlace) (places : List ChainPlace) → P place → AllByRecursion P places → AllByRecursion P (put_in_order place places)
put_all P place [] here all = (here, tt)
put_all P place (other ∷ places) here all =
    elim (is_lt (place_cmp place other)) as (λ b. AllByRecursion P (cond b (place ∷ other ∷ places) (other ∷ put_in_order place places))) [
      | true ↦ (here, (all.0, all.1))
      | false ↦ (all.0, put_all P place places here all.1)
    ]

later_all : (place other : ChainPlace) (places : List ChainPlace) → place_cmp place other ≡ Less → AllByRecursion (λ later. place_cmp other later ≡ Less) places → AllByRecursion (λ later. place_cmp place later ≡ Less) places
later_all place other [] less all = tt
later_all place other (later ∷ places) less all = (place_total.trans place other later less all.0, later_all place other places less all.1)

put_ascends : (place : ChainPlace) (places : List ChainPlace) → Ascends places → list_any (is_place place.host place.tag) places ≡ false → Ascends (put_in_order place places)
put_ascends place [] ascends new = (tt, tt)
put_ascends place (other ∷ places) ascends new =
    by_order (place_cmp place other) refl (put_ascends place places ascends.1)
  where
    by_order : (o : Ordering) → place_cmp place other ≡ o → (list_any (is_place place.host place.tag) places ≡ false → Ascends (put_in_order place places)) → Ascends (cond (is_lt o) (place ∷ other ∷ places) (other ∷ put_in_order place places))
    by_order Less less rest = ((less, later_all place other places less ascends.0), ascends)
    by_order Equal tied rest = absurd (true≢false (sym (tied_places place other tied) ∙ (or_parts (is_place place.host place.tag other) (list_any (is_place place.host place.tag) places) new).0))
    by_order Greater greater rest =
        let before : place_cmp other place ≡ Less = place_total.antisymm other place ∙ ap ordering_reverse greater in
        (put_all (λ later. place_cmp other later ≡ Less) place places before ascends.0, rest (or_parts (is_place place.host place.tag other) (list_any (is_place place.host place.tag) places) new).1)

pub places_ascend : (records : List SealedRecord) → Ascends (places_of records)
places_ascend [] = tt
places_ascend (r ∷ records) =
    elim (cases_Bool (list_any (in_place r.host r.tag) records)) [
      | inl again ↦ rw again (places_ascend records)
      | inr new ↦ rw new (put_ascends (record { host = r.host; tag = r.tag }) (places_of records) (places_ascend records) (any_place r.host r.tag records ∙ new))
    ]

-- the places of a status are those of the records
listed_places : (records : List SealedRecord) (places : List ChainPlace) → map (λ (listed : ChainCount). record { host = listed.host; tag = listed.tag }) (map (count_of records) places) ≡ places
listed_places records [] = refl
listed_places records (place ∷ places) = ap (λ rest. place ∷ rest) (listed_places records places)

pub status_ascends : (journal : List Entry) (owner : ℕ) → Ascends (map (λ (listed : ChainCount). record { host = listed.host; tag = listed.tag }) (status journal owner))
status_ascends journal owner = subst Ascends (sym (listed_places (records_of (own_events journal owner)) (places_of (records_of (own_events journal owner))))) (places_ascend (records_of (own_events journal owner)))

weaker_all : (P Q : ChainPlace → Type 0) (places : List ChainPlace) → ((place : ChainPlace) → P place → Q place) → AllByRecursion P places → AllByRecursion Q places
weaker_all P Q [] step all = tt
weaker_all P Q (place ∷ places) step all = (step place all.0, weaker_all P Q places step all.1)

-- each listed place has a record
places_used : (records : List SealedRecord) → AllByRecursion (λ place. list_any (in_place place.host place.tag) records ≡ true) (places_of records)
places_used [] = tt
places_used (r ∷ records) =
    let Used = λ (place : ChainPlace). list_any (in_place place.host place.tag) (r ∷ records) ≡ true in
    let later : AllByRecursion Used (places_of records) = weaker_all (λ place. list_any (in_place place.host place.tag) records ≡ true) Used (places_of records) (λ place any. or_right (in_place place.host place.tag r) (list_any (in_place place.host place.tag) records) any) (places_used records) in
    elim (list_any (in_place r.host r.tag) records) as (λ b. AllByRecursion Used (cond b (places_of records) (put_in_order (record { host = r.host; tag = r.tag }) (places_of records)))) [
      | true ↦ later
      | false ↦ put_all Used (record { host = r.host; tag = r.tag }) (places_of records) (or_left (in_place r.host r.tag r) (list_any (in_place r.host r.tag) records) (in_place_itself r)) later
    ]

counts_positive : (records : List SealedRecord) (places : List ChainPlace) → AllByRecursion (λ place. list_any (in_place place.host place.tag) records ≡ true) places → AllByRecursion (λ (listed : ChainCount). 0 < listed.count) (map (count_of records) places)
counts_positive records [] used = tt
counts_positive records (place ∷ places) used = (some_in_place (in_place place.host place.tag) records used.0, counts_positive records places used.1)

pub status_positive : (journal : List Entry) (owner : ℕ) → All (λ (listed : ChainCount). 0 < listed.count) (status journal owner)
status_positive journal owner =
    let records = records_of (own_events journal owner) in
    All-from_recursion (λ (listed : ChainCount). 0 < listed.count) (status journal owner) (counts_positive records (places_of records) (places_used records))

-- ---- the lengths alone make the status

pub names_place : (host : ℕ) (tag : List ℕ) (place : ChainPlace) → is_place host tag place ≡ true → (place.host ≡ host) × (place.tag ≡ tag)
names_place host tag place here =
    let parts = and_parts (place.host == host) (bytes_eq place.tag tag) here in
    (eqb-true place.host host parts.0, (bytes_eq-Decides place.tag tag).0 parts.1)

same_place_itself : (place : ChainPlace) → is_place place.host place.tag place ≡ true
same_place_itself place = and_from (place.host == place.host) (bytes_eq place.tag place.tag) (eq-eqb place.host place.host refl) ((bytes_eq-Decides place.tag place.tag).1 refl)

less_is_other : (place other : ChainPlace) → place_cmp place other ≡ Less → is_place place.host place.tag other ≡ false
less_is_other place other less = false_from_ne_true (is_place place.host place.tag other) (λ here.
    let same = names_place place.host place.tag other here in
    let tied : place_cmp place other ≡ Equal = (λ i. place_cmp place (record { host = same.0 i; tag = same.1 i })) ∙ tied_itself place_total place in
    less_not_equal (sym less ∙ tied))
  where
    less_not_equal : Less ≡ Equal → ⊥
    less_not_equal h = cc

pub not_among_later : (place : ChainPlace) (later : List ChainPlace) → AllByRecursion (λ other. place_cmp place other ≡ Less) later → list_any (is_place place.host place.tag) later ≡ false
not_among_later place [] all = refl
not_among_later place (other ∷ later) all = or_from (is_place place.host place.tag other) (list_any (is_place place.host place.tag) later) (less_is_other place other all.0) (not_among_later place later all.1)

-- what two lists of places have in common
abbrev SamePlaces : List ChainPlace → List ChainPlace → Type 0
SamePlaces places others = (host : ℕ) (tag : List ℕ) → list_any (is_place host tag) places ≡ list_any (is_place host tag) others

-- the first place is not before the other first place, since the others have it too
not_before : (place other : ChainPlace) (places others : List ChainPlace) → Ascends (other ∷ others) → SamePlaces (place ∷ places) (other ∷ others) → place_cmp place other ≡ Less → ⊥
not_before place other places others ascends same less =
    let absent : list_any (is_place place.host place.tag) (other ∷ others) ≡ false = not_among_later place (other ∷ others) (less, later_all place other others less ascends.0) in
    let present : list_any (is_place place.host place.tag) (place ∷ places) ≡ true = or_left (is_place place.host place.tag place) (list_any (is_place place.host place.tag) places) (same_place_itself place) in
    true≢false (sym present ∙ same place.host place.tag ∙ absent)

tails_alike : (place other : ChainPlace) (places others : List ChainPlace) → place ≡ other → Ascends (place ∷ places) → Ascends (other ∷ others) → SamePlaces (place ∷ places) (other ∷ others) → SamePlaces places others
tails_alike place other places others first ascends ascends_too same host tag =
    elim (cases_Bool (is_place host tag place)) [
      | inl here ↦
          let at = names_place host tag place here in
          let gone : list_any (is_place host tag) places ≡ false = (λ i. list_any (is_place (sym at.0 i) (sym at.1 i)) places) ∙ not_among_later place places ascends.0 in
          let gone_too : list_any (is_place host tag) others ≡ false = (λ i. list_any (is_place (sym at.0 i) (sym at.1 i)) others) ∙ ap (λ (p : ChainPlace). list_any (is_place p.host p.tag) others) first ∙ not_among_later other others ascends_too.0 in
          gone ∙ sym gone_too
      | inr elsewhere ↦
          let elsewhere_too : is_place host tag other ≡ false = ap (is_place host tag) (sym first) ∙ elsewhere in
          ap (λ b. b || list_any (is_place host tag) places) (sym elsewhere) ∙ same host tag ∙ ap (λ b. b || list_any (is_place host tag) others) elsewhere_too
    ]

places_alike : (places others : List ChainPlace) → Ascends places → Ascends others → SamePlaces places others → places ≡ others
places_alike [] [] ascends ascends_too same = refl
places_alike [] (other ∷ others) ascends ascends_too same = absurd (true≢false (sym (or_left (is_place other.host other.tag other) (list_any (is_place other.host other.tag) others) (same_place_itself other)) ∙ sym (same other.host other.tag)))
places_alike (place ∷ places) [] ascends ascends_too same = absurd (true≢false (sym (or_left (is_place place.host place.tag place) (list_any (is_place place.host place.tag) places) (same_place_itself place)) ∙ same place.host place.tag))
places_alike (place ∷ places) (other ∷ others) ascends ascends_too same =
    let first : place ≡ other = first_alike (place_cmp place other) refl in
    let rest : places ≡ others = places_alike places others ascends.1 ascends_too.1 (tails_alike place other places others first ascends ascends_too same) in
    λ i. first i ∷ rest i
  where
    first_alike : (o : Ordering) → place_cmp place other ≡ o → place ≡ other
    first_alike Less less = absurd (not_before place other places others ascends_too same less)
    first_alike Equal tied = let at = names_place place.host place.tag other (tied_places place other tied) in λ i. record { host = sym at.0 i; tag = sym at.1 i }
    first_alike Greater greater = absurd (not_before other place others places ascends (λ host tag. sym (same host tag)) (place_total.antisymm other place ∙ ap ordering_reverse greater))

any_is_positive : (p : SealedRecord → Bool) (records : List SealedRecord) → list_any p records ≡ nat_lt 0 (length (filter p records))
any_is_positive p records =
    elim (cases_Bool (list_any p records)) [
      | inl any ↦ any ∙ sym (lt-ltb 0 (length (filter p records)) (some_in_place p records any))
      | inr none ↦ none ∙ ap (nat_lt 0) (sym (none_in_place p records none))
    ]

counts_alike : (records others : List SealedRecord) (places : List ChainPlace) → ((host : ℕ) (tag : List ℕ) → length (filter (in_place host tag) records) ≡ length (filter (in_place host tag) others)) → map (count_of records) places ≡ map (count_of others) places
counts_alike records others [] same = refl
counts_alike records others (place ∷ places) same =
    let count = same place.host place.tag in
    let rest = counts_alike records others places same in
    λ i. record { host = place.host; tag = place.tag; count = count i } ∷ rest i

pub lengths_make_status : (journal other : List Entry) (owner whose : ℕ) → ((host : ℕ) (tag : List ℕ) → length (chain journal owner host tag) ≡ length (chain other whose host tag)) → status journal owner ≡ status other whose
lengths_make_status journal other owner whose same =
    let records = records_of (own_events journal owner) in
    let others = records_of (own_events other whose) in
    let places : places_of records ≡ places_of others = places_alike (places_of records) (places_of others) (places_ascend records) (places_ascend others) (λ host tag. any_place host tag records ∙ any_is_positive (in_place host tag) records ∙ ap (nat_lt 0) (same host tag) ∙ sym (any_is_positive (in_place host tag) others) ∙ sym (any_place host tag others)) in
    ap (map (count_of (records_of (own_events journal owner)))) places ∙ counts_alike records others (places_of others) same

-- ---- a list that tells the lengths

abbrev place_listed : ChainCount → ChainPlace
place_listed listed = record { host = listed.host; tag = listed.tag }

-- a place that an ascending list without empty chains tells a count of is listed
any_listed : (counts : List ChainCount) (host : ℕ) (tag : List ℕ) → All (λ (listed : ChainCount). 0 < listed.count) counts → list_any (is_place host tag) (map place_listed counts) ≡ nat_lt 0 (count_at counts host tag)
any_listed [] host tag some = refl
any_listed (listed ∷ counts) host tag some =
    let first : nat_lt 0 listed.count ≡ true = lt-ltb 0 listed.count (All-head (λ (c : ChainCount). 0 < c.count) listed counts some) in
    let later = any_listed counts host tag (All-tail (λ (c : ChainCount). 0 < c.count) listed counts some) in
    elim (is_place host tag (place_listed listed)) as (λ b. (b || list_any (is_place host tag) (map place_listed counts)) ≡ nat_lt 0 (cond b listed.count (count_at counts host tag))) [
      | true ↦ sym first
      | false ↦ later
    ]

-- such a list tells of each listed place what is told of it alone
listed_alone : (told : ℕ → List ℕ → ℕ) (counts : List ChainCount) → Ascends (map place_listed counts)
    → ((host : ℕ) (tag : List ℕ) → list_any (is_place host tag) (map place_listed counts) ≡ true → count_at counts host tag ≡ told host tag)
    → counts ≡ map (λ (place : ChainPlace). record { host = place.host; tag = place.tag; count = told place.host place.tag }) (map place_listed counts)
listed_alone told [] up same = refl
listed_alone told (listed ∷ counts) up same =
    let itself : is_place listed.host listed.tag (place_listed listed) ≡ true = same_place_itself (place_listed listed) in
    let here : listed.count ≡ told listed.host listed.tag =
    sym (ap (λ b. cond b listed.count (count_at counts listed.host listed.tag)) itself) ∙ same listed.host listed.tag (or_left (is_place listed.host listed.tag (place_listed listed)) (list_any (is_place listed.host listed.tag) (map place_listed counts)) itself) in
    let later = listed_alone told counts up.1 (λ host tag any.
    let elsewhere : is_place host tag (place_listed listed) ≡ false = false_from_ne_true (is_place host tag (place_listed listed)) (λ at.
    let names = names_place host tag (place_listed listed) at in
    let gone : list_any (is_place host tag) (map place_listed counts) ≡ false = (λ i. list_any (is_place (sym names.0 i) (sym names.1 i)) (map place_listed counts)) ∙ not_among_later (place_listed listed) (map place_listed counts) up.0 in
    true≢false (sym any ∙ gone)) in
    sym (ap (λ b. cond b listed.count (count_at counts host tag)) elsewhere) ∙ same host tag (or_right (is_place host tag (place_listed listed)) (list_any (is_place host tag) (map place_listed counts)) any)) in
    λ i. record { host = listed.host; tag = listed.tag; count = here i } ∷ later i

pub status_is_determined : (journal : List Entry) (owner : ℕ) (counts : List ChainCount) → Ascends (map (λ (listed : ChainCount). record { host = listed.host; tag = listed.tag }) counts) → All (λ (listed : ChainCount). 0 < listed.count) counts
    → ((host : ℕ) (tag : List ℕ) → count_at counts host tag ≡ length (chain journal owner host tag)) → counts ≡ status journal owner
status_is_determined journal owner counts up some same =
    let records = records_of (own_events journal owner) in
    let places : map place_listed counts ≡ places_of records = places_alike (map place_listed counts) (places_of records) up (places_ascend records)
    (λ host tag. any_listed counts host tag some ∙ ap (nat_lt 0) (same host tag) ∙ sym (any_is_positive (in_place host tag) records) ∙ sym (any_place host tag records)) in
    listed_alone (λ host tag. length (filter (in_place host tag) records)) counts up (λ host tag any. same host tag) ∙ ap (map (count_of records)) places
