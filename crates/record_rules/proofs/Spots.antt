-- Which record holds a host, tag and idx.
use Rattle.std.proofs.Common.{◌≡◌, ℕ, Bool, true, false, not, ◌||◌, cond, inl, inr, List, [], ◌∷◌, ◌++◌, Some, refl, sym, ◌∙◌, ap, append_assoc}
use Rattle.std.specs.Prelude.{find, bytes_eq, ◌==◌}
use Rattle.std.specs.List.{list_any}
use Rattle.std.specs.Option.{option_or}
use Rattle.std.proofs.lemmas.Bool.{true≢false, and_parts, and_from, eq-eqb, eqb-true, or_cases, or_left, or_right, cases_Bool}
use Rattle.std.proofs.lemmas.List.Folds.{find-append}
use Rattle.std.proofs.lemmas.Slice.Eq.{bytes_eq-Decides}
use Rattle.record_rules.specs.Records.{SealedRecord}
use Rattle.record_rules.specs.Journal.{in_place}
use Rattle.record_rules.specs.Growth.{same_place, holder, fresh_of}

-- the record is of that host and tag
pub record InPlace (host : ℕ) (tag : List ℕ) (r : SealedRecord) : Type 0 where
  pub host_is : r.host ≡ host
  pub tag_is : r.tag ≡ tag

pub in_place-true : (host : ℕ) (tag : List ℕ) (r : SealedRecord) → in_place host tag r ≡ true → InPlace host tag r
in_place-true host tag r h =
    let parts = and_parts (r.host == host) (bytes_eq r.tag tag) h in
    record { host_is = eqb-true r.host host parts.0; tag_is = (bytes_eq-Decides r.tag tag).0 parts.1 }

pub in_place-from : (host : ℕ) (tag : List ℕ) (r : SealedRecord) → InPlace host tag r → in_place host tag r ≡ true
in_place-from host tag r h = and_from (r.host == host) (bytes_eq r.tag tag) (eq-eqb r.host host h.host_is) ((bytes_eq-Decides r.tag tag).1 h.tag_is)

pub in_place_itself : (r : SealedRecord) → in_place r.host r.tag r ≡ true
in_place_itself r = in_place-from r.host r.tag r (record { host_is = refl; tag_is = refl })

pub same_place_itself : (r : SealedRecord) → same_place r r ≡ true
same_place_itself r = and_from (in_place r.host r.tag r) (r.idx == r.idx) (in_place_itself r) (eq-eqb r.idx r.idx refl)

pub same_place-trans : (r x y : SealedRecord) → same_place r x ≡ true → same_place x y ≡ true → same_place r y ≡ true
same_place-trans r x y rx xy =
    let first = and_parts (in_place r.host r.tag x) (x.idx == r.idx) rx in
    let second = and_parts (in_place x.host x.tag y) (y.idx == x.idx) xy in
    let place = in_place-true r.host r.tag x first.0 in
    let next = in_place-true x.host x.tag y second.0 in
    and_from (in_place r.host r.tag y) (y.idx == r.idx) (in_place-from r.host r.tag y (record { host_is = next.host_is ∙ place.host_is; tag_is = next.tag_is ∙ place.tag_is })) (eq-eqb y.idx r.idx (eqb-true y.idx x.idx second.1 ∙ eqb-true x.idx r.idx first.1))

-- where one passes, a first one is found
pub find_where_any : {X : Type 0} (p : X → Bool) (xs ys : List X) → list_any p xs ≡ true → find p (xs ++ ys) ≡ find p xs
find_where_any p [] ys h = absurd (true≢false (sym h))
find_where_any p (x ∷ xs) ys h =
    elim (p x) as (λ b. (b || list_any p xs) ≡ true → cond b (Some x) (find p (xs ++ ys)) ≡ cond b (Some x) (find p xs)) [
      | true ↦ λ _. refl
      | false ↦ λ rest. find_where_any p xs ys rest
    ] h

-- a record that a spot is held beside it passes whatever one of its spot passes
any_of_spot : (r x : SealedRecord) (records : List SealedRecord) → same_place r x ≡ true → list_any (same_place x) records ≡ true → list_any (same_place r) records ≡ true
any_of_spot r x [] rx h = h
any_of_spot r x (y ∷ records) rx h =
    elim (or_cases (same_place x y) (list_any (same_place x) records) h) [
      | inl here ↦ or_left (same_place r y) (list_any (same_place r) records) (same_place-trans r x y rx here)
      | inr later ↦ or_right (same_place r y) (list_any (same_place r) records) (any_of_spot r x records rx later)
    ]

-- a record whose spot is held changes no holder
holder_of_held : (r x : SealedRecord) (records more : List SealedRecord) → list_any (same_place x) records ≡ true → holder ((records ++ x ∷ []) ++ more) r ≡ holder (records ++ more) r
holder_of_held r x records more held =
    ap (λ all. holder all r) (append_assoc records (x ∷ []) more) ∙ elim (cases_Bool (same_place r x)) [
      | inl same ↦
          let any : list_any (same_place r) records ≡ true = any_of_spot r x records same held in
          find_where_any (same_place r) records (x ∷ more) any ∙ sym (find_where_any (same_place r) records more any)
      | inr differs ↦ find-append (same_place r) records (x ∷ more) ∙ ap (λ b. option_or (holder records r) (cond b (Some x) (holder more r))) differs ∙ sym (find-append (same_place r) records more)
    ]

-- the holder is among the fresh records
pub holder_is_fresh : (r : SealedRecord) (records page : List SealedRecord) → holder (records ++ fresh_of records page) r ≡ holder (records ++ page) r
holder_is_fresh r records [] = refl
holder_is_fresh r records (x ∷ page) =
    let next = holder_is_fresh r (records ++ x ∷ []) page in
    elim (cases_Bool (list_any (same_place x) records)) [
      | inl held ↦ ap (λ b. holder (records ++ cond (not b) (x ∷ fresh_of (records ++ x ∷ []) page) (fresh_of (records ++ x ∷ []) page)) r) held ∙ sym (holder_of_held r x records (fresh_of (records ++ x ∷ []) page) held) ∙ next ∙ ap (λ all. holder all r) (append_assoc records (x ∷ []) page)
      | inr fresh ↦ ap (λ b. holder (records ++ cond (not b) (x ∷ fresh_of (records ++ x ∷ []) page) (fresh_of (records ++ x ∷ []) page)) r) fresh ∙ ap (λ all. holder all r) (sym (append_assoc records (x ∷ []) (fresh_of (records ++ x ∷ []) page))) ∙ next ∙ ap (λ all. holder all r) (append_assoc records (x ∷ []) page)
    ]
