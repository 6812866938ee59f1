-- How many places the records have.
use Rattle.std.proofs.Common.{◌≡◌, ℕ, suc, ◌+◌, Bool, true, false, ◌||◌, cond, inl, inr, List, [], ◌∷◌, ◌++◌, length, refl, sym, ◌∙◌, ap, arith}
use Rattle.std.specs.Ordering.{is_lt}
use Rattle.std.specs.List.{list_any}
use Rattle.std.proofs.lemmas.Bool.{cases_Bool, true≢false, false_from_ne_true}
use Rattle.std.proofs.lemmas.List.Folds.{list_any-append}
use Rattle.record_rules.specs.Records.{SealedRecord}
use Rattle.record_rules.specs.Journal.{ChainPlace, in_place, place_cmp, put_in_order, places_of}
use Rattle.record_rules.proofs.Spots.{in_place-true, in_place-from}

pub length-put_in_order : (place : ChainPlace) (places : List ChainPlace) → length (put_in_order place places) ≡ suc (length places)
length-put_in_order place [] = refl
length-put_in_order place (other ∷ places) =
    elim (is_lt (place_cmp place other)) as (λ b. length (cond b (place ∷ other ∷ places) (other ∷ put_in_order place places)) ≡ suc (suc (length places))) [
      | true ↦ refl
      | false ↦ ap suc (length-put_in_order place places)
    ]

flipped : (r x : SealedRecord) → in_place r.host r.tag x ≡ true → in_place x.host x.tag r ≡ true
flipped r x inside =
    let at = in_place-true r.host r.tag x inside in
    in_place-from x.host x.tag r (record { host_is = sym at.host_is; tag_is = sym at.tag_is })

-- two records are in each other's place or in neither's
pub in_place-sym : (r x : SealedRecord) → in_place r.host r.tag x ≡ in_place x.host x.tag r
in_place-sym r x =
    elim (cases_Bool (in_place r.host r.tag x)) [
      | inl inside ↦ inside ∙ sym (flipped r x inside)
      | inr outside ↦ outside ∙ sym (false_from_ne_true (in_place x.host x.tag r) (λ inside. true≢false (sym (flipped x r inside) ∙ outside)))
    ]

-- where a record is in another one's place, both are in the place of the same ones
pub in_place_alike : (r x y : SealedRecord) → in_place r.host r.tag x ≡ true → in_place r.host r.tag y ≡ in_place x.host x.tag y
in_place_alike r x y same =
    let at = in_place-true r.host r.tag x same in
    λ i. in_place (sym at.host_is i) (sym at.tag_is i) y

pub any_alike : (r x : SealedRecord) (records : List SealedRecord) → in_place r.host r.tag x ≡ true → list_any (in_place r.host r.tag) records ≡ list_any (in_place x.host x.tag) records
any_alike r x [] same = refl
any_alike r x (y ∷ records) same = λ i. in_place_alike r x y same i || any_alike r x records same i

length_kept_or_put : (b : Bool) (place : ChainPlace) (places : List ChainPlace) → length (cond b places (put_in_order place places)) ≡ length places + cond b 0 1
length_kept_or_put true place places = omega arith
length_kept_or_put false place places = length-put_in_order place places ∙ omega arith

counted_alike : (n : ℕ) (a b c : Bool) → (b ≡ true → a ≡ c) → (n + cond c 0 1) + cond (a || (b || false)) 0 1 ≡ (n + cond a 0 1) + cond (b || c) 0 1
counted_alike n true true true h = omega arith
counted_alike n true true false h = absurd (true≢false (h refl))
counted_alike n true false true h = omega arith
counted_alike n true false false h = omega arith
counted_alike n false true true h = absurd (true≢false (sym (h refl)))
counted_alike n false true false h = omega arith
counted_alike n false false true h = omega arith
counted_alike n false false false h = omega arith

-- one more record adds a place where no other one is in its place
pub length-places_of-push : (records : List SealedRecord) (x : SealedRecord) → length (places_of (records ++ x ∷ [])) ≡ length (places_of records) + cond (list_any (in_place x.host x.tag) records) 0 1
length-places_of-push [] x = refl
length-places_of-push (r ∷ records) x =
    let place : ChainPlace = record { host = r.host; tag = r.tag } in
    let a = list_any (in_place r.host r.tag) records in
    let b = in_place r.host r.tag x in
    let c = list_any (in_place x.host x.tag) records in
    let joined = list_any-append (in_place r.host r.tag) records (x ∷ []) in
    length_kept_or_put (list_any (in_place r.host r.tag) (records ++ x ∷ [])) place (places_of (records ++ x ∷ []))
    ∙ (λ i. length-places_of-push records x i + cond (joined i) 0 1)
    ∙ counted_alike (length (places_of records)) a b c (any_alike r x records)
    ∙ (λ i. sym (length_kept_or_put a place (places_of records)) i + cond (in_place-sym r x i || c) 0 1)
