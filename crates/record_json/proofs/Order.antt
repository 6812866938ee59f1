-- A status that is read is in order.
use Rattle.std.proofs.Common.{◌≡◌, ℕ, ◌<◌, List, [], ◌∷◌, ◌++◌, map, Option, Some, None, String, Global, string_bytes, string_cmp, nat_cmp, refl, sym, ap, ap₂, subst, ◌∙◌, arith}
use Rattle.std.specs.Cmp.Lexicographic.{slice_cmp}
use Rattle.std.specs.List.{AllByRecursion}
use Rattle.std.specs.List.Sorted.{IsStrictlySortedBy}
use Rattle.std.specs.Map.{keys_of}
use Rattle.std.specs.declared.cmp.Ordering.TheVariants.{Less, Equal}
use Rattle.std.proofs.lemmas.Cmp.{nat_cmp_total, tied_itself}
use Rattle.definitions.specs.Reading.{◌>>=◌}
use Rattle.record_rules.specs.Journal.{ChainPlace, ChainCount, place_cmp, Ascends}
use Rattle.serde_json.specs.Data.{Members, no_members, member}
use Rattle.serde_json.specs.View.{members_view}
use Rattle.record_json.specs.Json.{number_of}
use Rattle.record_json.specs.Statuses.{counted, chains_under, chains_of_all}
use Rattle.record_json.specs.StatusReading.{hosts_seen}
use Rattle.record_json.specs.StatusOrder.{tags_of, Rises, AllRise, place_of, IsInOrder}
use Rattle.record_json.proofs.StatusesRead.{Entry, Tags}

-- ---- the members of a map rise

all_tags : (tag : List ℕ) (es : List Entry) → (k : String Global) → string_bytes k ≡ tag → AllByRecursion (λ y. string_cmp k y ≡ Less) (keys_of es) → AllByRecursion (λ other. slice_cmp nat_cmp tag other ≡ Less) (tags_of (members_view es))
all_tags tag [] k is all = tt
all_tags tag (e ∷ es) k is all = (ap (λ (t : List ℕ). slice_cmp nat_cmp t (string_bytes e.0)) (sym is) ∙ all.0, all_tags tag es k is all.1)

pub members_rise : (es : List Entry) → IsStrictlySortedBy string_cmp (keys_of es) → Rises (tags_of (members_view es))
unfolding IsStrictlySortedBy
members_rise [] sorted = tt
members_rise (e ∷ es) sorted = (all_tags (string_bytes e.0) es e.0 refl sorted.0, members_rise es sorted.1)

-- ---- the places of chains that were read

abbrev at_host : (host : ℕ) (tag : List ℕ) → ChainPlace
at_host host tag = record { host = host; tag = tag }

-- the chains of a host are at its tags, and none is empty
record AreAt (places : List ChainPlace) (chains : List ChainCount) : Type 0 where
  places_are : map place_of chains ≡ places
  filled : AllByRecursion (λ c. 0 < c.count) chains

chains_at : (host : ℕ) (members : Members) (chains : List ChainCount) → chains_under host members ≡ Some chains → AreAt (map (at_host host) (tags_of members)) chains
chains_at host no_members chains e = let none : [] ≡ chains = cc in subst (λ (l : List ChainCount). AreAt [] l) none (record { places_are = refl; filled = tt })
chains_at host (member tag value later) chains e = by (number_of value) (chains_under host later) (chains_at host later) e
  where
    by : (last : Option ℕ) (more : Option (List ChainCount)) → ((cs : List ChainCount) → more ≡ Some cs → AreAt (map (at_host host) (tags_of later)) cs)
        → (last >>= λ n. (more >>= λ cs. Some (counted host tag n ∷ cs))) ≡ Some chains → AreAt (map (at_host host) (tags_of (member tag value later))) chains
    by None more rest e = cc
    by (Some n) None rest e = cc
    by (Some n) (Some cs) rest e =
        let is : counted host tag n ∷ cs ≡ chains = cc in
        let at = rest cs refl in
        subst (λ (l : List ChainCount). AreAt (map (at_host host) (tags_of (member tag value later))) l) is
        (record { places_are = ap (λ (ps : List ChainPlace). at_host host tag ∷ ps) at.places_are; filled = (omega arith, at.filled) })

abbrev places_at : List (ℕ × Members) → List ChainPlace
places_at [] = []
places_at (h ∷ hs) = map (at_host h.0) (tags_of h.1) ++ places_at hs

map_both : (xs ys : List ChainCount) → map place_of (xs ++ ys) ≡ map place_of xs ++ map place_of ys
map_both [] ys = refl
map_both (x ∷ xs) ys = ap (λ (ps : List ChainPlace). place_of x ∷ ps) (map_both xs ys)

all_both : {A : Type 0} (P : A → Type 0) (xs ys : List A) → AllByRecursion P xs → AllByRecursion P ys → AllByRecursion P (xs ++ ys)
all_both P [] ys all more = more
all_both P (x ∷ xs) ys all more = (all.0, all_both P xs ys all.1 more)

all_at : (hs : List (ℕ × Members)) (chains : List ChainCount) → chains_of_all hs ≡ Some chains → AreAt (places_at hs) chains
all_at [] chains e = let none : [] ≡ chains = cc in subst (λ (l : List ChainCount). AreAt [] l) none (record { places_are = refl; filled = tt })
all_at (h ∷ hs) chains e = by (chains_under h.0 h.1) (chains_of_all hs) (chains_at h.0 h.1) (all_at hs) e
  where
    by : (one more : Option (List ChainCount)) → ((cs : List ChainCount) → one ≡ Some cs → AreAt (map (at_host h.0) (tags_of h.1)) cs) → ((cs : List ChainCount) → more ≡ Some cs → AreAt (places_at hs) cs)
        → (one >>= λ cs. (more >>= λ later. Some (cs ++ later))) ≡ Some chains → AreAt (places_at (h ∷ hs)) chains
    by None more first rest e = cc
    by (Some cs) None first rest e = cc
    by (Some cs) (Some later) first rest e =
        let is : cs ++ later ≡ chains = cc in
        let at = first cs refl in
        let behind = rest later refl in
        subst (λ (l : List ChainCount). AreAt (places_at (h ∷ hs)) l) is
        (record {
          places_are = map_both cs later ∙ ap₂ (λ (x y : List ChainPlace). x ++ y) at.places_are behind.places_are;
          filled = all_both (λ c. 0 < c.count) cs later at.filled behind.filled;
        })

-- ---- these places ascend

same_host : (host : ℕ) (tag other : List ℕ) → slice_cmp nat_cmp tag other ≡ Less → place_cmp (at_host host tag) (at_host host other) ≡ Less
same_host host tag other less = let tied : nat_cmp host host ≡ Equal = tied_itself nat_cmp_total host in rw tied less

tags_after : (host : ℕ) (tag : List ℕ) (tags : List (List ℕ)) → AllByRecursion (λ other. slice_cmp nat_cmp tag other ≡ Less) tags → AllByRecursion (λ later. place_cmp (at_host host tag) later ≡ Less) (map (at_host host) tags)
tags_after host tag [] all = tt
tags_after host tag (other ∷ tags) all = (same_host host tag other all.0, tags_after host tag tags all.1)

tags_ascend : (host : ℕ) (tags : List (List ℕ)) → Rises tags → Ascends (map (at_host host) tags)
tags_ascend host [] rises = tt
tags_ascend host (tag ∷ tags) rises = (tags_after host tag tags rises.0, tags_ascend host tags rises.1)

other_host : (place other : ChainPlace) → nat_cmp place.host other.host ≡ Less → place_cmp place other ≡ Less
other_host place other less = rw less refl

hosts_after : (host : ℕ) (tag : List ℕ) (places : List ChainPlace) → AllByRecursion (λ later. nat_cmp host later.host ≡ Less) places → AllByRecursion (λ later. place_cmp (at_host host tag) later ≡ Less) places
hosts_after host tag [] all = tt
hosts_after host tag (later ∷ places) all = (other_host (at_host host tag) later all.0, hosts_after host tag places all.1)

joined : (host : ℕ) (tags : List (List ℕ)) (places : List ChainPlace) → Ascends (map (at_host host) tags) → Ascends places → AllByRecursion (λ later. nat_cmp host later.host ≡ Less) places → Ascends (map (at_host host) tags ++ places)
joined host [] places up upper all = upper
joined host (tag ∷ tags) places up upper all =
    (all_both (λ later. place_cmp (at_host host tag) later ≡ Less) (map (at_host host) tags) places up.0 (hosts_after host tag places all), joined host tags places up.1 upper all)

all_of_host : (host other : ℕ) (tags : List (List ℕ)) → nat_cmp host other ≡ Less → AllByRecursion (λ later. nat_cmp host later.host ≡ Less) (map (at_host other) tags)
all_of_host host other [] less = tt
all_of_host host other (tag ∷ tags) less = (less, all_of_host host other tags less)

later_hosts : (host : ℕ) (hs : List (ℕ × Members)) → AllByRecursion (λ other. nat_cmp host other ≡ Less) (keys_of hs) → AllByRecursion (λ later. nat_cmp host later.host ≡ Less) (places_at hs)
later_hosts host [] all = tt
later_hosts host (h ∷ hs) all = all_both (λ later. nat_cmp host later.host ≡ Less) (map (at_host h.0) (tags_of h.1)) (places_at hs) (all_of_host host h.0 (tags_of h.1) all.0) (later_hosts host hs all.1)

places_ascend : (hs : List (ℕ × Members)) → IsStrictlySortedBy nat_cmp (keys_of hs) → AllRise hs → Ascends (places_at hs)
unfolding IsStrictlySortedBy
places_ascend [] sorted rise = tt
places_ascend (h ∷ hs) sorted rise = joined h.0 (tags_of h.1) (places_at hs) (tags_ascend h.0 (tags_of h.1) rise.0) (places_ascend hs sorted.1 rise.1) (later_hosts h.0 hs sorted.0)

-- the hosts of a map, whose keys are sorted
keys_seen : (hs : List (ℕ × Tags)) → keys_of (hosts_seen hs) ≡ keys_of hs
keys_seen [] = refl
keys_seen (h ∷ hs) = ap (λ (ks : List ℕ). h.0 ∷ ks) (keys_seen hs)

pub in_order : (hs : List (ℕ × Tags)) (chains : List ChainCount) → IsStrictlySortedBy nat_cmp (keys_of hs) → AllRise (hosts_seen hs) → Some chains ≡ chains_of_all (hosts_seen hs) → IsInOrder chains
in_order hs chains sorted rise e =
    let at = all_at (hosts_seen hs) chains (sym e) in
    record {
      places = subst Ascends (sym at.places_are) (places_ascend (hosts_seen hs) (subst (IsStrictlySortedBy nat_cmp) (sym (keys_seen hs)) sorted) rise);
      filled = at.filled;
    }
