-- What is listed along the maps of an owner: its status.
use Rattle.std.proofs.Common.{◌≡◌, ℕ, zero, suc, ◌<◌, List, [], ◌∷◌, ◌++◌, length, map, Vec, Global, Option, Some, None, Bool, true, false, cond, refl, sym, ap, subst, ◌∙◌, arith, append_assoc}
use Rattle.std.specs.Prelude.{nat_eq, bytes_eq, ◌&&◌}
use Rattle.std.specs.List.{AllByRecursion}
use Rattle.std.specs.List.Sorted.{IsStrictlySortedBy}
use Rattle.std.specs.Map.{lookup, keys_of}
use Rattle.std.specs.Option.{unwrap_or}
use Rattle.std.specs.BTreeMap.{is_at}
use Rattle.std.specs.Cmp.{nat_eq_equiv}
use Rattle.std.specs.Cmp.Lexicographic.{slice_cmp}
use Rattle.std.specs.declared.cmp.Ordering.{Ordering}
use Rattle.std.specs.declared.cmp.Ordering.TheVariants.{Less, Equal}
use Rattle.std.specs.Ordering.{nat_cmp, is_eq, ordering_then}
use Rattle.std.proofs.lemmas.Bool.{eqb-true}
use Rattle.std.proofs.lemmas.Cmp.{nat_list_eq_equiv, nat_list_cmp_total}
use Rattle.std.proofs.lemmas.List.Elements.{All-from_recursion}
use Rattle.std.proofs.lemmas.Map.Text.{is_eq-slice_cmp}
use Rattle.record_rules.specs.Journal.{ChainCount, ChainPlace, place_cmp, Ascends, count_at, status}
use Rattle.record_rules.proofs.Status.{status_is_determined}
use Rattle.chain_index.specs.Chains.{ChainSeen, no_chain, TagsSeen, find_tag, chain_in, HostsSeen, find_host, chain_of_host, OwnerSeen, chain_of_owner, IndexSeen, owner_in, AreRising, count_of, counts_in, counts_of_hosts, IsStatusOf}
use Rattle.chain_index.specs.Meaning.{Filed, journal_of, IsIndexOf}
use Rattle.chain_index.proofs.Maps.{alike}
use Rattle.chain_index.proofs.Levels.{text_of, number_of, same_number}
use Rattle.chain_index.proofs.Filing.{counted}

abbrev place_listed : ChainCount → ChainPlace
place_listed listed = record { host = listed.host; tag = listed.tag }

abbrev places : List ChainCount → List ChainPlace
places counts = map place_listed counts

equal_hosts : (host : ℕ) → nat_cmp host host ≡ Equal
equal_hosts host = grind arith

-- ---- in order

module _ {V K : Type 0} (key : V → K) (cmp : K → K → Ordering) where
  pub first_below : {X : Type 0} (e : V × X) (es : List (V × X)) → IsStrictlySortedBy (λ a b. cmp (key a) (key b)) (keys_of (e ∷ es)) → AllByRecursion (λ k. cmp (key e.0) (key k) ≡ Less) (keys_of es)
  unfolding IsStrictlySortedBy
  first_below e es up = up.0

  pub rest_up : {X : Type 0} (e : V × X) (es : List (V × X)) → IsStrictlySortedBy (λ a b. cmp (key a) (key b)) (keys_of (e ∷ es)) → IsStrictlySortedBy (λ a b. cmp (key a) (key b)) (keys_of es)
  unfolding IsStrictlySortedBy
  rest_up e es up = up.1

  -- what is above p isn't p
  pub not_there : {X : Type 0} (p : K) (es : List (V × X)) → AllByRecursion (λ k. cmp p (key k) ≡ Less) (keys_of es) → lookup (is_at (λ v. cmp p (key v))) es ≡ None
  not_there p [] above = refl
  not_there {X = X} p (e ∷ es) above = ap (λ (o : Ordering). cond (is_eq o) (Some e.1) (lookup (is_at (λ v. cmp p (key v))) es)) above.0 ∙ not_there p es above.1

-- a place of the host comes before the host's chains of tags above its own
below_tags : (host : ℕ) (tag : List ℕ) (tags : TagsSeen) → AllByRecursion (λ (k : Vec ℕ Global). slice_cmp nat_cmp tag k.items ≡ Less) (keys_of tags) → AllByRecursion (λ later. place_cmp (record { host = host; tag = tag }) later ≡ Less) (places (counts_in host tags))
below_tags host tag [] above = tt
below_tags host tag (e ∷ tags) above = by (length e.1.links) (below_tags host tag tags above.1)
  where
    by : (n : ℕ) → AllByRecursion (λ later. place_cmp (record { host = host; tag = tag }) later ≡ Less) (places (counts_in host tags)) → AllByRecursion (λ later. place_cmp (record { host = host; tag = tag }) later ≡ Less) (places (count_of host e.0.items n ++ counts_in host tags))
    by zero more = more
    by (suc n) more = (ap (λ (o : Ordering). ordering_then o (slice_cmp nat_cmp tag e.0.items)) (equal_hosts host) ∙ above.0, more)

tags_ascend : (host : ℕ) (tags : TagsSeen) → AreRising tags → Ascends (places (counts_in host tags))
tags_ascend host [] up = tt
tags_ascend host (e ∷ tags) up =
    by (length e.1.links) (below_tags host e.0.items tags (first_below text_of (slice_cmp nat_cmp) e tags up)) (tags_ascend host tags (rest_up text_of (slice_cmp nat_cmp) e tags up))
  where
    by : (n : ℕ) → AllByRecursion (λ later. place_cmp (record { host = host; tag = e.0.items }) later ≡ Less) (places (counts_in host tags)) → Ascends (places (counts_in host tags)) → Ascends (places (count_of host e.0.items n ++ counts_in host tags))
    by zero below more = more
    by (suc n) below more = (below, more)

-- a place of the host comes before each of hosts above it
below_hosts : (host : ℕ) (tag : List ℕ) (behind : List ChainCount) → AllByRecursion (λ (p : ChainPlace). nat_cmp host p.host ≡ Less) (places behind) → AllByRecursion (λ later. place_cmp (record { host = host; tag = tag }) later ≡ Less) (places behind)
below_hosts host tag [] above = tt
below_hosts host tag (c ∷ behind) above = (ap (λ (o : Ordering). ordering_then o (slice_cmp nat_cmp tag c.tag)) above.0, below_hosts host tag behind above.1)

all_before : (P : ChainPlace → Type 0) (counts behind : List ChainCount) → AllByRecursion P (places counts) → AllByRecursion P (places behind) → AllByRecursion P (places (counts ++ behind))
all_before P [] behind all after = after
all_before P (c ∷ counts) behind all after = (all.0, all_before P counts behind all.1 after)

-- chains of one host, and then what is of hosts above it
ascend_before : (host : ℕ) (counts behind : List ChainCount) → AllByRecursion (λ (p : ChainPlace). p.host ≡ host) (places counts) → Ascends (places counts) → AllByRecursion (λ (p : ChainPlace). nat_cmp host p.host ≡ Less) (places behind) → Ascends (places behind) → Ascends (places (counts ++ behind))
ascend_before host [] behind own up above after = after
ascend_before host (c ∷ counts) behind own up above after = (
  all_before (λ later. place_cmp (place_listed c) later ≡ Less) counts behind up.0
      (subst (λ (h : ℕ). AllByRecursion (λ later. place_cmp (record { host = h; tag = c.tag }) later ≡ Less) (places behind)) (sym own.0) (below_hosts host c.tag behind above)),
  ascend_before host counts behind own.1 up.1 above after,
)

of_host : (P : ℕ → Type 0) (host : ℕ) (tags : TagsSeen) → P host → AllByRecursion (λ (p : ChainPlace). P p.host) (places (counts_in host tags))
of_host P host [] here = tt
of_host P host (e ∷ tags) here = by (length e.1.links) (of_host P host tags here)
  where
    by : (n : ℕ) → AllByRecursion (λ (p : ChainPlace). P p.host) (places (counts_in host tags)) → AllByRecursion (λ (p : ChainPlace). P p.host) (places (count_of host e.0.items n ++ counts_in host tags))
    by zero more = more
    by (suc n) more = (here, more)

-- all tags of all hosts rise
abbrev pub AllRise : HostsSeen → Type 0
AllRise hosts = AllByRecursion (λ (e : ℕ × TagsSeen). AreRising e.1) hosts

hosts_above : (host : ℕ) (hosts : HostsSeen) → AllByRecursion (λ k. nat_cmp host k ≡ Less) (keys_of hosts) → AllByRecursion (λ (p : ChainPlace). nat_cmp host p.host ≡ Less) (places (counts_of_hosts hosts))
hosts_above host [] above = tt
hosts_above host (e ∷ hosts) above =
    all_before (λ (p : ChainPlace). nat_cmp host p.host ≡ Less) (counts_in e.0 e.1) (counts_of_hosts hosts) (of_host (λ (h : ℕ). nat_cmp host h ≡ Less) e.0 e.1 above.0) (hosts_above host hosts above.1)

hosts_ascend : (hosts : HostsSeen) → IsStrictlySortedBy nat_cmp (keys_of hosts) → AllRise hosts → Ascends (places (counts_of_hosts hosts))
hosts_ascend [] up rise = tt
hosts_ascend (e ∷ hosts) up rise =
    ascend_before e.0 (counts_in e.0 e.1) (counts_of_hosts hosts) (of_host (λ (h : ℕ). h ≡ e.0) e.0 e.1 refl) (tags_ascend e.0 e.1 rise.0) (hosts_above e.0 hosts (first_below number_of nat_cmp e hosts up)) (hosts_ascend hosts (rest_up number_of nat_cmp e hosts up) rise.1)

-- ---- no empty chain

some_in : (host : ℕ) (tags : TagsSeen) (behind : List ChainCount) → AllByRecursion (λ (listed : ChainCount). 0 < listed.count) behind → AllByRecursion (λ (listed : ChainCount). 0 < listed.count) (counts_in host tags ++ behind)
some_in host [] behind after = after
some_in host (e ∷ tags) behind after = by (length e.1.links) (some_in host tags behind after)
  where
    by : (n : ℕ) → AllByRecursion (λ (listed : ChainCount). 0 < listed.count) (counts_in host tags ++ behind) → AllByRecursion (λ (listed : ChainCount). 0 < listed.count) ((count_of host e.0.items n ++ counts_in host tags) ++ behind)
    by zero more = more
    by (suc n) more = (omega arith, more)

positive : (hosts : HostsSeen) → AllByRecursion (λ (listed : ChainCount). 0 < listed.count) (counts_of_hosts hosts)
positive [] = tt
positive (e ∷ hosts) = some_in e.0 e.1 (counts_of_hosts hosts) (positive hosts)

-- ---- each length

abbrev chain_at_tag : Option ChainSeen → ℕ
chain_at_tag o = length (unwrap_or o no_chain).links

tells_tags : (host h : ℕ) (q : List ℕ) (behind : List ChainCount) → (nat_eq host h ≡ true → count_at behind h q ≡ 0) → (tags : TagsSeen) → AreRising tags
    → count_at (counts_in host tags ++ behind) h q ≡ cond (nat_eq host h) (length (chain_in tags q).links) (count_at behind h q)
tells_tags host h q behind none [] up = by (nat_eq host h) none
  where
    by : (a : Bool) → (a ≡ true → count_at behind h q ≡ 0) → count_at behind h q ≡ cond a 0 (count_at behind h q)
    by true none = none refl
    by false none = refl
tells_tags host h q behind none (e ∷ tags) up =
    one (length e.1.links) (nat_eq host h) (bytes_eq e.0.items q) (find_tag tags q) refl refl refl absent (tells_tags host h q behind none tags (rest_up text_of (slice_cmp nat_cmp) e tags up))
    ∙ ap (λ (t : Bool). cond (nat_eq host h) (chain_at_tag (cond t (Some e.1) (find_tag tags q))) (count_at behind h q)) (nat_list_eq_equiv.symm e.0.items q ∙ sym (is_eq-slice_cmp q e.0.items))
  where
    absent : bytes_eq e.0.items q ≡ true → find_tag tags q ≡ None
    absent t = alike text_of (slice_cmp nat_cmp) nat_list_cmp_total e.0.items q tags (is_eq-slice_cmp e.0.items q ∙ t) ∙ not_there text_of (slice_cmp nat_cmp) e.0.items tags (first_below text_of (slice_cmp nat_cmp) e tags up)

    one : (n : ℕ) (a b : Bool) (o : Option ChainSeen) → nat_eq host h ≡ a → bytes_eq e.0.items q ≡ b → length e.1.links ≡ n → (b ≡ true → o ≡ None) → count_at (counts_in host tags ++ behind) h q ≡ cond a (chain_at_tag o) (count_at behind h q)
        → count_at ((count_of host e.0.items n ++ counts_in host tags) ++ behind) h q ≡ cond a (chain_at_tag (cond b (Some e.1) o)) (count_at behind h q)
    one zero a true o p r is gone more = more ∙ ap (λ (x : Option ChainSeen). cond a (chain_at_tag x) (count_at behind h q)) (gone refl) ∙ ap (λ (n : ℕ). cond a n (count_at behind h q)) (sym is)
    one zero a false o p r is gone more = more
    one (suc n) true true o p r is gone more = (λ i. cond (p i && r i) (suc n) (count_at (counts_in host tags ++ behind) h q)) ∙ sym is
    one (suc n) true false o p r is gone more = (λ i. cond (p i && r i) (suc n) (count_at (counts_in host tags ++ behind) h q)) ∙ more
    one (suc n) false b o p r is gone more = (λ i. cond (p i && bytes_eq e.0.items q) (suc n) (count_at (counts_in host tags ++ behind) h q)) ∙ more

tells_hosts : (h : ℕ) (q : List ℕ) (hosts : HostsSeen) → IsStrictlySortedBy nat_cmp (keys_of hosts) → AllRise hosts → count_at (counts_of_hosts hosts) h q ≡ length (chain_of_host hosts h q).links
tells_hosts h q [] up rise = refl
tells_hosts h q (e ∷ hosts) up rise =
    let later = tells_hosts h q hosts (rest_up number_of nat_cmp e hosts up) rise.1 in
    tells_tags e.0 h q (counts_of_hosts hosts) (none later) e.1 rise.0
    ∙ by (nat_eq e.0 h) later ∙ ap (λ (t : Bool). length (chain_in (unwrap_or (cond t (Some e.1) (find_host hosts h)) []) q).links) (nat_eq_equiv.symm e.0 h ∙ sym (same_number h e.0))
  where
    none : count_at (counts_of_hosts hosts) h q ≡ length (chain_of_host hosts h q).links → nat_eq e.0 h ≡ true → count_at (counts_of_hosts hosts) h q ≡ 0
    none later t =
        later ∙ ap (λ (o : Option TagsSeen). length (chain_in (unwrap_or o []) q).links)
        (ap (find_host hosts) (sym (eqb-true e.0 h t)) ∙ not_there number_of nat_cmp e.0 hosts (first_below number_of nat_cmp e hosts up))

    by : (t : Bool) → count_at (counts_of_hosts hosts) h q ≡ length (chain_of_host hosts h q).links → cond t (length (chain_in e.1 q).links) (count_at (counts_of_hosts hosts) h q) ≡ length (chain_in (unwrap_or (cond t (Some e.1) (find_host hosts h)) []) q).links
    by true later = refl
    by false later = later

-- ---- along the way

-- one chain more was listed
pub listed_more : (host : ℕ) (e : Vec ℕ Global × ChainSeen) (left : TagsSeen) (count : ℕ) (before now all : List ChainCount) → count ≡ length e.1.links → now ≡ before ++ count_of host e.0.items count → before ++ counts_in host (e ∷ left) ≡ all → now ++ counts_in host left ≡ all
listed_more host e left count before now all is added way =
    ap (λ (cs : List ChainCount). cs ++ counts_in host left) (added ∙ ap (λ (n : ℕ). before ++ count_of host e.0.items n) is)
    ∙ append_assoc before (count_of host e.0.items (length e.1.links)) (counts_in host left) ∙ way

-- those of one host more
pub hosts_more : (e : ℕ × TagsSeen) (left : HostsSeen) (before now all : List ChainCount) → now ≡ before ++ counts_in e.0 e.1 → before ++ counts_of_hosts (e ∷ left) ≡ all → now ++ counts_of_hosts left ≡ all
hosts_more e left before now all added way =
    ap (λ (cs : List ChainCount). cs ++ counts_of_hosts left) added ∙ append_assoc before (counts_in e.0 e.1) (counts_of_hosts left) ∙ way

-- ---- the status

pub is_status : (owner : OwnerSeen) (counts : List ChainCount) → counts ≡ counts_of_hosts owner.hosts → IsStrictlySortedBy nat_cmp (keys_of owner.hosts) → AllRise owner.hosts → IsStatusOf owner counts
is_status owner counts are up rise = subst (λ (cs : List ChainCount). IsStatusOf owner cs) (sym are) (record {
  ascends = hosts_ascend owner.hosts up rise;
  positive = All-from_recursion (λ (listed : ChainCount). 0 < listed.count) (counts_of_hosts owner.hosts) (positive owner.hosts);
  tells = λ h q. tells_hosts h q owner.hosts up rise;
})

-- of the journal of its entries
pub status_is : (index : IndexSeen) (filed : List Filed) (owner : ℕ) (seen : OwnerSeen) (counts : List ChainCount) → seen ≡ owner_in index owner → IsStatusOf seen counts → IsIndexOf index filed → counts ≡ status (journal_of filed) owner
status_is index filed owner seen counts is told means =
    status_is_determined (journal_of filed) owner counts told.ascends told.positive
    (λ h q. told.tells h q ∙ ap (λ (o : OwnerSeen). length (chain_of_owner o h q).links) is ∙ counted index filed means owner h q)

pub no_status : (owner : OwnerSeen) (counts : List ChainCount) → counts ≡ [] → owner.hosts ≡ [] → IsStatusOf owner counts
no_status owner counts none empty = subst (λ (cs : List ChainCount). IsStatusOf owner cs) (sym none) (record {
  ascends = tt;
  positive = All-from_recursion (λ (listed : ChainCount). 0 < listed.count) [] tt;
  tells = λ h q. ap (λ (hs : HostsSeen). length (chain_of_host hs h q).links) (sym empty);
})
