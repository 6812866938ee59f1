-- What a change of one tag, of one host or of one owner makes of all.
use Rattle.std.proofs.Common.{◌≡◌, ℕ, ◌≤◌, List, [], ◌∷◌, ◌++◌, Vec, Global, Option, Some, None, Bool, true, false, cond, refl, sym, ap, subst, ◌∙◌, arith}
use Rattle.std.specs.Prelude.{nat_eq, bytes_eq, ◌&&◌, All}
use Rattle.std.specs.Map.{lookup, set_value, keys_of}
use Rattle.std.specs.Option.{unwrap_or}
use Rattle.std.specs.BTreeMap.{is_at, insert_entry}
use Rattle.std.specs.Cmp.{both_ways}
use Rattle.std.specs.Cmp.Lexicographic.{slice_cmp}
use Rattle.std.specs.Ordering.{nat_cmp, is_eq}
use Rattle.std.proofs.lemmas.Bool.{eqb-true, eq-eqb, ne_eqb, true≢false}
use Rattle.std.proofs.lemmas.Bool.Decides.{nat_tests}
use Rattle.std.proofs.lemmas.Cmp.{nat_cmp_total, nat_list_cmp_total}
use Rattle.std.proofs.lemmas.Map.{keys-set_value}
use Rattle.std.proofs.lemmas.Map.Views.{All-keys-insert_entry}
use Rattle.std.proofs.lemmas.Map.Text.{is_eq-slice_cmp}
use Rattle.chain_index.specs.declared.links.Link.{Link}
use Rattle.chain_index.specs.Chains.{ChainSeen, no_chain, TagsSeen, IsTag, find_tag, chain_in, Grows, TagsGrow, AddsIf, PutsTag, HostsSeen, chain_of_host, HostsGrow, PutsHost, OwnerSeen, no_owner, OwnerGrows, OwnerAddsIf, IndexSeen, other_in, owner_in, OwnersAdd}
use Rattle.chain_index.proofs.Maps.{related, same_put}

abbrev pub text_of : Vec ℕ Global → List ℕ
text_of v = v.items

abbrev pub number_of : ℕ → ℕ
number_of n = n

equal_numbers : (a b : ℕ) → is_eq (nat_cmp a b) ≡ true → a ≡ b
equal_numbers a b e = grind (arith, nat_tests)

numbers_equal : (a b : ℕ) → a ≡ b → is_eq (nat_cmp a b) ≡ true
numbers_equal a b e = grind (arith, nat_tests)

pub same_number : (a b : ℕ) → is_eq (nat_cmp a b) ≡ nat_eq a b
same_number a b = both_ways (is_eq (nat_cmp a b)) (nat_eq a b) (λ e. eq-eqb a b (equal_numbers a b e)) (λ e. numbers_equal a b (eqb-true a b e))

still : (chain : ChainSeen) → Grows chain chain
still chain = (refl, omega arith)

-- ---- a tag

module _ (es fs : TagsSeen) (tag : List ℕ) (old w : ChainSeen) (found : Some old ≡ lookup (is_at (λ (v : Vec ℕ Global). slice_cmp nat_cmp tag v.items)) es) (is : fs ≡ set_value (is_at (λ (v : Vec ℕ Global). slice_cmp nat_cmp tag v.items)) es w) where
  pub tags_stay : All IsTag (keys_of es) → All IsTag (keys_of fs)
  tags_stay all = subst (λ (gs : List (Vec ℕ Global)). All IsTag gs) (sym (ap (λ (gs : TagsSeen). keys_of gs) is ∙ keys-set_value (is_at (λ (v : Vec ℕ Global). slice_cmp nat_cmp tag v.items)) es w)) all

  pub tag_grows : w.links ≡ old.links → old.reserved ≤ w.reserved → TagsGrow es fs
  tag_grows links kept q = related text_of (slice_cmp nat_cmp) nat_list_cmp_total es fs tag no_chain old w found is (λ t x y. Grows x y) still (links, kept) q

  pub tag_put : (link : Link) → w.links ≡ old.links ++ link ∷ [] → old.reserved ≤ w.reserved → PutsTag tag link es fs
  tag_put link links kept q =
      subst (λ (t : Bool). AddsIf t link (chain_in es q) (chain_in fs q)) (is_eq-slice_cmp tag q)
      (related text_of (slice_cmp nat_cmp) nat_list_cmp_total es fs tag no_chain old w found is (λ t x y. AddsIf t link x y) still (links, kept) q)

pub tag_there : (es : TagsSeen) (tag : List ℕ) (x : ChainSeen) → Some x ≡ lookup (is_at (λ (v : Vec ℕ Global). slice_cmp nat_cmp tag v.items)) es → x ≡ chain_in es tag
tag_there es tag x found = ap (λ (o : Option ChainSeen). unwrap_or o no_chain) found

pub tags_alike : (es fs : TagsSeen) → fs ≡ es → All IsTag (keys_of es) → All IsTag (keys_of fs)
tags_alike es fs is all = subst (λ (gs : TagsSeen). All IsTag (keys_of gs)) (sym is) all

module _ (es fs : TagsSeen) (tag : Vec ℕ Global) (x : ChainSeen) (is : fs ≡ insert_entry (λ (a b : Vec ℕ Global). slice_cmp nat_cmp a.items b.items) es tag x) where
  pub tags_with : IsTag tag → All IsTag (keys_of es) → All IsTag (keys_of fs)
  tags_with text all = tags_alike (insert_entry (λ (a b : Vec ℕ Global). slice_cmp nat_cmp a.items b.items) es tag x) fs is (All-keys-insert_entry (λ (a b : Vec ℕ Global). slice_cmp nat_cmp a.items b.items) tag x IsTag es all text)

  pub tag_new : find_tag es tag.items ≡ None → x ≡ no_chain → (q : List ℕ) → chain_in fs q ≡ chain_in es q
  tag_new absent nothing q = same_put text_of (slice_cmp nat_cmp) nat_list_cmp_total es fs tag no_chain x is absent nothing q

-- ---- a host

module _ (es fs : HostsSeen) (host : ℕ) (old w : TagsSeen) (found : Some old ≡ lookup (is_at (nat_cmp host)) es) (is : fs ≡ set_value (is_at (nat_cmp host)) es w) where
  pub host_grows : TagsGrow old w → HostsGrow es fs
  host_grows grow h = related number_of nat_cmp nat_cmp_total es fs host [] old w found is (λ t x y. TagsGrow x y) (λ x q. still (chain_in x q)) grow h

  pub host_put : (tag : List ℕ) (link : Link) → PutsTag tag link old w → PutsHost host tag link es fs
  host_put tag link puts h q =
      subst (λ (t : Bool). AddsIf (t && bytes_eq tag q) link (chain_of_host es h q) (chain_of_host fs h q)) (same_number host h)
      (related number_of nat_cmp nat_cmp_total es fs host [] old w found is (λ t x y. (q : List ℕ) → AddsIf (t && bytes_eq tag q) link (chain_in x q) (chain_in y q)) (λ x q. still (chain_in x q)) puts h q)

-- ---- an owner

same_owner : (x : OwnerSeen) → OwnerGrows x x
same_owner x = record { held = refl; hosts = λ h q. still (chain_of_host x.hosts h q) }

same_but : (host : ℕ) (tag : List ℕ) (weight : ℕ) (link : Link) (x : OwnerSeen) → OwnerAddsIf false host tag weight link x x
same_but host tag weight link x = record { held = refl; chains = λ h q. still (chain_of_host x.hosts h q) }

module _ (es fs : List (ℕ × OwnerSeen)) (owner : ℕ) (old w : OwnerSeen) (found : Some old ≡ lookup (is_at (nat_cmp owner)) es) (is : fs ≡ set_value (is_at (nat_cmp owner)) es w) where
  pub other_grows : OwnerGrows old w → (o : ℕ) → OwnerGrows (other_in es o) (other_in fs o)
  other_grows grow o = related number_of nat_cmp nat_cmp_total es fs owner no_owner old w found is (λ t x y. OwnerGrows x y) same_owner grow o

  pub other_adds : (host : ℕ) (tag : List ℕ) (weight : ℕ) (link : Link) → OwnerAddsIf true host tag weight link old w → (o : ℕ) → OwnerAddsIf (nat_eq owner o) host tag weight link (other_in es o) (other_in fs o)
  other_adds host tag weight link adds o =
      subst (λ (t : Bool). OwnerAddsIf t host tag weight link (other_in es o) (other_in fs o)) (same_number owner o)
      (related number_of nat_cmp nat_cmp_total es fs owner no_owner old w found is (λ t x y. OwnerAddsIf t host tag weight link x y) (same_but host tag weight link) adds o)

-- ---- owner 0 or another

module _ (old new : IndexSeen) (owner : ℕ) where
  pub here_grows : OwnerGrows old.here new.here → new.others ≡ old.others → (o : ℕ) → OwnerGrows (owner_in old o) (owner_in new o)
  here_grows grow same o = by (nat_eq o 0)
    where
      by : (t : Bool) → OwnerGrows (cond t old.here (other_in old.others o)) (cond t new.here (other_in new.others o))
      by true = grow
      by false = subst (λ (es : List (ℕ × OwnerSeen)). OwnerGrows (other_in old.others o) (other_in es o)) (sym same) (same_owner (other_in old.others o))

  pub others_grow : ((o : ℕ) → OwnerGrows (other_in old.others o) (other_in new.others o)) → new.here ≡ old.here → (o : ℕ) → OwnerGrows (owner_in old o) (owner_in new o)
  others_grow grow same o = by (nat_eq o 0)
    where
      by : (t : Bool) → OwnerGrows (cond t old.here (other_in old.others o)) (cond t new.here (other_in new.others o))
      by true = subst (λ (x : OwnerSeen). OwnerGrows old.here x) (sym same) (same_owner old.here)
      by false = grow o

  module _ (host : ℕ) (tag : List ℕ) (weight : ℕ) (link : Link) where
    pub here_adds : owner ≡ 0 → OwnerAddsIf true host tag weight link old.here new.here → new.others ≡ old.others → OwnersAdd owner host tag weight link old new
    here_adds zero adds same o = by (nat_eq o 0) refl
      where
        by : (t : Bool) → nat_eq o 0 ≡ t → OwnerAddsIf (nat_eq owner o) host tag weight link (cond t old.here (other_in old.others o)) (cond t new.here (other_in new.others o))
        by true t = subst (λ (b : Bool). OwnerAddsIf b host tag weight link old.here new.here) (sym (eq-eqb owner o (zero ∙ sym (eqb-true o 0 t)))) adds
        by false t =
            subst (λ (es : List (ℕ × OwnerSeen)). OwnerAddsIf (nat_eq owner o) host tag weight link (other_in old.others o) (other_in es o)) (sym same)
            (subst (λ (b : Bool). OwnerAddsIf b host tag weight link (other_in old.others o) (other_in old.others o)) (sym (ne_eqb owner o (λ e. true≢false (sym (eq-eqb o 0 (sym e ∙ zero)) ∙ t)))) (same_but host tag weight link (other_in old.others o)))

    pub others_add : (owner ≡ 0 → ⊥) → ((o : ℕ) → OwnerAddsIf (nat_eq owner o) host tag weight link (other_in old.others o) (other_in new.others o)) → new.here ≡ old.here → OwnersAdd owner host tag weight link old new
    others_add some adds same o = by (nat_eq o 0) refl
      where
        by : (t : Bool) → nat_eq o 0 ≡ t → OwnerAddsIf (nat_eq owner o) host tag weight link (cond t old.here (other_in old.others o)) (cond t new.here (other_in new.others o))
        by true t =
            subst (λ (x : OwnerSeen). OwnerAddsIf (nat_eq owner o) host tag weight link old.here x) (sym same)
            (subst (λ (b : Bool). OwnerAddsIf b host tag weight link old.here old.here) (sym (ne_eqb owner o (λ e. some (e ∙ eqb-true o 0 t)))) (same_but host tag weight link old.here))
        by false t = adds o
