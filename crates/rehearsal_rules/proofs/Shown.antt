-- What all nodes show at the end is what all records show that the hosts made.
use Rattle.std.proofs.Common.{◌≡◌, ℕ, zero, suc, ◌<◌, ◌≤◌, true, inl, inr, ◌⊎◌, List, [], ◌∷◌, filter, Some, refl, sym, ◌∙◌, ap, subst, arith}
use Rattle.std.specs.Prelude.{flat_map, filter_map, All}
use Rattle.std.specs.List.{Contains, AllByRecursion}
use Rattle.std.proofs.lemmas.List.Elements.{recursion_from_All}
use Rattle.record_rules.specs.Records.{SealedRecord, Event, Started, Local, Taken}
use Rattle.record_rules.specs.Journal.{events_of, in_place, chain, IsOfHost}
use Rattle.record_rules.proofs.Members.{Has, Has-append, Has-filter, Has-kept}
use Rattle.record_rules.proofs.Spots.{in_place_itself}
use Rattle.view_rules.specs.Changes.{Change, viewed, Opening, gives, changes_of}
use Rattle.view_rules.specs.Laws.{SameViews}
use Rattle.view_rules.proofs.Records.{Has-from_Contains, Contains-from_Has, Has-joined, held_by, holds, gives_once, computed_list}
use Rattle.view_rules.proofs.Sets.{set_makes_views}
use Rattle.step_rules.specs.Store.{KeyedStore, SealsWell}
use Rattle.world_rules.specs.World.{World, made_record, made_at}
use Rattle.world_rules.proofs.Kept.{Holds, find_place}
use Rattle.world_rules.proofs.Made.{Made, store_world_made}
use Rattle.world_rules.proofs.Stores.{store_world_holds}
use Rattle.rehearsal_rules.specs.Rehearsal.{key_of, hosts_of, Rehearsed}
use Rattle.rehearsal_rules.specs.Summary.{all_made}
use Rattle.rehearsal_rules.specs.Laws.{InEachRehearsal, NodesAgree, ShowAll, SaysEqual}
use Rattle.rehearsal_rules.proofs.Nodes.{hosts_differ, node_is_host, node_has_host, is_a_host, host_is_in}
use Rattle.rehearsal_rules.proofs.Reached.{played_leads, rehearsed_leads}
use Rattle.rehearsal_rules.proofs.Alike.{each_has_own, end_alike}

-- ---- records and what they show

goes_over : (opening : Opening) (records others : List SealedRecord) → ((r : SealedRecord) → Has records r → Has others r) → (c : Change) → Contains (changes_of opening records) c → Contains (changes_of opening others) c
goes_over opening records others over c in_c =
    let held = held_by (gives opening) records (changes_of opening records) c (computed_list opening records) (Has-from_Contains (changes_of opening records) c in_c) in
    let there = holds (gives opening) (gives_once opening) others (changes_of opening others) held.from c.payload (computed_list opening others) (over held.from held.among) held.opened in
    Contains-from_Has (changes_of opening others) c (subst (Has (changes_of opening others)) (sym held.is) there)

same_views : (opening : Opening) (records others : List SealedRecord) → ((r : SealedRecord) → Has records r → Has others r) → ((r : SealedRecord) → Has others r → Has records r) → SameViews (changes_of opening records) (changes_of opening others)
same_views opening records others there back = set_makes_views (changes_of opening records) (changes_of opening others) (λ c. (goes_over opening records others there c, goes_over opening others records back c))

-- ---- records of all hosts

into_all : (f : ℕ → List SealedRecord) (xs : List ℕ) (x : ℕ) (r : SealedRecord) → Has xs x → Has (f x) r → Has (flat_map f xs) r
into_all f [] x r none has = absurd none
into_all f (y ∷ xs) x r (inl here) has = Has-joined (f y) (flat_map f xs) r (inl (subst (λ z. Has (f z) r) (sym here) has))
into_all f (y ∷ xs) x r (inr later) has = Has-joined (f y) (flat_map f xs) r (inr (into_all f xs x r later has))

out_of_all : (f : ℕ → List SealedRecord) (xs : List ℕ) (r : SealedRecord) → Has (flat_map f xs) r → (x : ℕ) × Has xs x × Has (f x) r
out_of_all f [] r none = absurd none
out_of_all f (y ∷ xs) r has = by (Has-append (f y) (flat_map f xs) r has) (out_of_all f xs r)
  where
    by : Has (f y) r ⊎ Has (flat_map f xs) r → (Has (flat_map f xs) r → (x : ℕ) × Has xs x × Has (f x) r) → (x : ℕ) × Has (y ∷ xs) x × Has (f x) r
    by (inl here) rest = (y, inl refl, here)
    by (inr later) rest = let found = rest later in (found.0, inr found.1, found.2)

-- a record that was made at a host is the host's
made_of_host : (host : ℕ) (events : List Event) (r : SealedRecord) → AllByRecursion (IsOfHost host) events → Has (filter_map made_record events) r → r.host ≡ host
made_of_host host [] r all none = absurd none
made_of_host host (Started s ∷ events) r all has = made_of_host host events r all.1 has
made_of_host host (Local closes x ∷ events) r all (inl here) = ap (λ (y : SealedRecord). y.host) (sym here) ∙ all.0
made_of_host host (Local closes x ∷ events) r all (inr later) = made_of_host host events r all.1 later
made_of_host host (Taken owner x ∷ events) r all has = made_of_host host events r all.1 has

-- ---- at the end

module _ (keyed : List ℕ → KeyedStore) (seed hosts events : ℕ) (w : World) (well : SealsWell (keyed (key_of seed))) (some : 0 < hosts) (rehearsed : Rehearsed keyed seed hosts events w) where
  abbrev before : World
  before = rehearsed.played.world

  before_holds : Holds (hosts_of hosts) before
  before_holds = let led = played_leads keyed seed hosts events some rehearsed.played rehearsed.ran in store_world_holds (keyed (key_of seed)) (hosts_of hosts) led.events before well (hosts_differ hosts) led.leads

  before_made : Made (hosts_of hosts) before
  before_made = let led = played_leads keyed seed hosts events some rehearsed.played rehearsed.ran in store_world_made (keyed (key_of seed)) (hosts_of hosts) led.events before well (hosts_differ hosts) led.leads

  now_holds : Holds (hosts_of hosts) w
  now_holds = let led = rehearsed_leads keyed seed hosts events some w rehearsed in store_world_holds (keyed (key_of seed)) (hosts_of hosts) led.events w well (hosts_differ hosts) led.leads

  now_made : Made (hosts_of hosts) w
  now_made = let led = rehearsed_leads keyed seed hosts events some w rehearsed in store_world_made (keyed (key_of seed)) (hosts_of hosts) led.events w well (hosts_differ hosts) led.leads

  -- a node's chain of a host is what the host made of it
  chain_is_made : (node host : ℕ) (tag : List ℕ) → node ≤ hosts → 1 ≤ host → host ≤ hosts → chain (w.journal node) 0 host tag ≡ filter (in_place host tag) (made_at (before.journal host))
  chain_is_made node host tag within low high =
      each_has_own keyed seed hosts events w well some rehearsed node host tag within low high ∙ before_made.own host host tag (node_has_host hosts host high)

  module _ (node : ℕ) (within : node ≤ hosts) where
    made_of : (r : SealedRecord) → Has (viewed (w.journal node)) r → Has (all_made before hosts) r
    made_of r has =
        let here : Has (chain (w.journal node) 0 r.host r.tag) r = Has-kept (in_place r.host r.tag) (viewed (w.journal node)) r has (in_place_itself r) in
        elim (find_place (0 ∷ hosts_of hosts) r.host) [
          | inl found ↦ by found.0 (node_is_host hosts found.0 r.host found.1) here
          | inr none ↦ absurd (subst (λ (xs : List SealedRecord). Has xs r) (now_holds.strangers node r.host r.tag none) here)
        ]
      where
        by : (k : ℕ) → (k ≤ hosts) × (r.host ≡ k) → Has (chain (w.journal node) 0 r.host r.tag) r → Has (all_made before hosts) r
        by zero at here = absurd (subst (λ (xs : List SealedRecord). Has xs r) (now_made.server node r.tag) (subst (λ (h : ℕ). Has (chain (w.journal node) 0 h r.tag) r) at.1 here))
        by (suc k) at here =
            let own : Has (filter (in_place (suc k) r.tag) (made_at (before.journal (suc k)))) r = subst (λ (xs : List SealedRecord). Has xs r) (chain_is_made node (suc k) r.tag within (omega arith) at.0) (subst (λ (h : ℕ). Has (chain (w.journal node) 0 h r.tag) r) at.1 here) in
            into_all (λ host. made_at (before.journal host)) (hosts_of hosts) (suc k) r (is_a_host hosts (suc k) (omega arith) at.0) (Has-filter (in_place (suc k) r.tag) (made_at (before.journal (suc k))) r own)

    shown_of : (r : SealedRecord) → Has (all_made before hosts) r → Has (viewed (w.journal node)) r
    shown_of r has =
        let found = out_of_all (λ host. made_at (before.journal host)) (hosts_of hosts) r has in
        let at = host_is_in hosts found.0 found.1 in
        let all : All (IsOfHost found.0) (events_of (before.journal found.0)) = (before_holds.sound found.0 found.0 (node_has_host hosts found.0 at.1)).made_here in
        let of_host : r.host ≡ found.0 = made_of_host found.0 (events_of (before.journal found.0)) r (recursion_from_All (IsOfHost found.0) (events_of (before.journal found.0)) all) found.2 in
        let placed : in_place found.0 r.tag r ≡ true = subst (λ (h : ℕ). in_place h r.tag r ≡ true) of_host (in_place_itself r) in
        let own : Has (filter (in_place found.0 r.tag) (made_at (before.journal found.0))) r = Has-kept (in_place found.0 r.tag) (made_at (before.journal found.0)) r found.2 placed in
        Has-filter (in_place found.0 r.tag) (viewed (w.journal node)) r (subst (λ (xs : List SealedRecord). Has xs r) (sym (chain_is_made node found.0 r.tag within at.0 at.1)) own)

pub show_all : InEachRehearsal ShowAll
show_all keyed seed hosts events w well some rehearsed = record {
  played = rehearsed.played;
  ran = rehearsed.ran;
  views = λ opening node within. same_views opening (viewed (w.journal node)) (all_made rehearsed.played.world hosts) (made_of keyed seed hosts events w well some rehearsed node within) (shown_of keyed seed hosts events w well some rehearsed node within);
}

pub says_equal : InEachRehearsal SaysEqual
says_equal keyed seed hosts events w well some rehearsed s summarizes =
    summarizes.equal_is.1 (λ node low high.
    let agree : NodesAgree w 1 node = end_alike keyed seed hosts events w well some rehearsed 1 node (omega arith) high in
    let views = agree.views (keyed (key_of seed)).opens in
    record {
      history = λ h. (λ shown. (shown.0, (views.history shown.0 h).0 shown.1), λ shown. (shown.0, (views.history shown.0 h).1 shown.1));
      kv = λ key value. (λ shown. (shown.0, (views.kv _ key shown.0 (Some value)).0 shown.1), λ shown. (shown.0, (views.kv _ key shown.0 (Some value)).1 shown.1));
      aliases = λ name value. (λ shown. (shown.0, (views.aliases name shown.0 (Some value)).0 shown.1), λ shown. (shown.0, (views.aliases name shown.0 (Some value)).1 shown.1));
    })
