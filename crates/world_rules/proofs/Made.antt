-- What the nodes of a world made: the server nothing, and every other one all that it has of its own host.
use Rattle.std.proofs.Common.{◌≡◌, ◌≢◌, ℕ, ◌<◌, ◌≤◌, ◌+◌, cond, ◌⊎◌, inl, inr, List, [], ◌∷◌, ◌++◌, length, map, filter, Some, Result, Ok, Err, refl, sym, ◌∙◌, ap, subst, arith, length-append}
use Rattle.std.specs.Prelude.{filter_map}
use Rattle.std.specs.List.{AllByRecursion}
use Rattle.std.proofs.lemmas.List.{append-nil, map-append}
use Rattle.std.proofs.lemmas.List.Elements.{filter-append, filter_map-append}
use Rattle.std.proofs.lemmas.Option.{same_Some}
use Rattle.definitions.specs.Prefixes.{IsPrefix}
use Rattle.definitions.proofs.Prefixes.{prefix-itself, prefix-is_shorter, prefixes-alike}
use Rattle.record_rules.specs.Records.{SealedRecord, Caller, Entry, Event, Started, Local, Taken}
use Rattle.record_rules.specs.Journal.{own_events, events_of, records_of, in_place, chain}
use Rattle.record_rules.specs.Growth.{PageRefusal, fresh_of, taken_entry, first_refusal, grow, grown}
use Rattle.record_rules.proofs.Repeats.{grown_batch}
use Rattle.step_rules.specs.Store.{KeyedStore, SealsWell}
use Rattle.world_rules.specs.World.{host_at, HostsDiffer, World, empty_world, with_journal, WorldEvent, Append, Send, Deliver, Crash, Cut, Appends, Delivers, Happens, Leads, Reach, IsMade, made_record, made_at, AppendsOwn, MakesOwn}
use Rattle.world_rules.specs.Laws.{NoServerChains, OwnChainsAreMade}
use Rattle.world_rules.specs.Stores.{StoreAsked, store_step}
use Rattle.world_rules.proofs.Batches.{chain_append, own_leaves_others}
use Rattle.world_rules.proofs.Kept.{WasCut, Holds, empty_holds, at_each, same_or_other, own_chain, other_chain, happens_holds, own_makes}
use Rattle.world_rules.proofs.Stores.{store_makes}

pub record Made (hosts : List ℕ) (w : World) : Type 0 where
  pub own : OwnChainsAreMade hosts w
  pub server : NoServerChains hosts w

empty_made : (hosts : List ℕ) → Made hosts empty_world
empty_made hosts = record { own = λ node host tag at. refl; server = λ node tag. refl }

-- ---- what a batch made

made_append : (journal batch : List Entry) → made_at (journal ++ batch) ≡ made_at journal ++ made_at batch
made_append journal batch = ap (filter_map made_record) (map-append (λ (e : Entry). e.event) journal batch) ∙ filter_map-append made_record (events_of journal) (events_of batch)

one_made : (host : ℕ) (tag : List ℕ) (batch : List Entry) → chain batch 0 host tag ≡ filter (in_place host tag) (made_at batch) → (caller : Caller) (event : Event) → IsMade event
    → chain (record { caller = caller; event = event } ∷ batch) 0 host tag ≡ filter (in_place host tag) (made_at (record { caller = caller; event = event } ∷ batch))
one_made host tag batch rest caller (Started s) made = rest
one_made host tag batch rest caller (Local closes r) made = ap (λ later. cond (in_place host tag r) (r ∷ later) later) rest
one_made host tag batch rest caller (Taken owner r) made = absurd made

all_made : (host : ℕ) (tag : List ℕ) (batch : List Entry) → AllByRecursion (λ (entry : Entry). IsMade entry.event) batch → chain batch 0 host tag ≡ filter (in_place host tag) (made_at batch)
all_made host tag [] made = refl
all_made host tag (entry ∷ batch) made = one_made host tag batch (all_made host tag batch made.1) entry.caller entry.event made.0

none_made : (caller : Caller) (owner : ℕ) (records : List SealedRecord) → made_at (map (taken_entry caller owner) records) ≡ []
none_made caller owner [] = refl
none_made caller owner (r ∷ records) = none_made caller owner records

page_made : (journal : List Entry) (caller : Caller) (page : List SealedRecord) (batch : List Entry) → grow journal caller 0 page ≡ Ok batch → made_at (journal ++ batch) ≡ made_at journal
page_made journal caller page batch taken =
    let fresh = fresh_of (records_of (own_events journal 0)) page in
    let parts = grown_batch (map (taken_entry caller 0) fresh) (first_refusal 0 (own_events journal 0) [] page) batch taken in
    made_append journal batch ∙ ap (λ more. made_at journal ++ made_at more) (sym parts.1) ∙ ap (λ more. made_at journal ++ more) (none_made caller 0 fresh) ∙ append-nil (made_at journal)

-- ---- a step

append_made : {Asked : Type 0} (step : ℕ → List Entry → Asked → List Entry → Type 0) → MakesOwn step → (hosts : List ℕ) (w : World) (node : ℕ) (asked : Asked) (new : World) → HostsDiffer hosts → Holds hosts w → Made hosts w → Appends step hosts w node asked new → Made hosts new
append_made step makes hosts w node asked new apart holds made appends =
    let host = appends.host in
    let own = makes host (w.journal node) asked appends.after (holds.sound node host appends.at_host) appends.stepped in
    let batch = own.0 in
    let own_batch : AppendsOwn host (w.journal node) batch appends.after = own.1 in
    let no_server : host ≢ 0 = λ none. let same : node ≡ 0 = apart node 0 0 (appends.at_host ∙ ap Some none) refl in absurd (let some = appends.at_no_server in omega (arith, same, some)) in
    subst (Made hosts) (sym (appends.becomes ∙ ap (with_journal w node) own_batch.behind)) (record {
      own = λ other other_host tag at.
          at_each w node (w.journal node ++ batch) (λ m journal. host_at hosts m ≡ Some other_host → chain journal 0 other_host tag ≡ filter (in_place other_host tag) (made_at journal))
          (λ here. chain_append (w.journal node) batch 0 other_host tag
          ∙ (λ i. made.own node other_host tag here i ++ all_made other_host tag batch own_batch.made i)
          ∙ sym (filter-append (in_place other_host tag) (made_at (w.journal node)) (made_at batch))
          ∙ ap (filter (in_place other_host tag)) (sym (made_append (w.journal node) batch)))
          (λ m differ there. made.own m other_host tag there)
          other at;
      server = λ other tag.
          at_each w node (w.journal node ++ batch) (λ m journal. chain journal 0 0 tag ≡ [])
          (own_leaves_others host (w.journal node) batch appends.after own_batch 0 tag no_server ∙ made.server node tag)
          (λ m differ. made.server m tag)
          other;
    })

-- ---- a page that comes

begins_nothing : (xs : List SealedRecord) → IsPrefix xs [] → xs ≡ []
begins_nothing xs prefix = prefixes-alike xs [] [] prefix refl (let short : length xs ≤ 0 = prefix-is_shorter xs [] prefix in omega (arith, short))

no_longer : (xs more : List SealedRecord) → IsPrefix (xs ++ more) xs → xs ++ more ≡ xs
no_longer xs more prefix =
    let short : length (xs ++ more) ≤ length xs = prefix-is_shorter (xs ++ more) xs prefix in
    let long : length (xs ++ more) ≡ length xs + length more = length-append xs more in
    prefixes-alike (xs ++ more) xs xs prefix (prefix-itself xs) (omega (arith, short, long))

module _ (hosts : List ℕ) (apart : HostsDiffer hosts) (w : World) (holds : Holds hosts w) (made : Made hosts w) (node : ℕ) (caller : Caller) (records : List SealedRecord) (from : WasCut hosts w records) (of_host : ℕ) (at_node : host_at hosts node ≡ Some of_host) (batch : List Entry) (taken : grow (w.journal node) caller 0 records ≡ Ok batch) where
  from_own : IsPrefix (chain (w.journal node ++ batch) 0 from.host from.tag) (chain (w.journal from.origin) 0 from.host from.tag)
  from_own = own_chain hosts w holds node caller records from apart of_host at_node batch taken

  others : (host : ℕ) (tag : List ℕ) → (from.host ≢ host) ⊎ (from.tag ≢ tag) → chain (w.journal node ++ batch) 0 host tag ≡ chain (w.journal node) 0 host tag
  others = other_chain hosts w holds node caller records from apart of_host at_node batch taken

  -- a page adds nothing to the chains of the node's own host
  own_stays : (host : ℕ) (tag : List ℕ) → host_at hosts node ≡ Some host → chain (w.journal node ++ batch) 0 host tag ≡ chain (w.journal node) 0 host tag
  own_stays host tag at =
      elim (same_or_other from.host host from.tag tag) [
        | inl same ↦
            let origin : from.origin ≡ node = apart from.origin node host (from.at_host ∙ ap Some same.0) at in
            let whole : IsPrefix (chain (w.journal node ++ batch) 0 host tag) (chain (w.journal node) 0 host tag) =
            subst (λ k. IsPrefix (chain (w.journal node ++ batch) 0 host tag) (chain (w.journal k) 0 host tag)) origin (subst (λ t. IsPrefix (chain (w.journal node ++ batch) 0 host t) (chain (w.journal from.origin) 0 host t)) same.1 (subst (λ h. IsPrefix (chain (w.journal node ++ batch) 0 h from.tag) (chain (w.journal from.origin) 0 h from.tag)) same.0 from_own)) in
            chain_append (w.journal node) batch 0 host tag ∙ no_longer (chain (w.journal node) 0 host tag) (chain batch 0 host tag) (subst (λ xs. IsPrefix xs (chain (w.journal node) 0 host tag)) (chain_append (w.journal node) batch 0 host tag) whole)
        | inr differ ↦ others host tag differ
      ]

  none_of_server : (tag : List ℕ) → chain (w.journal node ++ batch) 0 0 tag ≡ []
  none_of_server tag =
      elim (same_or_other from.host 0 from.tag tag) [
        | inl same ↦
            let whole : IsPrefix (chain (w.journal node ++ batch) 0 0 tag) (chain (w.journal from.origin) 0 0 tag) =
            subst (λ t. IsPrefix (chain (w.journal node ++ batch) 0 0 t) (chain (w.journal from.origin) 0 0 t)) same.1 (subst (λ h. IsPrefix (chain (w.journal node ++ batch) 0 h from.tag) (chain (w.journal from.origin) 0 h from.tag)) same.0 from_own) in
            begins_nothing (chain (w.journal node ++ batch) 0 0 tag) (subst (IsPrefix (chain (w.journal node ++ batch) 0 0 tag)) (made.server from.origin tag) whole)
        | inr differ ↦ others 0 tag differ ∙ made.server node tag
      ]

  taken_made : Made hosts (with_journal w node (w.journal node ++ batch))
  taken_made = record {
    own = λ other host tag at.
        at_each w node (w.journal node ++ batch) (λ m journal. host_at hosts m ≡ Some host → chain journal 0 host tag ≡ filter (in_place host tag) (made_at journal))
        (λ here. own_stays host tag here ∙ made.own node host tag here ∙ ap (filter (in_place host tag)) (sym (page_made (w.journal node) caller records batch taken)))
        (λ m differ there. made.own m host tag there)
        other at;
    server = λ other tag.
        at_each w node (w.journal node ++ batch) (λ m journal. chain journal 0 0 tag ≡ []) (none_of_server tag) (λ m differ. made.server m tag) other;
  }

-- the journal as it was
same_made : (hosts : List ℕ) (w : World) → Made hosts w → (n : ℕ) → Made hosts (with_journal w n (w.journal n))
same_made hosts w made n = record {
  own = λ other host tag at. at_each w n (w.journal n) (λ m journal. host_at hosts m ≡ Some host → chain journal 0 host tag ≡ filter (in_place host tag) (made_at journal)) (λ here. made.own n host tag here) (λ m differ there. made.own m host tag there) other at;
  server = λ other tag. at_each w n (w.journal n) (λ m journal. chain journal 0 0 tag ≡ []) (made.server n tag) (λ m differ. made.server m tag) other;
}

grown_made : (hosts : List ℕ) → HostsDiffer hosts → (w : World) → Holds hosts w → Made hosts w → (node : ℕ) (caller : Caller) (records : List SealedRecord) → WasCut hosts w records → (of_host : ℕ) → host_at hosts node ≡ Some of_host
    → (result : Result (List Entry) PageRefusal) → grow (w.journal node) caller 0 records ≡ result → Made hosts (with_journal w node (grown (w.journal node) result))
grown_made hosts apart w holds made node caller records from of_host at_node (Ok batch) taken = taken_made hosts apart w holds made node caller records from of_host at_node batch taken
grown_made hosts apart w holds made node caller records from of_host at_node (Err refusal) refused = same_made hosts w made node

deliver_made : (hosts : List ℕ) (w : World) (number node : ℕ) (caller : Caller) (new : World) → HostsDiffer hosts → Holds hosts w → Made hosts w → Delivers hosts w number node caller new → Made hosts new
deliver_made hosts w number node caller new apart holds made delivers =
    subst (Made hosts) (sym delivers.becomes) (grown_made hosts apart w holds made node caller delivers.records (holds.cuts number delivers.records delivers.was_sent) delivers.of_host delivers.at_node (grow (w.journal node) caller 0 delivers.records) refl)

-- ---- whole runs

module _ {Asked : Type 0} (step : ℕ → List Entry → Asked → List Entry → Type 0) (makes : MakesOwn step) (hosts : List ℕ) (apart : HostsDiffer hosts) where
  happens_made : (event : WorldEvent Asked) (w new : World) → Holds hosts w → Made hosts w → Happens step hosts w event new → Made hosts new
  happens_made (Append node asked) w new holds made happens = append_made step makes hosts w node asked new apart holds made happens
  happens_made (Send node host tag start count) w new holds made happens = subst (Made hosts) (sym happens.becomes) (record { own = made.own; server = made.server })
  happens_made (Deliver number node caller) w new holds made happens = deliver_made hosts w number node caller new apart holds made happens
  happens_made (Crash node) w new holds made happens = subst (Made hosts) (sym happens) made
  happens_made (Cut event) w new holds made (inl whole) = happens_made event w new holds made whole
  happens_made (Cut event) w new holds made (inr lost) = subst (Made hosts) (sym lost) made

  leads_made : (events : List (WorldEvent Asked)) (w new : World) → Holds hosts w → Made hosts w → Leads step hosts w events new → Made hosts new
  leads_made [] w new holds made leads = subst (Made hosts) (sym leads) made
  leads_made (event ∷ events) w new holds made leads =
      leads_made events leads.0 new (happens_holds step makes hosts apart event w leads.0 holds leads.1) (happens_made event w leads.0 holds made leads.1) leads.2

  -- for whatever step of the kind
  pub reached_made : (events : List (WorldEvent Asked)) (w : World) → Reach step hosts events w → Made hosts w
  reached_made events w reach = leads_made events empty_world w (empty_holds hosts) (empty_made hosts) reach

pub world_made : (hosts : List ℕ) (events : List (WorldEvent (List Entry))) (w : World) → HostsDiffer hosts → Reach AppendsOwn hosts events w → Made hosts w
world_made hosts events w apart reach = reached_made AppendsOwn own_makes hosts apart events w reach

pub store_world_made : (store : KeyedStore) (hosts : List ℕ) (events : List (WorldEvent StoreAsked)) (w : World) → SealsWell store → HostsDiffer hosts → Reach (store_step store) hosts events w → Made hosts w
store_world_made store hosts events w well apart reach = reached_made (store_step store) (store_makes store well) hosts apart events w reach
