-- The chains of a journal with a batch behind it.
use Rattle.std.proofs.Common.{◌≡◌, ◌≢◌, ℕ, ◌&&◌, cond, List, [], ◌∷◌, ◌++◌, filter, refl, sym, ◌∙◌, ap, subst}
use Rattle.std.specs.Prelude.{bytes_eq, All}
use Rattle.std.specs.List.{AllByRecursion}
use Rattle.std.proofs.lemmas.Bool.{ne_eqb}
use Rattle.std.proofs.lemmas.List.{append-nil}
use Rattle.std.proofs.lemmas.List.Elements.{filter-append, filter_map-append, recursion_from_All}
use Rattle.record_rules.specs.Records.{Caller, Entry, Event, Started, Local, Taken}
use Rattle.record_rules.specs.Journal.{event_record, own_events, events_of, records_of, in_place, chain, IsOfHost}
use Rattle.record_rules.proofs.Owned.{own_events-append}
use Rattle.world_rules.specs.World.{IsMade, AppendsOwn}

pub chain_append : (journal batch : List Entry) (owner host : ℕ) (tag : List ℕ) → chain (journal ++ batch) owner host tag ≡ chain journal owner host tag ++ chain batch owner host tag
chain_append journal batch owner host tag =
    ap (λ events. filter (in_place host tag) (records_of events)) (own_events-append journal batch owner)
    ∙ ap (filter (in_place host tag)) (filter_map-append event_record (own_events journal owner) (own_events batch owner))
    ∙ filter-append (in_place host tag) (records_of (own_events journal owner)) (records_of (own_events batch owner))

all_behind : (P : Event → Type 0) (journal batch : List Entry) → AllByRecursion P (events_of (journal ++ batch)) → AllByRecursion P (events_of batch)
all_behind P [] batch all = all
all_behind P (entry ∷ journal) batch all = all_behind P journal batch all.1

-- what was made at one host is in no chain of another one
module _ (of_host host : ℕ) (tag : List ℕ) (differ : of_host ≢ host) where
  one_elsewhere : (batch : List Entry) → chain batch 0 host tag ≡ [] → (caller : Caller) (event : Event) → IsMade event → IsOfHost of_host event → chain (record { caller = caller; event = event } ∷ batch) 0 host tag ≡ []
  one_elsewhere batch rest caller (Started s) made at = rest
  one_elsewhere batch rest caller (Local closes r) made at =
      ap (λ b. cond (b && bytes_eq r.tag tag) (r ∷ chain batch 0 host tag) (chain batch 0 host tag)) (ne_eqb r.host host (λ same. differ (sym at ∙ same))) ∙ rest
  one_elsewhere batch rest caller (Taken owner r) made at = absurd made

  made_elsewhere : (batch : List Entry) → AllByRecursion (λ (entry : Entry). IsMade entry.event) batch → AllByRecursion (IsOfHost of_host) (events_of batch) → chain batch 0 host tag ≡ []
  made_elsewhere [] made at = refl
  made_elsewhere (entry ∷ batch) made at = one_elsewhere batch (made_elsewhere batch made.1 at.1) entry.caller entry.event made.0 at.0

-- a step at one host leaves the chains of the others
pub own_leaves_others : (of_host : ℕ) (journal batch after : List Entry) → AppendsOwn of_host journal batch after → (host : ℕ) (tag : List ℕ) → of_host ≢ host → chain (journal ++ batch) 0 host tag ≡ chain journal 0 host tag
own_leaves_others of_host journal batch after own host tag differ =
    let all : All (IsOfHost of_host) (events_of (journal ++ batch)) = subst (λ entries. All (IsOfHost of_host) (events_of entries)) own.behind own.sound.made_here in
    let at : AllByRecursion (IsOfHost of_host) (events_of batch) = all_behind (IsOfHost of_host) journal batch (recursion_from_All (IsOfHost of_host) (events_of (journal ++ batch)) all) in
    chain_append journal batch 0 host tag ∙ ap (λ rest. chain journal 0 host tag ++ rest) (made_elsewhere of_host host tag differ batch own.made at) ∙ append-nil (chain journal 0 host tag)
