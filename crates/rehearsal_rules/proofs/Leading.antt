-- What a rehearsal does are events of its world.
use Rattle.std.proofs.Common.{◌≡◌, ℕ, ◌+◌, ◌-◌, ◌<◌, ◌≤◌, List, [], ◌∷◌, ◌++◌, length, Ok, refl, sym, ap, subst, arith}
use Rattle.std.specs.Prelude.{⊤}
use Rattle.std.specs.List.{AllByRecursion}
use Rattle.record_rules.specs.Records.{Caller, Entry}
use Rattle.record_rules.specs.Journal.{ChainPlace}
use Rattle.record_rules.specs.Growth.{grow, grown}
use Rattle.record_rules.proofs.Options.{slice_get_last}
use Rattle.step_rules.specs.Calls.{Call}
use Rattle.step_rules.specs.Answers.{Answer}
use Rattle.step_rules.specs.Store.{KeyedStore}
use Rattle.plan_rules.specs.Plans.{PlanStep, Upload, Download}
use Rattle.world_rules.specs.World.{World, with_journal, with_page, WorldEvent, Append, Send, Deliver, Leads}
use Rattle.world_rules.specs.Stores.{StoreAsked, store_step}
use Rattle.rehearsal_rules.specs.Transfers.{Each, next_page, with_taken, Transfers, TransfersUp, TransfersDown, plan_at}
use Rattle.rehearsal_rules.specs.Moments.{Moment, next_used}
use Rattle.rehearsal_rules.specs.Rehearsal.{hosts_of, HostCalls, RunsEvent, runs, deletes, finds_nothing, sets_value, sets_alias, ends_alias, lacks_alias, syncs, crashes}
use Rattle.rehearsal_rules.proofs.Nodes.{node_has_host}

module _ (store : KeyedStore) (hosts : ℕ) where
  pub record LeadsSome (w new : World) : Type 0 where
    pub events : List (WorldEvent StoreAsked)
    pub leads : Leads (store_step store) (hosts_of hosts) w events new

  pub leads_none : (w new : World) → new ≡ w → LeadsSome w new
  leads_none w new same = record { events = []; leads = same }

  both_lead : (w between new : World) (one two : List (WorldEvent StoreAsked)) → Leads (store_step store) (hosts_of hosts) w one between → Leads (store_step store) (hosts_of hosts) between two new → Leads (store_step store) (hosts_of hosts) w (one ++ two) new
  both_lead w between new [] two first second = subst (λ v. Leads (store_step store) (hosts_of hosts) v two new) first second
  both_lead w between new (event ∷ one) two first second = (first.0, first.1, both_lead first.0 between new one two first.2 second)

  pub leads_both : (w between new : World) → LeadsSome w between → LeadsSome between new → LeadsSome w new
  leads_both w between new first second = record { events = first.events ++ second.events; leads = both_lead w between new first.events second.events first.leads second.leads }

  -- ---- pages

  pub page_leads : (w : World) (giver taker : ℕ) (place : ChainPlace) (start end : ℕ) (caller : Caller) (batch : List Entry) → giver ≤ hosts → taker ≤ hosts → grow (w.journal taker) caller 0 (next_page w giver place start end) ≡ Ok batch
      → LeadsSome w (with_taken w (next_page w giver place start end) taker batch)
  page_leads w giver taker place start end caller batch gives takes taken =
      let records = next_page w giver place start end in
      record {
        events = Send giver place.host place.tag start (end - start) ∷ Deliver (length w.sent) taker caller ∷ [];
        leads = (
          with_page w records,
          record { of_host = giver; at_node = node_has_host hosts giver gives; becomes = refl },
          (
            with_taken w records taker batch,
            record {
              of_host = taker;
              records = records;
              at_node = node_has_host hosts taker takes;
              was_sent = slice_get_last w.sent records;
              becomes = ap (λ result. with_journal (with_page w records) taker (grown (w.journal taker) result)) (sym taken);
            },
            refl,
          ),
        );
      }

  pub hands_lead : (giver taker : ℕ) (place : ChainPlace) (end : ℕ) → giver ≤ hosts → taker ≤ hosts → (callers : List Caller) (start : ℕ) (w new : World) → Transfers giver taker place start end callers w new → LeadsSome w new
  hands_lead giver taker place end gives takes [] start w new hands = leads_none w new hands.1
  hands_lead giver taker place end gives takes (caller ∷ callers) start w new hands =
      let records = next_page w giver place start end in
      let next = with_taken w records taker hands.1.0 in
      leads_both w next new (page_leads w giver taker place start end caller hands.1.0 gives takes hands.1.1) (hands_lead giver taker place end gives takes callers (start + length records) next new hands.1.2)

  up_leads : (node : ℕ) → node ≤ hosts → (step : PlanStep) (w new : World) → TransfersUp node step w new → LeadsSome w new
  up_leads node within (Upload place start end) w new hands = hands_lead node 0 place end within (omega arith) hands.0 start w new hands.1
  up_leads node within (Download place start end) w new same = leads_none w new same

  down_leads : (node : ℕ) → node ≤ hosts → (step : PlanStep) (w new : World) → TransfersDown node step w new → LeadsSome w new
  down_leads node within (Upload place start end) w new same = leads_none w new same
  down_leads node within (Download place start end) w new hands = hands_lead 0 node place end (omega arith) within hands.0 start w new hands.1

  -- ---- one after the other

  module _ {X S : Type 0} (world_of : S → World) (does : X → S → S → Type 0) (Fits : X → Type 0) (leads : (x : X) (s t : S) → Fits x → does x s t → LeadsSome (world_of s) (world_of t)) where
    pub each_leads : (xs : List X) → AllByRecursion Fits xs → (s t : S) → Each does xs s t → LeadsSome (world_of s) (world_of t)
    each_leads [] fit s t same = leads_none (world_of s) (world_of t) (ap world_of same)
    each_leads (x ∷ xs) fit s t each = leads_both (world_of s) (world_of each.0) (world_of t) (leads x s each.0 fit.0 each.1) (each_leads xs fit.1 each.0 t each.2)

  any_fit : {X : Type 0} (xs : List X) → AllByRecursion (λ (x : X). ⊤) xs
  any_fit [] = tt
  any_fit (x ∷ xs) = (tt, any_fit xs)

  pub ups_lead : (node : ℕ) → node ≤ hosts → (steps : List PlanStep) (w new : World) → Each (TransfersUp node) steps w new → LeadsSome w new
  ups_lead node within steps w new each = each_leads (λ v. v) (TransfersUp node) (λ step. ⊤) (λ step v u fit up. up_leads node within step v u up) steps (any_fit steps) w new each

  pub downs_lead : (node : ℕ) → node ≤ hosts → (steps : List PlanStep) (w new : World) → Each (TransfersDown node) steps w new → LeadsSome w new
  downs_lead node within steps w new each = each_leads (λ v. v) (TransfersDown node) (λ step. ⊤) (λ step v u fit down. down_leads node within step v u down) steps (any_fit steps) w new each

  -- ---- events

  makes_lead : (seed : ℕ) (r : Moment) (host : ℕ) (call : Call) (answer : Answer) (after : Moment) → host < hosts → HostCalls store seed r host call answer after → LeadsSome r.world after.world
  makes_lead seed r host call answer after below makes = record {
    events = Append (host + 1) (record { caller = makes.caller; call = call; used = next_used seed r (host + 1) makes.readings makes.bytes }) ∷ [];
    leads = (
      with_journal r.world (host + 1) makes.journal,
      record { host = host + 1; after = makes.journal; at_host = node_has_host hosts (host + 1) (omega (arith, below)); at_no_server = omega arith; stepped = (answer, makes.fits, makes.stepped); becomes = refl },
      ap (λ (moment : Moment). moment.world) makes.becomes,
    );
  }

  pub plays_lead : (seed : ℕ) (r : Moment) (number host row a : ℕ) (after : Moment) → host < hosts → RunsEvent store seed r number host row a after → LeadsSome r.world after.world
  plays_lead seed r number host row a after below (runs id idx between at starts ends) = leads_both r.world between.world after.world (makes_lead seed r host _ _ between below starts) (makes_lead seed between host _ _ after below ends)
  plays_lead seed r number host row a after below (deletes hit idx at found makes) = makes_lead seed r host _ _ after below makes
  plays_lead seed r number host row a after below (finds_nothing at found same) = leads_none r.world after.world (ap (λ (moment : Moment). moment.world) same)
  plays_lead seed r number host row a after below (sets_value idx at makes) = makes_lead seed r host _ _ after below makes
  plays_lead seed r number host row a after below (sets_alias idx at makes) = makes_lead seed r host _ _ after below makes
  plays_lead seed r number host row a after below (ends_alias idx at makes) = makes_lead seed r host _ _ after below makes
  plays_lead seed r number host row a after below (lacks_alias at lacks same) = leads_none r.world after.world (ap (λ (moment : Moment). moment.world) same)
  plays_lead seed r number host row a after below (syncs new at both is) =
      let within : host + 1 ≤ hosts = omega (arith, below) in
      subst (λ (moment : Moment). LeadsSome r.world moment.world) (sym is) (leads_both r.world both.0 new (ups_lead (host + 1) within (plan_at (host + 1) r.world) r.world both.0 both.1) (downs_lead (host + 1) within (plan_at (host + 1) r.world) both.0 new both.2))
  plays_lead seed r number host row a after below (crashes at same) = leads_none r.world after.world (ap (λ (moment : Moment). moment.world) same)
