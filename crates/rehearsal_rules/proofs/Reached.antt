-- The world of a rehearsal is reached by events of stores.
use Rattle.std.proofs.Common.{ℕ, ◌+◌, ◌-◌, ◌%◌, ◌<◌, ◌≤◌, List, [], refl, arith}
use Rattle.std.specs.Prelude.{⊤}
use Rattle.std.specs.List.{range_with_len, AllByRecursion}
use Rattle.std.proofs.lemmas.Nat.{mod_below}
use Rattle.step_rules.specs.Store.{KeyedStore, SealsWell}
use Rattle.world_rules.specs.World.{World, empty_world}
use Rattle.world_rules.specs.Stores.{store_step}
use Rattle.world_rules.proofs.Kept.{Holds, leads_holds}
use Rattle.world_rules.proofs.Stores.{store_makes, store_world_holds}
use Rattle.rehearsal_rules.specs.Words.{nth_word}
use Rattle.rehearsal_rules.specs.Transfers.{Each, Uploads, Downloads, plan_at}
use Rattle.rehearsal_rules.specs.Moments.{Moment, first_moment}
use Rattle.rehearsal_rules.specs.Rehearsal.{key_of, hosts_of, RunsNumber, Rehearsed}
use Rattle.rehearsal_rules.specs.Laws.{InEachRehearsal, IsReached}
use Rattle.rehearsal_rules.proofs.Nodes.{all_in_run, hosts_differ}
use Rattle.rehearsal_rules.proofs.Leading.{LeadsSome, leads_both, each_leads, ups_lead, downs_lead, plays_lead}

-- what some events lead to holds what they began with
pub leads_keep : (store : KeyedStore) (hosts : ℕ) (w new : World) → SealsWell store → Holds (hosts_of hosts) w → LeadsSome store hosts w new → Holds (hosts_of hosts) new
leads_keep store hosts w new well holds some = leads_holds (store_step store) (store_makes store well) (hosts_of hosts) (hosts_differ hosts) some.events w new holds some.leads

pub empty_holds_all : (hosts : ℕ) → (store : KeyedStore) → SealsWell store → Holds (hosts_of hosts) empty_world
empty_holds_all hosts store well = store_world_holds store (hosts_of hosts) [] empty_world well (hosts_differ hosts) refl

any_number : (a n : ℕ) → AllByRecursion (λ (x : ℕ). ⊤) (range_with_len a n)
any_number a n = all_in_run (λ x. ⊤) a n (λ x low high. tt)

pub hosts_fit : (hosts : ℕ) → AllByRecursion (λ (node : ℕ). (1 ≤ node) × (node ≤ hosts)) (hosts_of hosts)
hosts_fit hosts = all_in_run (λ node. (1 ≤ node) × (node ≤ hosts)) 1 hosts (λ node low high. let below : node < 1 + hosts = high in (low, omega (arith, below)))

module _ (keyed : List ℕ → KeyedStore) (seed hosts events : ℕ) (some : 0 < hosts) where
  abbrev store : KeyedStore
  store = keyed (key_of seed)

  event_leads : (number : ℕ) (r after : Moment) → RunsNumber store seed hosts number r after → LeadsSome store hosts r.world after.world
  event_leads number r after plays = plays_lead store hosts seed r number (nth_word seed (number - 1) % hosts) _ _ after (mod_below (nth_word seed (number - 1)) hosts some) plays

  pub played_leads : (played : Moment) → Each (RunsNumber store seed hosts) (range_with_len 1 events) first_moment played → LeadsSome store hosts empty_world played.world
  played_leads played plays = each_leads store hosts (λ (r : Moment). r.world) (RunsNumber store seed hosts) (λ number. ⊤) (λ number r after fit one. event_leads number r after one) (range_with_len 1 events) (any_number 1 events) first_moment played plays

  uploads_lead : (w new : World) → Each Uploads (hosts_of hosts) w new → LeadsSome store hosts w new
  uploads_lead w new each = each_leads store hosts (λ v. v) Uploads (λ node. (1 ≤ node) × (node ≤ hosts)) (λ node v u fit ups. ups_lead store hosts node fit.1 (plan_at node v) v u ups) (hosts_of hosts) (hosts_fit hosts) w new each

  downloads_lead : (w new : World) → Each Downloads (hosts_of hosts) w new → LeadsSome store hosts w new
  downloads_lead w new each = each_leads store hosts (λ v. v) Downloads (λ node. (1 ≤ node) × (node ≤ hosts)) (λ node v u fit downs. downs_lead store hosts node fit.1 (plan_at node v) v u downs) (hosts_of hosts) (hosts_fit hosts) w new each

  pub rehearsed_leads : (w : World) → Rehearsed keyed seed hosts events w → LeadsSome store hosts empty_world w
  rehearsed_leads w r =
      leads_both store hosts empty_world r.played.world w (played_leads r.played r.ran) (leads_both store hosts r.played.world r.uploaded w (uploads_lead r.played.world r.uploaded r.uploads) (downloads_lead r.uploaded w r.downloads))

pub is_reached : InEachRehearsal IsReached
is_reached keyed seed hosts events w well some rehearsed = let found = rehearsed_leads keyed seed hosts events some w rehearsed in (found.events, found.leads)
