-- Runs by a list of events are events of a world, and none that happens is bad.
use Rattle.std.proofs.Common.{◌≡◌, ℕ, ◌<◌, inl, inr, List, [], ◌∷◌, length, map, Some, refl, ap, subst, arith}
use Rattle.std.proofs.lemmas.Option.{slice_get_within}
use Rattle.step_rules.specs.Calls.{Call}
use Rattle.step_rules.specs.Store.{KeyedStore}
use Rattle.world_rules.specs.World.{host_at, World, with_journal, WorldEvent, Append, Send, Deliver, Crash, Cut, Leads}
use Rattle.world_rules.specs.Stores.{StoreAsked, store_step}
use Rattle.rehearsal_rules.specs.Transfers.{Each}
use Rattle.rehearsal_rules.specs.Moments.{Moment, first_moment, next_used}
use Rattle.rehearsal_rules.specs.Runs.{run_seed, TakesPlace, told_event}
use Rattle.rehearsal_rules.specs.Laws.{RunsAreReached, NoneIsBad}

module _ (store : KeyedStore) (hosts : List ℕ) where
  -- one event as one of the world, with what it uses
  record Happened (event : WorldEvent Call) (w new : World) : Type 0 where
    filled : WorldEvent StoreAsked
    told : told_event filled ≡ event
    leads : Leads (store_step store) hosts w (filled ∷ []) new

  happened : (event : WorldEvent Call) (r after : Moment) → TakesPlace store hosts event r after → Happened event r.world after.world
  happened (Append node call) r after takes =
      let calls = takes.answers.calls in
      record {
        filled = Append node (record { caller = calls.caller; call = call; used = next_used run_seed r node calls.readings calls.bytes });
        told = refl;
        leads = (
          with_journal r.world node calls.journal,
          record { host = takes.answers.host; after = calls.journal; at_host = takes.answers.at_host; at_no_server = takes.answers.at_no_server; stepped = (takes.answer, calls.fits, calls.stepped); becomes = refl },
          ap (λ (moment : Moment). moment.world) calls.becomes,
        );
      }
  happened (Send node host tag start count) r after takes = record { filled = Send node host tag start count; told = refl; leads = (takes.0, takes.1, ap (λ (moment : Moment). moment.world) takes.2) }
  happened (Deliver number node caller) r after takes = record { filled = Deliver number node caller; told = refl; leads = (takes.1.0, takes.1.1, ap (λ (moment : Moment). moment.world) takes.1.2) }
  happened (Crash node) r after takes = record { filled = Crash node; told = refl; leads = (r.world, refl, ap (λ (moment : Moment). moment.world) takes.2) }
  happened (Cut event) r after takes = absurd takes

  record Led (events : List (WorldEvent Call)) (w new : World) : Type 0 where
    filled : List (WorldEvent StoreAsked)
    told : map told_event filled ≡ events
    leads : Leads (store_step store) hosts w filled new

  leads_all : (events : List (WorldEvent Call)) (r after : Moment) → Each (TakesPlace store hosts) events r after → Led events r.world after.world
  leads_all [] r after same = record { filled = []; told = refl; leads = ap (λ (moment : Moment). moment.world) same }
  leads_all (event ∷ events) r after each =
      let first = happened event r each.0 each.1 in
      let rest = leads_all events each.0 after each.2 in
      record {
        filled = first.filled ∷ rest.filled;
        told = λ i. first.told i ∷ rest.told i;
        leads = (first.leads.0, first.leads.1, subst (λ (w : World). Leads (store_step store) hosts w rest.filled after.world) first.leads.2 rest.leads);
      }

pub runs_are_reached : RunsAreReached
runs_are_reached store hosts events r runs = let led = leads_all store hosts events first_moment r runs in record { happened = led.filled; told = led.told; reached = led.leads }

-- ---- bad events

not_there : (hosts : List ℕ) (node host : ℕ) → host_at hosts node ≡ Some host → length hosts < node → ⊥
not_there hosts node host at above = let below : node < length (0 ∷ hosts) = slice_get_within (0 ∷ hosts) node host at in absurd (omega (arith, above, below))

pub none_is_bad : NoneIsBad
none_is_bad store hosts r after (Append node call) takes (inl server) = absurd (let some = takes.answers.at_no_server in omega (arith, some, server))
none_is_bad store hosts r after (Append node call) takes (inr above) = not_there hosts node takes.answers.host takes.answers.at_host above
none_is_bad store hosts r after (Send node host tag start count) takes above = not_there hosts node takes.1.of_host takes.1.at_node above
none_is_bad store hosts r after (Deliver number node caller) takes (inl unsent) = absurd (let below : number < length r.world.sent = slice_get_within r.world.sent number takes.1.1.records takes.1.1.was_sent in omega (arith, unsent, below))
none_is_bad store hosts r after (Deliver number node caller) takes (inr above) = not_there hosts node takes.1.1.of_host takes.1.1.at_node above
none_is_bad store hosts r after (Crash node) takes above = not_there hosts node takes.0 takes.1 above
none_is_bad store hosts r after (Cut event) takes bad = takes
