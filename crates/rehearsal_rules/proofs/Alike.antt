-- After the last transfers all nodes hold the same.
use Rattle.std.proofs.Common.{◌≡◌, ◌≢◌, ℕ, zero, suc, ◌<◌, ◌≤◌, inl, inr, Some, None, List, [], ◌∷◌, length, refl, sym, ◌∙◌, ap, subst, arith}
use Rattle.std.specs.Prelude.{Option, nat_lt}
use Rattle.std.specs.List.{AllByRecursion}
use Rattle.std.proofs.lemmas.Bool.{cases_Bool, cases_eq, ltb-true, ltb-false, le-ltb}
use Rattle.record_rules.specs.Journal.{ChainPlace, chain, status, count_at}
use Rattle.definitions.specs.Prefixes.{IsPrefix}
use Rattle.record_rules.proofs.Members.{Has}
use Rattle.record_rules.proofs.Status.{status_counts, lengths_make_status}
use Rattle.view_rules.proofs.Records.{Has-from_Contains}
use Rattle.view_rules.proofs.Sets.{chains_make_views}
use Rattle.step_rules.specs.Store.{KeyedStore, SealsWell}
use Rattle.plan_rules.specs.Plans.{PlanStep, Upload, Download, step_place, step_at, step_between}
use Rattle.plan_rules.proofs.Plans.{plan_has_each}
use Rattle.world_rules.specs.World.{World, empty_world}
use Rattle.definitions.proofs.Prefixes.{prefix-itself, prefixes-alike, prefix-is_shorter, prefixes-nest}
use Rattle.world_rules.proofs.Kept.{Holds, find_place}
use Rattle.rehearsal_rules.specs.Transfers.{Each, plan_at, TransfersUp, TransfersDown, Uploads, Downloads}
use Rattle.rehearsal_rules.specs.Rehearsal.{key_of, hosts_of, Rehearsed}
use Rattle.rehearsal_rules.specs.Laws.{InEachRehearsal, EndAlike, HasAll}
use Rattle.rehearsal_rules.proofs.Nodes.{is_a_host, node_has_host}
use Rattle.rehearsal_rules.proofs.Reached.{leads_keep, empty_holds_all, hosts_fit, played_leads}
use Rattle.rehearsal_rules.proofs.Levels.{count, HasPrefixes, Moved, Part, Did, steps_move, step_up, step_down}

-- the part of a chain that a step sends, and that it takes
up_part : PlanStep → Option Part
up_part (Upload place start end) = Some (record { place = place; start = start; end = end })
up_part (Download place start end) = None

down_part : PlanStep → Option Part
down_part (Upload place start end) = None
down_part (Download place start end) = Some (record { place = place; start = start; end = end })

up_did : (node : ℕ) (step : PlanStep) (w new : World) → TransfersUp node step w new → Did node 0 (up_part step) w new
unfolding up_part
up_did node (Upload place start end) w new up = up
up_did node (Download place start end) w new up = up

down_did : (node : ℕ) (step : PlanStep) (w new : World) → TransfersDown node step w new → Did 0 node (down_part step) w new
unfolding down_part
down_did node (Upload place start end) w new down = down
down_did node (Download place start end) w new down = down

-- the step of a place is in the plan
in_plan : (node : ℕ) (w : World) (host : ℕ) (tag : List ℕ) (step : PlanStep) → step_between (record { host = host; tag = tag }) (count w node host tag) (count w 0 host tag) ≡ Some step
    → (step_place step ≡ record { host = host; tag = tag }) → Has (plan_at node w) step
in_plan node w host tag step between placed =
    let place : ChainPlace = record { host = host; tag = tag } in
    let local = status (w.journal node) 0 in
    let remote = status (w.journal 0) 0 in
    let asked : step_at local remote place ≡ Some step =
    ap (λ n. step_between place n (count_at remote host tag)) (status_counts (w.journal node) 0 host tag) ∙ ap (step_between place (count w node host tag)) (status_counts (w.journal 0) 0 host tag) ∙ between in
    Has-from_Contains (plan_at node w) step ((plan_has_each local remote step).1 (ap (step_at local remote) placed ∙ asked))

module _ (store : KeyedStore) (well : SealsWell store) (hosts : ℕ) where
  -- ---- one plan

  module _ (node : ℕ) (within : node ≤ hosts) (no_server : node ≢ 0) (w new : World) (holds : Holds (hosts_of hosts) w) where
    pub record Levels (giver taker : ℕ) : Type 0 where
      pub moved : Moved store well hosts giver taker w new
      pub reaches : (host : ℕ) (tag : List ℕ) → count w giver host tag ≤ count new taker host tag

    ups_level : Uploads node w new → Levels node 0
    unfolding up_part
    ups_level ups =
        let all = steps_move store well hosts node 0 no_server within (omega arith) (TransfersUp node) up_part (up_did node) (plan_at node w) w new holds ups in
        record {
          moved = all.moved;
          reaches = λ host tag.
              let rise : count w 0 host tag ≤ count new 0 host tag = all.moved.rises host tag in
              elim (cases_Bool (nat_lt (count w 0 host tag) (count w node host tag))) [
                | inl less ↦
                    all.reaches (Upload (record { host = host; tag = tag }) (count w 0 host tag) (count w node host tag))
                    (in_plan node w host tag _ (step_up (record { host = host; tag = tag }) (count w node host tag) (count w 0 host tag) less) refl)
                    (record { place = record { host = host; tag = tag }; start = count w 0 host tag; end = count w node host tag }) refl (omega arith)
                | inr not_less ↦ let low : count w node host tag ≤ count w 0 host tag = ltb-false (count w 0 host tag) (count w node host tag) not_less in omega (arith, low, rise)
              ];
        }

    downs_level : Downloads node w new → Levels 0 node
    unfolding down_part
    downs_level downs =
        let all = steps_move store well hosts 0 node (λ same. no_server (sym same)) (omega arith) within (TransfersDown node) down_part (down_did node) (plan_at node w) w new holds downs in
        record {
          moved = all.moved;
          reaches = λ host tag.
              let rise : count w node host tag ≤ count new node host tag = all.moved.rises host tag in
              elim (cases_Bool (nat_lt (count w node host tag) (count w 0 host tag))) [
                | inl less ↦
                    let below : count w node host tag < count w 0 host tag = ltb-true (count w node host tag) (count w 0 host tag) less in
                    all.reaches (Download (record { host = host; tag = tag }) (count w node host tag) (count w 0 host tag))
                    (in_plan node w host tag _ (step_down (record { host = host; tag = tag }) (count w node host tag) (count w 0 host tag) (le-ltb (count w 0 host tag) (count w node host tag) (omega (arith, below))) less) refl)
                    (record { place = record { host = host; tag = tag }; start = count w node host tag; end = count w 0 host tag }) refl (omega arith)
                | inr not_less ↦ let low : count w 0 host tag ≤ count w node host tag = ltb-false (count w node host tag) (count w 0 host tag) not_less in omega (arith, low, rise)
              ];
        }

  -- ---- all hosts in turn

  abbrev AreHosts : List ℕ → Type 0
  AreHosts nodes = AllByRecursion (λ (node : ℕ). (1 ≤ node) × (node ≤ hosts)) nodes

  record Uploaded (nodes : List ℕ) (w new : World) : Type 0 where
    holds : Holds (hosts_of hosts) new
    others : (node : ℕ) → node ≢ 0 → new.journal node ≡ w.journal node
    rises : (host : ℕ) (tag : List ℕ) → count w 0 host tag ≤ count new 0 host tag
    reaches : (node : ℕ) → Has nodes node → (host : ℕ) (tag : List ℕ) → count w node host tag ≤ count new 0 host tag

  all_up : (nodes : List ℕ) → AreHosts nodes → (w new : World) → Holds (hosts_of hosts) w → Each Uploads nodes w new → Uploaded nodes w new
  all_up [] fit w new holds same = subst (Uploaded [] w) (sym same) (record { holds = holds; others = λ node differ. refl; rises = λ host tag. omega arith; reaches = λ node has. absurd has })
  all_up (node ∷ nodes) fit w new holds each =
      let next = each.0 in
      let some : 1 ≤ node = fit.0.0 in
      let no_server : node ≢ 0 = λ same. absurd (omega (arith, some, same)) in
      let one = ups_level node fit.0.1 no_server w next holds each.1 in
      let rest : Uploaded nodes next new = all_up nodes fit.1 next new one.moved.holds each.2 in
      record {
        holds = rest.holds;
        others = λ other differ. rest.others other differ ∙ one.moved.others other differ;
        rises = λ host tag. let first : count w 0 host tag ≤ count next 0 host tag = one.moved.rises host tag in let then : count next 0 host tag ≤ count new 0 host tag = rest.rises host tag in omega (arith, first, then);
        reaches = λ other has host tag.
            elim has [
              | inl here ↦
                  let first : count w node host tag ≤ count next 0 host tag = one.reaches host tag in
                  let then : count next 0 host tag ≤ count new 0 host tag = rest.rises host tag in
                  subst (λ n. count w n host tag ≤ count new 0 host tag) here (omega (arith, first, then))
              | inr later ↦
                  let then : count next other host tag ≤ count new 0 host tag = rest.reaches other later host tag in
                  elim (cases_eq other 0) [
                    | inl server ↦
                        let first : count w 0 host tag ≤ count next 0 host tag = one.moved.rises host tag in
                        let last : count next 0 host tag ≤ count new 0 host tag = rest.rises host tag in
                        subst (λ n. count w n host tag ≤ count new 0 host tag) (sym server) (omega (arith, first, last))
                    | inr differ ↦ subst (λ journal. length (chain journal 0 host tag) ≤ count new 0 host tag) (one.moved.others other differ) then
                  ]
            ];
      }

  -- each chain of each node is a prefix of the server's
  abbrev ServerFirst : World → Type 0
  ServerFirst w = (node : ℕ) → node ≤ hosts → HasPrefixes w 0 node

  record Downloaded (nodes : List ℕ) (w new : World) : Type 0 where
    server : new.journal 0 ≡ w.journal 0
    rises : (node host : ℕ) (tag : List ℕ) → count w node host tag ≤ count new node host tag
    first : ServerFirst w → ServerFirst new
    reaches : (node : ℕ) → Has nodes node → (host : ℕ) (tag : List ℕ) → count w 0 host tag ≤ count new node host tag

  one_down : (node : ℕ) (within : node ≤ hosts) (no_server : node ≢ 0) (w new : World) (holds : Holds (hosts_of hosts) w) → Levels node within no_server w new holds 0 node → Downloaded (node ∷ []) w new
  one_down node within no_server w new holds one =
      let server : new.journal 0 ≡ w.journal 0 = one.moved.others 0 (λ same. no_server (sym same)) in
      record {
        server = server;
        rises = λ other host tag.
            elim (cases_eq other node) [
              | inl same ↦ subst (λ n. count w n host tag ≤ count new n host tag) (sym same) (one.moved.rises host tag)
              | inr differ ↦ subst (λ journal. count w other host tag ≤ length (chain journal 0 host tag)) (sym (one.moved.others other differ)) (omega arith)
            ];
        first = λ prefixes other below.
            elim (cases_eq other node) [
              | inl same ↦ subst (λ n. HasPrefixes new 0 n) (sym same) (one.moved.prefixes (prefixes node within))
              | inr differ ↦ λ host tag.
                  subst (λ journal. IsPrefix (chain journal 0 host tag) (chain (new.journal 0) 0 host tag)) (sym (one.moved.others other differ)) (subst (λ journal. IsPrefix (chain (w.journal other) 0 host tag) (chain journal 0 host tag)) (sym server) (prefixes other below host tag))
            ];
        reaches = λ other has host tag.
            elim has [
              | inl here ↦ subst (λ n. count w 0 host tag ≤ count new n host tag) here (one.reaches host tag)
              | inr none ↦ absurd none
            ];
      }

  all_down : (nodes : List ℕ) → AreHosts nodes → (w new : World) → Holds (hosts_of hosts) w → Each Downloads nodes w new → Downloaded nodes w new
  all_down [] fit w new holds same = subst (Downloaded [] w) (sym same) (record { server = refl; rises = λ node host tag. omega arith; first = λ prefixes. prefixes; reaches = λ node has. absurd has })
  all_down (node ∷ nodes) fit w new holds each =
      let next = each.0 in
      let some : 1 ≤ node = fit.0.0 in
      let no_server : node ≢ 0 = λ same. absurd (omega (arith, some, same)) in
      let level = downs_level node fit.0.1 no_server w next holds each.1 in
      let one : Downloaded (node ∷ []) w next = one_down node fit.0.1 no_server w next holds level in
      let rest : Downloaded nodes next new = all_down nodes fit.1 next new level.moved.holds each.2 in
      record {
        server = rest.server ∙ one.server;
        rises = λ other host tag. let first : count w other host tag ≤ count next other host tag = one.rises other host tag in let then : count next other host tag ≤ count new other host tag = rest.rises other host tag in omega (arith, first, then);
        first = λ prefixes. rest.first (one.first prefixes);
        reaches = λ other has host tag.
            elim has [
              | inl here ↦
                  let first : count w 0 host tag ≤ count next other host tag = one.reaches other (inl here) host tag in
                  let then : count next other host tag ≤ count new other host tag = rest.rises other host tag in
                  omega (arith, first, then)
              | inr later ↦ subst (λ journal. length (chain journal 0 host tag) ≤ count new other host tag) one.server (rest.reaches other later host tag)
            ];
      }

-- ---- the end

module _ (keyed : List ℕ → KeyedStore) (seed hosts events : ℕ) (w : World) (well : SealsWell (keyed (key_of seed))) (some : 0 < hosts) (rehearsed : Rehearsed keyed seed hosts events w) where
  played_holds : Holds (hosts_of hosts) rehearsed.played.world
  played_holds = leads_keep (keyed (key_of seed)) hosts empty_world rehearsed.played.world well (empty_holds_all hosts (keyed (key_of seed)) well) (played_leads keyed seed hosts events some rehearsed.played rehearsed.ran)

  uploaded : Uploaded (keyed (key_of seed)) well hosts (hosts_of hosts) rehearsed.played.world rehearsed.uploaded
  uploaded = all_up (keyed (key_of seed)) well hosts (hosts_of hosts) (hosts_fit hosts) rehearsed.played.world rehearsed.uploaded played_holds rehearsed.uploads

  downloaded : Downloaded (keyed (key_of seed)) well hosts (hosts_of hosts) rehearsed.uploaded w
  downloaded = all_down (keyed (key_of seed)) well hosts (hosts_of hosts) (hosts_fit hosts) rehearsed.uploaded w uploaded.holds rehearsed.downloads

  -- no node's chain is longer than the server's
  no_longer : (node : ℕ) → node ≤ hosts → (host : ℕ) (tag : List ℕ) → count rehearsed.uploaded node host tag ≤ count rehearsed.uploaded 0 host tag
  no_longer zero within host tag = omega arith
  no_longer (suc n) within host tag =
      subst (λ journal. length (chain journal 0 host tag) ≤ count rehearsed.uploaded 0 host tag) (sym (uploaded.others (suc n) (λ same. absurd (omega (arith, same))))) (uploaded.reaches (suc n) (is_a_host hosts (suc n) (omega arith) within) host tag)

  server_first : (node : ℕ) → node ≤ hosts → HasPrefixes rehearsed.uploaded 0 node
  server_first node within host tag =
      elim (find_place (0 ∷ hosts_of hosts) host) [
        | inl found ↦ prefixes-nest (chain (rehearsed.uploaded.journal node) 0 host tag) (chain (rehearsed.uploaded.journal 0) 0 host tag) (chain (rehearsed.uploaded.journal found.0) 0 host tag) (uploaded.holds.prefixes node found.0 host tag found.1) (uploaded.holds.prefixes 0 found.0 host tag found.1) (no_longer node within host tag)
        | inr none ↦ subst (λ xs. IsPrefix xs (chain (rehearsed.uploaded.journal 0) 0 host tag)) (sym (uploaded.holds.strangers node host tag none)) refl
      ]

  as_server : (node : ℕ) → node ≤ hosts → (host : ℕ) (tag : List ℕ) → chain (w.journal node) 0 host tag ≡ chain (w.journal 0) 0 host tag
  as_server zero within host tag = refl
  as_server (suc n) within host tag =
      let prefix = downloaded.first server_first (suc n) within host tag in
      let short : count w (suc n) host tag ≤ count w 0 host tag = prefix-is_shorter (chain (w.journal (suc n)) 0 host tag) (chain (w.journal 0) 0 host tag) prefix in
      let long : count w 0 host tag ≤ count w (suc n) host tag = subst (λ journal. length (chain journal 0 host tag) ≤ count w (suc n) host tag) (sym downloaded.server) (downloaded.reaches (suc n) (is_a_host hosts (suc n) (omega arith) within) host tag) in
      prefixes-alike (chain (w.journal (suc n)) 0 host tag) (chain (w.journal 0) 0 host tag) (chain (w.journal 0) 0 host tag) prefix (prefix-itself (chain (w.journal 0) 0 host tag)) (omega (arith, short, long))

  -- the server's chain of a host is that of the host's own node, as it was before the last transfers
  own_chain : (host : ℕ) → 1 ≤ host → host ≤ hosts → (tag : List ℕ) → chain (w.journal 0) 0 host tag ≡ chain (rehearsed.played.world.journal host) 0 host tag
  own_chain host some_host within tag =
      let same : rehearsed.uploaded.journal host ≡ rehearsed.played.world.journal host = uploaded.others host (λ none. absurd (omega (arith, none, some_host))) in
      let prefix = uploaded.holds.prefixes 0 host host tag (node_has_host hosts host within) in
      let short : count rehearsed.uploaded 0 host tag ≤ count rehearsed.uploaded host host tag = prefix-is_shorter (chain (rehearsed.uploaded.journal 0) 0 host tag) (chain (rehearsed.uploaded.journal host) 0 host tag) prefix in
      let long : count rehearsed.uploaded host host tag ≤ count rehearsed.uploaded 0 host tag = subst (λ journal. length (chain journal 0 host tag) ≤ count rehearsed.uploaded 0 host tag) (sym same) (uploaded.reaches host (is_a_host hosts host some_host within) host tag) in
      ap (λ journal. chain journal 0 host tag) downloaded.server
      ∙ prefixes-alike (chain (rehearsed.uploaded.journal 0) 0 host tag) (chain (rehearsed.uploaded.journal host) 0 host tag) (chain (rehearsed.uploaded.journal host) 0 host tag) prefix (prefix-itself (chain (rehearsed.uploaded.journal host) 0 host tag)) (omega (arith, short, long))
      ∙ ap (λ journal. chain journal 0 host tag) same

  -- a node's chain of a host is that of the host's own node
  pub each_has_own : (node host : ℕ) (tag : List ℕ) → node ≤ hosts → 1 ≤ host → host ≤ hosts → chain (w.journal node) 0 host tag ≡ chain (rehearsed.played.world.journal host) 0 host tag
  each_has_own node host tag within some_host host_within = as_server node within host tag ∙ own_chain host some_host host_within tag

pub end_with_all : InEachRehearsal HasAll
end_with_all keyed seed hosts events w well some rehearsed = record {
  played = rehearsed.played;
  ran = rehearsed.ran;
  chains = each_has_own keyed seed hosts events w well some rehearsed;
}

pub end_alike : InEachRehearsal EndAlike
end_alike keyed seed hosts events w well some rehearsed node other within other_within =
    let chains : (host : ℕ) (tag : List ℕ) → chain (w.journal node) 0 host tag ≡ chain (w.journal other) 0 host tag =
    λ host tag. as_server keyed seed hosts events w well some rehearsed node within host tag ∙ sym (as_server keyed seed hosts events w well some rehearsed other other_within host tag) in
    record {
      chains = chains;
      statuses = lengths_make_status (w.journal node) (w.journal other) 0 0 (λ host tag. ap length (chains host tag));
      views = λ opens. chains_make_views opens (w.journal node) (w.journal other) chains;
    }
