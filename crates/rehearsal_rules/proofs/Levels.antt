-- What transfers among two nodes make of their chains.
use Rattle.std.proofs.Common.{◌≡◌, ◌≢◌, ℕ, ◌+◌, ◌-◌, ◌≤◌, cond, true, false, inl, inr, Some, None, Ok, List, [], ◌∷◌, ◌++◌, length, take, drop, refl, sym, ◌∙◌, ap, subst, arith, length-append}
use Rattle.std.specs.Prelude.{Option, nat_lt}
use Rattle.std.proofs.lemmas.Bool.{eq-eqb, ne_eqb}
use Rattle.std.proofs.lemmas.Option.{none-some, same_Some}
use Rattle.record_rules.specs.Records.{Caller, Entry}
use Rattle.record_rules.specs.Journal.{ChainPlace, chain, Sound}
use Rattle.definitions.specs.Prefixes.{IsPrefix}
use Rattle.record_rules.specs.Growth.{GoOn, grow}
use Rattle.record_rules.proofs.Members.{Has}
use Rattle.record_rules.proofs.Origins.{slice_keeps_prefix, slice_leaves_other_chains}
use Rattle.record_rules.proofs.Repeats.{page_stands}
use Rattle.step_rules.specs.Store.{KeyedStore, SealsWell}
use Rattle.plan_rules.specs.Plans.{PlanStep, Upload, Download, step_between}
use Rattle.world_rules.specs.World.{World, with_journal, with_page}
use Rattle.world_rules.proofs.Cuts.{cut_is_slice, page_is_cut, chain_goes_on}
use Rattle.definitions.proofs.Prefixes.{prefix-itself}
use Rattle.world_rules.proofs.Batches.{chain_append}
use Rattle.world_rules.proofs.Kept.{Holds, same_or_other}
use Rattle.rehearsal_rules.specs.Transfers.{Each, next_page, with_taken, Transfers}
use Rattle.rehearsal_rules.specs.Rehearsal.{hosts_of}
use Rattle.rehearsal_rules.proofs.Nodes.{node_has_host}
use Rattle.rehearsal_rules.proofs.Leading.{page_leads}
use Rattle.rehearsal_rules.proofs.Reached.{leads_keep}
use Rattle.rehearsal_rules.proofs.Counts.{page_goes_on, standing_reach}

-- how long a chain is at a node
abbrev pub count : World → (node host : ℕ) → List ℕ → ℕ
count w node host tag = length (chain (w.journal node) 0 host tag)

-- each chain of the one node is a prefix of that of the other one
abbrev pub HasPrefixes : World → (giver taker : ℕ) → Type 0
HasPrefixes w giver taker = (host : ℕ) (tag : List ℕ) → IsPrefix (chain (w.journal taker) 0 host tag) (chain (w.journal giver) 0 host tag)

journal_there : (w : World) (node : ℕ) (journal : List Entry) → (with_journal w node journal).journal node ≡ journal
journal_there w node journal = ap (λ b. cond b journal (w.journal node)) (eq-eqb node node refl)

journal_elsewhere : (w : World) (node other : ℕ) (journal : List Entry) → other ≢ node → (with_journal w node journal).journal other ≡ w.journal other
journal_elsewhere w node other journal differ = ap (λ b. cond b journal (w.journal other)) (ne_eqb other node differ)

-- a part of a chain, from `start` to below `end`
pub record Part : Type 0 where
  pub place : ChainPlace
  pub start : ℕ
  pub end : ℕ

-- what a step does: one node hands the other one a part of a chain, or nothing
abbrev pub Did : (giver taker : ℕ) → Option Part → World → World → Type 0
Did giver taker None w new = new ≡ w
Did giver taker (Some part) w new = (callers : List Caller) × Transfers giver taker part.place part.start part.end callers w new

-- where the taker's chain reached the part's start, it reaches its end
abbrev pub Reaches : ℕ → Option Part → World → World → Type 0
Reaches taker o w new = (part : Part) → o ≡ Some part → part.start ≤ count w taker part.place.host part.place.tag → part.end ≤ count new taker part.place.host part.place.tag

module _ (store : KeyedStore) (well : SealsWell store) (hosts : ℕ) where
  -- what handing over from one node to another leaves
  pub record Moved (giver taker : ℕ) (w new : World) : Type 0 where
    pub holds : Holds (hosts_of hosts) new
    pub others : (node : ℕ) → node ≢ taker → new.journal node ≡ w.journal node
    pub rises : (host : ℕ) (tag : List ℕ) → count w taker host tag ≤ count new taker host tag
    pub prefixes : HasPrefixes w giver taker → HasPrefixes new giver taker

  -- what all steps of a list leave
  pub record StepsMoved (giver taker : ℕ) (part_of : PlanStep → Option Part) (steps : List PlanStep) (w new : World) : Type 0 where
    pub moved : Moved giver taker w new
    pub reaches : (step : PlanStep) → Has steps step → Reaches taker (part_of step) w new

  moved_none : (giver taker : ℕ) (w new : World) → Holds (hosts_of hosts) w → new ≡ w → Moved giver taker w new
  moved_none giver taker w new holds same = subst (Moved giver taker w) (sym same) (record { holds = holds; others = λ node differ. refl; rises = λ host tag. omega arith; prefixes = λ prefixes. prefixes })

  moved_both : (giver taker : ℕ) (w between new : World) → Moved giver taker w between → Moved giver taker between new → Moved giver taker w new
  moved_both giver taker w between new first second = record {
    holds = second.holds;
    others = λ node differ. second.others node differ ∙ first.others node differ;
    rises = λ host tag. let one : count w taker host tag ≤ count between taker host tag = first.rises host tag in let two : count between taker host tag ≤ count new taker host tag = second.rises host tag in omega (arith, one, two);
    prefixes = λ prefixes. second.prefixes (first.prefixes prefixes);
  }

  -- ---- a page

  module _ (giver taker : ℕ) (differ : giver ≢ taker) (gives : giver ≤ hosts) (takes : taker ≤ hosts) where
    module _ (w : World) (holds : Holds (hosts_of hosts) w) (place : ChainPlace) (start end : ℕ) (caller : Caller) (batch : List Entry) (taken : grow (w.journal taker) caller 0 (next_page w giver place start end) ≡ Ok batch) where
      abbrev next : World
      next = with_taken w (next_page w giver place start end) taker batch

      giver_goes_on : GoOn place.host place.tag 0 (chain (w.journal giver) 0 place.host place.tag)
      giver_goes_on = chain_goes_on (w.journal giver) 0 place.host place.tag ((holds.sound giver giver (node_has_host hosts giver gives)).numbered 0 place.host place.tag)

      at_taker : next.journal taker ≡ w.journal taker ++ batch
      at_taker = journal_there (with_page w (next_page w giver place start end)) taker (w.journal taker ++ batch)

      elsewhere : (node : ℕ) → node ≢ taker → next.journal node ≡ w.journal node
      elsewhere node other = journal_elsewhere (with_page w (next_page w giver place start end)) taker node (w.journal taker ++ batch) other

      now_holds : Holds (hosts_of hosts) next
      now_holds = leads_keep store hosts w next well holds (page_leads store hosts w giver taker place start end caller batch gives takes taken)

      longer : (host : ℕ) (tag : List ℕ) → count w taker host tag ≤ count next taker host tag
      longer host tag =
          let grown : count next taker host tag ≡ count w taker host tag + length (chain batch 0 host tag) = ap (λ journal. length (chain journal 0 host tag)) at_taker ∙ ap length (chain_append (w.journal taker) batch 0 host tag) ∙ length-append (chain (w.journal taker) 0 host tag) (chain batch 0 host tag) in
          omega (arith, grown)

      keeps_fronts : HasPrefixes w giver taker → HasPrefixes next giver taker
      keeps_fronts prefixes host tag =
          let given = next_page w giver place start end in
          let whole = chain (w.journal giver) 0 place.host place.tag in
          let cut = page_is_cut (w.journal giver) 0 place.host place.tag start (end - start) whole (prefix-itself whole) in
          let slice : grow (w.journal taker) caller 0 (take (length given) (drop (length cut.before) whole)) ≡ Ok batch = ap (grow (w.journal taker) caller 0) (cut_is_slice given whole cut) ∙ taken in
          let there : IsPrefix (chain (w.journal taker ++ batch) 0 host tag) (chain (w.journal giver) 0 host tag) =
          elim (same_or_other place.host host place.tag tag) [
            | inl same ↦ subst (λ t. IsPrefix (chain (w.journal taker ++ batch) 0 host t) (chain (w.journal giver) 0 host t)) same.1 (subst (λ h. IsPrefix (chain (w.journal taker ++ batch) 0 h place.tag) (chain (w.journal giver) 0 h place.tag)) same.0 (slice_keeps_prefix (w.journal taker) taker caller 0 place.host place.tag whole (length cut.before) (length given) batch (holds.sound taker taker (node_has_host hosts taker takes)) giver_goes_on (prefixes place.host place.tag) slice))
            | inr other ↦ subst (λ xs. IsPrefix xs (chain (w.journal giver) 0 host tag)) (sym (slice_leaves_other_chains (w.journal taker) caller 0 place.host place.tag whole (length cut.before) (length given) host tag batch giver_goes_on other slice)) (prefixes host tag)
          ] in
          subst (λ journal. IsPrefix (chain (next.journal taker) 0 host tag) (chain journal 0 host tag)) (sym (elsewhere giver differ)) (subst (λ journal. IsPrefix (chain journal 0 host tag) (chain (w.journal giver) 0 host tag)) (sym at_taker) there)

      page_moves : Moved giver taker w next
      page_moves = record { holds = now_holds; others = elsewhere; rises = longer; prefixes = keeps_fronts }

      page_reaches : start ≤ count w taker place.host place.tag → start + length (next_page w giver place start end) ≤ count next taker place.host place.tag
      page_reaches low =
          let given = next_page w giver place start end in
          let rise : count w taker place.host place.tag ≤ count next taker place.host place.tag = longer place.host place.tag in
          let sound : Sound (w.journal taker ++ batch) taker = subst (λ journal. Sound journal taker) at_taker (now_holds.sound taker taker (node_has_host hosts taker takes)) in
          let high : start ≤ length (chain (w.journal taker ++ batch) 0 place.host place.tag) = subst (λ journal. start ≤ length (chain journal 0 place.host place.tag)) at_taker (omega (arith, low, rise)) in
          let reach : start + length given ≤ length (chain (w.journal taker ++ batch) 0 place.host place.tag) =
          standing_reach (w.journal taker ++ batch) 0 place.host place.tag (sound.numbered 0 place.host place.tag) start given (page_goes_on (w.journal giver) 0 place.host place.tag start (end - start) giver_goes_on) (page_stands (w.journal taker) caller 0 given batch taken) high in
          subst (λ journal. start + length given ≤ length (chain journal 0 place.host place.tag)) (sym at_taker) reach

    -- ---- a chain

    pub record Handed (place : ChainPlace) (start end : ℕ) (w new : World) : Type 0 where
      pub moved : Moved giver taker w new
      pub reaches : start ≤ count w taker place.host place.tag → end ≤ count new taker place.host place.tag

    handed : (place : ChainPlace) (end : ℕ) (callers : List Caller) (start : ℕ) (w new : World) → Holds (hosts_of hosts) w → Transfers giver taker place start end callers w new → Handed place start end w new
    handed place end [] start w new holds hands = record {
      moved = moved_none giver taker w new holds hands.1;
      reaches = λ low. let done : end ≤ start = hands.0 in subst (λ v. end ≤ count v taker place.host place.tag) (sym hands.1) (omega (arith, done, low));
    }
    handed place end (caller ∷ callers) start w new holds hands =
        let batch = hands.1.0 in
        let next = with_taken w (next_page w giver place start end) taker batch in
        let first : Moved giver taker w next = page_moves w holds place start end caller batch hands.1.1 in
        let rest : Handed place (start + length (next_page w giver place start end)) end next new = handed place end callers (start + length (next_page w giver place start end)) next new first.holds hands.1.2 in
        record { moved = moved_both giver taker w next new first rest.moved; reaches = λ low. rest.reaches (page_reaches w holds place start end caller batch hands.1.1 low) }

    -- ---- steps

    did_moves : (o : Option Part) (w new : World) → Holds (hosts_of hosts) w → Did giver taker o w new → Moved giver taker w new × Reaches taker o w new
    did_moves None w new holds did = (moved_none giver taker w new holds did, λ part none. absurd (none-some part none))
    did_moves (Some part) w new holds did =
        let all = handed part.place part.end did.0 part.start w new holds did.1 in
        (all.moved, λ other same. subst (λ (p : Part). p.start ≤ count w taker p.place.host p.place.tag → p.end ≤ count new taker p.place.host p.place.tag) (same_Some part other same) all.reaches)

    module _ (does : PlanStep → World → World → Type 0) (part_of : PlanStep → Option Part) (did_of : (step : PlanStep) (w new : World) → does step w new → Did giver taker (part_of step) w new) where
      pub steps_move : (steps : List PlanStep) (w new : World) → Holds (hosts_of hosts) w → Each does steps w new → StepsMoved giver taker part_of steps w new
      steps_move [] w new holds same = record { moved = moved_none giver taker w new holds same; reaches = λ step has. absurd has }
      steps_move (step ∷ steps) w new holds each =
          let next = each.0 in
          let one = did_moves (part_of step) w next holds (did_of step w next each.1) in
          let rest : StepsMoved giver taker part_of steps next new = steps_move steps next new one.0.holds each.2 in
          record {
            moved = moved_both giver taker w next new one.0 rest.moved;
            reaches = λ other has part is low.
                elim has [
                  | inl here ↦
                      let first : part.end ≤ count next taker part.place.host part.place.tag = one.1 part (ap part_of here ∙ is) low in
                      let rise : count next taker part.place.host part.place.tag ≤ count new taker part.place.host part.place.tag = rest.moved.rises part.place.host part.place.tag in
                      omega (arith, first, rise)
                  | inr later ↦
                      let rise : count w taker part.place.host part.place.tag ≤ count next taker part.place.host part.place.tag = one.0.rises part.place.host part.place.tag in
                      rest.reaches other later part is (omega (arith, rise, low))
                ];
          }

-- ---- a plan

pub step_up : (place : ChainPlace) (local remote : ℕ) → nat_lt remote local ≡ true → step_between place local remote ≡ Some (Upload place remote local)
step_up place local remote less = ap (λ b. cond b (Some (Upload place remote local)) (cond (nat_lt local remote) (Some (Download place local remote)) None)) less

pub step_down : (place : ChainPlace) (local remote : ℕ) → nat_lt remote local ≡ false → nat_lt local remote ≡ true → step_between place local remote ≡ Some (Download place local remote)
step_down place local remote not_up less = ap (λ b. cond b (Some (Upload place remote local)) (cond (nat_lt local remote) (Some (Download place local remote)) None)) not_up ∙ ap (λ b. cond b (Some (Download place local remote)) None) less
