-- What calls leave of a pass.
use Rattle.std.proofs.Common.{◌≡◌, ℕ, ◌+◌, ◌<◌, ◌≤◌, max, Bool, true, false, cond, inl, inr, List, [], ◌∷◌, ◌++◌, length, filter, refl, sym, ◌∙◌, ap, subst, arith, append_assoc, length-append}
use Rattle.std.proofs.Math.Nat.{le-max_left, le-max_right}
use Rattle.std.proofs.lemmas.Bool.{cases_Bool, true≢false}
use Rattle.std.proofs.lemmas.List.{append-nil, append_cancel_left}
use Rattle.std.proofs.lemmas.List.Elements.{filter-append}
use Rattle.definitions.specs.Counts.{Rose, RoseBy}
use Rattle.definitions.proofs.Counts.{RoseBy-nothing, RoseBy-then, RoseBy-fewer}
use Rattle.definitions.proofs.Prefixes.{prefix-itself, prefix-then}
use Rattle.session_rules.specs.Sessions.{SessionAnswer, SessionReply, is_of}
use Rattle.session_rules.specs.Passes.{TurnItem, Pass, failures, PassMoves, most_passes, knowing, SplitsOff, IsSpent, Joins, tells_disk_fault, disk_faults, TurnsFor, TurnsOf}
use Rattle.session_rules.specs.Laws.{StartsAnew, StaysSpent, KeepsBoth}
use Rattle.session_rules.proofs.Sessions.{none_kept}

failures-append : (one two : List TurnItem) → failures (one ++ two) ≡ failures one + failures two
failures-append one two = ap length (filter-append (λ (turn : TurnItem). turn.failed) one two) ∙ length-append (filter (λ (turn : TurnItem). turn.failed) one) (filter (λ (turn : TurnItem). turn.failed) two)

pub stays : (pass : Pass) → PassMoves pass pass
stays pass =
    record { number = refl; fixed = refl; seen = prefix-itself pass.seen; known = omega arith; turns_since = []; turns = sym (append-nil pass.turns); faults = omega arith; failed = RoseBy-nothing pass.faults }

pub moves_then : (one two three : Pass) → PassMoves one two → PassMoves two three → PassMoves one three
moves_then one two three first second =
    let low : one.known ≤ two.known = first.known in
    let high : two.known ≤ three.known = second.known in
    let counted : one.faults ≤ two.faults = first.faults in
    let then : two.faults ≤ three.faults = second.faults in
    record {
      number = second.number ∙ first.number;
      fixed = second.fixed ∙ first.fixed;
      seen = prefix-then one.seen two.seen three.seen first.seen second.seen;
      known = omega (arith, low, high);
      turns_since = first.turns_since ++ second.turns_since;
      turns = second.turns ∙ ap (λ turns. turns ++ second.turns_since) first.turns ∙ append_assoc one.turns first.turns_since second.turns_since;
      faults = omega (arith, counted, then);
      failed =
          subst (λ n. RoseBy n one.faults three.faults) (sym (failures-append first.turns_since second.turns_since))
          (RoseBy-then (failures first.turns_since) (failures second.turns_since) one.faults two.faults three.faults first.failed second.failed);
    }

-- ---- faults of the disk

pub count : Bool → ℕ
count true = 1
count false = 0

failures-item : (turn : TurnItem) (turns : List TurnItem) → failures (turn ∷ turns) ≡ count turn.failed + failures turns
unfolding count
failures-item turn turns = elim turn.failed as (λ b. length (cond b (turn ∷ filter (λ (t : TurnItem). t.failed) turns) (filter (λ (t : TurnItem). t.failed) turns)) ≡ count b + failures turns) [
  | true ↦ omega arith
  | false ↦ omega arith
]

pub disk_faults-item : (reply : SessionReply) (replies : List SessionReply) → disk_faults (reply ∷ replies) ≡ count (tells_disk_fault reply.answer) + disk_faults replies
unfolding count
disk_faults-item reply replies = elim (tells_disk_fault reply.answer) as (λ b. length (cond b (reply ∷ filter (λ (r : SessionReply). tells_disk_fault r.answer) replies) (filter (λ (r : SessionReply). tells_disk_fault r.answer) replies)) ≡ count b + disk_faults replies) [
  | true ↦ omega arith
  | false ↦ omega arith
]

-- where it is told only where the count rose
pub turn_counts : (answer : SessionAnswer) (before now : ℕ) → before ≤ now → (tells_disk_fault answer ≡ true → Rose before now) → RoseBy (count (tells_disk_fault answer)) before now
unfolding count
turn_counts answer before now stayed told = elim (cases_Bool (tells_disk_fault answer)) [
  | inl faulted ↦ subst (λ b. RoseBy (count b) before now) (sym faulted) (told faulted)
  | inr none ↦ subst (λ b. RoseBy (count b) before now) (sym none) (omega (arith, stayed))
]

counts_follow : (told failed : Bool) → (told ≡ true → failed ≡ true) → count told ≤ count failed
unfolding count
counts_follow true true follows = omega arith
counts_follow true false follows = absurd (true≢false (sym (follows refl)))
counts_follow false true follows = omega arith
counts_follow false false follows = omega arith

told_are_failed : (turns : List TurnItem) (replies : List SessionReply) → TurnsFor turns replies → disk_faults replies ≤ failures turns
told_are_failed [] [] told = omega arith
told_are_failed (turn ∷ turns) (reply ∷ replies) told =
    let here : count (tells_disk_fault reply.answer) ≤ count turn.failed = counts_follow (tells_disk_fault reply.answer) turn.failed told.1 in
    let later : disk_faults replies ≤ failures turns = told_are_failed turns replies told.2 in
    let left : disk_faults (reply ∷ replies) ≡ count (tells_disk_fault reply.answer) + disk_faults replies = disk_faults-item reply replies in
    let right : failures (turn ∷ turns) ≡ count turn.failed + failures turns = failures-item turn turns in
    omega (arith, here, later, left, right)
told_are_failed [] (reply ∷ replies) told = absurd told
told_are_failed (turn ∷ turns) [] told = absurd told

pub told_are_counted : (old new : Pass) (replies : List SessionReply) → PassMoves old new → TurnsOf old.turns replies new.turns → RoseBy (disk_faults replies) old.faults new.faults
told_are_counted old new replies moves turns =
    let same : turns.0 ≡ moves.turns_since = append_cancel_left old.turns turns.0 moves.turns_since (sym turns.1 ∙ moves.turns) in
    let told : disk_faults replies ≤ failures moves.turns_since = subst (λ ts. disk_faults replies ≤ failures ts) same (told_are_failed turns.0 replies turns.2) in
    RoseBy-fewer (disk_faults replies) (failures moves.turns_since) old.faults new.faults told moves.failed

-- ---- splitting

-- a pass that knows of more numbers moved
knowing_moves : (pass new : Pass) (given : ℕ) → pass.known ≤ given → new ≡ knowing pass given → PassMoves pass new
knowing_moves pass new given more is =
    subst (PassMoves pass) (sym is) (record { number = refl; fixed = refl; seen = prefix-itself pass.seen; known = more; turns_since = []; turns = sym (append-nil pass.turns); faults = omega arith; failed = RoseBy-nothing pass.faults })

pub starts_anew : (old new part : Pass) → SplitsOff old new part → StartsAnew old new part
starts_anew old new part split =
    let above : old.known < part.number = split.above in
    let is = split.part_is in
    record {
      moves = knowing_moves old new part.number (omega (arith, above)) split.new_is;
      seen = ap (λ (p : Pass). p.seen) is;
      faults = ap (λ (p : Pass). p.faults) is;
      fixed = ap (λ (p : Pass). p.fixed) is;
      mine_is = ap (filter (is_of part.number)) (ap (λ (p : Pass). p.seen) is) ∙ none_kept part.number old.seen split.unused;
      turns = ap (λ (p : Pass). p.turns) is;
      known = let same : part.known ≡ part.number = ap (λ (p : Pass). p.known) is in omega (arith, same);
      number = λ knows. let own : old.number ≤ old.known = knows in omega (arith, own, above);
    }

pub numbers_rise : (old new part later last other : Pass) → SplitsOff old new part → PassMoves new later → SplitsOff later last other → part.number < other.number
numbers_rise old new part later last other split moves next =
    let known : new.known ≡ part.number = ap (λ (p : Pass). p.known) split.new_is in
    let more : new.known ≤ later.known = moves.known in
    let above : later.known < other.number = next.above in
    omega (arith, known, more, above)

pub stays_spent : (old new : Pass) (given : ℕ) → IsSpent old new given → StaysSpent old new
stays_spent old new given spent = record {
  moves = knowing_moves old new given spent.known spent.new_is;
  none_left = λ later last other moves next.
      let all : given ≡ most_passes = spent.all in
      let known : new.known ≡ given = ap (λ (p : Pass). p.known) spent.new_is in
      let more : new.known ≤ later.known = moves.known in
      let above : later.known < other.number = next.above in
      let most : other.number ≤ most_passes = next.at_most in
      omega (arith, all, known, more, above, most);
}

-- ---- joining

pub join_keeps_both : (pass other new : Pass) → Joins pass other new → KeepsBoth pass other new
join_keeps_both pass other new joins =
    let is = joins.new_is in
    let known : new.known ≡ joins.known = ap (λ (p : Pass). p.known) is in
    let faults : new.faults ≡ max pass.faults other.faults = ap (λ (p : Pass). p.faults) is in
    let grown : max pass.known other.known ≤ joins.known = joins.grown in
    let own : pass.known ≤ max pass.known other.known = le-max_left pass.known other.known in
    let others : other.known ≤ max pass.known other.known = le-max_right pass.known other.known in
    let counted : pass.faults ≤ max pass.faults other.faults = le-max_left pass.faults other.faults in
    let counted_there : other.faults ≤ max pass.faults other.faults = le-max_right pass.faults other.faults in
    record {
      moves = record {
        number = ap (λ (p : Pass). p.number) is;
        fixed = ap (λ (p : Pass). p.fixed) is;
        seen = joins.seen;
        known = omega (arith, known, grown, own);
        turns_since = [];
        turns = ap (λ (p : Pass). p.turns) is ∙ sym (append-nil pass.turns);
        faults = omega (arith, faults, counted);
        failed = omega (arith, faults, counted);
      };
      seen = joins.other_seen;
      known = omega (arith, known, grown, others);
      faults = omega (arith, faults, counted_there);
    }
