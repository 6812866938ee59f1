-- What a turn at the book leaves of a pass, and who finds it.
use Rattle.std.proofs.Common.{◌≡◌, ◌≢◌, ℕ, ◌+◌, ◌-◌, ◌<◌, ◌≤◌, ◌^◌, false, ◌⊎◌, inl, inr, List, [], ◌∷◌, ◌++◌, length, take, drop, cond, refl, sym, ◌∙◌, ap, subst, arith, append_assoc}
use Rattle.std.specs.Prelude.{nat_lt, All}
use Rattle.std.proofs.Math.Nat.{max-le}
use Rattle.std.proofs.Math.Seq.{drop-append-add}
use Rattle.std.proofs.lemmas.Bool.{cases_Bool, ltb-true, ne_eqb}
use Rattle.std.proofs.lemmas.List.{append-nil, drop_at}
use Rattle.std.proofs.lemmas.List.Elements.{All-append, All-take, All-drop, All-weaker}
use Rattle.definitions.specs.Counts.{RoseBy, has_risen}
use Rattle.definitions.specs.Uses.{Used, then_used}
use Rattle.definitions.proofs.Counts.{has_risen-true, Rose-has_risen}
use Rattle.definitions.proofs.Prefixes.{prefix-of, prefix-then, longer-prefix}
use Rattle.record_rules.specs.Records.{Caller, Entry}
use Rattle.step_rules.specs.Store.{KeyedStore}
use Rattle.step_rules.specs.Sealing.{Sealing}
use Rattle.session_rules.specs.Sessions.{Asked, SessionAnswer, SessionReply, caller_of, SessionRequest, is_of, Session}
use Rattle.session_rules.specs.Turns.{TurnAnswers}
use Rattle.session_rules.specs.Passes.{TurnItem, Pass, failures, PassMoves, knowing, split_off, SplitsOff, longer, joined, Joins, TurnsOf}
use Rattle.session_rules.specs.Stores.{StoreState, store_of, store_book, StoreTurn}
use Rattle.session_rules.specs.Books.{Book, MayGive, Finds, turn_between, after_turn, PassTakes, PassGives, PassTurn}
use Rattle.session_rules.specs.Laws.{BeginsToFind, MovesAndFinds, PassHistory, PassHistoryBegins}
use Rattle.session_rules.proofs.Turns.{turns_follow}
use Rattle.session_rules.proofs.Growing.{answers_are_told, session_grows}
use Rattle.session_rules.proofs.Sessions.{none_kept, session_still, session_begins}

pub first_begins : (book : Book) → All (λ entry. is_of 1 entry ≡ false) book.entries → BeginsToFind book
first_begins book others = record {
  finds = record { since = []; entries = sym (append-nil book.entries); of_others = λ k d below. absurd (omega arith); faults = omega arith; fixed = refl };
  known = omega arith;
  mine_is = none_kept 1 book.entries others;
}

-- ---- a turn

-- a turn that failed is one in which the count rose
failed_once : (found left : Book) → found.faults ≤ left.faults → RoseBy (failures (turn_between found left ∷ [])) found.faults left.faults
failed_once found left stayed = elim (cases_Bool (has_risen found.faults left.faults)) [
  | inl risen ↦
      subst (λ b. RoseBy (length (cond b (turn_between found left ∷ []) [])) found.faults left.faults) (sym risen) (has_risen-true found.faults left.faults risen)
  | inr still ↦ subst (λ b. RoseBy (length (cond b (turn_between found left ∷ []) [])) found.faults left.faults) (sym still) (omega (arith, stayed))
]

turn_moves : (pass : Pass) (found left : Book) (after : Pass) → PassTurn pass found left after → PassMoves pass after
turn_moves pass found left after turn =
    let low : pass.faults ≤ found.faults = turn.finds.faults in
    let high : found.faults ≤ left.faults = turn.may.faults in
    let failed : RoseBy (failures (turn_between found left ∷ [])) found.faults left.faults = failed_once found left high in
    subst (PassMoves pass) (sym turn.after_is) (record {
      number = refl;
      fixed = refl;
      seen = prefix-then pass.seen found.entries left.entries (prefix-of pass.seen turn.finds.since found.entries (sym turn.finds.entries)) (prefix-of found.entries turn.may.added left.entries (sym turn.may.entries));
      known = omega arith;
      turns_since = turn_between found left ∷ [];
      turns = refl;
      faults = omega (arith, low, high);
      failed = omega (arith, low, failed);
    })

-- nothing stands behind what it left
turn_finds : (pass : Pass) (found left : Book) (after : Pass) → PassTurn pass found left after → Finds after left
turn_finds pass found left after turn =
    subst (λ p. Finds p left) (sym turn.after_is) (record { since = []; entries = sym (append-nil left.entries); of_others = λ k d below. absurd (omega arith); faults = omega arith; fixed = turn.may.fixed ∙ turn.finds.fixed })

pub moves_and_finds : (pass : Pass) (found left : Book) (after : Pass) → PassTurn pass found left after → MovesAndFinds pass found left after
moves_and_finds pass found left after turn = record { moves = turn_moves pass found left after turn; one_more = ap (λ (p : Pass). p.turns) turn.after_is; finds = turn_finds pass found left after turn }

pub taken_and_given : (pass taken : Pass) (found left : Book) (after : Pass) → PassTakes pass found taken → PassGives taken found left after → PassTurn pass found left after
taken_and_given pass taken found left after takes gives = record {
  finds = takes.finds;
  may = subst (λ p. MayGive p.number found left) takes.taken_is gives.may;
  after_is = gives.after_is ∙ ap (λ p. after_turn p found left) takes.taken_is;
}

-- what is of one pass or of none is of no other one
of_no_other : (number other : ℕ) → other ≢ 0 → other ≢ number → (entry : Entry) → (entry.caller.number ≡ number) ⊎ (entry.caller.number ≡ 0) → is_of other entry ≡ false
of_no_other number other named differ entry (inl own) = ne_eqb entry.caller.number other (λ same. differ (sym same ∙ own))
of_no_other number other named differ entry (inr settled) = ne_eqb entry.caller.number other (λ same. named (sym same ∙ settled))

pub others_find : (other : Pass) (number : ℕ) (found left : Book) → Finds other found → MayGive number found left → other.number ≢ 0 → other.number ≢ number → Finds other left
others_find other number found left finds may named differ =
    let low : other.faults ≤ found.faults = finds.faults in
    let high : found.faults ≤ left.faults = may.faults in
    let others : All (λ entry. is_of other.number entry ≡ false) may.added =
    All-weaker (λ entry. (entry.caller.number ≡ number) ⊎ (entry.caller.number ≡ 0)) (λ entry. is_of other.number entry ≡ false) (of_no_other number other.number named differ) may.added may.own in
    record {
      since = finds.since ++ may.added;
      entries = may.entries ∙ ap (λ entries. entries ++ may.added) finds.entries ∙ append_assoc other.seen finds.since may.added;
      of_others = All-append (λ entry. is_of other.number entry ≡ false) finds.since may.added finds.of_others others;
      faults = omega (arith, low, high);
      fixed = may.fixed ∙ finds.fixed;
    }

-- an entry that came by this call is of its pass
of_its_pass : (number call : ℕ) (entry : Entry) → entry.caller ≡ caller_of number call → (entry.caller.number ≡ number) ⊎ (entry.caller.number ≡ 0)
of_its_pass number call entry is = inl (ap (λ (c : Caller). c.number) is)

pub may_be_given : (store : KeyedStore) (number call : ℕ) (fixed : List ℕ) (old : StoreState) (asked : Asked) (used : Used) (new : StoreState) (answer : SessionAnswer) → StoreTurn store old (caller_of number call) asked used new answer → length new.entries < 2 ^ 64 → MayGive number (store_book fixed old) (store_book fixed new)
may_be_given store number call fixed old asked used new answer turn room =
    let turned = answers_are_told store old.entries old.doubt (caller_of number call) asked used new.entries new.doubt answer turn.answers in
    let Own : Entry → Type 0 = λ entry. (entry.caller.number ≡ number) ⊎ (entry.caller.number ≡ 0) in
    record {
      added = turned.settles ++ turned.commit;
      entries = turned.after_is;
      own = All-append Own turned.settles turned.commit (All-weaker (λ (entry : Entry). entry.caller.number ≡ 0) Own (λ entry zero. inr zero) turned.settles turned.of_none) (All-weaker (λ entry. entry.caller ≡ caller_of number call) Own (of_its_pass number call) turned.commit turned.of_caller);
      faults = turn.counted;
      fixed = refl;
      room = room;
    }

-- ---- passes that are split off and joined

-- what stands behind the longer of two fronts stands behind the shorter one too
all_behind : (P : Entry → Type 0) (one two since more : List Entry) → one ++ since ≡ two ++ more → length one ≤ length two → All P since → All P more
all_behind P one two since more same below all =
    let far : length one + (length two - length one) ≡ length two = omega (arith, below) in
    let rest : drop (length two - length one) since ≡ more = sym (drop-append-add one since (length two - length one)) ∙ ap (λ n. drop n (one ++ since)) far ∙ ap (drop (length two)) same ∙ drop_at two more (length two) refl in
    subst (All P) rest (All-drop P (length two - length one) since all)

pub split_finds : (old new part : Pass) (book : Book) → SplitsOff old new part → Finds old book → All (λ entry. is_of part.number entry ≡ false) book.entries → Finds part book
split_finds old new part book split finds others =
    let is = split.part_is in
    let behind : All (λ entry. is_of part.number entry ≡ false) finds.since = all_behind (λ entry. is_of part.number entry ≡ false) [] old.seen book.entries finds.since finds.entries (omega arith) others in
    let here : Finds (split_off old part.number) book = record { since = finds.since; entries = finds.entries; of_others = behind; faults = finds.faults; fixed = finds.fixed } in
    subst (λ p. Finds p book) (sym is) here

joined_finds : (pass other : Pass) (book : Book) → Finds pass book → Finds other book → Finds (joined pass other) book
joined_finds pass other book one two = elim (cases_Bool (nat_lt (length pass.seen) (length other.seen))) [
  | inl shorter ↦
      let below : length pass.seen < length other.seen = ltb-true (length pass.seen) (length other.seen) shorter in
      with_seen other.seen two.since (ap (λ b. cond b other.seen pass.seen) shorter) two.entries
      (all_behind (λ entry. is_of pass.number entry ≡ false) pass.seen other.seen one.since two.since (sym one.entries ∙ two.entries) (omega (arith, below)) one.of_others)
  | inr not_shorter ↦ with_seen pass.seen one.since (ap (λ b. cond b other.seen pass.seen) not_shorter) one.entries one.of_others
] where
  with_seen : (seen since : List Entry) → longer pass.seen other.seen ≡ seen → book.entries ≡ seen ++ since → All (λ entry. is_of pass.number entry ≡ false) since → Finds (joined pass other) book
  with_seen seen since is entries others = record { since = since; entries = entries ∙ ap (λ s. s ++ since) (sym is); of_others = others; faults = max-le one.faults two.faults; fixed = one.fixed }

-- what it knows of numbers doesn't matter to what it finds
knowing_finds : (pass : Pass) (known : ℕ) (book : Book) → Finds pass book → Finds (knowing pass known) book
knowing_finds pass known book finds = record { since = finds.since; entries = finds.entries; of_others = finds.of_others; faults = finds.faults; fixed = finds.fixed }

pub join_finds : (pass other new : Pass) (book : Book) → Finds pass book → Finds other book → Joins pass other new → Finds new book
join_finds pass other new book one two joins = subst (λ p. Finds p book) (sym joins.new_is) (knowing_finds (joined pass other) joins.known book (joined_finds pass other book one two))

-- ---- sessions

pub goes_on : (sealing : Sealing) (seen : List Entry) (pass : Pass) (requests : List SessionRequest) (used : Used) (replies : List SessionReply) (turns : List TurnItem) (fixed : List ℕ) (old new : StoreState) (after : Pass) (one : SessionRequest) (used_here : Used) (answer : SessionAnswer)
    → pass.number ≢ 0 → PassHistory sealing seen requests used replies turns pass → PassTurn pass (store_book fixed old) (store_book fixed new) after → StoreTurn (store_of sealing fixed) old (caller_of pass.number one.call) one.asked used_here new answer
    → PassHistory sealing seen (requests ++ one ∷ []) (then_used used used_here) (replies ++ record { front = length new.entries; answer = answer } ∷ []) turns after
goes_on sealing seen pass requests used replies turns fixed old new after one used_here answer named goes turn answers =
    let reply : SessionReply = record { front = length new.entries; answer = answer } in
    let found : Book = store_book fixed old in
    let left : Book = store_book fixed new in
    let caller : Caller = caller_of pass.number one.call in
    let here : TurnAnswers (store_of sealing pass.fixed) (pass.seen ++ turn.finds.since) old.doubt caller one.asked used_here new.entries new.doubt answer =
    subst (λ j. TurnAnswers (store_of sealing pass.fixed) j old.doubt caller one.asked used_here new.entries new.doubt answer) turn.finds.entries
    (subst (λ f. TurnAnswers (store_of sealing f) old.entries old.doubt caller one.asked used_here new.entries new.doubt answer) turn.finds.fixed answers.answers) in
    let one_turn : TurnsOf pass.turns (reply ∷ []) (pass.turns ++ turn_between found left ∷ []) = (turn_between found left ∷ [], refl, (refl, (λ told. Rose-has_risen old.faults new.faults (answers.told told)), tt)) in
    subst (PassHistory sealing seen (requests ++ one ∷ []) (then_used used used_here) (replies ++ reply ∷ []) turns) (sym turn.after_is) (record {
      session = session_grows (store_of sealing pass.fixed) seen pass.number requests used replies pass.seen turn.finds.since old.doubt one used_here new.entries new.doubt answer named goes.session turn.finds.of_others here;
      turns = turns_follow turns pass.turns (pass.turns ++ turn_between found left ∷ []) replies (reply ∷ []) goes.turns one_turn;
    })

joined_goes_on : (sealing : Sealing) (seen : List Entry) (pass other : Pass) (book : Book) (requests : List SessionRequest) (used : Used) (replies : List SessionReply) (turns : List TurnItem) → PassHistory sealing seen requests used replies turns pass → Finds pass book → Finds other book → PassHistory sealing seen requests used replies turns (joined pass other)
joined_goes_on sealing seen pass other book requests used replies turns goes one two = record { session = session; turns = goes.turns } where
  session : Session (store_of sealing pass.fixed) seen pass.number requests used replies (longer pass.seen other.seen)
  session = elim (cases_Bool (nat_lt (length pass.seen) (length other.seen))) [
    | inl shorter ↦
        let below : length pass.seen < length other.seen = ltb-true (length pass.seen) (length other.seen) shorter in
        let many : ℕ = length other.seen - length pass.seen in
        let is : other.seen ≡ pass.seen ++ take many one.since = longer-prefix pass.seen other.seen one.since two.since (sym one.entries ∙ two.entries) (omega (arith, below)) in
        let still : Session (store_of sealing pass.fixed) seen pass.number requests used replies (pass.seen ++ take many one.since) =
        session_still (store_of sealing pass.fixed) seen pass.number requests used replies pass.seen (take many one.since) goes.session (All-take (λ entry. is_of pass.number entry ≡ false) many one.since one.of_others) in
        subst (Session (store_of sealing pass.fixed) seen pass.number requests used replies) (sym (ap (λ b. cond b other.seen pass.seen) shorter ∙ is)) still
    | inr not_shorter ↦ subst (Session (store_of sealing pass.fixed) seen pass.number requests used replies) (sym (ap (λ b. cond b other.seen pass.seen) not_shorter)) goes.session
  ]

pub join_goes_on : (sealing : Sealing) (seen : List Entry) (pass other new : Pass) (book : Book) (requests : List SessionRequest) (used : Used) (replies : List SessionReply) (turns : List TurnItem) → PassHistory sealing seen requests used replies turns pass → Finds pass book → Finds other book → Joins pass other new → PassHistory sealing seen requests used replies turns new
join_goes_on sealing seen pass other new book requests used replies turns goes one two joins =
    let here = joined_goes_on sealing seen pass other book requests used replies turns goes one two in
    subst (PassHistory sealing seen requests used replies turns) (sym joins.new_is) (record { session = here.session; turns = here.turns })

pub goes_begins : PassHistoryBegins
goes_begins sealing pass = record { session = session_begins (store_of sealing pass.fixed) pass.seen pass.number; turns = ([], sym (append-nil pass.turns), tt) }
