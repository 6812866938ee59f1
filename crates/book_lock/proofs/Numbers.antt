-- The steps that split, name and join passes keep the rule.
use Rattle.std.proofs.Common.{◌≡◌, ◌≢◌, ℕ, ◌+◌, ◌-◌, ◌<◌, ◌≤◌, max, inl, inr, ⊎_elim, List, [], ◌∷◌, ◌++◌, length, set, refl, sym, ap, subst, ◌∙◌, arith, false, cond, ne_eqb, eq-eqb}
use Rattle.std.specs.Prelude.{All, Option, Some, None, ◌==◌, nat_lt, slice_index, slice_set}
use Rattle.std.proofs.lemmas.Bool.{cases_Bool, ltb-true, ltb-false}
use Rattle.std.proofs.lemmas.List.{take_at}
use Rattle.std.proofs.lemmas.List.Elements.{All-nil, All-cons, All-weaker, All-tail, All-take}
use mathlib.Core.Option.{some, none, some-injective}
use mathlib.Core.Logic.{dite}
use native.Mathlib.Decide.{ℕ_discrete}
use lib.ListN.{get_elem?}
use prog.Atomic.{either}
use Rattle.atomic_table.specs.Table.{State, Me, Act, keeps, step, Allows, Splits, Joins, stepped, Valid, carried_after}
use Rattle.atomic_table.proofs.Lists.{at_set, at_snoc, at_longer, set_again, set_else}
use Rattle.record_rules.specs.Records.{Entry}
use Rattle.session_rules.specs.Sessions.{is_of}
use Rattle.definitions.specs.Prefixes.{IsPrefix}
use Rattle.definitions.proofs.Prefixes.{prefix-of, prefix-itself}
use Rattle.session_rules.specs.Books.{Book}
use Rattle.book_lock.specs.Views.{unnamed, named, spent, PassView, split_view, looked, named_view, both_views, spent_view}
use Rattle.book_lock.specs.Rule.{ViewFits, NumbersApart, BookPlace, LockKept}
use Rattle.book_lock.specs.Steps.{Looks, Names}
use Rattle.book_lock.proofs.Views.{fit_set, apart_set, apart_still, none_set}
use Rattle.book_lock.proofs.Turns.{named_lives, same_state}

-- ---- lists

two_fronts : {A : Type 0} → (a b c d : List A) → a ++ b ≡ c ++ d → length a ≤ length c → (mid : List A) × (c ≡ a ++ mid) × (b ≡ mid ++ d)
two_fronts [] b c d e le = (c, refl, e)
two_fronts (x ∷ a) b [] d e le = absurd (omega arith)
two_fronts (x ∷ a) b (y ∷ c) d e le =
    let r = two_fronts a b c d (cc e) (omega arith) in
    let rest : c ≡ a ++ r.0 = r.1 in
    (r.0, cc (e, rest), r.2)

all_before : {A : Type 0} (P : A → Type 0) (xs ys : List A) → All P (xs ++ ys) → All P xs
all_before P xs ys h = subst (All P) (take_at xs ys (length xs) refl) (All-take P (length xs) (xs ++ ys) h)

all_behind : {A : Type 0} (P : A → Type 0) (xs ys : List A) → All P (xs ++ ys) → All P ys
all_behind P [] ys h = h
all_behind P (x ∷ xs) ys h = all_behind P xs ys (All-tail P x (xs ++ ys) h)

-- ---- a seat that holds no book

not_spent : (v : PassView) → v.stage ≡ unnamed → v.stage ≢ spent
not_spent v is is_spent = cc (is, is_spent)

unnamed_not_named : {P : Type 0} (v : PassView) → v.stage ≡ unnamed → v.stage ≡ named → P
unnamed_not_named v is is_named = absurd (cc (is, is_named))

spent_not_named : spent ≡ named → ⊥
spent_not_named e = cc e

module _ {B : Type 0} (book_of : B → Book) where
  place_none : (world : Book) (homes : List (mathlib.Core.Option.Option (Option B))) (turn : ℕ) (views : List PassView) (id : ℕ) (v new : PassView) → get_elem? views id ≡ some v → v.held ≡ None → new.held ≡ None
      → BookPlace book_of world turn homes views → BookPlace book_of world turn homes (set views id new)
  place_none world homes turn views id v new there old_none new_none (inl (free, home, none_holds)) = inl (free, home, none_set views id new (λ j u at_j not_id. none_holds j u at_j) new_none)
  place_none world homes turn views id v new there old_none new_none (inr (taken, away, out)) =
      let differ : out.holder ≢ id = λ e. (let same : v ≡ out.view = some-injective v out.view (sym there ∙ ap (get_elem? views) (sym e) ∙ out.there) in
      let held : out.view.held ≡ Some out.held = out.holds in let nobody : out.view.held ≡ None = ap (λ (u : PassView). u.held) (sym same) ∙ old_none in cc (held, nobody)) in
      inr (
        taken,
        away,
        record {
          holder = out.holder;
          view = out.view;
          held = out.held;
          there = set_else views id out.holder new differ ∙ out.there;
          holds = out.holds;
          is_world = out.is_world;
          others = λ j u at_j not_holder. ⊎_elim (λ t. subst (λ (x : PassView). x.held ≡ None) t.1 new_none) (λ t. out.others j u t.1 not_holder) (at_set views id j new u at_j);
        },
      )

  place_more : (world : Book) (homes : List (mathlib.Core.Option.Option (Option B))) (turn : ℕ) (views : List PassView) (new : PassView) → new.held ≡ None → BookPlace book_of world turn homes views → BookPlace book_of world turn homes (views ++ new ∷ [])
  place_more world homes turn views new new_none (inl (free, home, none_holds)) =
      inl (free, home, λ j u at_j. ⊎_elim (λ t. none_holds j u t) (λ t. subst (λ (x : PassView). x.held ≡ None) t new_none) (at_snoc views new u j at_j))
  place_more world homes turn views new new_none (inr (taken, away, out)) = inr (
    taken,
    away,
    record {
      holder = out.holder;
      view = out.view;
      held = out.held;
      there = at_longer views (new ∷ []) out.holder out.view out.there;
      holds = out.holds;
      is_world = out.is_world;
      others = λ j u at_j not_holder. ⊎_elim (λ t. out.others j u t not_holder) (λ t. subst (λ (x : PassView). x.held ≡ None) t new_none) (at_snoc views new u j at_j);
    },
  )

  -- ---- split

  split_fits : (world : Book) (next : ℕ) (v : PassView) → ViewFits world next v → ViewFits world next (split_view v)
  split_fits world next v f = record {
    since = f.since;
    entries = f.entries;
    of_others = λ is. unnamed_not_named (split_view v) refl is;
    faults = f.faults;
    fixed = f.fixed;
    known = omega arith;
    below = f.below;
    olds = All-nil (λ old. IsPrefix old v.pass.seen);
    unnumbered = λ _. refl;
  }

  apart_more : (views : List PassView) (new : PassView) → new.stage ≡ unnamed → NumbersApart views → NumbersApart (views ++ new ∷ [])
  apart_more views new is_new apart i j v w at_i at_j is_v is_w same =
      ⊎_elim
      (λ s. ⊎_elim (λ t. apart i j v w s t is_v is_w same) (λ t. unnamed_not_named w (subst (λ (x : PassView). x.stage ≡ unnamed) t is_new) is_w) (at_snoc views new w j at_j))
      (λ s. unnamed_not_named v (subst (λ (x : PassView). x.stage ≡ unnamed) s is_new) is_v)
      (at_snoc views new v i at_i)

  pub may_split : (id : ℕ) (v : PassView) → v.stage ≡ named → Splits (LockKept book_of) id v v (split_view v)
  may_split id v is_named s k there =
      subst (λ l. LockKept book_of (record { words = s.words; homes = s.homes; views = l ++ split_view v ∷ [] })) (sym (set_again s.views id v there)) (record {
        world = k.world;
        turn = k.turn;
        next = k.next;
        words = k.words;
        place = place_more k.world s.homes k.turn s.views (split_view v) refl k.place;
        room = k.room;
        numbers = k.numbers;
        entries_below = k.entries_below;
        fits = λ j u at_j live. ⊎_elim (λ t. k.fits j u t live) (λ t. subst (ViewFits k.world k.next) t (split_fits k.world k.next v (k.fits id v there (named_lives v is_named)))) (at_snoc s.views (split_view v) u j at_j);
        apart = apart_more s.views (split_view v) refl k.apart;
      })

  -- ---- look

  looked_fits : (world : Book) (next : ℕ) (v : PassView) → ViewFits world next v → 2 ≤ next → ViewFits world next (looked (next - 1) v)
  looked_fits world next v f two = record {
    since = f.since;
    entries = f.entries;
    of_others = f.of_others;
    faults = f.faults;
    fixed = f.fixed;
    known = let low : v.pass.number ≤ v.pass.known = f.known in let high : v.pass.known < next = f.below in omega arith;
    below = omega arith;
    olds = f.olds;
    unnumbered = f.unnumbered;
  }

  pub may_look : (slots id : ℕ) (m : Me (Option B) PassView) → m.0.stage ≡ named → m.0.held ≡ None → Allows (LockKept book_of) slots id m 2 (λ n. n) (Looks (step slots 2 0 0 none) m)
  may_look slots id m is_named not_held s k count there below =
      let v : PassView = m.0 in
      let here : slice_index s.words 2 ≡ k.next = ap (λ ws. slice_index ws 2) k.words in
      let f : ViewFits k.world k.next v = k.fits id v there (named_lives v is_named) in
      let new : PassView = looked (slice_index s.words 2 - 1) v in (
        new,
        keeps,
        tt,
        record {
          world = k.world;
          turn = k.turn;
          next = k.next;
          words = ap (λ ws. slice_set ws 2 (slice_index ws 2)) k.words;
          place = place_none k.world s.homes k.turn s.views id v new there not_held not_held k.place;
          room = k.room;
          numbers = k.numbers;
          entries_below = k.entries_below;
          fits = fit_set k.world k.next s.views id new (λ j u not_id at_j. k.fits j u at_j) (λ live. subst (λ n. ViewFits k.world k.next (looked (n - 1) v)) (sym here) (looked_fits k.world k.next v f k.numbers.0));
          apart = apart_still s.views id v new k.apart there is_named refl;
        },
        (refl, subst (λ n. 2 ≤ n) (sym here) k.numbers.0, subst (λ n. n ≤ 65536) (sym here) k.numbers.1, subst (λ n. v.pass.known < n) (sym here) f.below, f.olds),
      )

  -- ---- name

  fits_next : (world : Book) (next : ℕ) (v : PassView) → ViewFits world next v → ViewFits world (next + 1) v
  fits_next world next v f = record { since = f.since; entries = f.entries; of_others = f.of_others; faults = f.faults; fixed = f.fixed; known = f.known; below = let b : v.pass.known < next = f.below in omega arith; olds = f.olds; unnumbered = f.unnumbered }

  -- no entry whose number was given has the next one
  not_next : (next : ℕ) (entries : List Entry) → All (λ e. e.caller.number < next) entries → All (λ e. is_of next e ≡ false) entries
  not_next next entries low =
      All-weaker (λ (e : Entry). e.caller.number < next) (λ e. is_of next e ≡ false) (λ e lower. ne_eqb e.caller.number next (λ same. let n : ℕ = e.caller.number in let l : n < next = lower in let q : n ≡ next = same in absurd (omega arith))) entries low

  named_fits : (world : Book) (next : ℕ) (v : PassView) → ViewFits world next v → 2 ≤ next → All (λ e. e.caller.number < next) world.entries → ViewFits world (next + 1) (named_view next v)
  named_fits world next v f two low = record {
    since = f.since;
    entries = f.entries;
    of_others = λ _. (omega arith, not_next next f.since (all_behind (λ (e : Entry). e.caller.number < next) v.pass.seen f.since (subst (All (λ (e : Entry). e.caller.number < next)) f.entries low)));
    faults = f.faults;
    fixed = f.fixed;
    known = omega arith;
    below = omega arith;
    olds = f.olds;
    unnumbered = λ e. absurd (cc e);
  }

  -- none that the view has seen
  unused : (world : Book) (next : ℕ) (v : PassView) → ViewFits world next v → All (λ e. e.caller.number < next) world.entries → All (λ e. is_of next e ≡ false) v.pass.seen
  unused world next v f low = not_next next v.pass.seen (all_before (λ (e : Entry). e.caller.number < next) v.pass.seen f.since (subst (All (λ (e : Entry). e.caller.number < next)) f.entries low))

  naming : (id : ℕ) (v : PassView) (s : State (Option B) PassView) (k : LockKept book_of s) → v.stage ≡ unnamed → v.held ≡ None → get_elem? s.views id ≡ some v → k.next ≤ 65535
      → LockKept book_of (stepped s 2 (k.next + 1) id [] (named_view k.next v) keeps)
  naming id v s k is_unnamed not_held there room =
      let new : PassView = named_view k.next v in
      record {
        world = k.world;
        turn = k.turn;
        next = k.next + 1;
        words = ap (λ ws. slice_set ws 2 (k.next + 1)) k.words;
        place = place_none k.world s.homes k.turn s.views id v new there not_held not_held k.place;
        room = k.room;
        numbers = (let two = k.numbers.0 in omega arith, omega arith);
        entries_below = All-weaker (λ e. e.caller.number < k.next) (λ e. e.caller.number < k.next + 1) (λ e lower. let n : ℕ = e.caller.number in let l : n < k.next = lower in omega arith) k.world.entries k.entries_below;
        fits = fit_set k.world (k.next + 1) s.views id new (λ j u not_id at_j live. fits_next k.world k.next u (k.fits j u at_j live)) (λ live. named_fits k.world k.next v (k.fits id v there (not_spent v is_unnamed)) k.numbers.0 k.entries_below);
        apart = apart_set s.views id new k.apart (λ j u not_id at_j is_u is_new same. let f = k.fits j u at_j (named_lives u is_u) in
            let one : u.pass.number ≤ u.pass.known = f.known in let two : u.pass.known < k.next = f.below in let q : k.next ≡ u.pass.number = same in omega arith);
      }

  name_there : (slots id number : ℕ) (v : PassView) → v.stage ≡ unnamed → v.held ≡ None → number ≤ 65535 → (s : State (Option B) PassView) → (k : LockKept book_of s) → get_elem? s.views id ≡ some v
      → (n : ℕ) → slice_index s.words 2 ≡ n → n ≡ k.next
      → (w : PassView) × (a : Act (Option B)) × Valid s.homes [] a × LockKept book_of (stepped s 2 (either (n == number) (number + 1) n) id [] w a) × Names (step slots 2 number (number + 1) none) (v, []) n (w, carried_after [] a)
  name_there slots id number v is_unnamed not_held room s k there n is_n is_next = dite (ℕ_discrete n number)
      (λ hit.
      let same : k.next ≡ number = sym is_next ∙ hit in
      let written : k.next + 1 ≡ either (n == number) (number + 1) n = ap (λ c. c + 1) same ∙ ap (λ b. either b (number + 1) n) (sym (eq-eqb n number hit)) in (
        named_view k.next v,
        keeps,
        tt,
        subst (λ c. LockKept book_of (stepped s 2 c id [] (named_view k.next v) keeps)) written (naming id v s k is_unnamed not_held there (subst (λ c. c ≤ 65535) (sym same) room)),
        (
          (λ _. (ap (λ c. (named_view c v, [])) (sym is_next), subst (λ c. All (λ e. is_of c e ≡ false) v.pass.seen) (sym is_next) (unused k.world k.next v (k.fits id v there (not_spent v is_unnamed)) k.entries_below))),
          (λ other. absurd (other hit)),
        ),
      ))
      (λ miss.
      let written : slice_index s.words 2 ≡ either (n == number) (number + 1) n = is_n ∙ ap (λ b. either b (number + 1) n) (sym (ne_eqb n number miss)) in (
        v,
        keeps,
        tt,
        subst (λ c. LockKept book_of (stepped s 2 c id [] v keeps)) written (same_state book_of s k id v 2 there (ap (λ ws. slice_set ws 2 (slice_index ws 2)) k.words ∙ sym k.words)),
        ((λ hit. absurd (miss hit)), (λ _. refl)),
      ))

  pub may_name : (slots id number : ℕ) (m : Me (Option B) PassView) → m.0.stage ≡ unnamed → m.0.held ≡ None → m.1 ≡ [] → number ≤ 65535
      → Allows (LockKept book_of) slots id m 2 (λ n. either (n == number) (number + 1) n) (Names (step slots 2 number (number + 1) none) m)
  may_name slots id number m is_unnamed not_held no_slot room =
      subst (λ c. Allows (LockKept book_of) slots id (m.0, c) 2 (λ n. either (n == number) (number + 1) n) (Names (step slots 2 number (number + 1) none) (m.0, c))) (sym no_slot)
      (λ s k count there below. let here : slice_index s.words 2 ≡ k.next = ap (λ ws. slice_index ws 2) k.words in name_there slots id number m.0 is_unnamed not_held room s k there (slice_index s.words 2) refl here)

  -- ---- join

  -- the first view, with this list as what both have seen
  abbrev joined_with : PassView → PassView → List Entry → PassView
  joined_with v w seen = record v { pass = record v.pass { seen = seen; known = max v.pass.known w.pass.known; faults = max v.pass.faults w.pass.faults }; olds = v.pass.seen ∷ w.pass.seen ∷ [] }

  joined_fits : (world : Book) (next : ℕ) (v w : PassView) → ViewFits world next v → ViewFits world next w → v.stage ≡ named → (seen since : List Entry) → world.entries ≡ seen ++ since → All (λ e. is_of v.pass.number e ≡ false) since
      → IsPrefix v.pass.seen seen → IsPrefix w.pass.seen seen → ViewFits world next (joined_with v w seen)
  joined_fits world next v w f g is_named seen since entries of_others v_old w_old = record {
    since = since;
    entries = entries;
    of_others = λ _. ((f.of_others is_named).0, of_others);
    faults = let a : v.pass.faults ≤ world.faults = f.faults in let b : w.pass.faults ≤ world.faults = g.faults in omega arith;
    fixed = f.fixed;
    known = let a : v.pass.number ≤ v.pass.known = f.known in omega arith;
    below = let a : v.pass.known < next = f.below in let b : w.pass.known < next = g.below in omega arith;
    olds = All-cons (λ old. IsPrefix old seen) v.pass.seen (w.pass.seen ∷ []) v_old (All-cons (λ old. IsPrefix old seen) w.pass.seen [] w_old (All-nil (λ old. IsPrefix old seen)));
    unnumbered = f.unnumbered;
  }

  both_fits : (world : Book) (next : ℕ) (v w : PassView) → ViewFits world next v → ViewFits world next w → v.stage ≡ named → ViewFits world next (both_views v w)
  both_fits world next v w f g is_named = elim (cases_Bool (nat_lt (length v.pass.seen) (length w.pass.seen))) [
    | inl shorter ↦
        let less : length v.pass.seen < length w.pass.seen = ltb-true (length v.pass.seen) (length w.pass.seen) shorter in
        let parts = two_fronts v.pass.seen f.since w.pass.seen g.since (sym f.entries ∙ g.entries) (omega arith) in
        subst (λ b. ViewFits world next (joined_with v w (cond b w.pass.seen v.pass.seen))) (sym shorter)
        (joined_fits world next v w f g is_named w.pass.seen g.since g.entries (all_behind (λ e. is_of v.pass.number e ≡ false) parts.0 g.since (subst (All (λ e. is_of v.pass.number e ≡ false)) parts.2 (f.of_others is_named).1))
        (prefix-of v.pass.seen parts.0 w.pass.seen (sym parts.1)) (prefix-itself w.pass.seen))
    | inr not_shorter ↦
        let less : length w.pass.seen ≤ length v.pass.seen = ltb-false (length v.pass.seen) (length w.pass.seen) not_shorter in
        let parts = two_fronts w.pass.seen g.since v.pass.seen f.since (sym g.entries ∙ f.entries) less in
        subst (λ b. ViewFits world next (joined_with v w (cond b w.pass.seen v.pass.seen))) (sym not_shorter)
        (joined_fits world next v w f g is_named v.pass.seen f.since f.entries (f.of_others is_named).1 (prefix-itself v.pass.seen) (prefix-of w.pass.seen parts.0 v.pass.seen (sym parts.1)))
  ]

  pub may_join : (id other : ℕ) (v w : PassView) → v.stage ≡ named → v.held ≡ None → w.stage ≢ spent → w.held ≡ None → Joins (LockKept book_of) id v other w (both_views v w) spent_view
  may_join id other v w is_named v_none w_lives w_none s k there differ there' =
      let there_w : get_elem? s.views other ≡ some w = sym (set_else s.views id other (both_views v w) differ) ∙ there' in
      let both : PassView = both_views v w in
      let views : List PassView = set s.views id both in
      record {
        world = k.world;
        turn = k.turn;
        next = k.next;
        words = k.words;
        place = place_none k.world s.homes k.turn views other w spent_view there' w_none refl (place_none k.world s.homes k.turn s.views id v both there v_none v_none k.place);
        room = k.room;
        numbers = k.numbers;
        entries_below = k.entries_below;
        fits = fit_set k.world k.next views other spent_view
            (λ j u not_other at_j live. fit_set k.world k.next s.views id both (λ i x not_id at_i. k.fits i x at_i) (λ _. both_fits k.world k.next v w (k.fits id v there (named_lives v is_named)) (k.fits other w there_w w_lives) is_named) j u at_j live)
            (λ lives. absurd (lives refl));
        apart = apart_set views other spent_view (apart_still s.views id v both k.apart there is_named refl) (λ j u not_other at_j is_u is_spent same. spent_not_named is_spent);
      }
