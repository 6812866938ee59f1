-- The steps of the holder of the turn keep the rule.
use Rattle.std.proofs.Common.{◌≡◌, ◌≢◌, ℕ, ◌+◌, ◌%◌, ◌^◌, ◌<◌, ◌≤◌, ◌⊎◌, inl, inr, ⊎_elim, List, [], ◌∷◌, ◌++◌, length, set, refl, sym, ap, subst, ◌∙◌, arith, false, ne_eqb, append_assoc}
use Rattle.std.specs.Prelude.{All, Option, Some, None, slice_index, slice_set}
use Rattle.std.proofs.lemmas.List.{append-nil}
use Rattle.std.proofs.Math.Nat.{mod-eq_of_lt}
use Rattle.std.proofs.lemmas.List.Elements.{All-nil, All-append, All-weaker}
use mathlib.Core.Option.{some, none, some-injective}
use mathlib.Core.Logic.{dite}
use native.Mathlib.Decide.{ℕ_discrete}
use lib.ListN.{get_elem?}
use Rattle.atomic_table.specs.Table.{State, Me, keeps, gives, step, Allows}
use Rattle.record_rules.specs.Records.{Entry}
use Rattle.session_rules.specs.Sessions.{is_of}
use Rattle.definitions.specs.Prefixes.{IsPrefix}
use Rattle.definitions.proofs.Prefixes.{prefix-of, prefix-itself, prefix-then}
use Rattle.session_rules.specs.Books.{Book, MayGive}
use Rattle.book_lock.specs.Views.{named, HeldBook, PassView, learned, committed, freed}
use Rattle.book_lock.specs.Rule.{ViewFits, BookPlace, LockKept}
use Rattle.book_lock.specs.Steps.{Learns, Commits, Frees}
use Rattle.book_lock.proofs.Views.{here_set, fit_set, apart_still, none_set, others_set, fits_as, refits}
use Rattle.book_lock.proofs.Turns.{named_lives}

-- the book in the slot that was taken last
abbrev pub book_in : {B : Type 0} → List (ℕ × Option B) → B → B
book_in [] other = other
book_in ((slot, None) ∷ more) other = other
book_in ((slot, Some book) ∷ more) other = book

-- what the rule says where a view is the holder's
pub record Holds (world : Book) (turn : ℕ) (views : List PassView) (id : ℕ) (h : HeldBook) : Type 0 where
  pub taken : turn ≡ 1
  pub is_world : h.now ≡ world
  pub others : (j : ℕ) (v : PassView) → get_elem? views j ≡ some v → j ≢ id → v.held ≡ None

same_view : (views : List PassView) (id j : ℕ) (v u : PassView) → get_elem? views id ≡ some v → get_elem? views j ≡ some u → j ≡ id → v ≡ u
same_view views id j v u at_v at_u e = some-injective v u (sym at_v ∙ ap (get_elem? views) (sym e) ∙ at_u)

same_held : (h k : HeldBook) (o p : Option HeldBook) → o ≡ Some h → p ≡ Some k → o ≡ p → k ≡ h
same_held h k o p is_h is_k same = cc (is_h, is_k, same)

module _ {B : Type 0} (book_of : B → Book) where
  pub holder_out : (world : Book) (turn : ℕ) (s : State (Option B) PassView) (id : ℕ) (v : PassView) (h : HeldBook) → get_elem? s.views id ≡ some v → v.held ≡ Some h → BookPlace book_of world turn s.homes s.views
      → (s.homes ≡ none ∷ []) × Holds world turn s.views id h
  holder_out world turn s id v h there held (inl (free, home, none_holds)) = absurd (cc (held, none_holds id v there))
  holder_out world turn s id v h there held (inr (taken, away, out)) =
      let is_holder : out.holder ≡ id = dite (ℕ_discrete id out.holder) (λ e. sym e) (λ ne. absurd (cc (held, out.others id v there ne))) in
      let same : v ≡ out.view = same_view s.views id out.holder v out.view there out.there is_holder in
      let same_now : out.held ≡ h = same_held h out.held v.held out.view.held held out.holds (ap (λ (u : PassView). u.held) same) in (
        away,
        record {
          taken = taken;
          is_world = ap (λ (k : HeldBook). k.now) (sym same_now) ∙ out.is_world;
          others = λ j u at_j not_id. out.others j u at_j (λ e. not_id (e ∙ is_holder));
        },
      )

  -- the holder's own view is replaced, and the book is still out
  pub still_out : (world : Book) (homes : List (mathlib.Core.Option.Option (Option B))) (turn : ℕ) (views : List PassView) (id : ℕ) (v new : PassView) (h k : HeldBook) → homes ≡ none ∷ [] → get_elem? views id ≡ some v → Holds world turn views id h → new.held ≡ Some k → (next_world : Book) → k.now ≡ next_world
      → BookPlace book_of next_world turn homes (set views id new)
  still_out world homes turn views id v new h k away there out held next_world is_world = inr (
    out.taken,
    away,
    record {
      holder = id;
      view = new;
      held = k;
      there = here_set views id v new there;
      holds = held;
      is_world = is_world;
      others = others_set views id new out.others;
    },
  )

  -- the holder has seen the world
  pub fits_whole : (world next_world : Book) (next : ℕ) (v new : PassView) → ViewFits world next v → v.stage ≡ named → IsPrefix world.entries next_world.entries → world.fixed ≡ next_world.fixed
      → new.stage ≡ v.stage → new.olds ≡ v.olds → new.pass ≡ record v.pass { seen = next_world.entries; faults = next_world.faults } → ViewFits next_world next new
  fits_whole world next_world next v new f is_named begins fixed stage olds pass =
      let seen : PassView = record v { pass = record v.pass { seen = next_world.entries; faults = next_world.faults } } in
      let whole : ViewFits next_world next seen = record {
        since = [];
        entries = sym (append-nil next_world.entries);
        of_others = λ _. ((f.of_others is_named).0, All-nil (λ e. is_of v.pass.number e ≡ false));
        faults = omega arith;
        fixed = sym fixed ∙ f.fixed;
        known = f.known;
        below = f.below;
        olds =
            let seen_then : IsPrefix v.pass.seen next_world.entries = prefix-then v.pass.seen world.entries next_world.entries (prefix-of v.pass.seen f.since world.entries (sym f.entries)) begins in
            All-weaker (λ old. IsPrefix old v.pass.seen) (λ old. IsPrefix old next_world.entries) (λ old first. prefix-then old v.pass.seen next_world.entries first seen_then) v.olds f.olds;
        unnumbered = f.unnumbered;
      } in fits_as next_world next seen new whole pass stage olds

  pub learn_allowed : (slots id : ℕ) (v : PassView) (h : HeldBook) (c : List (ℕ × Option B)) → v.stage ≡ named → v.held ≡ Some h → Allows (LockKept book_of) slots id (v, c) 1 (λ n. n) (Learns (step slots 1 0 0 none) (v, c))
  learn_allowed slots id v h c is_named held s k count there below =
      let out = holder_out k.world k.turn s id v h there held k.place in
      let new : PassView = learned h v in
      let here : slice_index s.words 1 ≡ length k.world.entries = ap (λ ws. slice_index ws 1) k.words in (
        new,
        keeps,
        tt,
        record {
          world = k.world;
          turn = k.turn;
          next = k.next;
          words = ap (λ ws. slice_set ws 1 (slice_index ws 1)) k.words;
          place = still_out k.world s.homes k.turn s.views id v new h h out.0 there out.1 held k.world out.1.is_world;
          room = k.room;
          numbers = k.numbers;
          entries_below = k.entries_below;
          fits = fit_set k.world k.next s.views id new (λ j u not_id at_j. k.fits j u at_j)
              (λ live. fits_whole k.world k.world k.next v new (k.fits id v there (named_lives v is_named)) is_named (prefix-itself k.world.entries) refl refl refl (ap (λ (b : Book). record v.pass { seen = b.entries; faults = b.faults }) out.1.is_world));
          apart = apart_still s.views id v new k.apart there is_named refl;
        },
        (λ g is_g. let e : g ≡ h = same_held h g v.held v.held held is_g refl in (ap (λ (x : HeldBook). (learned x v, c)) (sym e), here ∙ ap (λ (b : Book). length b.entries) (sym out.1.is_world) ∙ ap (λ (x : HeldBook). length x.now.entries) (sym e))),
      )

  -- entries of a holder are no others'
  not_mine : (number other : ℕ) (added : List Entry) → All (λ e. (e.caller.number ≡ number) ⊎ (e.caller.number ≡ 0)) added → other ≢ number → 1 ≤ other → All (λ e. is_of other e ≡ false) added
  not_mine number other added own differ some_number =
      All-weaker (λ e. (e.caller.number ≡ number) ⊎ (e.caller.number ≡ 0)) (λ e. is_of other e ≡ false)
      (λ e one. ⊎_elim (λ (is : e.caller.number ≡ number). ne_eqb e.caller.number other (λ same. differ (sym same ∙ is))) (λ (is : e.caller.number ≡ 0). ne_eqb e.caller.number other (λ same. absurd (let z : other ≡ 0 = sym same ∙ is in omega arith))) one) added own

  low_numbers : (number next : ℕ) (added : List Entry) → All (λ e. (e.caller.number ≡ number) ⊎ (e.caller.number ≡ 0)) added → number < next → All (λ e. e.caller.number < next) added
  low_numbers number next added own low =
      All-weaker (λ e. (e.caller.number ≡ number) ⊎ (e.caller.number ≡ 0)) (λ e. e.caller.number < next)
      (λ e one. ⊎_elim (λ (is : e.caller.number ≡ number). subst (λ n. n < next) (sym is) low) (λ (is : e.caller.number ≡ 0). let n : ℕ = e.caller.number in let z : n ≡ 0 = is in omega arith) one) added own

  -- another view still fits when the holder has added entries
  fits_on : (world left : Book) (next number : ℕ) (u : PassView) → ViewFits world next u → MayGive number world left → (u.stage ≡ named → u.pass.number ≢ number) → ViewFits left next u
  fits_on world left next number u f may differ = record {
    since = f.since ++ may.added;
    entries = may.entries ∙ ap (λ l. l ++ may.added) f.entries ∙ append_assoc u.pass.seen f.since may.added;
    of_others = λ is_named. let o = f.of_others is_named in (o.0, All-append (λ e. is_of u.pass.number e ≡ false) f.since may.added o.1 (not_mine number u.pass.number may.added may.own (differ is_named) o.0));
    faults = let low : u.pass.faults ≤ world.faults = f.faults in let high : world.faults ≤ left.faults = may.faults in omega arith;
    fixed = may.fixed ∙ f.fixed;
    known = f.known;
    below = f.below;
    olds = f.olds;
    unnumbered = f.unnumbered;
  }

  pub commit_allowed : (slots id : ℕ) (v : PassView) (h : HeldBook) (b : B) (first second : ℕ) (f : ℕ → ℕ) → v.stage ≡ named → v.held ≡ Some h → MayGive v.pass.number h.now (book_of b)
      → f (length h.now.entries) ≡ length (book_of b).entries → Allows (LockKept book_of) slots id (v, (0, Some b) ∷ []) 1 f (Commits book_of (step slots 1 first second none) (v, (0, Some b) ∷ []))
  commit_allowed slots id v h b first second f is_named held may counts s k count there below =
      let out = holder_out k.world k.turn s id v h there held k.place in
      let left : Book = book_of b in
      let new : PassView = committed h left v in
      let old : ViewFits k.world k.next v = k.fits id v there (named_lives v is_named) in
      let may' : MayGive v.pass.number k.world left = subst (λ w. MayGive v.pass.number w left) out.1.is_world may in
      let counts' : f (length k.world.entries) ≡ length left.entries = subst (λ (w : Book). f (length w.entries) ≡ length left.entries) out.1.is_world counts in
      let number_low : v.pass.number < k.next = let one : v.pass.number ≤ v.pass.known = old.known in let two : v.pass.known < k.next = old.below in omega arith in (
        new,
        keeps,
        tt,
        record {
          world = left;
          turn = k.turn;
          next = k.next;
          words = ap (λ ws. slice_set ws 1 (f (slice_index ws 1))) k.words ∙ ap (λ n. k.turn ∷ n ∷ k.next ∷ []) counts';
          place = still_out k.world s.homes k.turn s.views id v new h (record { found = h.found; now = left }) out.0 there out.1 refl left refl;
          room = may'.room;
          numbers = k.numbers;
          entries_below = subst (All (λ e. e.caller.number < k.next)) (sym may'.entries) (All-append (λ e. e.caller.number < k.next) k.world.entries may'.added k.entries_below (low_numbers v.pass.number k.next may'.added may'.own number_low));
          fits = fit_set left k.next s.views id new
              (λ j u not_id at_j live. fits_on k.world left k.next v.pass.number u (k.fits j u at_j live) may' (λ is_u same. not_id (k.apart j id u v at_j there is_u is_named same)))
              (λ live. fits_whole k.world left k.next v new old is_named (prefix-of k.world.entries may'.added left.entries (sym may'.entries)) (sym may'.fixed) refl refl refl);
          apart = apart_still s.views id v new k.apart there is_named refl;
        },
        (λ g d is_g is_d.
            let same : g ≡ h = same_held h g v.held v.held held is_g refl in
            let same_book : d ≡ b = sym (ap (λ l. book_in l b) is_d) in
            ap (λ (x : B). (committed h (book_of x) v, (0, Some b) ∷ [])) (sym same_book) ∙ ap (λ (x : HeldBook). (committed x (book_of d) v, (0, Some b) ∷ [])) (sym same)),
      )

  pub free_allowed : (slots id : ℕ) (v : PassView) (h : HeldBook) (b : B) → v.stage ≡ named → v.held ≡ Some h → book_of b ≡ h.now
      → Allows (LockKept book_of) slots id (v, (0, Some b) ∷ []) 0 (λ _. 0) (Frees (step slots 0 0 0 none) (v, (0, Some b) ∷ []))
  free_allowed slots id v h b is_named held is_now s k count there below =
      let out = holder_out k.world k.turn s id v h there held k.place in
      let new : PassView = freed h v in
      let old : ViewFits k.world k.next v = k.fits id v there (named_lives v is_named) in (
        new,
        gives,
        tt,
        record {
          world = k.world;
          turn = 0;
          next = k.next;
          words = ap (λ ws. slice_set ws 0 0) k.words;
          place = inl (refl, record { book = b; home = ap (λ hs. slice_set hs 0 (some (Some b))) out.0; is_world = is_now ∙ out.1.is_world }, none_set s.views id new out.1.others refl);
          room = k.room;
          numbers = k.numbers;
          entries_below = k.entries_below;
          fits = fit_set k.world k.next s.views id new (λ j u not_id at_j. k.fits j u at_j) (λ live. refits k.world k.next v new old refl refl refl refl refl refl refl);
          apart = apart_still s.views id v new k.apart there is_named refl;
        },
        (λ g is_g. ap (λ (x : HeldBook). (freed x v, [])) (sym (same_held h g v.held v.held held is_g refl))),
      )

  pub may_learn : (slots id : ℕ) (m : Me (Option B) PassView) → m.0.stage ≡ named → (h : HeldBook) × (m.0.held ≡ Some h) → Allows (LockKept book_of) slots id m 1 (λ n. n) (Learns (step slots 1 0 0 none) m)
  may_learn slots id m is_named h = learn_allowed slots id m.0 h.0 m.1 is_named h.1

  counts_on : (n more total : ℕ) → n + more ≡ total → total < 2 ^ 64 → (n + more) % 2 ^ 64 ≡ total
  counts_on n more total sum low = subst (λ k. k % 2 ^ 64 ≡ total) (sym sum) (mod-eq_of_lt low)

  pub may_commit : (slots id more : ℕ) (m : Me (Option B) PassView) → m.0.stage ≡ named
      → (h : HeldBook) × (b : B) × (m.0.held ≡ Some h) × (m.1 ≡ (0, Some b) ∷ []) × MayGive m.0.pass.number h.now (book_of b) × (length h.now.entries + more ≡ length (book_of b).entries)
      → Allows (LockKept book_of) slots id m 1 (λ n. (n + more) % 2 ^ 64) (Commits book_of (step slots 1 more 0 none) m)
  may_commit slots id more m is_named (h, b, held, slot, may, count) =
      subst (λ c. Allows (LockKept book_of) slots id (m.0, c) 1 (λ n. (n + more) % 2 ^ 64) (Commits book_of (step slots 1 more 0 none) (m.0, c))) (sym slot)
      (commit_allowed slots id m.0 h b more 0 (λ n. (n + more) % 2 ^ 64) is_named held may (counts_on (length h.now.entries) more (length (book_of b).entries) count may.room))

  pub may_free : (slots id : ℕ) (m : Me (Option B) PassView) → m.0.stage ≡ named → (h : HeldBook) × (b : B) × (m.0.held ≡ Some h) × (m.1 ≡ (0, Some b) ∷ []) × (book_of b ≡ h.now)
      → Allows (LockKept book_of) slots id m 0 (λ _. 0) (Frees (step slots 0 0 0 none) m)
  may_free slots id m is_named (h, b, held, slot, is_now) =
      subst (λ c. Allows (LockKept book_of) slots id (m.0, c) 0 (λ _. 0) (Frees (step slots 0 0 0 none) (m.0, c))) (sym slot) (free_allowed slots id m.0 h b is_named held is_now)
