-- The steps that take and give the turn keep the rule.
use Rattle.std.proofs.Common.{◌≡◌, ◌≢◌, ℕ, ◌^◌, ◌<◌, inl, inr, [], length, refl, sym, ap, subst, ◌∙◌}
use Rattle.std.specs.Prelude.{Option, Some, ◌==◌, slice_index, slice_set}
use mathlib.Core.Option.{some, none}
use lib.ListN.{get_elem?}
use prog.Atomic.{either}
use Rattle.atomic_table.specs.Table.{State, Me, Act, keeps, takes, step, Allows, stepped, Valid, carried_after}
use Rattle.atomic_table.proofs.Lists.{set_again}
use Rattle.session_rules.specs.Books.{Book, Finds}
use Rattle.book_lock.specs.Views.{named, spent, PassView, holding}
use Rattle.book_lock.specs.Rule.{NumbersApart, AllFit, NoneHolds, IsHome, BookPlace, LockKept}
use Rattle.book_lock.specs.Steps.{Tries}
use Rattle.book_lock.proofs.Views.{here_set, fit_set, apart_still, others_set, fits_as, fits_finds}

pub named_lives : (v : PassView) → v.stage ≡ named → v.stage ≢ spent
named_lives v is_named is_spent = cc (is_named, is_spent)

module _ {B : Type 0} (book_of : B → Book) where
  -- an unchanged table
  pub same_state : (s : State (Option B) PassView) (k : LockKept book_of s) (id : ℕ) (v : PassView) (i : ℕ) → get_elem? s.views id ≡ some v → slice_set s.words i (slice_index s.words i) ≡ s.words
      → LockKept book_of (stepped s i (slice_index s.words i) id [] v keeps)
  same_state s k id v i at same = record {
    world = k.world;
    turn = k.turn;
    next = k.next;
    words = same ∙ k.words;
    place = subst (BookPlace book_of k.world k.turn s.homes) (sym (set_again s.views id v at)) k.place;
    room = k.room;
    numbers = k.numbers;
    entries_below = k.entries_below;
    fits = subst (AllFit k.world k.next) (sym (set_again s.views id v at)) k.fits;
    apart = subst NumbersApart (sym (set_again s.views id v at)) k.apart;
  }

  -- the book is at home, and the view takes it
  take_home : (id : ℕ) (v : PassView) (s : State (Option B) PassView) (k : LockKept book_of s) → v.stage ≡ named → get_elem? s.views id ≡ some v → k.turn ≡ 0 → (home : IsHome book_of k.world s.homes) → NoneHolds s.views
      → LockKept book_of (stepped s 0 1 id [] (holding (book_of home.book) v) (takes 0 (Some home.book)))
  take_home id v s k is_named there free home none_holds =
      let new : PassView = holding (book_of home.book) v in
      record {
        world = k.world;
        turn = 1;
        next = k.next;
        words = ap (λ ws. slice_set ws 0 1) k.words;
        place = inr (
          refl,
          ap (λ hs. slice_set hs 0 none) home.home,
          record {
            holder = id;
            view = new;
            held = record { found = book_of home.book; now = book_of home.book };
            there = here_set s.views id v new there;
            holds = refl;
            is_world = home.is_world;
            others = others_set s.views id new (λ j u at_j not_id. none_holds j u at_j);
          },
        );
        room = k.room;
        numbers = k.numbers;
        entries_below = k.entries_below;
        fits = fit_set k.world k.next s.views id new (λ j u not_id at_j. k.fits j u at_j) (λ live. fits_as k.world k.next v new (k.fits id v there (named_lives v is_named)) refl refl refl);
        apart = apart_still s.views id v new k.apart there is_named refl;
      }

  taken_there : (v : PassView) (slots id : ℕ) (s : State (Option B) PassView) → v.stage ≡ named → (k : LockKept book_of s) → get_elem? s.views id ≡ some v → slice_index s.words 0 ≡ k.turn
      → (n : ℕ) → slice_index s.words 0 ≡ n → BookPlace book_of k.world k.turn s.homes s.views
      → (w : PassView) × (a : Act (Option B)) × Valid s.homes [] a × LockKept book_of (stepped s 0 (either (n == 0) 1 n) id [] w a) × Tries book_of (step slots 0 0 1 none) (v, []) n (w, carried_after [] a)
  taken_there v slots id s is_named k there first n is_n (inl (free, home, none_holds)) =
      let n_is : n ≡ 0 = sym is_n ∙ first ∙ free in
      let book : Book = book_of home.book in (
        holding book v,
        takes 0 (Some home.book),
        ap (λ hs. get_elem? hs 0) home.home,
        subst (λ c. LockKept book_of (stepped s 0 (either (c == 0) 1 c) id [] (holding book v) (takes 0 (Some home.book)))) (sym n_is) (take_home id v s k is_named there free home none_holds),
        (
          (λ z. (
            home.book,
            refl,
            subst (Finds v.pass) (sym home.is_world) (fits_finds k.world k.next v (k.fits id v there (named_lives v is_named)) is_named),
            subst (λ (b : Book). length b.entries < 2 ^ 64) (sym home.is_world) k.room,
          )),
          (λ nonzero. absurd (nonzero n_is)),
        ),
      )
  taken_there v slots id s is_named k there first n is_n (inr (taken, away, out)) =
      let n_is : n ≡ 1 = sym is_n ∙ first ∙ taken in
      let word_is : slice_index s.words 0 ≡ 1 = is_n ∙ n_is in (
        v,
        keeps,
        tt,
        subst (λ c. LockKept book_of (stepped s 0 c id [] v keeps)) (word_is ∙ ap (λ c. either (c == 0) 1 c) (sym n_is)) (same_state s k id v 0 there (ap (λ ws. slice_set ws 0 (slice_index ws 0)) k.words ∙ sym k.words)),
        ((λ zero. absurd (cc (n_is, zero))), (λ nonzero. refl)),
      )

  pub take_allowed : (slots id : ℕ) (v : PassView) → v.stage ≡ named → Allows (LockKept book_of) slots id (v, []) 0 (λ n. either (n == 0) 1 n) (Tries book_of (step slots 0 0 1 none) (v, []))
  take_allowed slots id v is_named s k count there below = taken_there v slots id s is_named k there (ap (λ ws. slice_index ws 0) k.words) (slice_index s.words 0) refl k.place

  pub may_take : (slots id : ℕ) (m : Me (Option B) PassView) → m.0.stage ≡ named → m.1 ≡ [] → Allows (LockKept book_of) slots id m 0 (λ n. either (n == 0) 1 n) (Tries book_of (step slots 0 0 1 none) m)
  may_take slots id m is_named no_slot =
      subst (λ c. Allows (LockKept book_of) slots id (m.0, c) 0 (λ n. either (n == 0) 1 n) (Tries book_of (step slots 0 0 1 none) (m.0, c))) (sym no_slot) (take_allowed slots id m.0 is_named)
