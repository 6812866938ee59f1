-- What the steps of `take` and `give` together leave of a pass.
use Rattle.std.proofs.Common.{◌≡◌, ℕ, ◌+◌, ◌-◌, ◌^◌, ◌<◌, ◌≤◌, max, inl, inr, [], ◌∷◌, length, refl, sym, ap, subst, ◌∙◌, arith}
use Rattle.std.specs.Prelude.{All, Option, Some, None, IfSome, option_map}
use Rattle.atomic_table.specs.Table.{Me}
use Rattle.atomic_table.specs.Seated.{TableId}
use Rattle.definitions.specs.Prefixes.{IsPrefix}
use Rattle.session_rules.specs.Passes.{Pass, knowing, joined, Joins}
use Rattle.session_rules.specs.Books.{Book, MayGive, Finds, has_seen, after_turn, PassTakes, PassGives}
use Rattle.book_lock.specs.Views.{named, HeldBook, PassView, holding, learned, committed, freed, looked, both_views}
use Rattle.book_lock.specs.Steps.{TakesBook}
use Rattle.book_lock.specs.LockPasses.{LockPass, with_turn, IsTurnOf, found_of, out_with, IsIn, IsOutWith, IsPassSeat, PickedUp, GivesBack, left_by}
use Rattle.book_lock.proofs.Holding.{book_in}

abbrev pub found_in : Option HeldBook → Book → Book
found_in None other = other
found_in (Some h) other = h.found

abbrev pub book_or : Option Book → Book → Book
book_or None other = other
book_or (Some book) other = book

module _ {B : Type 0} (book_of : B → Book) where
  pub is_in : (m : Me (Option B) PassView) → IsPassSeat m → found_of m.0 ≡ None → IsIn m
  is_in m (is_named, inl rest) out = rest
  is_in m (is_named, inr (book, known)) out = absurd (let held = known.0 in cc (held, out))

  abbrev pub both : Book → HeldBook
  both book = record { found = book; now = book }

  pub picked_up : (v : PassView) (book : B) (won picked : Me (Option B) PassView) → TakesBook book_of v won → won.1 ≡ (0, Some book) ∷ [] → picked ≡ (won.0, (0, None) ∷ []) → PickedUp book_of v book picked
  picked_up v book won picked (b, seat, finds, room) slot empty =
      let same : b ≡ book = ap (λ l. book_in l b) (sym (ap (λ m. m.1) seat) ∙ slot) in
      record {
        seat = empty ∙ ap (λ m. (m.0, (0, None) ∷ [])) seat ∙ ap (λ (x : B). (holding (book_of x) v, (0, None) ∷ [])) same;
        finds = subst (λ x. Finds v.pass (book_of x)) same finds;
        room = subst (λ x. length (book_of x).entries < 2 ^ 64) same room;
      }

  pub may_learn_it : (v : PassView) (book : B) (m : Me (Option B) PassView) → v.stage ≡ named → PickedUp book_of v book m → (m.0.stage ≡ named) × ((h : HeldBook) × (m.0.held ≡ Some h))
  may_learn_it v book m is_named p = (ap (λ x. x.0.stage) p.seat ∙ is_named, (both (book_of book), ap (λ x. x.0.held) p.seat))

  -- and learned
  pub record Took (v : PassView) (book : Book) (count : ℕ) (m : Me (Option B) PassView) : Type 0 where
    pub seat : m ≡ (learned (both book) (holding book v), (0, None) ∷ [])
    pub counted : count ≡ length book.entries

  pub took : (v : PassView) (book : B) (m after : Me (Option B) PassView) (count : ℕ) → PickedUp book_of v book m
      → ((h : HeldBook) → m.0.held ≡ Some h → (after ≡ (learned h m.0, m.1)) × (count ≡ length h.now.entries)) → Took v (book_of book) count after
  took v book m after count p learns = let l = learns (both (book_of book)) (ap (λ x. x.0.held) p.seat) in record {
    seat = l.0 ∙ ap (λ x. (learned (both (book_of book)) x.0, x.1)) p.seat;
    counted = l.1;
  }

  pub took_is_pass : (v : PassView) (book : Book) (count : ℕ) (m : Me (Option B) PassView) → v.stage ≡ named → length book.entries < 2 ^ 64 → Took v book count m → (number : ℕ) → number ≡ v.pass.number → IsPassSeat m × (number ≡ m.0.pass.number)
  took_is_pass v book count m is_named room t number is_number =
      ((ap (λ x. x.0.stage) t.seat ∙ is_named, inr (book, (ap (λ x. x.0.held) t.seat, ap (λ x. x.1) t.seat, ap (λ x. x.0.pass) t.seat ∙ ap (λ x. has_seen x.0.pass book) (sym t.seat), room))), is_number ∙ ap (λ x. x.0.pass.number) (sym t.seat))

  abbrev pub passing : TableId → Me (Option B) PassView → LockPass
  passing lock m = record { lock = lock; pass = m.0.pass; out = found_of m.0 }

  pub takes_it : (old after : Me (Option B) PassView) (book : Book) (count : ℕ) (p : Pass) → old.0.pass ≡ p → Finds old.0.pass book → length book.entries < 2 ^ 64 → Took old.0 book count after → PassTakes p book after.0.pass
  takes_it old after book count p is finds room t = subst (λ q. PassTakes q book after.0.pass) is (record { finds = finds; room = room; taken_is = ap (λ m. m.0.pass) t.seat })

  pub took_is_taken : (lock old_lock : TableId) (old after : Me (Option B) PassView) (p : LockPass) (book : Book) (count : ℕ) → lock ≡ old_lock → passing old_lock old ≡ p → Took old.0 book count after → passing lock after ≡ with_turn p book
  took_is_taken lock old_lock old after p book count same is_p t =
      ap (λ m. passing lock m) t.seat ∙ ap (λ l. record { lock = l; pass = has_seen old.0.pass book; out = Some book }) same ∙ ap (λ q. with_turn q book) is_p

  pub took_is_turn : (lock new_lock : TableId) (v : PassView) (after : Me (Option B) PassView) (book : Book) (count : ℕ) → lock ≡ new_lock → Took v book count after → IsTurnOf lock count (passing new_lock after)
  took_is_turn lock new_lock v after book count same t = record { same = same; found = book; out = ap (λ m. found_of m.0) t.seat; counted = t.counted }

  -- ---- giving

  pub is_out : (m : Me (Option B) PassView) (found : Book) → IsPassSeat m → found_of m.0 ≡ Some found → IsOutWith m found
  is_out m found (is_named, inl rest) out = absurd (let held = rest.0 in cc (held, out))
  is_out m found (is_named, inr (book, known)) out =
      let held = known.0 in
      let same : book ≡ found = ap (λ o. book_or o book) (sym (ap (λ (h : Option HeldBook). option_map (λ (x : HeldBook). x.found) h) held) ∙ out) in
      subst (IsOutWith m) same known

  -- the steps of `give_book`
  pub put : (m : Me (Option B) PassView) (book : B) (count : ℕ) (down : Me (Option B) PassView) (more : ℕ) → (gives : GivesBack book_of m book count) → down ≡ (m.0, (0, Some book) ∷ []) → count + more ≡ length (book_of book).entries
      → (down.0.stage ≡ named) × ((h : HeldBook) × (b : B) × (down.0.held ≡ Some h) × (down.1 ≡ (0, Some b) ∷ []) × MayGive down.0.pass.number h.now (book_of b) × (length h.now.entries + more ≡ length (book_of b).entries))
  put m book count down more gives is_down sum = (
    ap (λ d. d.0.stage) is_down ∙ gives.is_named,
    (
      both gives.found,
      book,
      ap (λ d. d.0.held) is_down ∙ gives.held,
      ap (λ d. d.1) is_down,
      subst (λ (d : Me (Option B) PassView). MayGive d.0.pass.number gives.found (book_of book)) (sym is_down) gives.may,
      ap (λ n. n + more) (sym gives.counted) ∙ sum,
    ),
  )

  -- what was committed
  pub shown : (m : Me (Option B) PassView) (book : B) (count : ℕ) (down after : Me (Option B) PassView) → (gives : GivesBack book_of m book count) → down ≡ (m.0, (0, Some book) ∷ [])
      → ((h : HeldBook) (b : B) → down.0.held ≡ Some h → down.1 ≡ (0, Some b) ∷ [] → after ≡ (committed h (book_of b) down.0, down.1))
      → after ≡ (committed (both gives.found) (book_of book) m.0, (0, Some book) ∷ [])
  shown m book count down after gives is_down commits =
      commits (both gives.found) book (ap (λ d. d.0.held) is_down ∙ gives.held) (ap (λ d. d.1) is_down) ∙ ap (λ d. (committed (both gives.found) (book_of book) d.0, d.1)) is_down

  pub may_free_it : (m : Me (Option B) PassView) (book : B) (found : Book) (after : Me (Option B) PassView) → m.0.stage ≡ named → after ≡ (committed (both found) (book_of book) m.0, (0, Some book) ∷ [])
      → (after.0.stage ≡ named) × ((h : HeldBook) × (b : B) × (after.0.held ≡ Some h) × (after.1 ≡ (0, Some b) ∷ []) × (book_of b ≡ h.now))
  may_free_it m book found after is_named is_after =
      (ap (λ d. d.0.stage) is_after ∙ is_named, (record { found = found; now = book_of book }, book, ap (λ d. d.0.held) is_after, ap (λ d. d.1) is_after, refl))

  pub freed_it : (m : Me (Option B) PassView) (book : B) (found other : Book) (after last : Me (Option B) PassView) → after ≡ (committed (both found) (book_of book) m.0, (0, Some book) ∷ [])
      → ((h : HeldBook) → after.0.held ≡ Some h → last ≡ (freed h after.0, [])) → m.0.held ≡ out_with found → m.0.held ≡ out_with other → last ≡ (left_by other (book_of book) m.0, [])
  freed_it m book found other after last is_after frees held held_other =
      let same : found ≡ other = ap (λ h. found_in h found) (sym held ∙ held_other) in
      frees (record { found = found; now = book_of book }) (ap (λ d. d.0.held) is_after) ∙ ap (λ d. (freed (record { found = found; now = book_of book }) d.0, [])) is_after
      ∙ ap (λ (f : Book). (left_by f (book_of book) m.0, [])) same

  -- the pass has given the turn in which it found this book
  pub gave_it : (lock : TableId) (m after : Me (Option B) PassView) (p : LockPass) (found left : Book) → passing lock m ≡ p → p.out ≡ Some found → IsPassSeat m → IfSome p.out (λ book. MayGive p.pass.number book left)
      → ((book : Book) → m.0.held ≡ out_with book → after ≡ (left_by book left m.0, [])) → IfSome p.out (λ book. PassGives p.pass book left after.0.pass)
  gave_it lock m after p found left is_p out seat may gives =
      let held = (is_out m found seat (ap (λ (q : LockPass). q.out) is_p ∙ out)).0 in
      let end : after.0.pass ≡ after_turn p.pass found left = ap (λ x. x.0.pass) (gives found held) ∙ ap (λ (q : LockPass). after_turn q.pass found left) is_p in
      let here : PassGives p.pass found left after.0.pass = record { may = subst (λ o. IfSome o (λ book. MayGive p.pass.number book left)) out may; after_is = end } in
      subst (λ o. IfSome o (λ book. PassGives p.pass book left after.0.pass)) (sym out) here

  -- ---- joining

  joined_so : (lock : TableId) (m : Me (Option B) PassView) (q : LockPass) (n : ℕ) → 2 ≤ n → n ≤ 65536 → max m.0.pass.known q.pass.known < n
      → IsPrefix m.0.pass.seen (joined m.0.pass q.pass).seen → IsPrefix q.pass.seen (joined m.0.pass q.pass).seen
      → Joins m.0.pass q.pass (knowing (joined m.0.pass q.pass) (n - 1))
  joined_so lock m q n two most low old other = record {
    known = n - 1;
    new_is = refl;
    grown = omega arith;
    at_most = omega arith;
    seen = old;
    other_seen = other;
  }

  pub joins : (lock new_lock other_lock : TableId) (m o t after : Me (Option B) PassView) (n : ℕ) (p q : LockPass) → passing lock m ≡ p → passing other_lock o ≡ q → new_lock ≡ lock
      → t ≡ (both_views m.0 o.0, m.1) → after ≡ (looked (n - 1) t.0, t.1) → 2 ≤ n → n ≤ 65536 → t.0.pass.known < n → All (λ old. IsPrefix old t.0.pass.seen) t.0.olds
      → Joins p.pass q.pass after.0.pass
  joins lock new_lock other_lock m o t after n p q is_p is_q same is_t is_after two most low olds =
      let both : PassView = both_views m.0 o.0 in
      let olds' : All (λ old. IsPrefix old both.pass.seen) both.olds = subst (λ (x : Me (Option B) PassView). All (λ old. IsPrefix old x.0.pass.seen) x.0.olds) is_t olds in
      let low' : max m.0.pass.known o.0.pass.known < n = subst (λ (x : Me (Option B) PassView). x.0.pass.known < n) is_t low in
      let end : after.0.pass ≡ knowing (joined m.0.pass o.0.pass) (n - 1) = ap (λ x. x.0.pass) (is_after ∙ ap (λ x. (looked (n - 1) x.0, x.1)) is_t) in
      subst (λ x. Joins p.pass q.pass x) (sym end) (subst (λ x. Joins x.pass q.pass (knowing (joined m.0.pass o.0.pass) (n - 1))) is_p
      (subst (λ x. Joins m.0.pass x.pass (knowing (joined m.0.pass o.0.pass) (n - 1))) is_q
      (joined_so lock m (passing other_lock o) n two most low' (olds' 0 [] (omega arith)) (olds' 1 [] (omega arith)))))
