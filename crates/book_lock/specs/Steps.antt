-- What each kind of step tells the seat that makes it.
use Rattle.std.specs.Prelude.{◌≡◌, ◌≢◌, ℕ, ◌-◌, ◌<◌, ◌≤◌, ◌^◌, [], ◌∷◌, length, All, false, Option, Some}
use Rattle.atomic_table.specs.Table.{Me, Step}
use Rattle.definitions.specs.Prefixes.{IsPrefix}
use Rattle.session_rules.specs.Sessions.{is_of}
use Rattle.session_rules.specs.Books.{Book, Finds}
use Rattle.book_lock.specs.Views.{HeldBook, PassView, holding, learned, committed, freed, looked, named_view}

module _ {B : Type 0} where
  -- the turn was taken, with this book
  abbrev pub TakesBook : (B → Book) → PassView → Me (Option B) PassView → Type 0
  TakesBook book_of v r = (b : B) × (r ≡ (holding (book_of b) v, (0, Some b) ∷ [])) × Finds v.pass (book_of b) × (length (book_of b).entries < 2 ^ 64)

  -- it was taken where the word was 0, and else nothing happened
  abbrev pub Tries : (B → Book) → Step (Option B) → Me (Option B) PassView → ℕ → Me (Option B) PassView → Type 0
  Tries book_of st m n r = (n ≡ 0 → TakesBook book_of m.0 r) × (n ≢ 0 → r ≡ m)

  -- the holder has seen the book that it found, whose entries the word counts
  abbrev pub Learns : Step (Option B) → Me (Option B) PassView → ℕ → Me (Option B) PassView → Type 0
  Learns st m n r = (h : HeldBook) → m.0.held ≡ Some h → (r ≡ (learned h m.0, m.1)) × (n ≡ length h.now.entries)

  -- the book that lies in the slot is what all are to find
  abbrev pub Commits : (B → Book) → Step (Option B) → Me (Option B) PassView → ℕ → Me (Option B) PassView → Type 0
  Commits book_of st m n r = (h : HeldBook) (b : B) → m.0.held ≡ Some h → m.1 ≡ (0, Some b) ∷ [] → r ≡ (committed h (book_of b) m.0, m.1)

  -- the turn was given, and the slot with it
  abbrev pub Frees : Step (Option B) → Me (Option B) PassView → ℕ → Me (Option B) PassView → Type 0
  Frees st m n r = (h : HeldBook) → m.0.held ≡ Some h → r ≡ (freed h m.0, [])

  -- the seat knows that one less than the next number were given, and that what it joined begins what it has seen
  abbrev pub Looks : Step (Option B) → Me (Option B) PassView → ℕ → Me (Option B) PassView → Type 0
  Looks st m n r = (r ≡ (looked (n - 1) m.0, m.1)) × (2 ≤ n) × (n ≤ 65536) × (m.0.pass.known < n) × All (λ old. IsPrefix old m.0.pass.seen) m.0.olds

  -- the seat got this number, which none of the entries has that it has seen
  abbrev pub GetsNumber : ℕ → Me (Option B) PassView → Me (Option B) PassView → Type 0
  GetsNumber number old new = (new ≡ (named_view number old.0, old.1)) × All (λ entry. is_of number entry ≡ false) old.0.pass.seen

  -- the seat got the number where it was the next one, and else nothing happened
  abbrev pub Names : Step (Option B) → Me (Option B) PassView → ℕ → Me (Option B) PassView → Type 0
  Names st m n r = (n ≡ st.first → GetsNumber n m r) × (n ≢ st.first → r ≡ m)
