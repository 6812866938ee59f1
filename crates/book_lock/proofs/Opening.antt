-- The rule holds of the table as it is made.
use Rattle.std.proofs.Common.{◌≡◌, ℕ, zero, suc, ◌^◌, ◌<◌, inl, false, List, [], ◌∷◌, ◌++◌, length, refl, sym, ap, subst, ◌∙◌, arith}
use Rattle.std.specs.Prelude.{All, Option, Some}
use Rattle.std.proofs.lemmas.List.{append-nil}
use Rattle.std.proofs.lemmas.List.Elements.{All-nil, All-weaker}
use mathlib.Core.Option.{some, some-injective, some-ne-none}
use lib.ListN.{get_elem?}
use Rattle.atomic_table.specs.Table.{opening}
use Rattle.session_rules.specs.Sessions.{is_of}
use Rattle.definitions.specs.Prefixes.{IsPrefix}
use Rattle.session_rules.specs.Books.{Book}
use Rattle.book_lock.specs.Views.{PassView, first_view}
use Rattle.book_lock.specs.Rule.{ViewFits, LockKept}

-- the only one of a list
only : (v u : PassView) (i : ℕ) → get_elem? (v ∷ []) i ≡ some u → (i ≡ 0) × (v ≡ u)
only v u zero at = (refl, some-injective v u at)
only v u (suc i) at = absurd (some-ne-none u (sym at))

first_fits : (book : Book) → ViewFits book 2 (first_view book)
first_fits book = record {
  since = [];
  entries = sym (append-nil book.entries);
  of_others = λ _. (omega arith, All-nil (λ e. is_of 1 e ≡ false));
  faults = omega arith;
  fixed = refl;
  known = omega arith;
  below = omega arith;
  olds = All-nil (λ old. IsPrefix old book.entries);
  unnumbered = λ e. absurd (cc e);
}

pub opens : {B : Type 0} (book_of : B → Book) (b : B) → length (book_of b).entries < 2 ^ 64 → All (λ e. e.caller.number ≡ 0) (book_of b).entries
    → LockKept book_of (opening (0 ∷ length (book_of b).entries ∷ 2 ∷ []) (Some b ∷ []) (first_view (book_of b)))
opens book_of b room of_none = record {
  world = book_of b;
  turn = 0;
  next = 2;
  words = refl;
  place = inl (refl, record { book = b; home = refl; is_world = refl }, λ i v at. ap (λ (u : PassView). u.held) (sym (only (first_view (book_of b)) v i at).1));
  room = room;
  numbers = (omega arith, omega arith);
  entries_below = All-weaker (λ e. e.caller.number ≡ 0) (λ e. e.caller.number < 2) (λ e z. let n : ℕ = e.caller.number in let is : n ≡ 0 = z in omega arith) (book_of b).entries of_none;
  fits = λ i v at live. subst (ViewFits (book_of b) 2) (only (first_view (book_of b)) v i at).1 (first_fits (book_of b));
  apart = λ i j v w at_i at_j is_v is_w same. (only (first_view (book_of b)) v i at_i).0 ∙ sym (only (first_view (book_of b)) w j at_j).0;
}

pub opens_with : {B : Type 0} (book_of : B → Book) (b key : B) (count : ℕ) (start items : List (Option B)) → length (book_of b).entries < 2 ^ 64 → All (λ e. e.caller.number ≡ 0) (book_of b).entries
    → count ≡ length (book_of b).entries → key ≡ b → start ≡ [] → items ≡ start ++ Some b ∷ [] → LockKept book_of (opening (0 ∷ count ∷ 2 ∷ []) items (first_view (book_of key)))
opens_with {B} book_of b key count start items room of_none counted is_key none_yet are =
    let items_are : items ≡ Some b ∷ [] = are ∙ ap (λ l. l ++ Some b ∷ []) none_yet in
    subst (λ n. LockKept book_of (opening (0 ∷ n ∷ 2 ∷ []) items (first_view (book_of key)))) (sym counted)
    (subst (λ l. LockKept book_of (opening (0 ∷ length (book_of b).entries ∷ 2 ∷ []) l (first_view (book_of key)))) (sym items_are)
    (subst (λ (x : B). LockKept book_of (opening (0 ∷ length (book_of b).entries ∷ 2 ∷ []) (Some b ∷ []) (first_view (book_of x)))) (sym is_key) (opens book_of b room of_none)))
