-- A turn of the store, taken and given at the lock, is one turn of the pass.
use Rattle.std.proofs.Common.{◌≡◌, ◌≢◌, ℕ, ◌<◌, ◌≤◌, ◌^◌, true, false, List, [], ◌∷◌, length, Option, None, sym, ◌∙◌, ap, subst, append-nil, arith}
use Rattle.std.specs.Prelude.{IfSome}
use Rattle.std.specs.Option.{unwrap_or}
use Rattle.definitions.specs.Counts.{Rose}
use Rattle.definitions.specs.Uses.{Used}
use Rattle.definitions.proofs.Counts.{Rose-has_risen}
use Rattle.step_rules.specs.ReadTurns.{ReadAnswer, read_faulted}
use Rattle.session_rules.specs.Sessions.{Asked, SessionReply, SessionAnswer, caller_of}
use Rattle.session_rules.specs.Passes.{Pass}
use Rattle.session_rules.specs.Books.{MayGive, PassTakes, PassGives, PassTurn}
use Rattle.session_rules.specs.Stores.{StoreState, store_book, StoreTurn}
use Rattle.session_rules.proofs.Books.{may_be_given}
use Rattle.book_lock.specs.LockPasses.{LockPass, with_turn}
use Rattle.book_lock.proofs.Laws.{turn_of_pass}
use Rattle.shared_store.specs.Books.{has_key, keyed_by}
use Rattle.shared_store.specs.Turns.{book_at, TurnOf, ReadsIn}

-- a key that the fixed part shows is there
pub key_there : (host : ℕ) (key : Option (List ℕ)) (fixed : List ℕ) → host ∷ unwrap_or key [] ≡ fixed → has_key fixed ≡ true → key ≢ None
key_there host key fixed same has none = absurd (no_key (ap (λ (f : List ℕ). has_key f) (ap (λ (k : Option (List ℕ)). host ∷ unwrap_or k []) (sym none) ∙ same) ∙ has)) where
  no_key : false ≡ true → ⊥
  no_key e = absurd cc

-- The pass took the turn, and found this fixed part and this store; what it gives back has the same fixed part.
module _ (old taken : LockPass) (was is : List ℕ) (found left : StoreState) where
  -- it is the pass's own
  its_fixed : PassTakes old.pass (store_book was found) taken.pass → was ≡ old.pass.fixed
  its_fixed takes = takes.finds.fixed

  -- what may be given by the pass's number may be given
  given_by : taken ≡ with_turn old (store_book was found) → MayGive old.pass.number (store_book was found) (store_book is left) → IfSome taken.out (λ book. MayGive taken.pass.number book (store_book is left))
  given_by out may = subst (λ (p : LockPass). IfSome p.out (λ book. MayGive p.pass.number book (store_book is left))) (sym out) may

  -- so may what a turn of the store leaves
  pub may_leave : (call : ℕ) (asked : Asked) (used : Used) (answer : SessionAnswer) → taken ≡ with_turn old (store_book was found) → is ≡ was
      → StoreTurn (keyed_by was) found (caller_of old.pass.number call) asked used left answer → length left.entries < 2 ^ 64 → IfSome taken.out (λ book. MayGive taken.pass.number book (store_book is left))
  may_leave call asked used answer out same turn room =
      given_by out (subst (λ (f : List ℕ). MayGive old.pass.number (store_book was found) (store_book f left)) (sym same) (may_be_given (keyed_by was) old.pass.number call was found asked used left answer turn room))

  -- and a store whose journal is left as it was
  pub may_rest : taken ≡ with_turn old (store_book was found) → is ≡ was → left.entries ≡ found.entries → found.faults ≤ left.faults → length left.entries < 2 ^ 64 → IfSome taken.out (λ book. MayGive taken.pass.number book (store_book is left))
  may_rest out same rests counted room = given_by out (record {
    added = [];
    entries = rests ∙ sym (append-nil found.entries);
    own = λ k d below. absurd (omega arith);
    faults = counted;
    fixed = same;
    room = room;
  })

  -- the turn of the pass, with its own fixed part
  pub its_turn : (after : Pass) → PassTakes old.pass (store_book was found) taken.pass → taken ≡ with_turn old (store_book was found) → is ≡ was → IfSome taken.out (λ book. PassGives taken.pass book (store_book is left) after)
      → PassTurn old.pass (book_at old.pass found) (book_at old.pass left) after
  its_turn after takes out same gives =
      let turn = turn_of_pass old taken (store_book was found) (store_book is left) after takes out gives in
      subst (λ (f : List ℕ). PassTurn old.pass (store_book f found) (store_book f left) after) (its_fixed takes) (subst (λ (f : List ℕ). PassTurn old.pass (store_book was found) (store_book f left) after) same turn)

  pub turn_of : (after : Pass) (call : ℕ) (asked : Asked) (used : Used) (reply : SessionReply) → PassTakes old.pass (store_book was found) taken.pass → taken ≡ with_turn old (store_book was found) → is ≡ was
      → StoreTurn (keyed_by was) found (caller_of old.pass.number call) asked used left reply.answer → reply.front ≡ length left.entries
      → IfSome taken.out (λ book. PassGives taken.pass book (store_book is left) after) → TurnOf old.pass after call asked used reply
  turn_of after call asked used reply takes out same turn front gives = record {
    found = found;
    left = left;
    pass = its_turn after takes out same gives;
    answers = subst (λ (f : List ℕ). StoreTurn (keyed_by f) found (caller_of old.pass.number call) asked used left reply.answer) (its_fixed takes) turn;
    front = front;
    failed = λ told. Rose-has_risen found.faults left.faults (turn.told told);
  }

  unfoldable pub reads_in : (after : Pass) (answer : ReadAnswer) → PassTakes old.pass (store_book was found) taken.pass → taken ≡ with_turn old (store_book was found) → is ≡ was
      → left.entries ≡ found.entries → left.doubt ≡ found.doubt → (answer ≡ read_faulted → Rose found.faults left.faults) → IfSome taken.out (λ book. PassGives taken.pass book (store_book is left) after) → ReadsIn old.pass after answer
  reads_in after answer takes out same entries doubt failed gives = record {
    found = found;
    left = left;
    pass = its_turn after takes out same gives;
    entries = entries;
    doubt = doubt;
    failed = λ told. Rose-has_risen found.faults left.faults (failed told);
  }
