-- What stands in a block stands there as texts are added.
use Rattle.std.proofs.Common.{◌≡◌, ◌⊎◌, inl, inr, ℕ, zero, suc, ◌+◌, ◌≤◌, ◌<◌, List, [], ◌∷◌, ◌++◌, map, length, drop, get_or, Some, Bool, true, false, refl, sym, ap, subst, ◌∙◌, arith, append_assoc, append-nil, length-append}
use Rattle.std.specs.Prelude.{slice_get, Result, Ok, Err, OnOk, OnErr, if◌then◌else◌, ◌/◌}
use Rattle.std.specs.List.{list_any}
use Rattle.std.specs.Char.{to_ascii_lowercase}
use Rattle.std.proofs.lemmas.List.{length-map}
use Rattle.std.proofs.lemmas.Option.{slice_get_within}
use Rattle.std.proofs.Math.Seq.{drop-append_seam}
use Rattle.indexmap.specs.IndexSet.{insert_key}
use Rattle.definitions.specs.Search.{stands_in}
use Rattle.definitions.proofs.Search.{stands_in-at}
use Rattle.history_view.specs.Folded.{block_of, StandsFrom, KeepsBlocks, AreFolded, HoldsBlock, BeginsFolded}

-- ---- one block

from_more : (text block more : List ℕ) (start : ℕ) → StandsFrom text block start → StandsFrom text (block ++ more) start
from_more text block more start at = record {
  before = at.before;
  behind = at.behind ++ more;
  far = at.far;
  is = ap (λ (xs : List ℕ). xs ++ more) at.is ∙ append_assoc at.before (text ++ at.behind) more ∙ ap (λ (xs : List ℕ). at.before ++ xs) (append_assoc text at.behind more);
}

pub from_last : (text block : List ℕ) → StandsFrom text (block ++ text) (length block)
from_last text block = record { before = block; behind = []; far = refl; is = ap (λ (xs : List ℕ). block ++ xs) (sym (append-nil text)) }

stands_there : (text block : List ℕ) (start : ℕ) → StandsFrom text block start → stands_in text block ≡ true
stands_there text block start at = ap (stands_in text) at.is ∙ stands_in-at at.before text at.behind

begins_there : (text block : List ℕ) (start : ℕ) (at : StandsFrom text block start) → drop start block ≡ text ++ at.behind
begins_there text block start at = ap (λ (n : ℕ). drop n block) (sym at.far) ∙ ap (λ (xs : List ℕ). drop (length at.before) xs) at.is ∙ drop-append_seam at.before (text ++ at.behind)

-- ---- blocks

pub last_kept : (blocks : List (List ℕ)) (block more : List ℕ) → KeepsBlocks (blocks ++ block ∷ []) (blocks ++ (block ++ more) ∷ [])
last_kept [] block more zero = (more, refl)
last_kept [] block more (suc i) = ([], refl)
last_kept (b ∷ bs) block more zero = ([], sym (append-nil b))
last_kept (b ∷ bs) block more (suc i) = last_kept bs block more i

pub last_is : (blocks : List (List ℕ)) (block : List ℕ) (i : ℕ) → length (blocks ++ block ∷ []) ≡ i + 1 → get_or (blocks ++ block ∷ []) i [] ≡ block
last_is [] block zero e = refl
last_is [] block (suc i) e = absurd (omega (arith, e))
last_is (b ∷ bs) block zero e = let many = length-append bs (block ∷ []) in absurd (omega (arith, e, many))
last_is (b ∷ bs) block (suc i) e = last_is bs block i (omega (arith, e))

pub begun_kept : (blocks : List (List ℕ)) → KeepsBlocks blocks (blocks ++ [] ∷ [])
begun_kept [] zero = ([], refl)
begun_kept [] (suc i) = ([], refl)
begun_kept (b ∷ bs) zero = ([], sym (append-nil b))
begun_kept (b ∷ bs) (suc i) = begun_kept bs i

pub itself_kept : (blocks : List (List ℕ)) → KeepsBlocks blocks blocks
itself_kept blocks i = ([], sym (append-nil (get_or blocks i [])))

pub then_kept : (blocks more most : List (List ℕ)) → KeepsBlocks blocks more → KeepsBlocks more most → KeepsBlocks blocks most
then_kept blocks more most h k i =
    let one = h i in
    let two = k i in
    (one.0 ++ two.0, two.1 ∙ ap (λ (xs : List ℕ). xs ++ two.0) one.1 ∙ append_assoc (get_or blocks i []) one.0 two.0)

from_kept : (old new : List (List ℕ)) (text : List ℕ) (i start : ℕ) → KeepsBlocks old new → StandsFrom text (get_or old i []) start → StandsFrom text (get_or new i []) start
from_kept old new text i start keeps at = let more = keeps i in subst (λ (block : List ℕ). StandsFrom text block start) (sym more.1) (from_more text (get_or old i []) more.0 start at)

-- ---- texts

module _ (texts old new : List (List ℕ)) (starts now : List ℕ) (are : AreFolded texts old starts) (keeps : KeepsBlocks old new) (same : (n : ℕ) → n < length texts → get_or now n 0 ≡ get_or starts n 0) where
  pub still_stand : (n : ℕ) (text : List ℕ) → slice_get texts n ≡ Some text → StandsFrom (map to_ascii_lowercase text) (block_of new n) (get_or now n 0)
  still_stand n text at =
      subst (λ (start : ℕ). StandsFrom (map to_ascii_lowercase text) (block_of new n) start) (sym (same n (slice_get_within texts n text at)))
      (from_kept old new (map to_ascii_lowercase text) (n / 64) (get_or starts n 0) keeps (are.stand n text at))

  pub still_folded : length starts ≤ length now → (length new ≡ length old) ⊎ (length new ≡ length texts / 64 + 1) → AreFolded texts new now
  still_folded longer (inl e) = let far = are.started in record { stand = still_stand; reach = subst (λ (k : ℕ). length texts / 64 ≤ k) (sym e) are.reach; few = subst (λ (k : ℕ). k ≤ length texts / 64 + 1) (sym e) are.few; started = omega (arith, far, longer) }
  still_folded longer (inr e) = let far = are.started in record { stand = still_stand; reach = omega (arith, e); few = omega (arith, e); started = omega (arith, far, longer) }

pub block_holds : (texts blocks : List (List ℕ)) (starts : List ℕ) → AreFolded texts blocks starts → (i : ℕ) → HoldsBlock texts i (get_or blocks i [])
block_holds texts blocks starts are i n text same at =
    subst (λ (k : ℕ). stands_in (map to_ascii_lowercase text) (get_or blocks k []) ≡ true) same (stands_there (map to_ascii_lowercase text) (block_of blocks n) (get_or starts n 0) (are.stand n text at))

pub begins_folded : (texts blocks : List (List ℕ)) (starts : List ℕ) → AreFolded texts blocks starts → (n : ℕ) (text : List ℕ) → slice_get texts n ≡ Some text → BeginsFolded text (drop (get_or starts n 0) (block_of blocks n))
begins_folded texts blocks starts are n text at =
    let there = are.stand n text at in
    (there.behind, begins_there (map to_ascii_lowercase text) (block_of blocks n) (get_or starts n 0) there)

module _ {V : Type 0} (items : V → List ℕ) (eq : V → V → Bool) where
  at_end : (xs : List V) (x : V) (n : ℕ) (text : List ℕ) → slice_get (map items (xs ++ x ∷ [])) n ≡ Some text → (slice_get (map items xs) n ≡ Some text) ⊎ ((n ≡ length xs) × (items x ≡ text))
  at_end [] x zero text e = inr (refl, cc)
  at_end [] x (suc n) text e = absurd cc
  at_end (y ∷ ys) x zero text e = inl e
  at_end (y ∷ ys) x (suc n) text e = by (at_end ys x n text e)
    where
      by : (slice_get (map items ys) n ≡ Some text) ⊎ ((n ≡ length ys) × (items x ≡ text)) → (slice_get (map items ys) n ≡ Some text) ⊎ ((suc n ≡ suc (length ys)) × (items x ≡ text))
      by (inl a) = inl a
      by (inr b) = inr (ap suc b.0, b.1)

  module _ (old : List V) (x : V) (blocks : List (List ℕ)) (starts : List ℕ) (stand : (n : ℕ) (text : List ℕ) → slice_get (map items old) n ≡ Some text → StandsFrom (map to_ascii_lowercase text) (block_of blocks n) (get_or starts n 0))
      (holds : StandsFrom (map to_ascii_lowercase (items x)) (block_of blocks (length old)) (get_or starts (length old) 0)) where
    stand_put : (n : ℕ) (text : List ℕ) → (slice_get (map items old) n ≡ Some text) ⊎ ((n ≡ length old) × (items x ≡ text)) → StandsFrom (map to_ascii_lowercase text) (block_of blocks n) (get_or starts n 0)
    stand_put n text (inl at) = stand n text at
    stand_put n text (inr e) =
        subst (λ (k : ℕ). StandsFrom (map to_ascii_lowercase text) (block_of blocks k) (get_or starts k 0)) (sym e.0)
        (subst (λ (t : List ℕ). StandsFrom (map to_ascii_lowercase t) (block_of blocks (length old)) (get_or starts (length old) 0)) e.1 holds)

    fold_put : (t : Bool) → length blocks ≡ length old / 64 + 1 → length old + 1 ≤ length starts → AreFolded (map items (if t then old else old ++ x ∷ [])) blocks starts
    fold_put true size far = let many = length-map old items in record { stand = stand; reach = omega (arith, size, many); few = omega (arith, size, many); started = omega (arith, far, many) }
    fold_put false size far =
        let many = length-map (old ++ x ∷ []) items in
        let more = length-append old (x ∷ []) in
        record { stand = λ n text at. stand_put n text (at_end old x n text at); reach = omega (arith, size, many, more); few = omega (arith, size, many, more); started = omega (arith, far, many, more) }

  -- with the text that is put, or without it
  pub put_folded : {A E : Type 0} (r : Result A E) (old new : List V) (x : V) (blocks more : List (List ℕ)) (starts now : List ℕ) → OnOk r (new ≡ insert_key eq old x) → OnErr r (new ≡ old)
      → ((n : ℕ) (text : List ℕ) → slice_get (map items old) n ≡ Some text → StandsFrom (map to_ascii_lowercase text) (block_of more n) (get_or now n 0)) → StandsFrom (map to_ascii_lowercase (items x)) (block_of more (length old)) (get_or now (length old) 0)
      → length more ≡ length old / 64 + 1 → length old + 1 ≤ length now → AreFolded (map items new) more now
  put_folded (Ok a) old new x blocks more starts now ok err stand holds size far = subst (λ (xs : List V). AreFolded (map items xs) more now) (sym ok) (fold_put old x more now stand holds (list_any (eq x) old) size far)
  put_folded (Err e) old new x blocks more starts now ok err stand holds size far = subst (λ (xs : List V). AreFolded (map items xs) more now) (sym err) (fold_put old x more now stand holds true size far)
