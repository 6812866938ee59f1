use Rattle.std.proofs.Common.{◌≡◌, ℕ, ◌+◌, List, [], ◌∷◌, ◌++◌, map, length, get_or, Vec, Global, sym, subst, arith, length-append}
use Rattle.history_view.specs.Folded.{StandsFrom}
use Rattle.history_view.proofs.Folding.{from_last, last_is, last_kept}
use Rattle.history_view.proofs.folded.Blocks.put.Goals as goal

stands_last : (whole : List (List ℕ)) (old text : List ℕ) (i : ℕ) → length (whole ++ old ∷ []) ≡ i + 1 → StandsFrom text (get_or (whole ++ (old ++ text) ∷ []) i []) (length old)
stands_last whole old text i e =
    let one = length-append whole (old ∷ []) in
    let two = length-append whole ((old ++ text) ∷ []) in
    subst (λ (block : List ℕ). StandsFrom text block (length old)) (sym (last_is whole (old ++ text) i (omega (arith, e, one, two)))) (from_last text old)

pub returns-clause-holds : goal.returns-clause-holds
returns-clause-holds c = λ i e.
    let whole : List (List ℕ) = map (λ (v : Vec ℕ Global). v.items) c.args.self.now.whole.items in
    subst (λ (xs : List ℕ). StandsFrom c.args.folded.now (get_or (whole ++ xs ∷ []) i []) (length c.args.self.now.last.items)) (sym c.in_ok-extend_from_slice.ensures.items) (stands_last whole c.args.self.now.last.items c.args.folded.now i e)

pub returns-clause-keeps : goal.returns-clause-keeps
returns-clause-keeps c = λ i.
    let whole : List (List ℕ) = map (λ (v : Vec ℕ Global). v.items) c.args.self.now.whole.items in
    subst (λ (xs : List ℕ). (more : List ℕ) × (get_or (whole ++ xs ∷ []) i [] ≡ get_or (whole ++ c.args.self.now.last.items ∷ []) i [] ++ more)) (sym c.in_ok-extend_from_slice.ensures.items) (last_kept whole c.args.self.now.last.items c.args.folded.now i)
