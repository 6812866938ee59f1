-- What stands in a list of results of which none failed.
use Rattle.std.proofs.Common.{◌≡◌, Err, IfOk, List, [], ◌∷◌, Ok, Result, map, subst, sym}
use Rattle.std.specs.List.{AllZip, Contains}
use Rattle.std.specs.Prelude.{MatchResult}

module _ (X Y E : Type 0) (R : X → Y → Type 0) where
  within : (xs : List X) (ys : List Y) → AllZip (λ x (r : Result Y E). IfOk r (R x)) xs (map Ok ys) → AllZip R xs ys
  within [] [] h = tt
  within [] (y ∷ ys) h = absurd h
  within (x ∷ xs) [] h = absurd h
  within (x ∷ xs) (y ∷ ys) h = (h.0, within xs ys h.1)

  -- collected into what holds the items
  pub collected : (V : Type 0) (items : V → List Y) (xs : List X) (results : List (Result Y E)) (answer : Result V E)
      → AllZip (λ x r. IfOk r (R x)) xs results
      → MatchResult answer (λ v. (ys : List Y) × (results ≡ map Ok ys) × (items v ≡ ys)) (λ e. Contains results (Err e))
      → IfOk answer (λ v. AllZip R xs (items v))
  collected V items xs results (Ok v) all h =
      subst (λ ys. AllZip R xs ys) (sym h.2) (within xs h.0 (subst (λ rs. AllZip (λ x r. IfOk r (R x)) xs rs) h.1 all))
  collected V items xs results (Err e) all h = tt
