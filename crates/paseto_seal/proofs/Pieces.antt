-- One piece more, of a list of pieces that are hashed in order.
use Rattle.std.proofs.Common.{◌≡◌, ℕ, ◌+◌, ◌<◌, List, [], ◌∷◌, ◌++◌, Bor, length, map, take, get_or, sym, ap, ◌∙◌}
use Rattle.std.proofs.lemmas.List.{append_assoc, append-nil, map_more}
use Rattle.paseto_seal.specs.Pae.{le64, pieces_encoded}

encoded_push : (front : List ℕ) (xs : List (List ℕ)) (y : List ℕ)
    → ((front ++ pieces_encoded xs) ++ le64 (length y)) ++ y ≡ front ++ pieces_encoded (xs ++ y ∷ [])
encoded_push front [] y = simp (append-nil, append_assoc)
encoded_push front (x ∷ xs) y =
    let more = encoded_push (front ++ (le64 (length x) ++ x)) xs y in
    simp append_assoc (simp append_assoc at more)

pub encoded_more : (front : List ℕ) (pieces : List (Bor (List ℕ))) (i : ℕ) (d : Bor (List ℕ)) → i < length pieces
    → ((front ++ pieces_encoded (map (λ p. p.now) (take i pieces))) ++ le64 (length (get_or pieces i d).now)) ++ (get_or pieces i d).now
    ≡ front ++ pieces_encoded (map (λ p. p.now) (take (i + 1) pieces))
encoded_more front pieces i d below =
    encoded_push front (map (λ p. p.now) (take i pieces)) (get_or pieces i d).now
    ∙ ap (λ xs. front ++ pieces_encoded xs) (sym (map_more (λ (p : Bor (List ℕ)). p.now) pieces i d below))
