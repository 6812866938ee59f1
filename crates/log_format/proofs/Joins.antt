-- One piece of bytes behind another.
use Rattle.std.proofs.Common.{◌≡◌, ℕ, List, ◌++◌, ◌∙◌, ap, append_assoc}

pub join : (start first second mid last : List ℕ) → mid ≡ start ++ first → last ≡ mid ++ second → last ≡ start ++ (first ++ second)
join start first second mid last one two = two ∙ ap (λ (l : List ℕ). l ++ second) one ∙ append_assoc start first second
