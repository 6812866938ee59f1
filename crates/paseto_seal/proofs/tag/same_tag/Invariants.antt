use Rattle.std.proofs.Common.{◌≡◌, ℕ, ◌<◌, get_or}
use Rattle.paseto_seal.proofs.tag.same_tag.Given as goal

abbrev pub invariant-loop-i : goal.invariant-loop-i
invariant-loop-i l =
    (l.difference ≡ 0 → (k : ℕ) → k < l.i → get_or l.expected k 0 ≡ get_or l.found k 0)
    × (((k : ℕ) → k < l.i → get_or l.expected k 0 ≡ get_or l.found k 0) → l.difference ≡ 0)
