use Rattle.std.proofs.Common.{◌≡◌, ℕ, List, ◌+◌, ◌*◌, length, take, drop}
use Rattle.blake2b_core.specs.Hashing.{IsAfter}
use Rattle.blake2b_core.proofs.absorb.Given as goal

abbrev pub invariant-whole : goal.invariant-whole
invariant-whole l =
    (start input : List ℕ) (n : ℕ) → IsAfter start input n l.fn.state l.fn.count → take (length l.blocks) (drop (128 * n) input) ≡ l.blocks
    → IsAfter start input (n + l.i) l.state l.count
