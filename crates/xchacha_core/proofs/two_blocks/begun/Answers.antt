use Rattle.std.proofs.Common.{ℕ, zero, suc, ◌+◌, ◌<◌, ◌≡◌, [], ◌∷◌, slice_index, slice_set, ap, refl, sym, arith, add-zero}
use Rattle.xchacha_core.specs.Rows.{Rows, block_state, repeated}
use Rattle.xchacha_core.proofs.two_blocks.begun.Goals as goal

-- the states block by block
begun_is : (start : Rows) (counter b : ℕ) → b < 2
    → block_state (
      repeated 8 start.0,
      repeated 8 start.1,
      repeated 8 start.2,
      counter ∷ slice_index start.3 1 ∷ slice_index start.3 2 ∷ slice_index start.3 3 ∷ (counter + 1) ∷ slice_index start.3 1 ∷ slice_index start.3 2 ∷ slice_index start.3 3 ∷ [],
    ) b
    ≡ slice_set (block_state start 0) 12 (counter + b)
begun_is start counter zero below = ap (slice_set (block_state start 0) 12) (sym (add-zero counter))
begun_is start counter (suc zero) below = refl
begun_is start counter (suc (suc b)) below = absurd (omega arith)

pub returns-clause-states : goal.returns-clause-states
returns-clause-states c = λ b below.
    rw (c.repeated.ensures, c.repeated-2.ensures, c.repeated-3.ensures) (begun_is c.args.start.now c.args.counter b below)
