use Rattle.std.proofs.Common.{ℕ, ◌∙◌, [], ◌∷◌, slice_index, refl, arith}
use Rattle.xchacha_core.specs.Rows.{Rows}
use Rattle.xchacha_core.proofs.Blocks.{sums_wide, xored_by_block}
use Rattle.xchacha_core.proofs.one_block.xor_block.Goals as goal

-- the rows that the rounds begin from
abbrev begun : Rows → ℕ → Rows
begun start counter = (start.0, start.1, start.2, counter ∷ slice_index start.3 1 ∷ slice_index start.3 2 ∷ slice_index start.3 3 ∷ [])

pub xor_rows-requires-clause-wide : goal.xor_rows-requires-clause-wide
xor_rows-requires-clause-wide c =
    sums_wide 4 c.ten_double_rounds.result (begun c.args.start.now c.args.counter) c.ten_double_rounds.ensures.wide (omega arith, omega arith, omega arith, refl)

pub returns : goal.returns
returns c =
    c.xor_rows.ensures
    ∙ xored_by_block c.args.counter c.args.start.now (begun c.args.start.now c.args.counter) c.ten_double_rounds.result c.args.piece.now
    (omega arith, omega arith, omega arith, refl) c.ten_double_rounds.ensures.wide (omega arith) refl c.ten_double_rounds.ensures.state
