use Rattle.std.proofs.Common.{rules, ◌≡◌, ◌∙◌, sym, ap, arith}
use Rattle.std.proofs.lemmas.List.{take_all}
use Rattle.std.proofs.lemmas.Slice.{overwrites}
use Rattle.std.specs.Int.{w64, to_le_bytes}
use Rattle.std.specs.List.{flat_map}
use Rattle.blake2b_core.proofs.Words.{bytes_more}
use Rattle.blake2b_core.proofs.bytes_of.Goals as goal

pub words-preserved : goal.words-preserved
words-preserved c = (
  search (rules, overwrites),
  bytes_more c.words.bytes c.args.state.now _ c.words.i _ c.words.invariant.1 (omega arith) (omega arith)
      (c.copy_from_slice.ensures.after ∙ c.to_le_bytes.ensures),
)

pub returns : goal.returns
returns c =
    let all : c.words.i ≡ 8 = omega arith in
    let words = rw all at c.words.invariant.1 in
    sym (take_all 64 c.words.bytes (omega arith)) ∙ words ∙ ap (flat_map (to_le_bytes w64)) (take_all 8 c.args.state.now (omega arith))
