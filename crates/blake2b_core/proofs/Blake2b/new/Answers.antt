use Rattle.std.proofs.Common.{◌≡◌, ◌<◌, ◌∙◌, [], length, take, sym, arith}
use Rattle.std.proofs.lemmas.Bool.Decides.{nat_tests}
use Rattle.std.proofs.lemmas.List.{take_all}
use Rattle.blake2b_core.specs.Hash.{input_of, padded}
use Rattle.blake2b_core.proofs.Blocks.{length-padded}
use Rattle.blake2b_core.proofs.Holding.{Holds_none, input_of_key, input_of_nothing}
use Rattle.blake2b_core.proofs.Blake2b.new.Goals as goal
use Rattle.blake2b_core.proofs.Blake2b.new.Goals.{then-is_empty, else-is_empty}

pub returns-clause-empty : goal.returns-clause-empty
returns-clause-empty c =
    let key = c.args.key.now in
    let held : take c.if-is_empty.result (padded key) ≡ input_of key [] =
    elim c.if-is_empty.branch [
      | then-is_empty w ↦
          let none : length key ≡ 0 = grind (arith, nat_tests, c.is_empty.ensures, w.if-is_empty.true) in
          rw w.result-is (sym (input_of_nothing key none))
      | else-is_empty w ↦
          let some : 0 < length key = grind (arith, nat_tests, c.is_empty.ensures, w.if-is_empty.false) in
          rw w.result-is (take_all 128 (padded key) (omega (arith, length-padded key)) ∙ sym (input_of_key key some))
    ] in
    rw (c.initial_state.ensures, c.padded.ensures) (Holds_none c.args.out_len key _ _ (omega arith) (omega arith) held)
