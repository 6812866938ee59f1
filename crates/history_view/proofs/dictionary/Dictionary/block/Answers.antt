use Rattle.std.proofs.Common.{◌≡◌, ℕ, List, map, Vec, Global, sym, subst}
use Rattle.history_view.specs.Folded.{blocks_seen, starts_seen, HoldsBlock}
use Rattle.history_view.specs.Texts.{Vocabulary}
use Rattle.history_view.proofs.Folding.{block_holds}
use Rattle.history_view.proofs.dictionary.Dictionary.block.Goals as goal

pub returns : goal.returns
returns c =
    let texts : List (List ℕ) = map (λ (t : Vec ℕ Global). t.items) c.self.inside.texts.keys in
    let holds = block_holds texts (blocks_seen c.self.inside.folded) (starts_seen c.self.inside.folded) c.self.invariant.1 c.args.number in
    subst (λ (v : Vocabulary). HoldsBlock v.texts c.args.number c.block.result.now) c.self.view_is (subst (λ (block : List ℕ). HoldsBlock texts c.args.number block) (sym c.block.ensures) holds)
