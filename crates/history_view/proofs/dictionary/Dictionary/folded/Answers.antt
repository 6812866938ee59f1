use Rattle.std.proofs.Common.{◌≡◌, ℕ, List, map, Some, Vec, Global, sym, subst}
use Rattle.std.specs.Prelude.{slice_get}
use Rattle.history_view.specs.Folded.{blocks_seen, starts_seen, BeginsFolded}
use Rattle.history_view.specs.Texts.{Vocabulary}
use Rattle.history_view.proofs.Folding.{begins_folded}
use Rattle.history_view.proofs.dictionary.Dictionary.folded.Goals as goal

pub returns : goal.returns
returns c = λ text at.
    let texts : List (List ℕ) = map (λ (t : Vec ℕ Global). t.items) c.self.inside.texts.keys in
    let here : slice_get texts c.args.number ≡ Some text = subst (λ (v : Vocabulary). slice_get v.texts c.args.number ≡ Some text) (sym c.self.view_is) at in
    subst (λ (part : List ℕ). BeginsFolded text part) (sym c.text.ensures) (begins_folded texts (blocks_seen c.self.inside.folded) (starts_seen c.self.inside.folded) c.self.invariant.1 c.args.number text here)
