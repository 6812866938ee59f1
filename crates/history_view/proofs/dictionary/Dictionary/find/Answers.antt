use Rattle.std.proofs.Common.{ℕ, Vec, Global, subst, map}
use Rattle.history_view.specs.Texts.{IsNumberOf, Vocabulary}
use Rattle.history_view.proofs.Texts.{number_is, texts_distinct}
use Rattle.history_view.proofs.dictionary.Dictionary.find.Goals as goal

pub returns : goal.returns
returns c =
    let keys = c.self.inside.texts.keys in
    subst (λ (v : Vocabulary). IsNumberOf v.texts c.args.text.now c.find.result) c.self.view_is
    (number_is (map (λ (t : Vec ℕ Global). t.items) keys) c.args.text.now c.find.result (texts_distinct (λ (t : Vec ℕ Global). t.items) keys c.len.ensures.unique) c.find.ensures)
