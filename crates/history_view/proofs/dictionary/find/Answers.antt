use Rattle.std.proofs.Common.{ℕ, Vec, Global}
use Rattle.history_view.proofs.Texts.{there, not_there}
use Rattle.history_view.proofs.dictionary.find.Goals as goal

pub returns-in-Some : goal.returns-in-Some
returns-in-Some c = there (λ (t : Vec ℕ Global). t.items) c.args.texts.now.keys c.args.text.now c.in-Some.place c.in-Some.field-0-1.now c.in-Some.ensures.stored c.in-Some.ensures.key

pub returns-in-None : goal.returns-in-None
returns-in-None c = not_there (λ (t : Vec ℕ Global). t.items) c.args.texts.now.keys c.args.text.now c.in-None.ensures.found
