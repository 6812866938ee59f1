use Rattle.std.proofs.Common.{ℕ, Vec, Global, Some, None, sym, ap, ◌∙◌}
use Rattle.std.specs.Option.{is_some}
use Rattle.std.proofs.lemmas.Bool.{true≢false}
use Rattle.latest_values.proofs.Placed.{there, kept_put, held_put, texts_put}
use Rattle.latest_values.proofs.names.fill.Goals as goal

pub unreachable-requires : goal.unreachable-requires
unreachable-requires c =
    let none = there (λ (v : Vec ℕ Global). v.items) c.args.name.items c.args.names.now.entries None (sym c.in-Err.ensures.absent) in
    true≢false (sym c.requires ∙ ap is_some (sym none))

pub returns-clause-filled : goal.returns-clause-filled
returns-clause-filled c = held_put (λ (v : Vec ℕ Global). v.items) c.args.names.now.entries c.insert.new.self.entries c.args.name (Some c.args.setting) c.in-Ok.ensures.entries None

pub returns-clause-keeps : goal.returns-clause-keeps
returns-clause-keeps c = kept_put (λ (v : Vec ℕ Global). v.items) c.args.names.now.entries c.insert.new.self.entries c.args.name (Some c.args.setting) c.in-Ok.ensures.entries

pub returns-clause-texts : goal.returns-clause-texts
returns-clause-texts c = λ texts. texts_put (λ (v : Vec ℕ Global). v.items) c.args.names.now.entries c.insert.new.self.entries c.args.name (Some c.args.setting) c.in-Ok.ensures.entries (texts c.args.name.items c.requires) texts
