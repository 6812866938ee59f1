use Rattle.std.proofs.Common.{ℕ, Vec, Global, None}
use Rattle.latest_values.proofs.Placed.{made_put, kept_put, same_put, texts_put}
use Rattle.latest_values.proofs.names.put_new.Goals as goal

pub returns-in-Ok-clause-made : goal.returns-in-Ok-clause-made
returns-in-Ok-clause-made c = made_put (λ (v : Vec ℕ Global). v.items) c.args.names.now.entries c.insert.new.self.entries c.args.name None c.in-Ok.ensures.entries

pub returns-in-Ok-clause-keeps : goal.returns-in-Ok-clause-keeps
returns-in-Ok-clause-keeps c = kept_put (λ (v : Vec ℕ Global). v.items) c.args.names.now.entries c.insert.new.self.entries c.args.name None c.in-Ok.ensures.entries

pub returns-in-Ok-clause-same : goal.returns-in-Ok-clause-same
returns-in-Ok-clause-same c = λ q. same_put (λ (v : Vec ℕ Global). v.items) c.args.names.now.entries c.insert.new.self.entries c.args.name None c.in-Ok.ensures.entries q c.requires

pub returns-in-Ok-clause-texts : goal.returns-in-Ok-clause-texts
returns-in-Ok-clause-texts c = texts_put (λ (v : Vec ℕ Global). v.items) c.args.names.now.entries c.insert.new.self.entries c.args.name None c.in-Ok.ensures.entries
