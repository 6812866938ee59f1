use Rattle.std.proofs.Common.{ℕ, Vec, Global, ap, ◌∙◌}
use Rattle.std.specs.BTreeMap.{insert_entry}
use Rattle.std.specs.Cmp.Lexicographic.{slice_cmp}
use Rattle.std.specs.Ordering.{nat_cmp}
use Rattle.latest_values.specs.Settings.{Places, has_name, said_of}
use Rattle.latest_values.proofs.Placed.{made_put}
use Rattle.kv_view.proofs.Held.{keys_same}
use Rattle.kv_view.proofs.spaces.put_new.Goals as goal

pub returns-in-Ok-clause-made : goal.returns-in-Ok-clause-made
returns-in-Ok-clause-made c = made_put (λ (v : Vec ℕ Global). v.items) c.args.spaces.now.entries c.insert.new.self.entries c.args.namespace c.args.none c.in-Ok.ensures.entries

pub returns-in-Ok-clause-keeps : goal.returns-in-Ok-clause-keeps
returns-in-Ok-clause-keeps c = λ n k has.
    let is = c.in-Ok.ensures.entries ∙ ap (insert_entry (λ (a b : Vec ℕ Global). slice_cmp nat_cmp a.items b.items) c.args.spaces.now.entries c.args.namespace) c.requires.none in
    ap (λ (ps : Places). has_name ps k) (keys_same (λ (v : Vec ℕ Global). v.items) c.args.spaces.now.entries c.insert.new.self.entries c.args.namespace is c.requires.absent n) ∙ has

pub returns-in-Ok-clause-same : goal.returns-in-Ok-clause-same
returns-in-Ok-clause-same c = λ n k.
    let is = c.in-Ok.ensures.entries ∙ ap (insert_entry (λ (a b : Vec ℕ Global). slice_cmp nat_cmp a.items b.items) c.args.spaces.now.entries c.args.namespace) c.requires.none in
    ap (λ (ps : Places). said_of ps k) (keys_same (λ (v : Vec ℕ Global). v.items) c.args.spaces.now.entries c.insert.new.self.entries c.args.namespace is c.requires.absent n)
