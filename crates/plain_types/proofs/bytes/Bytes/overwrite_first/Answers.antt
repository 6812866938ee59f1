-- The slice keeps its length, so all of the vector is what was written.
use Rattle.std.proofs.Common.{◌∙◌, ap, List, ℕ, ◌++◌, length, drop}
use Rattle.std.proofs.lemmas.List.{take_at}
use Rattle.plain_types.specs.Buffer.{Buffer}
use Rattle.plain_types.proofs.bytes.Bytes.overwrite_first.Goals as goal

pub returns-clause-items : goal.returns-clause-items
returns-clause-items c =
    take_at c.write_first.new.bytes _ _ (c.write_first.auto.bytes ∙ c.as_mut_slice.ensures.len) ∙ c.write_first.ensures
    ∙ ap (λ (l : List ℕ). c.args.first.now ++ drop (length c.args.first.now) l) (c.as_mut_slice.ensures.value ∙ ap (λ (b : Buffer). b.items) c.self.view_is)
