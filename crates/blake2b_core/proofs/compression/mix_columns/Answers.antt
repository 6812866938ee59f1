use Rattle.std.proofs.Common.{refl}
use Rattle.blake2b_core.specs.Compression.{mix}
use Rattle.blake2b_core.proofs.compression.mix_columns.Goals as goal

pub returns : goal.returns
unfolding mix
returns c =
    rw (
      c.rotate_right-b-2.ensures,
      c.rotate_right-d-2.ensures,
      c.lanes_of-2.ensures,
      c.rotate_right-b.ensures,
      c.rotate_right-d.ensures,
      c.lanes_of.ensures,
      c.lanes_of-d.ensures,
      c.lanes_of-c.ensures,
      c.lanes_of-b.ensures,
      c.lanes_of-a.ensures,
    ) refl
