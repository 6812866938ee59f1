use Rattle.std.proofs.Common.{sym, ◌∙◌}
use Rattle.std.proofs.lemmas.Bool.Decides.{Decides-eqb}
use Rattle.std.proofs.lemmas.Slice.Eq.{slice_eq-Decides}
use Rattle.record_seal.proofs.keys.is_id.Goals as goal

pub returns : goal.returns
returns c =
    let decides = slice_eq-Decides Decides-eqb c.as_bytes.result.now c.as_slice.result.now c.eq.result c.eq.ensures in (
      λ equal. sym c.as_bytes.ensures.value ∙ decides.0 equal ∙ c.as_slice.ensures,
      λ same. decides.1 (c.as_bytes.ensures.value ∙ same ∙ sym c.as_slice.ensures),
    )
