-- A connection that is put behind those that were handed back.
use Rattle.std.proofs.Common.{◌≡◌, List, [], ◌∷◌, ◌++◌, map, Option, Some, None, refl, ◌∙◌, ap}
use Rattle.std.specs.Prelude.{option_map}
use Rattle.std.proofs.lemmas.List.{map-append}
use Rattle.serving_edge.specs.KeptViews.{Ended, PutsBack}

pub put_back : {X C F : Type 0} (value : X → C) (ended : F → Ended C) (coming : List C) (out out_after : Option X) (done done_after : List F) (one : X) (last : F) (back : C) → out ≡ Some one → out_after ≡ None → done_after ≡ done ++ last ∷ []
    → ended last ≡ record { accepted = value one; back = back }
    → PutsBack (record { coming = coming; out = option_map value out; done = map ended done }) (record { coming = coming; out = option_map value out_after; done = map ended done_after }) back
put_back {C} {F} value ended coming out out_after done done_after one last back was_out is_out is_done is_last = record {
  accepted = value one;
  was_out = ap (option_map value) was_out;
  out = ap (option_map value) is_out;
  done = ap (map ended) is_done ∙ map-append ended done (last ∷ []) ∙ ap (λ (e : Ended C). map ended done ++ e ∷ []) is_last;
  coming = refl;
}
