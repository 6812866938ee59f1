use Rattle.std.proofs.Common.{◌≡◌, ℕ, List, [], ◌∷◌, ◌++◌, map, Vec, Global, sym, ap, subst, ◌∙◌}
use Rattle.std.proofs.lemmas.List.{map_push}
use Rattle.history_view.specs.Folded.{KeepsBlocks}
use Rattle.history_view.proofs.Folding.{begun_kept}
use Rattle.history_view.proofs.folded.Blocks.begin.Goals as goal

abbrev bytes : Vec ℕ Global → List ℕ
bytes v = v.items

begun : (old now : List (Vec ℕ Global)) (last next : Vec ℕ Global) → now ≡ old ++ last ∷ [] → next.items ≡ [] → KeepsBlocks (map bytes old ++ last.items ∷ []) (map bytes now ++ next.items ∷ [])
begun old now last next is empty =
    let whole : map bytes now ≡ map bytes old ++ last.items ∷ [] = ap (map bytes) is ∙ map_push bytes old last in
    subst (λ (xs : List ℕ). KeepsBlocks (map bytes old ++ last.items ∷ []) (map bytes now ++ xs ∷ [])) (sym empty)
    (subst (λ (bs : List (List ℕ)). KeepsBlocks (map bytes old ++ last.items ∷ []) (bs ++ [] ∷ [])) (sym whole) (begun_kept (map bytes old ++ last.items ∷ [])))

pub returns-clause-keeps : goal.returns-clause-keeps
returns-clause-keeps c =
    let pushed : c.push.new.self.items ≡ c.args.self.now.whole.items ++ c.args.self.now.last ∷ [] = c.in-Ok.ensures.items ∙ ap (λ (vs : List (Vec ℕ Global)). vs ++ c.replace-last.result ∷ []) c.in_ok-reserve.ensures.items ∙ ap (λ (v : Vec ℕ Global). c.args.self.now.whole.items ++ v ∷ []) c.replace-last.ensures.value in
    begun c.args.self.now.whole.items c.push.new.self.items c.args.self.now.last c.replace-last.new.dest pushed (ap bytes c.replace-last.ensures.after ∙ c.new.ensures.items)
