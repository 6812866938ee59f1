use Rattle.std.proofs.Common.{◌≡◌, ℕ, List, Bool, true, false, sym, ap, ◌∙◌, subst}
use Rattle.std.specs.Prelude.{not}
use Rattle.std.specs.Char.{is_ascii_uppercase}
use Rattle.std.specs.List.{list_any}
use Rattle.definitions.specs.Search.{stands_in, matches_by}
use Rattle.record_model.specs.Seen.{mode_seen}
use Rattle.search_query.specs.Matching.{Wanted}
use Rattle.search_query.proofs.Telling.{none_matches}
use Rattle.search_query.proofs.matching.Matching.passes_by.Goals as goal

isnt : (b : Bool) → not b ≡ true → b ≡ false
isnt true e = sym e
isnt false e = cc

pub returns : goal.returns
returns c = λ e command stands.
    let small : list_any is_ascii_uppercase c.self.inside.text.now ≡ false = sym c.self.invariant.1 ∙ c.if-self.false in
    let out : stands_in c.self.inside.text.now c.args.block.now ≡ false = ap (λ (text : List ℕ). stands_in text c.args.block.now) (sym c.self.invariant.0) ∙ sym c.contains.ensures ∙ isnt c.contains.result e in
    subst (λ (w : Wanted). matches_by w.mode w.text command ≡ false) c.self.view_is (none_matches (mode_seen c.self.inside.mode) c.self.inside.text.now c.args.block.now command small out stands)
