use Rattle.std.proofs.Common.{◌≡◌, ℕ, List, length, take, false, sym, ap, ◌∙◌}
use Rattle.std.specs.Char.{is_ascii_uppercase}
use Rattle.std.specs.List.{list_any}
use Rattle.definitions.specs.Calls.{SearchMode}
use Rattle.definitions.specs.Search.{stands_in, matches_by}
use Rattle.record_model.specs.Seen.{mode_seen}
use Rattle.search_query.specs.Matching.{Wanted}
use Rattle.search_query.proofs.Folds.{folded_fits, folded_stands}
use Rattle.search_query.proofs.matching.Matching.matches.Goals as goal

pub stands_before-requires : goal.stands_before-requires
stands_before-requires c = folded_fits c.args.command.now c.args.folded.now c.requires

pub returns-in-Substring : goal.returns-in-Substring
returns-in-Substring c =
    let text : List ℕ = c.self.inside.text.now in
    let small : list_any is_ascii_uppercase text ≡ false = sym c.self.invariant.1 ∙ c.if-self.false in
    c.stands_before.ensures ∙ ap (λ (needle : List ℕ). stands_in needle (take (length c.args.command.now) c.args.folded.now)) c.self.invariant.0 ∙ folded_stands text c.args.command.now c.args.folded.now small c.requires
    ∙ ap (λ (mode : SearchMode). matches_by mode text c.args.command.now) (sym (ap mode_seen c.in-Substring.is)) ∙ ap (λ (w : Wanted). matches_by w.mode w.text c.args.command.now) c.self.view_is
