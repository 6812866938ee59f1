use Rattle.std.proofs.Common.{◌≡◌, List, ℕ, None, Some, refl, ap, subst}
use Rattle.std.specs.Prelude.{◌↔◌}
use Rattle.view_rules.specs.Views.{ShowsAlias}
use Rattle.payload_rules.specs.Payloads.{AliasDelete}
use Rattle.step_rules.specs.Answers.{unknown_name}
use Rattle.step_rules.specs.Store.{shown_changes}
use Rattle.step_rules.specs.Step.{record_draft, alias_delete_drafts, alias_unknown}
use Rattle.call_drafts.proofs.There.{alias_there, alias_gone}
use Rattle.call_drafts.proofs.drafting.delete_alias.Goals as goal

pub returns-in_ok-name-in-Some : goal.returns-in_ok-name-in-Some
returns-in_ok-name-in-Some c = λ store journal keeps.
    let name = c.args.name.now in
    let is = subst (λ (n : List ℕ). (value : List ℕ) → (Some c.in-Some.field-0.now ≡ Some value) ↔ ShowsAlias keeps.changes n value) c.as_bytes.ensures.value (λ value. c.in-Some.ensures.shown keeps.changes value keeps.means keeps.listed.apart) in
    alias_delete_drafts name refl (alias_there keeps.changes (shown_changes store journal) keeps.listed.same (Some c.in-Some.field-0.now) name is c.in-Some.field-0.now refl)
    (ap (λ (n : List ℕ). record_draft None (AliasDelete n)) c.in_ok-name-in-Some.ensures)

pub returns-in_ok-name-in-None : goal.returns-in_ok-name-in-None
returns-in_ok-name-in-None c = λ store journal keeps.
    let name = c.args.name.now in
    let is = subst (λ (n : List ℕ). (value : List ℕ) → (None ≡ Some value) ↔ ShowsAlias keeps.changes n value) c.as_bytes.ensures.value (λ value. c.in-None.ensures.shown keeps.changes value keeps.means keeps.listed.apart) in
    alias_unknown name refl (alias_gone keeps.changes (shown_changes store journal) keeps.listed.same None name is refl) (ap unknown_name c.in_ok-name-in-None.ensures)
