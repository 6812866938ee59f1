use Rattle.std.proofs.Common.{◌≡◌, List, ℕ, None, Some, refl, ap, subst}
use Rattle.std.specs.Prelude.{◌↔◌}
use Rattle.view_rules.specs.Views.{ShowsKv}
use Rattle.step_rules.specs.Answers.{value_is}
use Rattle.step_rules.specs.Store.{shown_changes}
use Rattle.step_rules.specs.Step.{shows_value, shows_no_value}
use Rattle.call_drafts.proofs.There.{value_gone}
use Rattle.call_answers.proofs.Shown.{value_shown}
use Rattle.call_answers.proofs.answering.value.Goals as goal

pub returns-in_ok-copy-in-Some : goal.returns-in_ok-copy-in-Some
returns-in_ok-copy-in-Some c = λ store journal keeps.
    let namespace = c.args.namespace.now in
    let key = c.args.key.now in
    let value = c.in-Some.value.now in
    let is = subst (λ (n : List ℕ). (v : List ℕ) → (Some value ≡ Some v) ↔ ShowsKv keeps.changes n key v) c.as_bytes.ensures.value
    (subst (λ (k : List ℕ). (v : List ℕ) → (Some value ≡ Some v) ↔ ShowsKv keeps.changes c.as_bytes.result.now k v) c.as_bytes-2.ensures.value (λ v. c.in-Some.ensures.shown keeps.changes v keeps.means keeps.listed.apart)) in
    shows_value namespace key value refl (value_shown keeps.changes (shown_changes store journal) namespace key value keeps.listed.same ((is value).0 refl)) (ap (λ (v : List ℕ). value_is (Some v)) c.in_ok-copy-in-Some.ensures)

pub returns-in-None : goal.returns-in-None
returns-in-None c = λ store journal keeps.
    let namespace = c.args.namespace.now in
    let key = c.args.key.now in
    let is = subst (λ (n : List ℕ). (v : List ℕ) → (None ≡ Some v) ↔ ShowsKv keeps.changes n key v) c.as_bytes.ensures.value
    (subst (λ (k : List ℕ). (v : List ℕ) → (None ≡ Some v) ↔ ShowsKv keeps.changes c.as_bytes.result.now k v) c.as_bytes-2.ensures.value (λ v. c.in-None.ensures.shown keeps.changes v keeps.means keeps.listed.apart)) in
    shows_no_value namespace key refl (value_gone keeps.changes (shown_changes store journal) keeps.listed.same None namespace key is refl) refl
