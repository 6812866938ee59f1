use Rattle.std.proofs.Common.{◌≡◌, List, ℕ, None, Some, refl, ap, subst}
use Rattle.std.specs.Prelude.{◌↔◌}
use Rattle.view_rules.specs.Views.{ShowsKv}
use Rattle.payload_rules.specs.Payloads.{KvDelete}
use Rattle.step_rules.specs.Answers.{unknown_name}
use Rattle.step_rules.specs.Store.{shown_changes}
use Rattle.step_rules.specs.Step.{record_draft, kv_delete_drafts, key_unknown}
use Rattle.call_drafts.proofs.There.{value_there, value_gone}
use Rattle.call_drafts.proofs.drafting.delete_pair.Goals as goal

pub returns-in_ok-key-in-Some : goal.returns-in_ok-key-in-Some
returns-in_ok-key-in-Some c = λ store journal keeps.
    let namespace = c.args.namespace.now in
    let key = c.args.key.now in
    let is = subst (λ (n : List ℕ). (value : List ℕ) → (Some c.in-Some.field-0.now ≡ Some value) ↔ ShowsKv keeps.changes n key value) c.as_bytes.ensures.value
    (subst (λ (k : List ℕ). (value : List ℕ) → (Some c.in-Some.field-0.now ≡ Some value) ↔ ShowsKv keeps.changes c.as_bytes.result.now k value) c.as_bytes-2.ensures.value (λ value. c.in-Some.ensures.shown keeps.changes value keeps.means keeps.listed.apart)) in
    kv_delete_drafts namespace key refl (value_there keeps.changes (shown_changes store journal) keeps.listed.same (Some c.in-Some.field-0.now) namespace key is c.in-Some.field-0.now refl)
    (λ i. record_draft None (KvDelete (c.in_ok-namespace-in-Some.ensures i) (c.in_ok-key-in-Some.ensures i)))

pub returns-in_ok-name-in-None : goal.returns-in_ok-name-in-None
returns-in_ok-name-in-None c = λ store journal keeps.
    let namespace = c.args.namespace.now in
    let key = c.args.key.now in
    let is = subst (λ (n : List ℕ). (value : List ℕ) → (None ≡ Some value) ↔ ShowsKv keeps.changes n key value) c.as_bytes.ensures.value
    (subst (λ (k : List ℕ). (value : List ℕ) → (None ≡ Some value) ↔ ShowsKv keeps.changes c.as_bytes.result.now k value) c.as_bytes-2.ensures.value (λ value. c.in-None.ensures.shown keeps.changes value keeps.means keeps.listed.apart)) in
    key_unknown namespace key refl (value_gone keeps.changes (shown_changes store journal) keeps.listed.same None namespace key is refl) (ap unknown_name c.in_ok-name-in-None.ensures)
