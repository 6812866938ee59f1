use Rattle.std.proofs.Common.{rules, sym, ap, subst, SFits}
use Rattle.std.specs.Int.{w64}
use Rattle.std.proofs.lemmas.Int.{to_z-of_z}
use Rattle.step_rules.specs.Calls.{Call, end_call}
use Rattle.step_rules.specs.Step.{start_drafts, kv_set_drafts, alias_set_drafts}
use Rattle.model_words.specs.Seen.{call_seen}
use Rattle.call_drafts.specs.Drafting.{DraftsOr}
use Rattle.call_drafts.proofs.drafting.draft.Goals as goal

pub returns-in_ok-start-in-Start : goal.returns-in_ok-start-in-Start
returns-in_ok-start-in-Start c = λ store journal keeps. start_drafts _ _ _ _ (ap call_seen c.in-Start.is) c.in_ok-start-in-Start.ensures

pub returns-in-End : goal.returns-in-End
returns-in-End c = λ store journal keeps.
    let duration : SFits w64 c.in-End.duration = search rules in
    let exit : SFits w64 c.in-End.exit = search rules in
    let told = λ (call : Call). DraftsOr store journal call c.end.result in
    subst told (sym (ap call_seen c.in-End.is))
    (subst told (λ i. end_call c.in-End.id (to_z-of_z w64 c.in-End.duration duration i) (to_z-of_z w64 c.in-End.exit exit i) c.in-End.author) (c.end.ensures store journal keeps.commands))

pub returns-in_ok-set_pair-in-KvSet : goal.returns-in_ok-set_pair-in-KvSet
returns-in_ok-set_pair-in-KvSet c = λ store journal keeps. kv_set_drafts _ _ _ (ap call_seen c.in-KvSet.is) c.in_ok-set_pair-in-KvSet.ensures

pub returns-in_ok-set_alias-in-AliasSet : goal.returns-in_ok-set_alias-in-AliasSet
returns-in_ok-set_alias-in-AliasSet c = λ store journal keeps. alias_set_drafts _ _ (ap call_seen c.in-AliasSet.is) c.in_ok-set_alias-in-AliasSet.ensures
