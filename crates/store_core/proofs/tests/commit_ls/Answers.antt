use Rattle.std.proofs.Common.{◌≡◌, ℕ, List, [], ◌∷◌, refl, sym, subst, ◌∙◌}
use Rattle.record_rules.specs.Records.{Event, Started}
use Rattle.record_rules.specs.Journal.{SoundEvents}
use Rattle.record_rules.specs.Examples.{started_ls}
use Rattle.record_rules.proofs.Soundness.{empty_sound}
use Rattle.record_rules.proofs.Deciding.{may_all_come_told}
use Rattle.store_core.proofs.Committed.{said_by, means_after_commit}
use Rattle.store_core.proofs.tests.commit_ls.Goals as goal

ls_is_sound : (host : ℕ) → host ≡ 1 → SoundEvents (Started (started_ls 7) ∷ []) host
ls_is_sound host is = subst (λ (h : ℕ). SoundEvents (Started (started_ls 7) ∷ []) h) (sym is) ((may_all_come_told [] 1 (Started (started_ls 7) ∷ []) (empty_sound 1)).0 refl)

pub commit-requires : goal.commit-requires
commit-requires c =
    let say = said_by (record { number = 1; call = 1; settled_for = 0 }) c.in_ok-events.events.items ∙ c.in_ok-events.ensures.says in
    ([], c.in_ok-batch.ensures.ready [] (c.requires.new, subst (λ (es : List Event). SoundEvents es c.args.store.now.log.host) (sym say) (ls_is_sound c.args.store.now.log.host c.requires.host)))

pub returns : goal.returns
returns c =
    let say = said_by (record { number = 1; call = 1; settled_for = 0 }) c.in_ok-events.events.items ∙ c.in_ok-events.ensures.says in
    let may = c.in_ok-batch.ensures.ready [] (c.requires.new, subst (λ (es : List Event). SoundEvents es c.args.store.now.log.host) (sym say) (ls_is_sound c.args.store.now.log.host c.requires.host)) in
    means_after_commit _ c.commit.new.self c.commit.result [] _ _ may c.commit.ensures.commits
