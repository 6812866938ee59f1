use Rattle.std.proofs.Common.{◌≡◌, ℕ, sym, ◌∙◌, ap, subst, true, false}
use Rattle.std.proofs.lemmas.Bool.{true≢false}
use Rattle.record_model.specs.Seen.{record_seen}
use Rattle.journal_check.specs.Tallies.{Tallies, count_in}
use Rattle.journal_check.specs.Admission.{Adds}
use Rattle.journal_check.proofs.Admitted.{IsKey, taken_follows, follows_taken, taken_keeps}
use Rattle.journal_check.proofs.check.JournalCheck.take_taken.Goals as goal

pub returns-then-may_add-clause-takes : goal.returns-then-may_add-clause-takes
returns-then-may_add-clause-takes c = λ journal keeps.
    let key = c.in_ok-key.key in
    let r = record_seen c.args.r.now in
    let count = c.count-count.result in
    let e = sym c.may_add.ensures ∙ c.if-may_add.true in
    let count_is : c.count-count.result ≡ count_in c.args.self.now.chains c.in_ok-key.key = c.count-count.ensures ∙ ap (λ (v : Tallies). count_in v.chains c.in_ok-key.key) c.self.view_is in
    let is_key : IsKey key c.args.owner r = record { owner_is = c.in_ok-key.ensures.0; host_is = c.in_ok-key.ensures.1; tag_is = c.in_ok-key.ensures.2 } in
    let adds = subst (λ (w : ℕ). Adds key w count c.args.self.now c.add.new.self) c.weight.ensures.value c.in_ok-add.ensures.adds in
    (taken_follows _ journal c.args.owner count key r keeps is_key count_is e, λ entry is. taken_keeps _ journal c.args.owner count key r keeps is_key count_is c.add.new.self entry e adds is)

pub returns-clause-takes : goal.returns-clause-takes
returns-clause-takes c = λ journal keeps follows.
    let key = c.in_ok-key.key in
    let count_is : c.count-count.result ≡ count_in c.args.self.now.chains c.in_ok-key.key = c.count-count.ensures ∙ ap (λ (v : Tallies). count_in v.chains c.in_ok-key.key) c.self.view_is in
    let is_key : IsKey key c.args.owner (record_seen c.args.r.now) = record { owner_is = c.in_ok-key.ensures.0; host_is = c.in_ok-key.ensures.1; tag_is = c.in_ok-key.ensures.2 } in
    true≢false (sym (follows_taken _ journal c.args.owner c.count-count.result key (record_seen c.args.r.now) keeps is_key count_is follows) ∙ sym c.may_add.ensures ∙ c.if-may_add.false)
