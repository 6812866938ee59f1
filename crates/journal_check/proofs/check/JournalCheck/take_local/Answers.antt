use Rattle.std.proofs.Common.{◌≡◌, ℕ, sym, ◌∙◌, ap, subst, true, false}
use Rattle.std.proofs.lemmas.Bool.{true≢false}
use Rattle.record_model.specs.Seen.{record_seen}
use Rattle.journal_check.specs.Tallies.{Tallies, count_in}
use Rattle.journal_check.specs.Admission.{Adds}
use Rattle.journal_check.proofs.Admitted.{IsKey, local_follows, follows_local, local_keeps}
use Rattle.journal_check.proofs.check.JournalCheck.take_local.Goals as goal

pub returns-then-may_make-clause-takes : goal.returns-then-may_make-clause-takes
returns-then-may_make-clause-takes c = λ journal keeps.
    let key = c.in_ok-key.key in
    let r = record_seen c.args.r.now in
    let count = c.count-count.result in
    let e = sym c.may_make.ensures ∙ c.if-may_make.true in
    let count_is : c.count-count.result ≡ count_in c.args.self.now.chains c.in_ok-key.key = c.count-count.ensures ∙ ap (λ (v : Tallies). count_in v.chains c.in_ok-key.key) c.self.view_is in
    let is_key : IsKey key 0 r = record { owner_is = c.in_ok-key.ensures.0; host_is = c.in_ok-key.ensures.1; tag_is = c.in_ok-key.ensures.2 } in
    let adds = subst (λ (w : ℕ). Adds key w count c.args.self.now c.add.new.self) c.weight.ensures.value c.in_ok-add.ensures.adds in
    (local_follows _ journal count key c.args.closes r keeps is_key count_is e, λ entry is. local_keeps _ c.add.new.self c.close.new.self journal count key c.args.closes r entry keeps is_key count_is e adds c.in_ok-close.ensures.closes is)

pub returns-clause-takes : goal.returns-clause-takes
returns-clause-takes c = λ journal keeps follows.
    let key = c.in_ok-key.key in
    let count_is : c.count-count.result ≡ count_in c.args.self.now.chains c.in_ok-key.key = c.count-count.ensures ∙ ap (λ (v : Tallies). count_in v.chains c.in_ok-key.key) c.self.view_is in
    let is_key : IsKey key 0 (record_seen c.args.r.now) = record { owner_is = c.in_ok-key.ensures.0; host_is = c.in_ok-key.ensures.1; tag_is = c.in_ok-key.ensures.2 } in
    true≢false (sym (follows_local _ journal c.count-count.result key c.args.closes (record_seen c.args.r.now) keeps is_key count_is follows) ∙ sym c.may_make.ensures ∙ c.if-may_make.false)
