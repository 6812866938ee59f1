use Rattle.std.proofs.Common.{sym, ◌∙◌, true, false}
use Rattle.std.proofs.lemmas.Bool.{true≢false}
use Rattle.record_model.specs.Seen.{started_seen}
use Rattle.journal_check.proofs.Admitted.{start_follows, follows_start, start_keeps}
use Rattle.journal_check.proofs.check.JournalCheck.take_started.Goals as goal

pub returns-then-may_start-clause-takes : goal.returns-then-may_start-clause-takes
returns-then-may_start-clause-takes c = λ journal keeps.
    let e = sym c.may_start.ensures ∙ c.if-may_start.true in
    (start_follows _ journal (started_seen c.args.s.now) keeps e, λ entry is. start_keeps _ c.start.new.self journal (started_seen c.args.s.now) entry keeps e c.in_ok-start.ensures.starts is)

pub returns-clause-takes : goal.returns-clause-takes
returns-clause-takes c = λ journal keeps follows. true≢false (sym (follows_start _ journal (started_seen c.args.s.now) keeps follows) ∙ sym c.may_start.ensures ∙ c.if-may_start.false)
