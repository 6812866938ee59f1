use Rattle.std.proofs.Common.{Bool, Some, false, slice_set, sym, subst}
use Rattle.search_query.specs.Answers.{Remembers, more_seen}
use Rattle.search_query.proofs.Memos.{remembers_seen, remembers_any}
use Rattle.search_query.proofs.memo.see.Goals as goal

pub returns-clause-memo : goal.returns-clause-memo
returns-clause-memo c = λ seen text command named rem. subst (λ (u : Bool). Remembers c.args.view.now.texts text (more_seen u seen command) (slice_set c.args.memo.now.items c.args.number (Some false))) (sym c.if-not-query.false)
    (remembers_seen c.args.view.now.texts text seen c.args.memo.now.items c.args.number command c.requires.distinct named rem)

pub returns-then-not-query-clause-memo : goal.returns-then-not-query-clause-memo
returns-then-not-query-clause-memo c = λ seen text command named rem. subst (λ (u : Bool). Remembers c.args.view.now.texts text (more_seen u seen command) c.args.memo.now.items) (sym c.if-not-query.true)
    (remembers_any c.args.view.now.texts text seen c.args.memo.now.items command rem)
