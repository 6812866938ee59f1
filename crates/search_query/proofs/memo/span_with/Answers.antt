use Rattle.std.proofs.Common.{sym, subst}
use Rattle.history_view.specs.declared.spans.Span.{Span}
use Rattle.history_view.specs.Spans.{IsWithin}
use Rattle.search_query.proofs.Walks.{joined_this, joined_other}
use Rattle.search_query.proofs.memo.span_with.Goals as goal

pub returns-then-is_miss-clause-more : goal.returns-then-is_miss-clause-more
returns-then-is_miss-clause-more c = λ hit w row same. absurd (hit (c.is_miss.ensures c.if-is_miss.true))

pub returns-clause-keeps : goal.returns-clause-keeps
returns-clause-keeps c = λ t within. subst (λ (s : Span). IsWithin s t) (sym c.joined.ensures) (joined_this c.args.span.now c.span.result t within)

pub returns-clause-more : goal.returns-clause-more
returns-clause-more c = λ hit w row same. subst (λ (s : Span). IsWithin s w.timestamp) (sym c.joined.ensures) (joined_other c.args.span.now c.span.result w.timestamp (c.span.ensures w row same))
