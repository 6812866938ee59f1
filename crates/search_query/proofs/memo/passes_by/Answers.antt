use Rattle.search_query.proofs.memo.passes_by.Goals as goal

pub returns : goal.returns
returns c = λ e n command same named. c.passes_by.ensures e command (c.folded.ensures n command same named)
