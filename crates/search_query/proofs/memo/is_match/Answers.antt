use Rattle.std.proofs.Common.{refl, sym}
use Rattle.search_query.proofs.memo.is_match.Goals as goal

pub returns-then-is_passed : goal.returns-then-is_passed
returns-then-is_passed c = λ text named. sym (c.requires c.if-is_passed.true c.args.number text refl named)

pub matches-requires : goal.matches-requires
matches-requires c = c.folded_text.ensures c.in-Some.text.now (sym c.in-Some.ensures)
