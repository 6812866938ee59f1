use Rattle.std.proofs.Common.{take, length, refl}
use Rattle.search_query.proofs.Folds.{folded_front}
use Rattle.search_query.proofs.matching.begins.Goals as goal

pub returns : goal.returns
returns c = folded_front c.args.text.now c.args.command.now c.requires (take (length c.args.text.now) c.args.command.now) c.eq_ignore_ascii_case.result refl c.if-command-text.false c.eq_ignore_ascii_case.ensures.test
