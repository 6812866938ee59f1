use Rattle.std.proofs.Common.{◌∙◌}
use Rattle.search_query.proofs.Needles.{found_stands}
use Rattle.search_query.proofs.matching.contains.Goals as goal

pub returns : goal.returns
returns c = c.is_some.ensures ∙ found_stands c.args.command.now c.args.finder.now c.find.result c.find.ensures
