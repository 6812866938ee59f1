use Rattle.std.proofs.lemmas.List.Elements.{filter-append}
use Rattle.session_rules.specs.Sessions.{is_of}
use Rattle.session_rules.proofs.pass_grows_by_its_own.Goals as goal

pub returns : goal.returns
returns c = λ pass added. filter-append (is_of pass.number) pass.seen added
