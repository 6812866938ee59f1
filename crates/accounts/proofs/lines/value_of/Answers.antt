use Rattle.std.proofs.Common.{ap, ◌∙◌}
use Rattle.accounts.specs.Accounts.{are_digits}
use Rattle.accounts.proofs.Digits.{are_read, are_text}
use Rattle.accounts.proofs.lines.value_of.Goals as goal

pub unreachable-requires : goal.unreachable-requires
unreachable-requires c = are_read c.in-Ok.text.now (ap are_digits c.in-Ok.ensures.cases.0 ∙ c.requires) c.in-Err-parse.ensures.value.0

pub unreachable-requires-in-Err : goal.unreachable-requires-in-Err
unreachable-requires-in-Err c = c.in-Err.ensures.cases.0 (are_text c.args.digits.now c.requires)
