use Rattle.request_routes.proofs.Digits.{too_great}
use Rattle.request_routes.proofs.queries.value_of.Goals as goal

pub returns-in-Err : goal.returns-in-Err
returns-in-Err c = too_great c.args.digits.now c.requires c.in-Err.ensures.value.0
