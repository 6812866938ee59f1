use Rattle.std.proofs.Common.{rules, ◌<◌, ◌^◌}
use Rattle.definitions.proofs.Ids.{id_value-id_text}
use Rattle.daemon_wire.proofs.items.id.Goals as goal

pub returns-in-Some-clause-value : goal.returns-in-Some-clause-value
returns-in-Some-clause-value c =
    let fits : c.in-Some.id < 2 ^ 128 = search rules in
    id_value-id_text c.in-Some.id fits
