use Rattle.std.proofs.Common.{◌∙◌, ap, map, List, ℕ}
use Rattle.std.specs.Char.{to_ascii_lowercase}
use Rattle.http_wire.specs.Fields.{same_word}
use Rattle.http_wire.proofs.Named.{compared}
use Rattle.http_wire.proofs.fields.is_named.Goals as goal

pub returns : goal.returns
returns c =
    compared c.eq_ignore_ascii_case.result (map to_ascii_lowercase c.of.result.now) (map to_ascii_lowercase c.args.name.now) c.eq_ignore_ascii_case.ensures.test
    ∙ ap (λ (s : List ℕ). same_word s c.args.name.now) c.of.ensures
