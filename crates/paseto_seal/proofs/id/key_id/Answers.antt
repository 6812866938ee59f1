use Rattle.std.proofs.Common.{subst, sym}
use Rattle.std.specs.Str.{IsUtf8}
use Rattle.paseto_seal.proofs.Derived.{key_id_utf8}
use Rattle.paseto_seal.proofs.id.key_id.Goals as goal

pub copied-requires-clause-utf8 : goal.copied-requires-clause-utf8
copied-requires-clause-utf8 c = subst IsUtf8 (sym c.key_id_bytes.ensures) (key_id_utf8 c.args.key.now)
