use Rattle.std.proofs.Common.{◌-◌, arith}
use Rattle.paseto_seal.proofs.Parts.{middle_kept}
use Rattle.paseto_seal.proofs.token.keep_cipher.Goals as goal

pub returns : goal.returns
returns c =
    middle_kept c.args.body.now.items c.copy_within.new.self.items c.truncate.new.self.items (c.len-end.result - 32)
    (omega (arith, c.len-end.ensures, c.args.body.now.ok.0, c.requires)) c.requires c.copy_within.ensures.items c.truncate.ensures.items
