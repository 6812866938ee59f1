use Rattle.std.proofs.Common.{length, ap, arith}
use Rattle.std.proofs.lemmas.List.{length-append}
use Rattle.paseto_seal.specs.Base64Url.{base64url}
use Rattle.paseto_seal.proofs.Base64UrlLaws.{length-base64url}
use Rattle.paseto_seal.proofs.carried.carry.Goals as goal

pub from_string-requires : goal.from_string-requires
from_string-requires c =
    omega (
      arith,
      c.push_base64url.new.text.bytes.ok.0,
      ap length c.in_ok-push_base64url.ensures,
      length-append c.push_str.new.self.bytes.items (base64url c.args.body.now),
      ap length c.in_ok-push_str.ensures.bytes,
      length-append c.in_ok-text.text.bytes.items c.args.header.now,
      ap length c.in_ok-text.ensures.bytes,
      length-base64url c.args.body.now,
      c.requires.header,
      c.requires.body,
    )
