use Rattle.std.proofs.Common.{drop, arith}
use Rattle.std.proofs.lemmas.List.{take_all, length-drop}
use Rattle.paseto_seal.proofs.cipher.apply_cipher.Goals as goal

pub returns : goal.returns
returns c =
    let rest = take_all 24 (drop 32 c.args.secrets.now) (omega (arith, length-drop 32 c.args.secrets.now, c.told-secrets)) in
    cc (c.xchacha20_xor.ensures.text, c.copy_from_slice.ensures.after, c.copy_from_slice-2.ensures.after, rest)
