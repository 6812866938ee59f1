use Rattle.std.proofs.Common.{◌∙◌, sym}
use Rattle.std.proofs.lemmas.List.{append_cancel_left}
use Rattle.paseto_seal.proofs.carried.carried.Goals as goal

pub returns-clause-not_carried : goal.returns-clause-not_carried
returns-clause-not_carried c = λ refused body carries.
    c.read_base64url.ensures.not_carried refused body
    (carries.body_bytes, append_cancel_left c.args.header.now _ _ (sym c.in-Some.ensures ∙ carries.text_is))
