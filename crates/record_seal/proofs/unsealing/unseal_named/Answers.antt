use Rattle.std.proofs.Common.{Err, Ok, subst, ◌∙◌}
use Rattle.std.proofs.lemmas.Result.{err_from_is_err_and}
use Rattle.paseto_seal.specs.Opening.{OpensToken}
use Rattle.record_model.specs.Seen.{record_seen}
use Rattle.record_seal.proofs.Refusing.{key_fails, message_answers, token_fails}
use Rattle.record_seal.specs.Unsealing.{GivesKey, ReadsKey, ReadsMessage}
use Rattle.record_seal.proofs.unsealing.unseal_named.Goals as goal

pub returns-in_err-content_key : goal.returns-in_err-content_key
returns-in_err-content_key c =
    let p = err_from_is_err_and c.from_residual.result c.from_residual.ensures.1 in
    let fail = c.in_err-content_key.field-0.0 in
    rw (p.1, p.2)
    (key_fails c.args.key.now.key.now (record_seen c.args.rec.now) fail
    (subst (λ text. ReadsKey c.args.key.now.key.now text (Err fail)) c.as_bytes.ensures.value c.in_err-content_key.ensures))

pub returns-in_err-message : goal.returns-in_err-message
returns-in_err-message c =
    let left = c.from_residual-in_err-message in
    let p = err_from_is_err_and left.result left.ensures.1 in
    let fail = c.in_err-message.field-0.0 in
    let content_key = c.in_ok-content_key.content_key in
    rw (p.1, p.2)
    (token_fails c.args.key.now.key.now (record_seen c.args.rec.now) content_key
    (subst (λ text. GivesKey c.args.key.now.key.now text content_key) c.as_bytes.ensures.value c.in_ok-content_key.ensures) fail
    (subst (λ bound. OpensToken content_key c.args.rec.now.sealed bound (Err fail)) (c.deref.ensures.value ∙ c.in_ok-bound.ensures)
    (subst (λ text. OpensToken content_key text c.deref.result.now (Err fail)) c.as_bytes-2.ensures.value c.in_err-message.ensures)))

pub returns : goal.returns
returns c =
    let content_key = c.in_ok-content_key.content_key in
    let message = c.in_ok-message.message in
    message_answers c.args.key.now.key.now (record_seen c.args.rec.now) content_key message.items
    (subst (λ text. GivesKey c.args.key.now.key.now text content_key) c.as_bytes.ensures.value c.in_ok-content_key.ensures)
    (subst (λ bound. OpensToken content_key c.args.rec.now.sealed bound (Ok message)) (c.deref.ensures.value ∙ c.in_ok-bound.ensures)
    (subst (λ text. OpensToken content_key text c.deref.result.now (Ok message)) c.as_bytes-2.ensures.value c.in_ok-message.ensures))
    c.read_message.result
    (subst (λ text. ReadsMessage text c.read_message.result) c.as_slice.ensures.items c.read_message.ensures)
