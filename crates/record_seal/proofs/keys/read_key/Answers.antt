use Rattle.std.proofs.Common.{Err, Some, ap, arith, codes, length, refl, subst, sym, ◌∙◌}
use Rattle.std.proofs.lemmas.Result.{err_from_is_err_and}
use Rattle.paseto_seal.specs.Opening.{UnwrapsKey}
use Rattle.record_seal.proofs.MemberLengths.{member_short}
use Rattle.record_seal.proofs.Refusing.{key_answers}
use Rattle.serde_json.specs.View.{view}
use Rattle.record_seal.proofs.keys.read_key.Goals as goal

pub copied-requires-clause-short : goal.copied-requires-clause-short
copied-requires-clause-short c =
    let json = rw c.in-Some.is at c.in_ok-value.ensures in
    let short = member_short c.args.text.now (codes "kid") c.in-Some-text_member-2.found.now (view c.in-Some.value)
    json.value_read (sym c.in-Some-text_member-2.ensures) in
    omega (arith, short, ap length c.as_bytes.ensures.value, c.requires)

pub returns-then-not-is_id : goal.returns-then-not-is_id
returns-then-not-is_id c = record {
  wrapped = c.in-Some-text_member.wrapped.now;
  key_text_is = record {
    value = view c.in-Some.value;
    json = rw c.in-Some.is at c.in_ok-value.ensures;
    wpk = sym c.in-Some-text_member.ensures;
    kid = sym c.in-Some-text_member-2.ensures ∙ ap Some (sym (c.in_ok-kid.ensures ∙ c.as_bytes.ensures.value));
  };
  other = λ same. let no = c.if-not-is_id.ensures.1 (sym (c.in_ok-kid.ensures ∙ c.as_bytes.ensures.value) ∙ same ∙ sym c.args.key.now.named) in cc no;
}

pub returns-in_err-content_key : goal.returns-in_err-content_key
returns-in_err-content_key c =
    let left = c.from_residual-in_err-content_key in
    let p = err_from_is_err_and left.result left.ensures.1 in
    rw (p.1, p.2)
    (key_answers c.args.key.now.key.now c.args.text.now c.in-Some-text_member.wrapped.now
    (record {
      value = view c.in-Some.value;
      json = rw c.in-Some.is at c.in_ok-value.ensures;
      wpk = sym c.in-Some-text_member.ensures;
      kid = sym c.in-Some-text_member-2.ensures ∙ ap Some (c.if-not-is_id.ensures.0 refl ∙ c.args.key.now.named);
    })
    c.in_err-content_key.field-0.0
    (subst (λ text. UnwrapsKey c.args.key.now.key.now text (Err c.in_err-content_key.field-0.0)) c.as_bytes-2.ensures.value c.in_err-content_key.ensures))
