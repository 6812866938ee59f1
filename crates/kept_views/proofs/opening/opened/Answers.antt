use Rattle.std.proofs.Common.{Result, Err, sym, ap, subst, ◌∙◌}
use Rattle.plain_types.specs.Buffer.{Buffer}
use Rattle.record_model.specs.Seen.{record_seen}
use Rattle.record_seal.specs.Computing.{opened_payload}
use Rattle.record_seal.specs.StoreSealing.{TellsOpening}
use Rattle.record_seal.specs.declared.fail.SealFail.{SealFail}
use Rattle.record_seal.proofs.Telling.{unseals_tells}
use Rattle.kept_views.proofs.opening.opened.Goals as goal

pub returns-in-Ok : goal.returns-in-Ok
returns-in-Ok c =
    let tells = λ (answer : Result Buffer SealFail). TellsOpening (opened_payload c.args.key.now (record_seen c.args.rec.now)) answer in
    sym (subst tells c.in-Ok.is (unseals_tells c.args.key.now (record_seen c.args.rec.now) c.unseal.result c.unseal.ensures))

pub returns-in-Err-WrongKey : goal.returns-in-Err-WrongKey
returns-in-Err-WrongKey c =
    let tells = λ (answer : Result Buffer SealFail). TellsOpening (opened_payload c.args.key.now (record_seen c.args.rec.now)) answer in
    sym (subst tells (c.in-Err-WrongKey.is ∙ ap Err c.in-Err-WrongKey.field-0-is) (unseals_tells c.args.key.now (record_seen c.args.rec.now) c.unseal.result c.unseal.ensures))

pub returns-in-Err-BadSeal : goal.returns-in-Err-BadSeal
returns-in-Err-BadSeal c =
    let tells = λ (answer : Result Buffer SealFail). TellsOpening (opened_payload c.args.key.now (record_seen c.args.rec.now)) answer in
    sym (subst tells (c.in-Err-BadSeal.is ∙ ap Err c.in-Err-BadSeal.field-0-is) (unseals_tells c.args.key.now (record_seen c.args.rec.now) c.unseal.result c.unseal.ensures))
