use Rattle.std.proofs.Common.{refl}
use Rattle.model_words.specs.Seen.{reply_seen}
use Rattle.session_seats.proofs.AnswerLaws.{call_answered, fail_answered, within_counted, reply_short, fail_short}
use Rattle.session_seats.proofs.answering.answer_payload.Goals as goal

pub tell-requires-clause-counted : goal.tell-requires-clause-counted
tell-requires-clause-counted g c = within_counted _ c.ask-reply.ensures.within

pub returns-in-Ok-clause-short : goal.returns-in-Ok-clause-short
returns-in-Ok-clause-short g c = reply_short (reply_seen c.ask-reply.result) _ _ c.ask-reply.ensures.within c.tell.ensures.told

pub returns-in-Err-clause-short : goal.returns-in-Err-clause-short
returns-in-Err-clause-short g c = fail_short _ _ _ _ c.tell_fail.ensures.told

pub returns-in-Ok-clause-stands : goal.returns-in-Ok-clause-stands
returns-in-Ok-clause-stands g c = call_answered _ _ _ _ _ _ _ _ c.in-Ok.call _ c.in-Ok.ensures.read c.ask-reply.ensures.answers c.tell.ensures.told

pub returns-in-Err-clause-stands : goal.returns-in-Err-clause-stands
returns-in-Err-clause-stands g c = fail_answered _ _ _ _ _ _ _ _ _ c.in-Err.fail refl c.in-Err.ensures.read c.front.ensures c.tell_fail.ensures.told
