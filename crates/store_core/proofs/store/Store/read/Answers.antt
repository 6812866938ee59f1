use Rattle.std.proofs.Common.{sym, ap, ◌∙◌}
use Rattle.model_words.specs.Seen.{call_seen, answer_seen, result_seen, reply_seen}
use Rattle.step_rules.specs.Answers.{disk_fault}
use Rattle.store_core.proofs.Turning.{no_refusal, shown_only, wanting_only}
use Rattle.store_core.proofs.store.Store.read.Goals as goal

pub returns-in-Ok-clause-shows : goal.returns-in-Ok-clause-shows
returns-in-Ok-clause-shows g c = shown_only c.args.self.now (call_seen c.args.call.now) (reply_seen c.reply.result) (answer_seen c.in-Ok.shown) c.in-Ok.ensures c.reply.ensures.front

pub returns-in-Ok-clause-told : goal.returns-in-Ok-clause-told
returns-in-Ok-clause-told g c = λ told. no_refusal c.in-Ok.shown disk_fault (sym (ap result_seen c.reply.ensures.answer) ∙ told)

pub returns-in-Err-clause-shows : goal.returns-in-Err-clause-shows
returns-in-Err-clause-shows g c = wanting_only c.args.self.now (call_seen c.args.call.now) (reply_seen c.reply-in-Err.result) c.reply-in-Err.ensures.front

pub returns-in-Err-clause-told : goal.returns-in-Err-clause-told
returns-in-Err-clause-told g c = λ told. absurd (let other = sym (ap result_seen c.reply-in-Err.ensures.answer) ∙ told in cc)
