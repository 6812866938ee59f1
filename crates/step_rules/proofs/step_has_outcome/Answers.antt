use Rattle.step_rules.proofs.Outcomes.{every_call_happens}
use Rattle.step_rules.proofs.step_has_outcome.Goals as goal

pub returns : goal.returns
returns c = λ store journal caller call now ten all views ten_are all_are. let h = every_call_happens store journal caller now ten all ten_are all_are views call in (h.used, h.after, h.answer, h.uses, h.step)
