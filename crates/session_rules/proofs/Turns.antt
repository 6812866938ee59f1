-- The turns of a pass.
use Rattle.std.proofs.Common.{List, [], ◌∷◌, ◌++◌, ◌∙◌, ap, append_assoc}
use Rattle.session_rules.specs.Sessions.{SessionReply}
use Rattle.session_rules.specs.Passes.{TurnItem, TurnsFor, TurnsOf}

turns_for_both : (turns more_turns : List TurnItem) (replies more : List SessionReply) → TurnsFor turns replies → TurnsFor more_turns more → TurnsFor (turns ++ more_turns) (replies ++ more)
turns_for_both [] more_turns [] more first second = second
turns_for_both (turn ∷ turns) more_turns (reply ∷ replies) more first second = (first.0, first.1, turns_for_both turns more_turns replies more first.2 second)
turns_for_both [] more_turns (reply ∷ replies) more first second = absurd first
turns_for_both (turn ∷ turns) more_turns [] more first second = absurd first

pub turns_follow : (before between after : List TurnItem) (replies more : List SessionReply) → TurnsOf before replies between → TurnsOf between more after → TurnsOf before (replies ++ more) after
turns_follow before between after replies more first second =
    (first.0 ++ second.0, second.1 ∙ ap (λ turns. turns ++ second.0) first.1 ∙ append_assoc before first.0 second.0, turns_for_both first.0 second.0 replies more first.2 second.2)
