use Rattle.std.proofs.Common.{◌∙◌, ap, Some}
use Rattle.printing.proofs.Utc.{shown_in_utc}
use Rattle.printing.proofs.times.time_text.Goals as goal

pub returns : goal.returns
returns c =
    let (shown, at, text) = c.timestamp_text.ensures in
    let options = c.precision.ensures ∙ ap (λ o. (o.0, o.1, Some 0)) c.new.ensures in
    (shown, at ∙ ap (λ t. t.nanosecond) c.to_plain.ensures ∙ c.whole_second.ensures, text ∙ shown_in_utc c.precision.result shown options)
