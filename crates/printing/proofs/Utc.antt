-- What a printer with these options writes.
use Rattle.std.proofs.Common.{◌≡◌, ap, Some, false, ◌∷◌, [], ◌++◌}
use Rattle.jiff_core.specs.declared.civil.datetime.DateTime.{DateTime}
use Rattle.jiff_fmt.specs.declared.temporal.printer.DateTimePrinter.{DateTimePrinter}
use Rattle.jiff_fmt.specs.Printer.{options, datetime_text}
use Rattle.jiff_fmt.specs.Text as text

pub shown_in_utc : (p : DateTimePrinter) (shown : DateTime) → options p ≡ (false, 84, Some 0) → datetime_text p shown ++ text.zulu_text p.lowercase ≡ text.datetime_text false 84 (Some 0) shown ++ 90 ∷ []
shown_in_utc p shown e = ap (λ o. text.datetime_text o.0 o.1 o.2 shown ++ text.zulu_text o.0) e
