-- What a whole body's fault is.
use Rattle.log_format.specs.declared.fails.FormatFail.{FormatFail}
use Rattle.log_format.specs.declared.fails.FormatFail.TheVariants as fails
use Rattle.log_format.specs.declared.fails.Halt.{Halt}
use Rattle.log_format.specs.declared.fails.Halt.TheVariants as halts

-- what ends too early is wrong
abbrev pub whole_fail : Halt → FormatFail
whole_fail (halts.Cut place) = fails.Wrong place
whole_fail (halts.Wrong place) = fails.Wrong place
whole_fail halts.NoMemory = fails.NoMemory
