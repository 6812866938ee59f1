use Rattle.key_text.proofs.Short.{too_short}
use Rattle.key_text.proofs.read_key_text.Goals as goal

pub returns-then-text-lt-DIGITS : goal.returns-then-text-lt-DIGITS
returns-then-text-lt-DIGITS c = too_short c.args.text.now c.if-text-lt-DIGITS.true
