-- What the two forms of a log are, and how many bytes their digests have.
use Rattle.std.specs.Prelude.{ℕ}
use Rattle.log_rules.specs.Log.{Form, current_form, old_form}
use Rattle.log_check.specs.declared.forms.LogForm.{LogForm}
use Rattle.log_check.specs.declared.forms.LogForm.TheVariants.{Current, Old}

abbrev pub form_of : LogForm → Form
form_of Current = current_form
form_of Old = old_form

abbrev pub digest_bytes : LogForm → ℕ
digest_bytes Current = 16
digest_bytes Old = 0
