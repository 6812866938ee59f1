-- What reading a header answers.
use Rattle.std.specs.Prelude.{◌≡◌, ℕ, List, Some, Result, Ok, Err}
use Rattle.log_rules.specs.Log.{Form, HasHeader, header_fault}
use Rattle.log_format.specs.declared.fails.FormatFail.{FormatFail}
use Rattle.log_format.specs.declared.fails.FormatFail.TheVariants.{Wrong, NoMemory}

-- the host whose header stands there, or the place of the first item that can't be read; it takes no memory
abbrev pub ReadsHeader : Form → List ℕ → Result ℕ FormatFail → Type 0
ReadsHeader form bytes (Ok host) = HasHeader form bytes host
ReadsHeader form bytes (Err (Wrong place)) = header_fault form bytes ≡ Some place
ReadsHeader form bytes (Err NoMemory) = ⊥
