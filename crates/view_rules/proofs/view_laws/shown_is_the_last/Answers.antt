use Rattle.view_rules.specs.Views.{of_key, of_name}
use Rattle.view_rules.proofs.Settings.{shown_from}
use Rattle.view_rules.proofs.Ones.{key_shown, name_shown}
use Rattle.view_rules.proofs.view_laws.shown_is_the_last.Goals as goal

pub returns-clause-key : goal.returns-clause-key
returns-clause-key c changes namespace key value own = (key_shown changes own namespace key value, shown_from (of_key namespace key) changes value)

pub returns-clause-name : goal.returns-clause-name
returns-clause-name c changes name value own = (name_shown changes own name value, shown_from (of_name name) changes value)
