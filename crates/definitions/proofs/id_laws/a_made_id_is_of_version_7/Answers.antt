use Rattle.definitions.proofs.Ids.{made_id-fits, made_id-version, made_id-variant}
use Rattle.definitions.proofs.id_laws.a_made_id_is_of_version_7.Goals as goal

pub returns-clause-fits : goal.returns-clause-fits
returns-clause-fits c = made_id-fits

pub returns-clause-version : goal.returns-clause-version
returns-clause-version c = made_id-version

pub returns-clause-variant : goal.returns-clause-variant
returns-clause-variant c = made_id-variant
