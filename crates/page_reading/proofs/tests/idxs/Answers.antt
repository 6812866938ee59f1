use Rattle.page_reading.proofs.Standing.{silent_stand}
use Rattle.page_reading.proofs.tests.idxs.Goals as goal

pub read_page-requires : goal.read_page-requires
read_page-requires c = record { filed = c.requires.index.0; is = c.requires.index.1; stand = silent_stand c.args.log.now c.requires.index.0 c.requires.silent }
