use Rattle.told_store.proofs.Telling.{first_note}
use Rattle.told_store.proofs.told.ToldStore.of.Goals as goal

pub chosen-noted-requires : goal.chosen-noted-requires
chosen-noted-requires g c = first_note c.args.store c.requires
