use Rattle.shared_store.proofs.Opening.{of_nobody}
use Rattle.shared_store.proofs.shared.SharedStore.new.Goals as goal

pub share-requires : goal.share-requires
share-requires g c = of_nobody c.args.store c.of.result c.of.ensures.store c.requires c.of.ensures.told
