use Rattle.lone_store.proofs.LoneLaws.{lone_front}
use Rattle.lone_store.proofs.lone.LoneStoreCallStore.front.Goals as goal

pub returns : goal.returns
returns g c = lone_front c.args.self.now.store c.front.new.self c.front.result c.front.ensures.rests c.front.ensures.store c.front.ensures.leaves c.front.ensures.front
