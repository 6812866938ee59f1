use Rattle.shared_store.proofs.FixedParts.{tells_host_and_key}
use Rattle.shared_store.proofs.book.the_fixed_part_tells_host_and_key.Goals as goal

pub returns : goal.returns
returns c = tells_host_and_key
