use Rattle.std.proofs.Common.{[], length}
use Rattle.log_format.proofs.digests.batch_digest.Goals as goal

pub returns : goal.returns
returns c = c.finish.ensures c.args.offset c.args.body.now (c.update.ensures c.args.offset (length c.args.body.now) [] c.new-digest.ensures)
