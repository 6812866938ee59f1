use Rattle.store_core.proofs.Committed.{means_after_settle}
use Rattle.store_core.proofs.tests.a_batch_in_doubt_shows_once_it_is_settled.Goals as goal

pub settle-requires-2 : goal.settle-requires-2
settle-requires-2 g c =
    means_after_settle c.commit_ls.new.store c.settle.new.self c.settle.result c.in_ok-commit_ls.ensures.0 c.in_ok-commit_ls.ensures.1 c.in_ok-commit_ls.ensures.2 c.settle.ensures.settles
