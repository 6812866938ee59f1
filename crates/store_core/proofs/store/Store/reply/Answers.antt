use Rattle.model_words.specs.Seen.{result_seen}
use Rattle.store_core.proofs.Turning.{replied_at}
use Rattle.store_core.proofs.store.Store.reply.Goals as goal

pub returns-clause-front : goal.returns-clause-front
returns-clause-front g c = λ journal doubt is. replied_at journal c.front.result (result_seen c.args.answered) (c.front.ensures journal doubt is)
