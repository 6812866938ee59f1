use Rattle.std.proofs.Common.{ap}
use Rattle.model_words.specs.Seen.{call_seen}
use Rattle.call_drafts.specs.Drafting.{KeepsHistory, KeepsPairs, KeepsAliases}
use Rattle.call_answers.proofs.Shown.{by_part, by_index}
use Rattle.call_answers.proofs.answering.answer.Goals as goal

pub returns-in-Search : goal.returns-in-Search
returns-in-Search c = by_part c.args.kept.now c.args.index.now (call_seen c.args.call.now) _ (ap call_seen c.in-Search.is) (KeepsHistory c.args.kept.now.history) (λ store journal keeps. keeps.history) c.hits.result c.hits.ensures

pub returns-in-KvGet : goal.returns-in-KvGet
returns-in-KvGet c = by_part c.args.kept.now c.args.index.now (call_seen c.args.call.now) _ (ap call_seen c.in-KvGet.is) (KeepsPairs c.args.kept.now.pairs) (λ store journal keeps. keeps.pairs) c.value.result c.value.ensures

pub returns-in-KvList : goal.returns-in-KvList
returns-in-KvList c = by_part c.args.kept.now c.args.index.now (call_seen c.args.call.now) _ (ap call_seen c.in-KvList.is) (KeepsPairs c.args.kept.now.pairs) (λ store journal keeps. keeps.pairs) c.keys.result c.keys.ensures

pub returns-in-AliasList : goal.returns-in-AliasList
returns-in-AliasList c = by_part c.args.kept.now c.args.index.now (call_seen c.args.call.now) _ (ap call_seen c.in-AliasList.is) (KeepsAliases c.args.kept.now.aliases) (λ store journal keeps. keeps.aliases) c.named.result c.named.ensures

pub returns-in-Status : goal.returns-in-Status
returns-in-Status c = by_index c.args.kept.now c.args.index.now (call_seen c.args.call.now) _ (ap call_seen c.in-Status.is) c.places.result c.places.ensures
