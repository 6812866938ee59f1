use Rattle.std.proofs.Common.{ℕ, List, subst}
use Rattle.view_rules.specs.Answers.{AliasListAnswer}
use Rattle.latest_values.specs.Lists.{items_seen}
use Rattle.call_answers.proofs.Shown.{shows_names}
use Rattle.call_answers.proofs.answering.named.Goals as goal

pub returns : goal.returns
returns c = λ store journal keeps.
    let page = items_seen c.in_ok-listed.listed in
    shows_names store journal c.args.aliases.now c.args.after.now c.args.limit page keeps (λ changes means apart.
    subst (λ (a : List ℕ). AliasListAnswer changes a c.args.limit page) c.as_bytes.ensures.value (c.in_ok-listed.ensures changes means apart))
