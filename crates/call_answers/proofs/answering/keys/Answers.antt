use Rattle.std.proofs.Common.{ℕ, List, subst}
use Rattle.view_rules.specs.Answers.{KvListAnswer}
use Rattle.kv_view.specs.Pairs.{keys_listed}
use Rattle.call_answers.proofs.Shown.{shows_list}
use Rattle.call_answers.proofs.answering.keys.Goals as goal

pub returns : goal.returns
returns c = λ store journal keeps.
    let names = c.in_ok-names.names in
    shows_list store journal c.args.pairs.now c.args.namespace.now c.args.after.now c.args.limit names keeps (λ changes means apart.
    subst (λ (n : List ℕ). KvListAnswer changes n c.args.after.now c.args.limit (keys_listed names)) c.as_bytes.ensures.value
    (subst (λ (a : List ℕ). KvListAnswer changes c.as_bytes.result.now a c.args.limit (keys_listed names)) c.as_bytes-2.ensures.value (c.in_ok-names.ensures changes means apart)))
