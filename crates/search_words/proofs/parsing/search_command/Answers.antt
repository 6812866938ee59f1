use Rattle.std.proofs.Common.{rules, ap₂, codes, ◌≡◌, ◌∙◌}
use Rattle.std.proofs.lemmas.Result.{IfOk-weaker}
use Rattle.clap.specs.Words.{rule_of, with_rule}
use Rattle.search_words.specs.Parsing.{flag_rule, option_rule}
use Rattle.search_words.proofs.parsing.search_command.Goals as goal

pub returns : goal.returns
returns c =
    let mode : rule_of c.option.result ≡ option_rule (codes "mode") = search rules in
    let filter : rule_of c.option-2.result ≡ option_rule (codes "filter") = search rules in
    let unique : rule_of c.flag.result ≡ flag_rule (codes "unique") = search rules in
    let offset : rule_of c.option-3.result ≡ option_rule (codes "offset") = search rules in
    let limit : rule_of c.option-4.result ≡ option_rule (codes "limit") = search rules in
    let five =
    c.in_ok-arg-5.ensures.shape c.option-4.ensures.local ∙ ap₂ with_rule
    (c.in_ok-arg-4.ensures.shape c.option-3.ensures.local ∙ ap₂ with_rule
    (c.in_ok-arg-3.ensures.shape c.flag.ensures.local ∙ ap₂ with_rule
    (c.in_ok-arg-2.ensures.shape c.option-2.ensures.local ∙ ap₂ with_rule
    (c.in_ok-arg.ensures.shape c.option.ensures.local ∙ ap₂ with_rule c.bare_command.ensures mode) filter) unique) offset) limit in
    IfOk-weaker c.arg-6.result _ _ (λ r h. h.shape c.text.ensures.local ∙ ap₂ with_rule five c.text.ensures.rule) c.arg-6.ensures
