use Rattle.std.proofs.Common.{◌≡◌, ℕ, List, [], ◌∙◌, ap, subst}
use Rattle.record_model.specs.Seen.{chains_seen}
use Rattle.record_model.specs.declared.places.Chain.{Chain}
use Rattle.record_rules.specs.Journal.{ChainCount, status}
use Rattle.printing.specs.Lines.{chain_lines}
use Rattle.store_commands.specs.Ends.{Prints}
use Rattle.store_commands.proofs.telling.print_chains.Goals as goal

pub returns : goal.returns
returns g c = λ journal is.
    let told : chains_seen c.in-Ok.chains ≡ status journal 0 = c.in-Ok.ensures journal [] is in
    let text : c.in-Ok-chains_text.text.items ≡ chain_lines (chains_seen c.as_slice.result.now) = c.in-Ok-chains_text.ensures in
    let lines : chain_lines (chains_seen c.as_slice.result.now) ≡ chain_lines (status journal 0) = ap (λ (cs : List Chain). chain_lines (chains_seen cs)) c.as_slice.ensures ∙ ap (λ (cs : List ChainCount). chain_lines cs) told in
    subst (λ (t : List ℕ). Prints c.print.result (g.K.Sink.sink c.args.sink.now) (g.K.Sink.sink c.print.new.sink) t) (c.as_slice-2.ensures.items ∙ (text ∙ lines)) c.print.ensures
