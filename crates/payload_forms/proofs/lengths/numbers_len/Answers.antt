use Rattle.std.proofs.Common.{rules, ap, ◌∙◌, length, SFits, w64, ℤ}
use Rattle.std.proofs.lemmas.Int.{to_z-of_z}
use Rattle.definitions.specs.Spelling.{written_integer}
use Rattle.record_model.specs.Seen.{history_seen}
use Rattle.payload_forms.proofs.WrittenLaws.{numbers_length}
use Rattle.payload_forms.proofs.lengths.numbers_len.Goals as goal

pub returns-clause-value : goal.returns-clause-value
returns-clause-value c =
    let duration : SFits w64 c.args.history.now.duration = search rules in
    let exit : SFits w64 c.args.history.now.exit = search rules in
    numbers_length (history_seen c.args.history.now) c.integer_len.result c.integer_len-2.result
    (c.integer_len.ensures.value ∙ ap (λ (z : ℤ). length (written_integer z)) (to_z-of_z w64 c.args.history.now.duration duration))
    (c.integer_len-2.ensures.value ∙ ap (λ (z : ℤ). length (written_integer z)) (to_z-of_z w64 c.args.history.now.exit exit))
