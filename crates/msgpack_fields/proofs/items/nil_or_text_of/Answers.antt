use Rattle.std.proofs.Common.{ℕ, List, Option, IfSome, Bor, arith}
use Rattle.std.specs.Option.{option_map}
use Rattle.definitions.specs.Spelling.{SpellsText, TextFits}
use Rattle.definitions.specs.Reading.{text_at}
use Rattle.msgpack_fields.specs.Reading.{SpellsNilOr, nil_or_at}
use Rattle.msgpack_fields.proofs.Fronts.{found_is_spelled, none_is_spelled, spelled_tells}
use Rattle.msgpack_fields.proofs.Nils.{nil_or_texts_read, text_fits}
use Rattle.msgpack_fields.proofs.items.nil_or_text_of.Goals as goal

pub returns-clause-spelled : goal.returns-clause-spelled
returns-clause-spelled c =
    found_is_spelled (Option (List ℕ)) (Option (Bor (List ℕ)) × Bor (List ℕ)) (nil_or_at text_at) (SpellsNilOr SpellsText) nil_or_texts_read (λ x. (option_map (λ t. t.now) x.0, x.1.now)) c.args.bytes.now c.leading_nil_or_text.result
    (λ i. omega (arith, c.type_inv.bytes i)) c.leading_nil_or_text.ensures.value

pub returns-clause-none : goal.returns-clause-none
returns-clause-none c =
    none_is_spelled (Option (List ℕ)) (Option (Bor (List ℕ)) × Bor (List ℕ)) (nil_or_at text_at) (SpellsNilOr SpellsText) nil_or_texts_read (λ x. (option_map (λ t. t.now) x.0, x.1.now)) c.args.bytes.now c.leading_nil_or_text.result
    c.leading_nil_or_text.ensures.value

pub returns-clause-text : goal.returns-clause-text
returns-clause-text c =
    spelled_tells c.leading_nil_or_text.result (λ x. SpellsNilOr SpellsText (option_map (λ t. t.now) x.0)) c.args.bytes.now (λ x. x.1.now) (λ x. IfSome x.0 (λ t. TextFits t.now)) (λ x front s. text_fits x.0 front s) (returns-clause-spelled c)
