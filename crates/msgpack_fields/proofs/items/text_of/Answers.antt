use Rattle.std.proofs.Common.{ℕ, ◌<◌, ◌^◌, List, length, Bor, arith}
use Rattle.std.specs.Str.{IsUtf8}
use Rattle.definitions.specs.Spelling.{SpellsText}
use Rattle.definitions.specs.Reading.{text_at}
use Rattle.definitions.proofs.Spelling.{texts_read, spelled_text_short}
use Rattle.msgpack_fields.proofs.Fronts.{found_is_spelled, none_is_spelled, spelled_tells}
use Rattle.msgpack_fields.proofs.items.text_of.Goals as goal

pub returns-clause-spelled : goal.returns-clause-spelled
returns-clause-spelled c =
    found_is_spelled (List ℕ) (Bor (List ℕ) × Bor (List ℕ)) text_at SpellsText texts_read (λ x. (x.0.now, x.1.now)) c.args.bytes.now c.leading_text.result (λ i. omega (arith, c.type_inv.bytes i)) c.leading_text.ensures.value

pub returns-clause-none : goal.returns-clause-none
returns-clause-none c =
    none_is_spelled (List ℕ) (Bor (List ℕ) × Bor (List ℕ)) text_at SpellsText texts_read (λ x. (x.0.now, x.1.now)) c.args.bytes.now c.leading_text.result c.leading_text.ensures.value

pub returns-clause-utf8 : goal.returns-clause-utf8
returns-clause-utf8 c =
    spelled_tells c.leading_text.result (λ x. SpellsText x.0.now) c.args.bytes.now (λ x. x.1.now) (λ x. IsUtf8 x.0.now) (λ x front s. s.utf8) (returns-clause-spelled c)

pub returns-clause-short : goal.returns-clause-short
returns-clause-short c =
    spelled_tells c.leading_text.result (λ x. SpellsText x.0.now) c.args.bytes.now (λ x. x.1.now) (λ x. length x.0.now < 2 ^ 32) (λ x front s. spelled_text_short x.0.now front s) (returns-clause-spelled c)
