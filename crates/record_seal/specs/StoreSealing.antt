-- What seals and opens here, in the words of a store.
use Rattle.std.specs.Prelude.{◌≡◌, ℕ, List, Option, Some, None, Result, Ok, Err}
use Rattle.plain_types.specs.Buffer.{Buffer}
use Rattle.record_seal.specs.Computing.{opened_payload}
use Rattle.record_seal.specs.SealLengths.{sealed_text_length, key_text_length}
use Rattle.record_seal.specs.Seals.{seal_of}
use Rattle.record_seal.specs.declared.fail.SealFail.{SealFail}
use Rattle.record_seal.specs.declared.fail.SealFail.TheVariants.{WrongKey, BadSeal, NoMemory}
use Rattle.step_rules.specs.Sealing.{Sealing}

-- what a store takes for sealing and opening is what this crate has for it
pub record IsRecordSealing (sealing : Sealing) : Type 0 where
  pub seal : sealing.seal ≡ seal_of
  pub opens : sealing.opens ≡ opened_payload
  pub sealed_length : sealing.sealed_length ≡ sealed_text_length
  pub wrapped_length : sealing.wrapped_length ≡ key_text_length

-- what opening a record answers, by the bytes to which it opens: they, or a refusal where there are none; or want of memory
abbrev pub TellsOpening : Option (List ℕ) → Result Buffer SealFail → Type 0
TellsOpening opened (Ok payload) = opened ≡ Some payload.items
TellsOpening opened (Err (WrongKey id)) = opened ≡ None
TellsOpening opened (Err BadSeal) = opened ≡ None
TellsOpening opened (Err NoMemory) = Unit {0}
