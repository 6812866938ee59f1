-- What opening a record answers, by the bytes that are computed of it.
use Rattle.std.proofs.Common.{◌≡◌, ℕ, List, Option, Some, None, Ok, Err, Result, refl}
use Rattle.plain_types.specs.Buffer.{Buffer}
use Rattle.record_rules.specs.Records.{SealedRecord}
use Rattle.record_seal.proofs.Computing.{payload_found, payload_stands}
use Rattle.record_seal.proofs.OneReading.{gives_of, names_none}
use Rattle.record_seal.specs.Computing.{opened_payload}
use Rattle.record_seal.specs.Seals.{OpensToBytes}
use Rattle.record_seal.specs.StoreSealing.{TellsOpening}
use Rattle.record_seal.specs.Unsealing.{Unseals}
use Rattle.record_seal.specs.declared.fail.SealFail.{SealFail}
use Rattle.record_seal.specs.declared.fail.SealFail.TheVariants.{WrongKey, BadSeal, NoMemory}

none_if : (found : Option (List ℕ)) → ((payload : List ℕ) → ¬ (found ≡ Some payload)) → found ≡ None
none_if None never = refl
none_if (Some payload) never = absurd (never payload refl)

-- a record that opens to no payload gives none
none_opens : (key : List ℕ) (r : SealedRecord) → ((payload : List ℕ) → ¬ OpensToBytes key r payload) → opened_payload key r ≡ None
none_opens key r never = none_if (opened_payload key r) (λ payload e. never payload (payload_stands key r payload e))

pub unseals_tells : (key : List ℕ) (r : SealedRecord) (answer : Result Buffer SealFail) → Unseals key r answer → TellsOpening (opened_payload key r) answer
unseals_tells key r (Ok payload) opens = payload_found key r payload.items opens
unseals_tells key r (Err (WrongKey id)) other =
    none_opens key r (λ payload o. names_none key r.wrapped o.content_key id (gives_of key r payload o) other)
unseals_tells key r (Err BadSeal) neither = none_opens key r neither.1
unseals_tells key r (Err NoMemory) want = tt
