-- What opening a record answers, by cases: no two cases fit one record, want of memory aside.
use Rattle.std.specs.Prelude.{◌≡◌, ℕ, List, Result, Ok, Err}
use Rattle.plain_types.specs.Buffer.{Buffer}
use Rattle.paseto_seal.specs.KeyId.{key_id_of}
use Rattle.paseto_seal.specs.Wrap.{Unwraps}
use Rattle.record_rules.specs.Records.{SealedRecord}
use Rattle.record_seal.specs.Seals.{IsKeyText, IsMessage, OpensToBytes}
use Rattle.record_seal.specs.declared.fail.SealFail.{SealFail}
use Rattle.record_seal.specs.declared.fail.SealFail.TheVariants.{WrongKey, BadSeal, NoMemory}
use Rattle.record_seal.specs.declared.group.Opened.{Opened}
use Rattle.record_seal.specs.declared.group.Opened.TheVariants as opened

-- the text is a key text that names another key than this
pub record NamesOther (key text id : List ℕ) : Type 0 where
  pub wrapped : List ℕ
  pub key_text_is : IsKeyText text wrapped id
  pub other : ¬ (id ≡ key_id_of key)

-- opened to the payload; sealed under another key, which is named; neither that nor opened by any payload; for want of memory
abbrev pub Unseals : (key : List ℕ) → SealedRecord → Result Buffer SealFail → Type 0
Unseals key r (Ok payload) = OpensToBytes key r payload.items
Unseals key r (Err (WrongKey id)) = NamesOther key r.wrapped id
Unseals key r (Err BadSeal) = ((id : List ℕ) → ¬ NamesOther key r.wrapped id) × ((payload : List ℕ) → ¬ OpensToBytes key r payload)
Unseals key r (Err NoMemory) = Unit {0}

-- an item of a group, as the answer that one record alone gives
abbrev pub answer_of : Opened → Result Buffer SealFail
answer_of (opened.Payload payload) = Ok payload
answer_of (opened.WrongKey id) = Err (WrongKey id)
answer_of opened.BadSeal = Err BadSeal

-- ---- parts of it

-- a wrapped key in the text of a key text, unwrapped
pub record GivesKey (key text content_key : List ℕ) : Type 0 where
  pub wrapped : List ℕ
  pub key_text_is : IsKeyText text wrapped (key_id_of key)
  pub unwrapped : Unwraps key wrapped content_key

-- what reading a key text and unwrapping its key answers
abbrev pub ReadsKey : (key text : List ℕ) → Result (List ℕ) SealFail → Type 0
ReadsKey key text (Ok content_key) = GivesKey key text content_key
ReadsKey key text (Err (WrongKey id)) = NamesOther key text id
ReadsKey key text (Err BadSeal) = ((id : List ℕ) → ¬ NamesOther key text id) × ((content_key : List ℕ) → ¬ GivesKey key text content_key)
ReadsKey key text (Err NoMemory) = Unit {0}

-- what reading a message answers
abbrev pub ReadsMessage : (text : List ℕ) → Result Buffer SealFail → Type 0
ReadsMessage text (Ok payload) = IsMessage text payload.items
ReadsMessage text (Err (WrongKey id)) = ⊥
ReadsMessage text (Err BadSeal) = (payload : List ℕ) → ¬ IsMessage text payload
ReadsMessage text (Err NoMemory) = Unit {0}
