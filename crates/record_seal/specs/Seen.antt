-- Which word of the definitions a type stands for.
use Rattle.step_rules.specs.Store as store
use Rattle.paseto_seal.specs.declared.fail.TokenFail.{TokenFail}
use Rattle.paseto_seal.specs.declared.fail.TokenFail.TheVariants.{NotToken, BadTag, NoMemory as NoTokenMemory}
use Rattle.paseto_seal.specs.declared.fail.WrapFail.{WrapFail}
use Rattle.paseto_seal.specs.declared.fail.WrapFail.TheVariants.{NotWrapped, BadTag as BadWrapTag, NoMemory as NoWrapMemory}
use Rattle.paseto_seal.specs.declared.carried.CarryFail.{CarryFail}
use Rattle.paseto_seal.specs.declared.carried.CarryFail.TheVariants.{NotCarried, NoMemory as NoCarryMemory}
use Rattle.record_seal.specs.declared.fail.SealFail.{SealFail}
use Rattle.record_seal.specs.declared.fail.SealFail.TheVariants.{BadSeal, NoMemory}
use Rattle.record_seal.specs.declared.heads.Head.{Head}
use Rattle.record_seal.specs.declared.heads.Sealed.{Sealed}

abbrev pub head_seen : Head → store.Head
head_seen h = record { id = h.id; idx = h.idx; version = h.version; tag = h.tag; host = h.host }

abbrev pub seal_seen : Sealed → store.Seal
seal_seen s = record { sealed = s.sealed; wrapped = s.wrapped }

-- ---- what a refusal below is called here

abbrev pub memory_refused : SealFail
memory_refused = NoMemory

abbrev pub token_refused : TokenFail → SealFail
token_refused NotToken = BadSeal
token_refused BadTag = BadSeal
token_refused NoTokenMemory = NoMemory

abbrev pub wrap_refused : WrapFail → SealFail
wrap_refused NotWrapped = BadSeal
wrap_refused BadWrapTag = BadSeal
wrap_refused NoWrapMemory = NoMemory

abbrev pub text_refused : CarryFail → SealFail
text_refused NotCarried = BadSeal
text_refused NoCarryMemory = NoMemory
