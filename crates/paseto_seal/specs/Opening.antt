-- What opening a token and unwrapping a key answer, by cases: no two cases fit one text, want of memory aside.
use Rattle.std.specs.Prelude.{ℕ, List, Result, Ok, Err}
use Rattle.plain_types.specs.Buffer.{Buffer}
use Rattle.paseto_seal.specs.Token.{IsTokenForm, Opens}
use Rattle.paseto_seal.specs.Wrap.{IsWrapForm, Unwraps}
use Rattle.paseto_seal.specs.declared.fail.TokenFail.{TokenFail}
use Rattle.paseto_seal.specs.declared.fail.TokenFail.TheVariants.{NotToken, BadTag, NoMemory}
use Rattle.paseto_seal.specs.declared.fail.WrapFail.{WrapFail}
use Rattle.paseto_seal.specs.declared.fail.WrapFail.TheVariants.{NotWrapped, BadTag as BadWrapTag, NoMemory as NoWrapMemory}

-- opened to the message; not of the form; of the form, and the token of no message; for want of memory
abbrev pub OpensToken : (key text implicit : List ℕ) → Result Buffer TokenFail → Type 0
OpensToken key text implicit (Ok message) = Opens key text implicit message.items
OpensToken key text implicit (Err NotToken) = ¬ IsTokenForm text
OpensToken key text implicit (Err BadTag) = IsTokenForm text × ((message : List ℕ) → ¬ Opens key text implicit message)
OpensToken key text implicit (Err NoMemory) = Unit {0}

-- unwrapped to the key; not of the form; of the form, and the wrap of no key; for want of memory
abbrev pub UnwrapsKey : (by text : List ℕ) → Result (List ℕ) WrapFail → Type 0
UnwrapsKey by text (Ok key) = Unwraps by text key
UnwrapsKey by text (Err NotWrapped) = ¬ IsWrapForm text
UnwrapsKey by text (Err BadWrapTag) = IsWrapForm text × ((key : List ℕ) → ¬ Unwraps by text key)
UnwrapsKey by text (Err NoWrapMemory) = Unit {0}
