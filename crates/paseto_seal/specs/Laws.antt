-- Laws of tokens and wraps: what is locked opens, what is wrapped unwraps, each to one thing alone, and nothing that
-- has not the form does.
use Rattle.std.specs.Prelude.{◌≡◌, ℕ, List, length}
use Rattle.base64.specs.GeneralPurpose.{IsBytes}
use Rattle.paseto_seal.specs.Token.{token, IsTokenForm, Opens}
use Rattle.paseto_seal.specs.Wrap.{wrap, IsWrapForm, Unwraps}

abbrev pub TokenOpens : Type 0
TokenOpens = (key nonce message implicit : List ℕ) → IsBytes nonce → length nonce ≡ 32 → IsBytes message
    → Opens key (token key nonce message implicit) implicit message

abbrev pub TokenOpensOnce : Type 0
TokenOpensOnce = (key text implicit message other : List ℕ) → Opens key text implicit message → Opens key text implicit other → message ≡ other

abbrev pub TokenHasForm : Type 0
TokenHasForm = (key text implicit message : List ℕ) → Opens key text implicit message → IsTokenForm text

abbrev pub WrapUnwraps : Type 0
WrapUnwraps = (by nonce key : List ℕ) → IsBytes nonce → length nonce ≡ 32 → IsBytes key → length key ≡ 32 → Unwraps by (wrap by nonce key) key

abbrev pub WrapUnwrapsOnce : Type 0
WrapUnwrapsOnce = (by text key other : List ℕ) → Unwraps by text key → Unwraps by text other → key ≡ other

abbrev pub WrapHasForm : Type 0
WrapHasForm = (by text key : List ℕ) → Unwraps by text key → IsWrapForm text
