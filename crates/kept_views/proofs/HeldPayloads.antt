-- What a record holds, by the bytes to which it opens and the payload that they spell.
use Rattle.std.proofs.Common.{◌≡◌, ℕ, List, Option, Some, None, Result, Ok, Err, refl, sym, ap, subst, ◌∙◌}
use Rattle.std.specs.Prelude.{IfOk}
use Rattle.std.specs.Option.{option_map}
use Rattle.definitions.specs.Spelling.{IsBytes}
use Rattle.definitions.specs.Reading.{◌>>=◌}
use Rattle.payload_rules.specs.Payloads.{Payload, PayloadOf}
use Rattle.payload_rules.specs.Reading.{payload_at}
use Rattle.payload_rules.proofs.Reading.{payload_found}
use Rattle.payload_forms.specs.declared.kinds.Payload as forms
use Rattle.payload_forms.specs.Seen.{payload_seen}
use Rattle.record_rules.specs.Records.{SealedRecord}
use Rattle.record_seal.specs.Computing.{opened_payload}
use Rattle.record_seal.proofs.StoreSealing.{opened_bytes}
use Rattle.kept_views.specs.Shown.{payload_under}

-- bytes that spell no payload are read as none
pub unread_none : (tag version bytes : List ℕ) → IsBytes bytes → ((p : Payload) → PayloadOf tag version bytes p → ⊥) → None ≡ payload_at tag version bytes
unread_none tag version bytes are unread = by (payload_at tag version bytes) refl
  where
    by : (o : Option Payload) → payload_at tag version bytes ≡ o → None ≡ o
    by None e = refl
    by (Some p) e = absurd (unread p (payload_found tag version bytes p are e))

module _ (key : List ℕ) (r : SealedRecord) where
  -- what its bytes spell
  pub held_in : (bytes : List ℕ) (found : Option Payload) → Some bytes ≡ opened_payload key r → (IsBytes bytes → found ≡ payload_at r.tag r.version bytes) → found ≡ payload_under (Some key) r
  held_in bytes found e read = read (opened_bytes key r bytes (sym e)) ∙ ap (λ (o : Option (List ℕ)). o >>= payload_at r.tag r.version) e

  -- and what reading them answers
  pub held_as_read : {E : Type 0} (tag version bytes items : List ℕ) (answer : Result (Option forms.Payload) E) → tag ≡ r.tag → version ≡ r.version → bytes ≡ items → Some items ≡ opened_payload key r
      → IfOk answer (λ found. IsBytes bytes → option_map payload_seen found ≡ payload_at tag version bytes) → IfOk answer (λ found. option_map payload_seen found ≡ payload_under (Some key) r)
  held_as_read tag version bytes items (Ok found) tag_is version_is bytes_are opened read =
      held_in items (option_map payload_seen found) opened (λ are. read (subst IsBytes (sym bytes_are) are) ∙ (λ i. payload_at (tag_is i) (version_is i) (bytes_are i)))
  held_as_read tag version bytes items (Err e) tag_is version_is bytes_are opened read = read

  -- nothing, where it doesn't open
  pub held_in_none : None ≡ opened_payload key r → None ≡ payload_under (Some key) r
  held_in_none e = ap (λ (o : Option (List ℕ)). o >>= payload_at r.tag r.version) e
