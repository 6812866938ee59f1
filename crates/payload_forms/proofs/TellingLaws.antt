-- What the functions that read tell of the bytes, over plain values.
use Rattle.std.proofs.Common.{◌≡◌, ℕ, ◌≤◌, List, length, Some, None, Result, Ok, Err, IfOk, sym, ap, ◌∙◌}
use Rattle.definitions.proofs.Bytes.{IsBytes}
use Rattle.payload_rules.specs.Payloads as rules
use Rattle.payload_forms.specs.declared.kinds.Payload.{Payload}
use Rattle.payload_forms.specs.declared.kinds.PayloadFail.{PayloadFail}
use Rattle.payload_forms.specs.declared.kinds.PayloadFail.TheVariants.{Unread}
use Rattle.payload_forms.specs.Reading.{form_at, version_called}
use Rattle.payload_forms.specs.Seen.{GivesWhole, payload_seen}
use Rattle.payload_forms.specs.Writing.{text_total}
use Rattle.payload_forms.proofs.TotalLaws.{payload_total}
use Rattle.payload_forms.proofs.PayloadLaws.{payload_takes, payload_again}

module _ (tag name bytes : List ℕ) where
  pub read_is_spelled : (r : Result Payload PayloadFail) (v : rules.Version) → IsBytes bytes → version_called name ≡ Some v → GivesWhole payload_seen r (form_at v tag bytes) → IfOk r (λ p. rules.PayloadOf tag name bytes (payload_seen p))
  read_is_spelled (Ok p) v are named gives = payload_takes v tag name bytes (payload_seen p) are named gives
  read_is_spelled (Err e) v are named gives = tt

  pub read_is_short : (r : Result Payload PayloadFail) → IfOk r (λ p. rules.PayloadOf tag name bytes (payload_seen p)) → IfOk r (λ p. text_total (payload_seen p) ≤ length bytes)
  read_is_short (Ok p) s = payload_total tag name bytes (payload_seen p) s
  read_is_short (Err e) s = tt

  same_version : (v w : rules.Version) → version_called name ≡ Some v → version_called name ≡ Some w → v ≡ w
  same_version v w a b = let both : Some v ≡ Some w = sym a ∙ b in cc

  unread_at : (r : Result Payload PayloadFail) (v : rules.Version) → GivesWhole payload_seen r (form_at v tag bytes) → r ≡ Err Unread → form_at v tag bytes ≡ None
  unread_at (Ok p) v gives e = absurd cc
  unread_at (Err f) v gives e = gives cc

  pub unread_is_unspelled : (r : Result Payload PayloadFail) (v : rules.Version) → version_called name ≡ Some v → GivesWhole payload_seen r (form_at v tag bytes) → r ≡ Err Unread → (p : rules.Payload) → rules.PayloadOf tag name bytes p → ⊥
  unread_is_unspelled r v named gives e p s =
      let read = payload_again tag name bytes p s in
      let same : form_at v tag bytes ≡ Some p = ap (λ (w : rules.Version). form_at w tag bytes) (same_version v read.version named read.named) ∙ read.read in
      let never : None ≡ Some p = sym (unread_at r v gives e) ∙ same in
      cc

  pub unnamed_is_unspelled : (p : rules.Payload) → version_called name ≡ None → rules.PayloadOf tag name bytes p → ⊥
  unnamed_is_unspelled p unnamed s =
      let read = payload_again tag name bytes p s in
      let never : None ≡ Some read.version = sym unnamed ∙ read.named in
      cc
