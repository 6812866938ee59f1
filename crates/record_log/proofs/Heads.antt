-- The header with which bytes begin, by the first 33 of them.
use Rattle.std.proofs.Common.{◌≡◌, ℕ, ◌<◌, ◌≤◌, inl, inr, List, length, take, Err, sym, ◌∙◌, subst, arith, take-take}
use Rattle.std.proofs.lemmas.List.{length-take}
use Rattle.log_rules.specs.Log.{Form, HasHeader, HasNoHeader}
use Rattle.log_rules.proofs.Headers.{faulty_header}
use Rattle.log_format.specs.Headers.{ReadsHeader}
use Rattle.log_format.specs.declared.fails.FormatFail.{FormatFail}
use Rattle.log_format.specs.declared.fails.FormatFail.TheVariants.{Wrong, NoMemory}

module _ (form : Form) (first shows : List ℕ) (long : 33 ≤ length shows) (first_is : first ≡ take 33 shows) where
  pub has_header : (host : ℕ) → HasHeader form first host → HasHeader form shows host
  has_header host has = record { long = long; host_fits = has.host_fits; header = sym (take-take 32 33 shows (omega arith)) ∙ sym (λ i. take 32 (first_is i)) ∙ has.header }

  no_header : HasNoHeader form first → HasNoHeader form shows
  no_header (inl short) =
      let counted = length-take 33 shows in
      let short_too = subst (λ (l : List ℕ). length l < 33) first_is short in
      absurd (omega (arith, counted, short_too, long))
  no_header (inr other) = inr (λ host fits e. other host fits ((λ i. take 32 (first_is i)) ∙ take-take 32 33 shows (omega arith) ∙ e))

  pub none_read : (fail : FormatFail) → ReadsHeader form first (Err fail) → HasNoHeader form shows
  none_read (Wrong place) fault = no_header (faulty_header form first place fault)
  none_read NoMemory never = absurd never
