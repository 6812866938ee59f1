-- What a new log holds.
use Rattle.std.proofs.Common.{◌≡◌, ℕ, ◌<◌, ◌^◌, List, [], ◌∷◌, ◌++◌, refl, ◌∙◌, arith, Option, Some, None}
use Rattle.std.specs.Prelude.{IfSome}
use Rattle.record_rules.proofs.Soundness.{empty_sound}
use Rattle.log_rules.specs.Log.{Form, header_bytes}
use Rattle.disk_rules.specs.Disk.{IsDisk}
use Rattle.disk_rules.specs.History.{History}
use Rattle.disk_rules.proofs.Settled.{rest_is_settled}
use Rattle.record_log.specs.Gates.{IsAtRest}
use Rattle.record_log.specs.Journals.{HoldsAt}

pub created_rests : (form : Form) (host : ℕ) (header : List ℕ) (seen : Option History) → header ≡ header_bytes form host ++ 0 ∷ [] → IfSome seen (λ h. IsDisk h.now) → IfSome seen (λ h. (h.now.written ≡ []) × (h.now.shows ≡ header)) → IfSome seen (λ h. IsAtRest 32 h.now)
created_rests form host header None is_header is wrote = tt
created_rests form host header (Some history) is_header is wrote = record {
  prefix = header_bytes form host;
  gate_is = refl;
  settled = rest_is_settled (header_bytes form host) [] history.now is wrote.0 (wrote.1 ∙ is_header);
  fits = omega arith;
}

pub created_holds : (form : Form) (host : ℕ) (header : List ℕ) (seen : Option History) → host < 2 ^ 128 → header ≡ header_bytes form host ++ 0 ∷ [] → IfSome seen (λ h. IsDisk h.now) → IfSome seen (λ h. (h.now.written ≡ []) × (h.now.shows ≡ header)) → IfSome seen (λ h. HoldsAt form 32 host [] h.now)
created_holds form host header None fits is_header is wrote = tt
created_holds form host header (Some history) fits is_header is wrote = record {
  prefix = header_bytes form host;
  place = refl;
  log = record {
    settled = rest_is_settled (header_bytes form host) [] history.now is wrote.0 (wrote.1 ∙ is_header);
    opened = record { host_fits = fits; batches = []; opened = tt; events_are = refl; bytes_are = refl };
    sound = empty_sound host;
  };
}
