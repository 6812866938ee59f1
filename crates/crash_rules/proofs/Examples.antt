-- The examples, computed.
use Rattle.std.proofs.Common.{◌≡◌, ℕ, ◌≤◌, inl, inr, List, [], ◌∷◌, ◌++◌, length, get_or, refl, ap, arith}
use Rattle.definitions.specs.Examples.{ls}
use Rattle.record_rules.specs.Examples.{ls_entry}
use Rattle.disk_rules.specs.Disk.{IsDisk, Leaves}
use Rattle.disk_rules.proofs.Append.{same_elsewhere}
use Rattle.disk_rules.proofs.Settled.{rest_is_settled}
use Rattle.record_rules.specs.Records.{Started}
use Rattle.record_rules.specs.Journal.{Sound}
use Rattle.record_rules.proofs.Soundness.{empty_sound}
use Rattle.log_rules.specs.Log.{old_form, header_bytes, payload_bytes, StandsFor}
use Rattle.log_rules.specs.Examples.{new_log, ls_log}
use Rattle.log_rules.proofs.Examples.{empty_prefix, ls_batch, ls_sound, first_batch}
use Rattle.log_rules.proofs.Logs.{one_journal}
use Rattle.crash_rules.specs.Laws.{IsBeforeOrAfter}
use Rattle.crash_rules.specs.Examples.{resting, in_doubt, WorkedCrash}

pub rests : (bytes : List ℕ) → IsDisk (resting bytes)
rests bytes = record { still = λ none. refl; keeps = record { no_shorter = omega arith; elsewhere = λ offset below outside. refl } }

-- a crash may leave the gate of the batch in doubt open
gate_opened : Leaves in_doubt (ls_log old_form 1)
gate_opened = record { no_shorter = omega arith; elsewhere = λ offset below outside. same_elsewhere (header_bytes old_form 1) 1 0 (payload_bytes old_form 32 (Started ls ∷ []) ++ 0 ∷ []) offset (λ e. outside (inl (omega (arith, e), omega (arith, e)))) }

-- `ls` can't be started twice with one id
not_again : Sound (ls_entry ∷ ls_entry ∷ []) 1 → ⊥
not_again sound = sound.started_apart 0 1 ls ls (omega arith) refl refl refl

new_stands : StandsFor old_form (new_log old_form 2) 2 []
new_stands = record { prefix = header_bytes old_form 2; behind = []; opened = empty_prefix old_form 2 (omega arith); bytes_are = refl; sound = empty_sound 2 }

other_host : IsBeforeOrAfter old_form 1 [] (ls_entry ∷ []) (new_log old_form 2) → ⊥
other_host (inl before) = let h = (one_journal old_form (new_log old_form 2) 1 2 [] [] before new_stands).0 in omega arith
other_host (inr after) = let h = (one_journal old_form (new_log old_form 2) 1 2 (ls_entry ∷ []) [] after new_stands).0 in omega arith

pub crash : WorkedCrash
crash = record {
  may_append = record { log = record { settled = rest_is_settled (header_bytes old_form 1) [] (resting (new_log old_form 1)) (rests (new_log old_form 1)) refl refl; opened = empty_prefix old_form 1 (omega arith); sound = empty_sound 1 }; batch = ls_batch; sound = ls_sound };
  unsynced = λ may. let begins = may.log.settled.images (ls_log old_form 1) gate_opened in let h : ◌≡◌ {A = ℕ} 1 0 = ap (λ (l : List ℕ). get_or l 32 9) begins.1 in omega arith;
  never_synced = λ may. let h : ◌≡◌ {A = ℕ} 33 0 = ap (λ (l : List ℕ). length l) (may.log.settled.is_disk.still refl) in omega arith;
  open_gate = λ may. let begins = may.log.settled.images (ls_log old_form 1) refl in let h : ◌≡◌ {A = ℕ} 1 0 = ap (λ (l : List ℕ). get_or l 32 9) begins.1 in omega arith;
  no_prefix = λ may. let h : ◌≡◌ {A = ℕ} 9 0x41 = ap (λ (l : List ℕ). get_or l 0 9) may.log.opened.bytes_are in omega arith;
  nothing = λ disk may. let h : 1 ≤ 0 = may.batch.some in omega arith;
  again = λ prefix disk may. not_again may.sound;
  may_settle = record {
    doubt = record { is_disk = record { still = λ none. refl; keeps = record { no_shorter = omega arith; elsewhere = λ offset below outside. refl } }; staged = ([], refl); gate_alone = (refl, tt) };
    opened = empty_prefix old_form 1 (omega arith);
    batch = ls_batch;
    sound = ls_sound;
  };
  no_doubt = λ may. let h : ◌≡◌ {A = ℕ} 9 0x35 = ap (λ (l : List ℕ). get_or l 36 9) may.doubt.staged.1 in omega arith;
  other_host = λ may. let h : ◌≡◌ {A = ℕ} 1 2 = ap (λ (l : List ℕ). get_or l 23 9) may.opened.bytes_are in omega arith;
  settle_nothing = λ disk may. let h : 1 ≤ 0 = may.batch.some in omega arith;
  settle_again = λ prefix disk may. not_again may.sound;
  before = inl first_batch.stands_closed;
  after = inr first_batch.stands_too;
  neither = other_host;
}
