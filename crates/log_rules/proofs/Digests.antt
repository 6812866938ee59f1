-- The digest of the form that is written, and its first batch worked out.
use Rattle.std.proofs.Common.{◌≡◌, ℕ, List, [], ◌∷◌, ◌++◌, length, get_or, take, drop, refl, sym, ◌∙◌, ap, arith, append_assoc}
use Rattle.std.specs.Int.{w32, to_be_bytes}
use Rattle.std.proofs.lemmas.List.{take_at, drop_at}
use Rattle.blake2b_core.specs.Compression.{compress, fold_halves, message_words, mix, round, rounds, word_at, working_vector}
use Rattle.blake2b_core.specs.Hash.{blake2b, state_after}
use Rattle.definitions.specs.Examples.{ls}
use Rattle.record_rules.specs.Records.{Started}
use Rattle.record_rules.proofs.Soundness.{empty_sound}
use Rattle.log_rules.specs.Body.{body_bytes}
use Rattle.log_rules.specs.Log.{current_form, batch_digest, batch_bytes, header_bytes, IsLogPrefix, HoldsGoodBatch}
use Rattle.log_rules.specs.Examples.{ls_log, ls_body, ls_digest, ms_body, ms_digest, WorkedDigests}
use Rattle.log_rules.proofs.Fields.{number_4}
use Rattle.log_rules.proofs.Examples.{empty_prefix, ls_batch, ls_sound}

-- a digest has 16 bytes
pub digest_length : (at : ℕ) (body : List ℕ) → length (batch_digest at body) ≡ 16
unfolding fold_halves compress blake2b
digest_length at body = refl

pub ls_digest_is : batch_digest 32 ls_body ≡ ls_digest
unfolding mix round rounds word_at message_words working_vector fold_halves compress state_after blake2b
ls_digest_is = refl

pub ms_digest_is : batch_digest 32 ms_body ≡ ms_digest
unfolding mix round rounds word_at message_words working_vector fold_halves compress state_after blake2b
ms_digest_is = refl

ls_current : IsLogPrefix current_form (header_bytes current_form 1 ++ batch_bytes current_form 32 (record { gate = 1; events = Started ls ∷ [] })) 1 (Started ls ∷ [])
unfolding blake2b compress fold_halves
ls_current = record { host_fits = omega arith; batches = record { gate = 1; events = Started ls ∷ [] } ∷ []; opened = (record { gate = λ e. absurd (omega arith); batch_events = ls_batch }, tt); events_are = refl; bytes_are = refl }

log_bytes : ls_log current_form 1 ≡ header_bytes current_form 1 ++ 1 ∷ 0 ∷ 0 ∷ 0 ∷ 0x35 ∷ (ls_body ++ ls_digest ++ 0 ∷ [])
log_bytes = ap (λ (digest : List ℕ). header_bytes current_form 1 ++ 1 ∷ 0 ∷ 0 ∷ 0 ∷ 0x35 ∷ (ls_body ++ digest ++ 0 ∷ [])) ls_digest_is

-- no batch has the digest of another
other_digest : (rest : List ℕ) → rest ≡ 0 ∷ 0 ∷ 0 ∷ 0x35 ∷ (ms_body ++ ls_digest ++ 0 ∷ []) → HoldsGoodBatch current_form 32 rest 1 [] → ⊥
other_digest rest is good =
    let body = body_bytes good.events in
    let digest = batch_digest 32 body in
    let whole : rest ≡ to_be_bytes w32 (length body) ++ (body ++ (digest ++ good.gate ∷ good.behind)) = good.bytes_are ∙ append_assoc (to_be_bytes w32 (length body)) (body ++ digest) (good.gate ∷ good.behind) ∙ ap (λ (l : List ℕ). to_be_bytes w32 (length body) ++ l) (append_assoc body digest (good.gate ∷ good.behind)) in
    let numbers = number_4 0x35 (length body) (ms_body ++ ls_digest ++ 0 ∷ []) (body ++ (digest ++ good.gate ∷ good.behind)) (omega arith) good.batch.body (sym is ∙ whole) in
    let body_is : ms_body ≡ body = ap (take 53) numbers.1 ∙ take_at body (digest ++ good.gate ∷ good.behind) 53 (sym numbers.0) in
    let behind : ls_digest ++ 0 ∷ [] ≡ digest ++ good.gate ∷ good.behind = ap (drop 53) numbers.1 ∙ drop_at body (digest ++ good.gate ∷ good.behind) 53 (sym numbers.0) in
    let digest_is : digest ≡ ms_digest = ap (batch_digest 32) (sym body_is) ∙ ms_digest_is in
    let first : ◌≡◌ {A = ℕ} 0xf7 0x80 = ap (λ (l : List ℕ). get_or l 0 0) (behind ∙ ap (λ (l : List ℕ). l ++ good.gate ∷ good.behind) digest_is) in
    omega (arith, first)

changed_bytes : take 70 (ls_log current_form 1) ++ 0x6d ∷ drop 71 (ls_log current_form 1) ≡ header_bytes current_form 1 ++ 1 ∷ 0 ∷ 0 ∷ 0 ∷ 0x35 ∷ (ms_body ++ ls_digest ++ 0 ∷ [])
changed_bytes = ap (λ (l : List ℕ). take 70 l ++ 0x6d ∷ drop 71 l) log_bytes

pub digests : WorkedDigests
digests = record {
  digest = ls_digest_is;
  other_digest = ms_digest_is;
  count = ap (λ (l : List ℕ). length l) log_bytes;
  bytes = log_bytes;
  stands = record { prefix = header_bytes current_form 1 ++ batch_bytes current_form 32 (record { gate = 1; events = Started ls ∷ [] }); behind = []; opened = ls_current; bytes_are = refl; sound = ls_sound };
  changed = record {
    host = 1;
    before = [];
    prefix = header_bytes current_form 1;
    gate = 1;
    rest = 0 ∷ 0 ∷ 0 ∷ 0x35 ∷ (ms_body ++ ls_digest ++ 0 ∷ []);
    opened = empty_prefix current_form 1 (omega arith);
    sound = empty_sound 1;
    bytes_are = changed_bytes;
    offset_is = refl;
    gate_open = λ e. absurd (omega arith);
    bad = other_digest _ refl;
  };
}
