-- The examples of runs, computed.
use Rattle.std.proofs.Common.{◌≡◌, ℕ, zero, suc, ◌≤◌, List, [], ◌∷◌, length, take, refl, sym, ap, arith}
use Rattle.std.proofs.lemmas.Option.{none-some}
use Rattle.record_rules.specs.Records.{Event}
use Rattle.record_rules.specs.Examples.{ls_entry}
use Rattle.record_rules.proofs.Soundness.{empty_sound}
use Rattle.log_rules.specs.Log.{old_form, header_bytes, StandsFor}
use Rattle.log_rules.specs.Examples.{new_log, ended_log, ended_entry}
use Rattle.log_rules.proofs.Examples.{empty_prefix, first_batch}
use Rattle.log_rules.proofs.Logs.{one_journal}
use Rattle.crash_rules.specs.Runs.{entries_in, IsCutBetweenCommits}
use Rattle.crash_rules.specs.Cuts.{WorkedCuts}

new_stands : (host : ℕ) → host ≤ 2 → StandsFor old_form (new_log old_form host) host []
new_stands host fits = record { prefix = header_bytes old_form host; behind = []; opened = empty_prefix old_form host (omega (arith, fits)); bytes_are = refl; sound = empty_sound host }

-- of one commit at most one entry stands there
no_two : IsCutBetweenCommits old_form 1 [] ((ls_entry ∷ []) ∷ []) ended_log → ⊥
no_two cut = by cut.count cut.within cut.stands
  where
    by : (count : ℕ) → count ≤ 1 → StandsFor old_form ended_log 1 (entries_in (take count ((ls_entry ∷ []) ∷ []))) → ⊥
    by zero within stands = let two : ◌≡◌ {A = ℕ} 0 2 = ap (λ (l : List Event). length l) (one_journal old_form ended_log 1 1 [] (ls_entry ∷ ended_entry ∷ []) stands first_batch.stands_ended).1 in omega arith
    by (suc zero) within stands = let two : ◌≡◌ {A = ℕ} 1 2 = ap (λ (l : List Event). length l) (one_journal old_form ended_log 1 1 (ls_entry ∷ []) (ls_entry ∷ ended_entry ∷ []) stands first_batch.stands_ended).1 in omega arith
    by (suc (suc count)) within stands = absurd (omega (arith, within))

pub cuts_worked : WorkedCuts
cuts_worked = record {
  in_doubt_then = λ one two. refl;
  one_commit = λ one two. refl;
  both_commits = λ one two three four. refl;
  not_in_doubt = λ none. none-some (ended_entry ∷ []) (sym none);
  before = record { count = 0; within = omega arith; stands = new_stands 1 (omega arith) };
  between = record { count = 1; within = omega arith; stands = first_batch.stands };
  behind = record { count = 2; within = omega arith; stands = first_batch.stands_ended };
  other_host = λ cut. let hosts : 1 ≡ 2 = (one_journal old_form (new_log old_form 2) 1 2 _ [] cut.stands (new_stands 2 (omega arith))).0 in omega arith;
  too_many = no_two;
}
