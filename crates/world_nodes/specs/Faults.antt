-- Which refusals no step of a call gives.
use Rattle.std.specs.Prelude.{◌≡◌, Bool, true, false}
use Rattle.step_rules.specs.Answers.{Refusal, too_long, unknown_id, unknown_name, full, random_fault, id_taken, disk_fault, no_memory, bad_request, Answer, refused}

-- a fault, or want of memory
abbrev pub is_fault : Refusal → Bool
is_fault (too_long field length) = false
is_fault (unknown_id id) = false
is_fault (unknown_name name) = false
is_fault (full passed) = false
is_fault random_fault = true
is_fault (id_taken id) = false
is_fault disk_fault = true
is_fault no_memory = true
is_fault (bad_request place) = false

-- the answer tells neither of a fault nor of want of memory
pub record IsOfStep (answer : Answer) : Type 0 where
  pub no_disk_fault : answer ≡ refused disk_fault → ⊥
  pub no_random_fault : answer ≡ refused random_fault → ⊥
  pub memory : answer ≡ refused no_memory → ⊥
