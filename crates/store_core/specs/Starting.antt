-- The id that is drawn for a command that starts.
use Rattle.std.specs.Prelude.{◌≡◌, ℕ, List, [], length, Result, Ok, Err}
use Rattle.definitions.specs.Counts.{Rose}
use Rattle.definitions.specs.Spelling.{IsBytes}
use Rattle.step_rules.specs.Step.{drawn_id}
use Rattle.at_edge.specs.Drawing.{EntropySeen, Drew}

-- the id was made of this time and of ten bytes that were drawn
pub record IdMade (old new : EntropySeen) (now id : ℕ) : Type 0 where
  pub drawn : List ℕ
  pub ten : length drawn ≡ 10
  pub bytes : IsBytes drawn
  pub drew : Drew old new drawn
  pub made : id ≡ drawn_id now drawn

-- or nothing was drawn, and a fault was counted
abbrev pub DrawsId : {E : Type 0} → EntropySeen → EntropySeen → (now : ℕ) → Result ℕ E → Type 0
DrawsId old new now (Ok id) = IdMade old new now id
DrawsId old new now (Err _) = Drew old new [] × Rose old.faults new.faults
