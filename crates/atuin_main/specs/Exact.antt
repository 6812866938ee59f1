-- By which number the program ends where its words, its key's text or its disks are so.
use Rattle.std.specs.Prelude.{◌≡◌, ◌⊎◌, ⊤, ℕ, List, Option, Some, None, IsSome}
use Rattle.statuses.specs.declared.Status.{Status}
use Rattle.statuses.specs.declared.Status.TheVariants as status
use Rattle.statuses.specs.Numbers.{number_of}
use Rattle.command_words.specs.declared.Command.{Command}
use Rattle.atuin_main.specs.Outside.{Outside}
use Rattle.atuin_main.specs.Running.{Runs}
use Rattle.atuin_main.specs.Causes.{HasNoKey, HasDamage, HasWrongDisk, HasOldLog}

-- by this status a command may end before it knows what a disk shows
abbrev pub ComesFirst : Status → Type 0
ComesFirst status.FaultyKeyText = ⊤
ComesFirst status.DiskFault = ⊤
ComesFirst status.NoMemory = ⊤
ComesFirst status.RandFault = ⊤
ComesFirst _ = ⊥

-- it ends by the one that is wanted, or before
abbrev pub EndsBy : (ended wanted : Status) → Type 0
EndsBy ended wanted = (ended ≡ wanted) ⊎ ComesFirst ended

-- A text that tells no key is told, where one is read; and what the disks show, where that keeps the command from being done.
pub record EndsExactly (ended : Status) (command : Command) (key_text : List ℕ) (old : Outside) : Type 0 where
  pub key : HasNoKey command key_text → (ended ≡ status.FaultyKeyText) ⊎ (ended ≡ status.NoMemory)
  pub damaged : HasDamage command old → EndsBy ended status.DamagedLog
  pub wrong : HasWrongDisk command old → EndsBy ended status.WrongDisk
  pub old_log : HasOldLog command old → EndsBy ended status.OldLog

-- both disks tell what they show
pub record DisksTell (old : Outside) : Type 0 where
  pub first : IsSome old.disk.history
  pub second : IsSome old.second.history

-- words that are no command are told; and so is what keeps a command from being done
abbrev pub TellsExactly : Option Command → Status → (key_text : List ℕ) → (old : Outside) → Type 0
TellsExactly None ended key_text old = (ended ≡ status.FaultyWords) ⊎ (ended ≡ status.NoMemory)
TellsExactly (Some command) ended key_text old = EndsExactly ended command key_text old

-- the law, where the disks tell
abbrev pub EachCauseIsTold : Type 0
EachCauseIsTold = (ended : Status) (command : Option Command) (key_text : List ℕ) (old new : Outside) → DisksTell old → Runs command (number_of ended) key_text old new → TellsExactly command ended key_text old
