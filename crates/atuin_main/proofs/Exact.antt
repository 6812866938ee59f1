-- What a disk shows keeps a command from being done in one way alone.
use Rattle.std.proofs.Common.{◌≡◌, ◌≢◌, ◌⊎◌, ℕ, List, [], length, Result, Ok, Err, Option, Some, None, inl, inr, refl, sym, subst, arith}
use Rattle.std.specs.Prelude.{⊤, IsSome, IfSome}
use Rattle.record_rules.specs.Records.{Entry, Event}
use Rattle.disk_rules.specs.Disk.{Disk}
use Rattle.disk_rules.specs.History.{History}
use Rattle.log_rules.specs.Log.{Form, current_form, old_form, HasHeader, HasNoHeader, NotALog, NotOld, IsOldLog, DamagedAt, StandsFor}
use Rattle.log_rules.specs.Opened.{opened_journal}
use Rattle.log_rules.proofs.Logs.{standing_is_whole, standing_is_a_log, damaged_is_a_log, forms_apart}
use Rattle.log_check.proofs.Telling.{tells_so, tells_both}
use Rattle.record_log.specs.Creating.{WasEmpty}
use Rattle.record_log.specs.declared.opening.OpenFail.TheVariants as opening
use Rattle.record_model.specs.declared.asking.Query.{Query}
use Rattle.model_words.specs.Seen.{query_seen}
use Rattle.at_edge.specs.Storing.{DiskSeen, Tells}
use Rattle.at_edge.specs.declared.ending.SessionFail.TheVariants as session
use Rattle.call_supplies.specs.Supplies.{supplies}
use Rattle.session_seats.specs.Sessions.{pipe}
use Rattle.key_text.specs.KeyText.{key_of}
use Rattle.statuses.specs.declared.Status.{Status}
use Rattle.statuses.specs.declared.Status.TheVariants as status
use Rattle.statuses.specs.Numbers.{number_of}
use Rattle.command_words.specs.declared.Command.{Command}
use Rattle.command_words.specs.declared.Command.TheVariants as commands
use Rattle.commands.specs.Logs.{ShowsSome, ShowsOldLog, IsOldLogOf, HoldsJournal}
use Rattle.commands.specs.Initializing.{Inits}
use Rattle.commands.specs.Migrating.{Migrates, CopiesAll, status_of_migrate}
use Rattle.commands.specs.declared.migrating.MigrateFail.{MigrateFail}
use Rattle.commands.specs.declared.migrating.MigrateFail.TheVariants as migrating
use Rattle.store_commands.specs.Ends.{KeepsLog, status_of_fail}
use Rattle.store_commands.specs.Telling.{TellsStatus}
use Rattle.store_commands.specs.Finding.{FindsHits}
use Rattle.store_commands.specs.Piping.{Pipes, status_of_pipe}
use Rattle.store_commands.specs.declared.ends.CommandFail.{CommandFail}
use Rattle.store_commands.specs.declared.ends.CommandFail.TheVariants as fails
use Rattle.store_commands.specs.declared.piping.PipeFail.{PipeFail}
use Rattle.store_commands.specs.declared.piping.PipeFail.TheVariants as piping
use Rattle.atuin_main.specs.Outside.{Outside}
use Rattle.atuin_main.specs.Running.{status_by, RunsCommand}
use Rattle.atuin_main.specs.Causes.{ShowsDamage}
use Rattle.atuin_main.specs.Exact.{EndsBy, EndsExactly, DisksTell, TellsExactly, EachCauseIsTold}
use Rattle.atuin_main.proofs.Numbers.{same_status}

-- ---- what bytes show

header_there : (form : Form) (bytes : List ℕ) (host : ℕ) → HasHeader form bytes host → HasNoHeader form bytes → ⊥
header_there form bytes host has (inl short) = let long = has.long in absurd (omega (arith, long, short))
header_there form bytes host has (inr none) = none host has.host_fits has.header

-- a header of the old form is none of the current one
not_current : (bytes : List ℕ) → IsOldLog bytes → HasNoHeader current_form bytes
not_current bytes old = forms_apart old_form current_form bytes old.0 (λ same. omega (arith, same)) old.1

-- what a command that reads a log tells of the bytes by its status
abbrev Stands : List ℕ → Type 0
Stands shows = (host : ℕ) × ((journal : List Entry) × StandsFor current_form shows host journal)

abbrev ReadSays : Status → List ℕ → Type 0
ReadSays status.DamagedLog shows = (offset : ℕ) × DamagedAt current_form shows offset
ReadSays status.WrongDisk shows = NotALog shows
ReadSays status.OldLog shows = IsOldLog shows
ReadSays status.FaultyKeyText shows = ⊤
ReadSays status.DiskFault shows = ⊤
ReadSays status.NoMemory shows = ⊤
ReadSays status.RandFault shows = ⊤
ReadSays _ shows = Stands shows

module _ (shows : List ℕ) (offset : ℕ) (damaged : DamagedAt current_form shows offset) where
  whole : Stands shows → ⊥
  whole stands = standing_is_whole current_form shows stands.0 offset stands.1.0 stands.1.1 damaged

  damaged_or : (s : Status) → ReadSays s shows → EndsBy s status.DamagedLog
  damaged_or status.Done says = absurd (whole says)
  damaged_or status.FaultyWords says = absurd (whole says)
  damaged_or status.FaultyKeyText says = inr tt
  damaged_or status.SourceFault says = absurd (whole says)
  damaged_or status.SinkFault says = absurd (whole says)
  damaged_or status.DiskFault says = inr tt
  damaged_or status.DamagedLog says = inl refl
  damaged_or status.WrongDisk says = absurd (damaged_is_a_log current_form shows offset damaged says.0)
  damaged_or status.NoMemory says = inr tt
  damaged_or status.RandFault says = inr tt
  damaged_or status.FaultyFrame says = absurd (whole says)
  damaged_or status.SessionLimit says = absurd (whole says)
  damaged_or status.OldLog says = absurd (damaged_is_a_log current_form shows offset damaged (not_current shows says))

module _ (shows : List ℕ) (none : NotALog shows) where
  no_log : Stands shows → ⊥
  no_log stands = standing_is_a_log current_form shows stands.0 stands.1.0 stands.1.1 none.0

  wrong_or : (s : Status) → ReadSays s shows → EndsBy s status.WrongDisk
  wrong_or status.Done says = absurd (no_log says)
  wrong_or status.FaultyWords says = absurd (no_log says)
  wrong_or status.FaultyKeyText says = inr tt
  wrong_or status.SourceFault says = absurd (no_log says)
  wrong_or status.SinkFault says = absurd (no_log says)
  wrong_or status.DiskFault says = inr tt
  wrong_or status.DamagedLog says = absurd (damaged_is_a_log current_form shows says.0 says.1 none.0)
  wrong_or status.WrongDisk says = inl refl
  wrong_or status.NoMemory says = inr tt
  wrong_or status.RandFault says = inr tt
  wrong_or status.FaultyFrame says = absurd (no_log says)
  wrong_or status.SessionLimit says = absurd (no_log says)
  wrong_or status.OldLog says = absurd (header_there old_form shows says.0 says.1 none.1)

module _ (shows : List ℕ) (old : IsOldLog shows) where
  no_old : Stands shows → ⊥
  no_old stands = standing_is_a_log current_form shows stands.0 stands.1.0 stands.1.1 (not_current shows old)

  old_or : (s : Status) → ReadSays s shows → EndsBy s status.OldLog
  old_or status.Done says = absurd (no_old says)
  old_or status.FaultyWords says = absurd (no_old says)
  old_or status.FaultyKeyText says = inr tt
  old_or status.SourceFault says = absurd (no_old says)
  old_or status.SinkFault says = absurd (no_old says)
  old_or status.DiskFault says = inr tt
  old_or status.DamagedLog says = absurd (damaged_is_a_log current_form shows says.0 says.1 (not_current shows old))
  old_or status.WrongDisk says = absurd (header_there old_form shows old.0 old.1 says.1)
  old_or status.NoMemory says = inr tt
  old_or status.RandFault says = inr tt
  old_or status.FaultyFrame says = absurd (no_old says)
  old_or status.SessionLimit says = absurd (no_old says)
  old_or status.OldLog says = inl refl

-- ---- what a disk tells

nothing_told : (disk : DiskSeen) → Tells disk (λ d. ⊤)
nothing_told disk = by disk.history where
  by : (history : Option History) → IfSome history (λ h. ⊤)
  by None = tt
  by (Some h) = tt

-- what follows from what a disk shows, where it tells
shown_then : (disk : DiskSeen) (shows : Disk → Type 0) (P : Type 0) → IsSome disk.history → ((d : Disk) → shows d → P) → Tells disk shows → P
shown_then disk shows P some so told = by disk.history some told where
  by : (history : Option History) → IsSome history → IfSome history (λ h. shows h.now) → P
  by None some told = absurd cc
  by (Some h) some told = so h.now told

-- what two tellings have together
both_then : (disk : DiskSeen) (one other : Disk → Type 0) (P : Type 0) → IsSome disk.history → ((d : Disk) → one d → other d → P) → Tells disk one → Tells disk other → P
both_then disk one other P some so told also = shown_then disk (λ d. one d × other d) P some (λ d both. so d both.0 both.1) (tells_both disk one other told also)

keeps_stand : (host : ℕ) (events : List Event) (old new : DiskSeen) → KeepsLog host events old new → Tells old (λ d. Stands d.shows)
keeps_stand host events old new keeps = tells_so old (λ d. StandsFor current_form d.shows host (opened_journal events)) (λ d. Stands d.shows) (λ d stands. (host, (opened_journal events, stands))) keeps.shown

-- ---- commands that read a log

module _ (disk : DiskSeen) (tells : IsSome disk.history) (s : Status) (says : Tells disk (λ d. ReadSays s d.shows)) where
  read_damaged : ShowsDamage current_form disk → EndsBy s status.DamagedLog
  read_damaged damaged = both_then disk (λ d. ReadSays s d.shows) (λ d. DamagedAt current_form d.shows damaged.0) (EndsBy s status.DamagedLog) tells (λ d one other. damaged_or d.shows damaged.0 other s one) says damaged.1

  read_wrong : Tells disk (λ d. NotALog d.shows) → EndsBy s status.WrongDisk
  read_wrong none = both_then disk (λ d. ReadSays s d.shows) (λ d. NotALog d.shows) (EndsBy s status.WrongDisk) tells (λ d one other. wrong_or d.shows other s one) says none

  read_old : Tells disk (λ d. IsOldLog d.shows) → EndsBy s status.OldLog
  read_old old = both_then disk (λ d. ReadSays s d.shows) (λ d. IsOldLog d.shows) (EndsBy s status.OldLog) tells (λ d one other. old_or d.shows other s one) says old

damage_told : (disk : DiskSeen) (offset : ℕ) → Tells disk (λ d. DamagedAt current_form d.shows offset) → Tells disk (λ d. ReadSays status.DamagedLog d.shows)
damage_told disk offset = tells_so disk (λ d. DamagedAt current_form d.shows offset) (λ d. ReadSays status.DamagedLog d.shows) (λ d damaged. (offset, damaged))

module _ (key_text : List ℕ) (old new : Outside) (tells : DisksTell old) where
  -- ---- status

  status_says : (result : Result (Unit {0}) CommandFail) → TellsStatus result old.disk new.disk old.sink new.sink → Tells old.disk (λ d. ReadSays (status_by status_of_fail result) d.shows)
  status_says (Ok _) told = keeps_stand told.0 told.1.0 old.disk new.disk told.1.1
  status_says (Err fails.FaultyKeyText) told = absurd told.1.2
  status_says (Err (fails.Unopened opening.NotALog)) told = told.0.0
  status_says (Err (fails.Unopened (opening.Damaged offset))) told = damage_told old.disk offset told.0.0
  status_says (Err (fails.Unopened opening.DiskFault)) told = nothing_told old.disk
  status_says (Err (fails.Unopened opening.NoMemory)) told = nothing_told old.disk
  status_says (Err (fails.Unopened opening.OldLog)) told = told.0.0
  status_says (Err fails.SinkFault) told = keeps_stand told.0 told.1.0 old.disk new.disk told.1.1
  status_says (Err fails.NoMemory) told = nothing_told old.disk

  status_exactly : (result : Result (Unit {0}) CommandFail) → TellsStatus result old.disk new.disk old.sink new.sink → EndsExactly (status_by status_of_fail result) commands.Status key_text old
  status_exactly result told =
      let says = status_says result told in
      let ended = status_by status_of_fail result in
      record { key = λ none. absurd none; damaged = read_damaged old.disk tells.first ended says; wrong = read_wrong old.disk tells.first ended says; old_log = read_old old.disk tells.first ended says }

  -- ---- search

  module _ (query : Query) where
    search_says : (result : Result (Unit {0}) CommandFail) → FindsHits result key_text (query_seen query) old.disk new.disk old.sink new.sink → Tells old.disk (λ d. ReadSays (status_by status_of_fail result) d.shows)
    search_says (Ok _) found = keeps_stand found.1.1.0 found.1.1.1.0 old.disk new.disk found.1.1.1.1
    search_says (Err fails.FaultyKeyText) found = nothing_told old.disk
    search_says (Err (fails.Unopened opening.NotALog)) found = found.1.1.0
    search_says (Err (fails.Unopened (opening.Damaged offset))) found = damage_told old.disk offset found.1.1.0
    search_says (Err (fails.Unopened opening.DiskFault)) found = nothing_told old.disk
    search_says (Err (fails.Unopened opening.NoMemory)) found = nothing_told old.disk
    search_says (Err (fails.Unopened opening.OldLog)) found = found.1.1.0
    search_says (Err fails.SinkFault) found = keeps_stand found.1.1.0 found.1.1.1.0 old.disk new.disk found.1.1.1.1
    search_says (Err fails.NoMemory) found = nothing_told old.disk

    search_key : (result : Result (Unit {0}) CommandFail) → FindsHits result key_text (query_seen query) old.disk new.disk old.sink new.sink → key_of key_text ≡ None → (status_by status_of_fail result ≡ status.FaultyKeyText) ⊎ (status_by status_of_fail result ≡ status.NoMemory)
    search_key (Ok _) found none = let there = found.1.0 in absurd cc
    search_key (Err fails.FaultyKeyText) found none = inl refl
    search_key (Err (fails.Unopened fail)) found none = let there = found.1.0 in absurd cc
    search_key (Err fails.SinkFault) found none = let there = found.1.0 in absurd cc
    search_key (Err fails.NoMemory) found none = inr refl

    search_exactly : (result : Result (Unit {0}) CommandFail) → FindsHits result key_text (query_seen query) old.disk new.disk old.sink new.sink → EndsExactly (status_by status_of_fail result) (commands.Search query) key_text old
    search_exactly result found =
        let says = search_says result found in
        let ended = status_by status_of_fail result in
        record { key = search_key result found; damaged = read_damaged old.disk tells.first ended says; wrong = read_wrong old.disk tells.first ended says; old_log = read_old old.disk tells.first ended says }

  -- ---- pipe

  abbrev PipesSo : Result (Unit {0}) PipeFail → Type 0
  PipesSo result = Pipes result key_text old.disk new.disk (supplies old.rand old.clock) (supplies new.rand new.clock) (pipe old.source old.sink) (pipe new.source new.sink)

  pipe_says : (result : Result (Unit {0}) PipeFail) → PipesSo result → Tells old.disk (λ d. ReadSays (status_by status_of_pipe result) d.shows)
  pipe_says (Ok _) held = let session = held.1.1.1 in keeps_stand session.host session.events old.disk session.opened session.keeps
  pipe_says (Err piping.FaultyKeyText) held = nothing_told old.disk
  pipe_says (Err (piping.Unopened opening.NotALog)) held = held.1.1.cause.0
  pipe_says (Err (piping.Unopened (opening.Damaged offset))) held = damage_told old.disk offset held.1.1.cause.0
  pipe_says (Err (piping.Unopened opening.DiskFault)) held = nothing_told old.disk
  pipe_says (Err (piping.Unopened opening.NoMemory)) held = nothing_told old.disk
  pipe_says (Err (piping.Unopened opening.OldLog)) held = held.1.1.cause.0
  pipe_says (Err (piping.Ended session.SourceFault)) held = let session = held.1.1 in keeps_stand session.host session.events old.disk session.opened session.keeps
  pipe_says (Err (piping.Ended session.SinkFault)) held = let session = held.1.1 in keeps_stand session.host session.events old.disk session.opened session.keeps
  pipe_says (Err (piping.Ended (session.CutFrame at))) held = let session = held.1.1 in keeps_stand session.host session.events old.disk session.opened session.keeps
  pipe_says (Err (piping.Ended (session.FrameTooLong named))) held = let session = held.1.1 in keeps_stand session.host session.events old.disk session.opened session.keeps
  pipe_says (Err (piping.Ended session.SessionLimit)) held = let session = held.1.1 in keeps_stand session.host session.events old.disk session.opened session.keeps
  pipe_says (Err (piping.Ended session.NoMemory)) held = nothing_told old.disk

  pipe_key : (result : Result (Unit {0}) PipeFail) → PipesSo result → key_of key_text ≡ None → (status_by status_of_pipe result ≡ status.FaultyKeyText) ⊎ (status_by status_of_pipe result ≡ status.NoMemory)
  pipe_key (Ok _) held none = let there = held.1.0 in absurd cc
  pipe_key (Err piping.FaultyKeyText) held none = inl refl
  pipe_key (Err (piping.Unopened fail)) held none = let there = held.1.0 in absurd cc
  pipe_key (Err (piping.Ended fail)) held none = let there = held.1.0 in absurd cc

  pipe_exactly : (result : Result (Unit {0}) PipeFail) → PipesSo result → EndsExactly (status_by status_of_pipe result) commands.Pipe key_text old
  pipe_exactly result held =
      let says = pipe_says result held in
      let ended = status_by status_of_pipe result in
      record { key = pipe_key result held; damaged = read_damaged old.disk tells.first ended says; wrong = read_wrong old.disk tells.first ended says; old_log = read_old old.disk tells.first ended says }

  -- ---- init

  not_empty : ShowsSome old.disk → WasEmpty old.disk → ⊥
  not_empty some empty = both_then old.disk (λ d. d.shows ≢ []) (λ d. d.shows ≡ []) ⊥ tells.first (λ d is none. is none) some empty

  init_wrong : (ended : Status) → Inits ended old.disk new.disk old.rand new.rand old.clock new.clock → ShowsSome old.disk → EndsBy ended status.WrongDisk
  init_wrong status.Done made some = absurd (not_empty some made.2.0)
  init_wrong status.WrongDisk made some = inl refl
  init_wrong status.DiskFault made some = inr tt
  init_wrong status.RandFault made some = inr tt
  init_wrong status.NoMemory made some = inr tt
  init_wrong status.FaultyKeyText made some = inr tt
  init_wrong status.FaultyWords made some = absurd made.2
  init_wrong status.SourceFault made some = absurd made.2
  init_wrong status.SinkFault made some = absurd made.2
  init_wrong status.DamagedLog made some = absurd made.2
  init_wrong status.FaultyFrame made some = absurd made.2
  init_wrong status.SessionLimit made some = absurd made.2
  init_wrong status.OldLog made some = absurd made.2

  init_exactly : (ended : Status) → Inits ended old.disk new.disk old.rand new.rand old.clock new.clock → EndsExactly ended commands.Init key_text old
  init_exactly ended made = record { key = λ none. absurd none; damaged = λ none. absurd none; wrong = init_wrong ended made; old_log = λ none. absurd none }

  -- ---- migrate

  abbrev MigratesSo : Result (Unit {0}) MigrateFail → Type 0
  MigratesSo result = Migrates result old.disk new.disk old.second new.second old.sink new.sink

  -- the first disk's old log is whole, or a log at all
  old_whole : ShowsOldLog old.disk → ShowsDamage old_form old.disk → ⊥
  old_whole log damaged =
      both_then old.disk (λ d. (host : ℕ) × ((events : List Event) × IsOldLogOf host events d.shows)) (λ d. DamagedAt old_form d.shows damaged.0) ⊥ tells.first (λ d is bad. standing_is_whole old_form d.shows is.0 damaged.0 (opened_journal is.1.0) is.1.1 bad) log damaged.1

  old_is_a_log : ShowsOldLog old.disk → Tells old.disk (λ d. NotOld d.shows) → ⊥
  old_is_a_log log none =
      both_then old.disk (λ d. (host : ℕ) × ((events : List Event) × IsOldLogOf host events d.shows)) (λ d. NotOld d.shows) ⊥ tells.first (λ d is not. standing_is_a_log old_form d.shows is.0 (opened_journal is.1.0) is.1.1 not) log none

  damaged_is_old : (offset : ℕ) → Tells old.disk (λ d. DamagedAt old_form d.shows offset) → Tells old.disk (λ d. NotOld d.shows) → ⊥
  damaged_is_old offset damaged none =
      both_then old.disk (λ d. DamagedAt old_form d.shows offset) (λ d. NotOld d.shows) ⊥ tells.first (λ d bad not. damaged_is_a_log old_form d.shows offset bad not) damaged none

  second_empty : ShowsSome old.second → WasEmpty old.second → ⊥
  second_empty some empty = both_then old.second (λ d. d.shows ≢ []) (λ d. d.shows ≡ []) ⊥ tells.second (λ d is none. is none) some empty

  -- what was copied whole was an old log
  copied_old : (count : ℕ) (second : DiskSeen) → CopiesAll count old.disk second → ShowsOldLog old.disk
  copied_old count second copied =
      tells_so old.disk (λ d. (host : ℕ) × ((events : List Event) × IsOldLogOf host events d.shows × (count ≡ length events) × Tells second (HoldsJournal host (opened_journal events)))) (λ d. (host : ℕ) × ((events : List Event) × IsOldLogOf host events d.shows)) (λ d is. (is.0, (is.1.0, is.1.1))) copied

  migrate_damaged : (result : Result (Unit {0}) MigrateFail) → MigratesSo result → ShowsDamage old_form old.disk → EndsBy (status_by status_of_migrate result) status.DamagedLog
  migrate_damaged (Ok _) moved damaged = absurd (old_whole (copied_old moved.ends.0 new.second moved.ends.2) damaged)
  migrate_damaged (Err migrating.NotOld) moved damaged = absurd (damaged_is_old damaged.0 damaged.1 moved.ends.0)
  migrate_damaged (Err (migrating.Damaged offset)) moved damaged = inl refl
  migrate_damaged (Err (migrating.NotEmpty count)) moved damaged = absurd (old_whole moved.ends.0 damaged)
  migrate_damaged (Err migrating.OldFault) moved damaged = inr tt
  migrate_damaged (Err migrating.MakeFault) moved damaged = inr tt
  migrate_damaged (Err migrating.CopyFault) moved damaged = inr tt
  migrate_damaged (Err migrating.SinkFault) moved damaged = absurd (old_whole (copied_old moved.ends.0 new.second moved.ends.2) damaged)
  migrate_damaged (Err migrating.NoMemory) moved damaged = inr tt

  -- no old log stands there, or one does and the second disk isn't empty
  migrate_wrong : (result : Result (Unit {0}) MigrateFail) → MigratesSo result → Tells old.disk (λ d. NotOld d.shows) ⊎ (ShowsOldLog old.disk × ShowsSome old.second) → EndsBy (status_by status_of_migrate result) status.WrongDisk
  migrate_wrong (Ok _) moved (inl none) = absurd (old_is_a_log (copied_old moved.ends.0 new.second moved.ends.2) none)
  migrate_wrong (Ok _) moved (inr some) = absurd (second_empty some.1 moved.ends.1.empty)
  migrate_wrong (Err migrating.NotOld) moved wrong = inl refl
  migrate_wrong (Err (migrating.Damaged offset)) moved (inl none) = absurd (damaged_is_old offset moved.ends.0 none)
  migrate_wrong (Err (migrating.Damaged offset)) moved (inr some) = absurd (old_whole some.0 (offset, moved.ends.0))
  migrate_wrong (Err (migrating.NotEmpty count)) moved wrong = inl refl
  migrate_wrong (Err migrating.OldFault) moved wrong = inr tt
  migrate_wrong (Err migrating.MakeFault) moved wrong = inr tt
  migrate_wrong (Err migrating.CopyFault) moved wrong = inr tt
  migrate_wrong (Err migrating.SinkFault) moved (inl none) = absurd (old_is_a_log (copied_old moved.ends.0 new.second moved.ends.2) none)
  migrate_wrong (Err migrating.SinkFault) moved (inr some) = absurd (second_empty some.1 moved.ends.1.empty)
  migrate_wrong (Err migrating.NoMemory) moved wrong = inr tt

  migrate_exactly : (result : Result (Unit {0}) MigrateFail) → MigratesSo result → EndsExactly (status_by status_of_migrate result) commands.Migrate key_text old
  migrate_exactly result moved = record { key = λ none. absurd none; damaged = migrate_damaged result moved; wrong = migrate_wrong result moved; old_log = λ none. absurd none }

-- ---- all of them

-- the status of a command whose number this is, and what it is exactly for
record EndedSo (command : Command) (number : ℕ) (key_text : List ℕ) (old : Outside) : Type 0 where
  ended : Status
  number_is : number ≡ number_of ended
  exactly : EndsExactly ended command key_text old

command_exactly : (command : Command) (number : ℕ) (key_text : List ℕ) (old new : Outside) → DisksTell old → RunsCommand command number key_text old new → EndedSo command number key_text old
command_exactly commands.Init number key_text old new tells runs = record { ended = runs.status; number_is = runs.number_is; exactly = init_exactly key_text old new tells runs.status runs.inits }
command_exactly commands.Pipe number key_text old new tells runs = record { ended = status_by status_of_pipe runs.result; number_is = runs.number_is; exactly = pipe_exactly key_text old new tells runs.result runs.pipes }
command_exactly commands.Status number key_text old new tells runs = record { ended = status_by status_of_fail runs.result; number_is = runs.number_is; exactly = status_exactly key_text old new tells runs.result runs.tells }
command_exactly (commands.Search query) number key_text old new tells runs = record { ended = status_by status_of_fail runs.result; number_is = runs.number_is; exactly = search_exactly key_text old new tells query runs.result runs.finds }
command_exactly commands.Migrate number key_text old new tells runs = record { ended = status_by status_of_migrate runs.result; number_is = runs.number_is; exactly = migrate_exactly key_text old new tells runs.result runs.migrates }

-- what one status is exactly for, each with the same number is
by_number : (one ended : Status) (command : Option Command) (key_text : List ℕ) (old : Outside) → number_of ended ≡ number_of one → TellsExactly command one key_text old → TellsExactly command ended key_text old
by_number one ended command key_text old same exactly = subst (λ (s : Status). TellsExactly command s key_text old) (sym (same_status one ended (sym same))) exactly

short_exactly : (command : Option Command) (key_text : List ℕ) (old : Outside) → TellsExactly command status.NoMemory key_text old
short_exactly None key_text old = inr refl
short_exactly (Some command) key_text old = record { key = λ none. inr refl; damaged = λ shown. inr tt; wrong = λ shown. inr tt; old_log = λ shown. inr tt }

pub each_cause_is_told : EachCauseIsTold
each_cause_is_told ended (Some command) key_text old new tells (inl runs) =
    let told = command_exactly command (number_of ended) key_text old new tells runs in
    by_number told.ended ended (Some command) key_text old told.number_is told.exactly
each_cause_is_told ended None key_text old new tells (inl runs) = by_number status.FaultyWords ended None key_text old runs.0 (inl refl)
each_cause_is_told ended command key_text old new tells (inr short) = by_number status.NoMemory ended command key_text old short.0 (short_exactly command key_text old)
