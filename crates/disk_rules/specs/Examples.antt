-- Worked examples: one byte written over three, and an append of a batch of one byte.
use Rattle.std.specs.Prelude.{◌≡◌, [], ◌∷◌}
use Rattle.disk_rules.specs.Disk.{Disk, Leaves, LeavesOnly, IsDisk, Since}
use Rattle.disk_rules.specs.Calls.{Write, Sync, MayCall, Done, FailedOrUnderWay, Reaches, AllDone, overwritten}
use Rattle.disk_rules.specs.History.{moments, history_of}
use Rattle.disk_rules.specs.Append.{append_calls, settle_calls, stage_calls, FailsAtGate, IsAsBefore, IsWithBatch}

-- three bytes, all synced
abbrev pub at_rest : Disk
at_rest = record { synced = 1 ∷ 2 ∷ 3 ∷ []; written = []; shows = 1 ∷ 2 ∷ 3 ∷ [] }

-- 9 was written over the second byte, and no sync came since
abbrev pub unsynced : Disk
unsynced = record { synced = 1 ∷ 2 ∷ 3 ∷ []; written = record { at = 1; count = 1 } ∷ []; shows = 1 ∷ 9 ∷ 3 ∷ [] }

-- and then a sync succeeded
abbrev pub synced_again : Disk
synced_again = record { synced = 1 ∷ 9 ∷ 3 ∷ []; written = []; shows = 1 ∷ 9 ∷ 3 ∷ [] }

-- a log of one byte before its closed gate, and the same with a batch of the byte 6
abbrev pub small_log : Disk
small_log = record { synced = 5 ∷ 0 ∷ []; written = []; shows = 5 ∷ 0 ∷ [] }

abbrev pub grown_log : Disk
grown_log = record { synced = 5 ∷ 1 ∷ 6 ∷ 0 ∷ []; written = []; shows = 5 ∷ 1 ∷ 6 ∷ 0 ∷ [] }

pub record WorkedDisk : Type 0 where
  pub over : overwritten (1 ∷ 2 ∷ 3 ∷ []) 1 (9 ∷ []) ≡ 1 ∷ 9 ∷ 3 ∷ []
  pub over_the_end : overwritten (1 ∷ 2 ∷ 3 ∷ []) 2 (8 ∷ 9 ∷ []) ≡ 1 ∷ 2 ∷ 8 ∷ 9 ∷ []
  pub write_done : Done (Write 1 (9 ∷ [])) at_rest unsynced
  pub write_failed : FailedOrUnderWay (Write 1 (9 ∷ [])) at_rest (record { synced = 1 ∷ 2 ∷ 3 ∷ []; written = record { at = 1; count = 1 } ∷ []; shows = 1 ∷ 255 ∷ 3 ∷ [] })
  pub write_undone : FailedOrUnderWay (Write 1 (9 ∷ [])) at_rest at_rest
  pub not_outside : FailedOrUnderWay (Write 1 (9 ∷ [])) at_rest (record { synced = 1 ∷ 2 ∷ 3 ∷ []; written = record { at = 1; count = 1 } ∷ []; shows = 1 ∷ 2 ∷ 255 ∷ [] }) → ⊥
  pub not_longer : FailedOrUnderWay (Write 1 (9 ∷ [])) at_rest (record { synced = 1 ∷ 2 ∷ 3 ∷ []; written = record { at = 1; count = 1 } ∷ []; shows = 1 ∷ 2 ∷ 3 ∷ 4 ∷ [] }) → ⊥
  pub sync_done : Done Sync unsynced synced_again
  -- before the sync the write may be kept, lost or torn, and the file may be longer
  pub kept : Leaves unsynced (1 ∷ 9 ∷ 3 ∷ [])
  pub lost : Leaves unsynced (1 ∷ 2 ∷ 3 ∷ [])
  pub torn : Leaves unsynced (1 ∷ 255 ∷ 3 ∷ [])
  pub longer : Leaves unsynced (1 ∷ 2 ∷ 3 ∷ 7 ∷ [])
  -- but no byte outside the range is another, and none of those is gone
  pub other_before : Leaves unsynced (0 ∷ 9 ∷ 3 ∷ []) → ⊥
  pub other_behind : Leaves unsynced (1 ∷ 9 ∷ 0 ∷ []) → ⊥
  pub shorter : Leaves unsynced (1 ∷ 9 ∷ []) → ⊥
  -- a failed sync leaves that so, a sync that succeeds leaves one
  pub lost_still : (now : Disk) → FailedOrUnderWay Sync unsynced now → Leaves now (1 ∷ 2 ∷ 3 ∷ [])
  pub lost_no_more : LeavesOnly synced_again (1 ∷ 9 ∷ 3 ∷ [])
  -- of the three moments, the write was lost at the second alone, number 1, or not begun at the first
  pub since_first : Since 0 (synced_again ∷ unsynced ∷ at_rest ∷ []) (1 ∷ 2 ∷ 3 ∷ [])
  pub since_write : Since 1 (synced_again ∷ unsynced ∷ at_rest ∷ []) (1 ∷ 2 ∷ 3 ∷ [])
  pub since_sync : Since 2 (synced_again ∷ unsynced ∷ at_rest ∷ []) (1 ∷ 2 ∷ 3 ∷ []) → ⊥
  pub appended : AllDone (append_calls 1 (6 ∷ [])) small_log grown_log

-- two writes since the sync: 9 over the second byte, and 7 behind the third
abbrev pub written_twice : Disk
written_twice = record { synced = 1 ∷ 2 ∷ 3 ∷ []; written = record { at = 3; count = 1 } ∷ record { at = 1; count = 1 } ∷ []; shows = 1 ∷ 9 ∷ 3 ∷ 7 ∷ [] }

-- what is a disk, and what may be asked of it
pub record WorkedCalls : Type 0 where
  pub rests : IsDisk at_rest
  pub writes : IsDisk unsynced
  pub writes_twice : IsDisk written_twice
  -- where nothing was written, what was synced is shown, without a byte more
  pub grown_unwritten : IsDisk (record { synced = 1 ∷ 2 ∷ 3 ∷ []; written = []; shows = 1 ∷ 2 ∷ 3 ∷ 7 ∷ [] }) → ⊥
  -- where something was written, no byte outside of it is another
  pub changed_elsewhere : IsDisk (record { synced = 1 ∷ 2 ∷ 3 ∷ []; written = record { at = 1; count = 1 } ∷ []; shows = 1 ∷ 2 ∷ 9 ∷ [] }) → ⊥
  -- a write may begin where the bytes end, and no further, since no byte stands between: it would be shown at the end, and not at its offset
  pub at_the_end : MayCall (Write 3 (9 ∷ [])) at_rest
  pub past_the_end : MayCall (Write 4 (9 ∷ [])) at_rest → ⊥
  pub misplaced : overwritten (1 ∷ 2 ∷ 3 ∷ []) 4 (9 ∷ []) ≡ 1 ∷ 2 ∷ 3 ∷ 9 ∷ []
  -- behind what is shown, synced or not; and a sync may be called at any time
  pub behind_shown : MayCall (Write 4 (9 ∷ [])) written_twice
  pub sync_unsynced : MayCall Sync unsynced
  -- of two writes either may be lost, and before a sync no bytes are the only ones left
  pub first_lost : Leaves written_twice (1 ∷ 2 ∷ 3 ∷ 7 ∷ [])
  pub second_lost : Leaves written_twice (1 ∷ 9 ∷ 3 ∷ [])
  pub not_alone : LeavesOnly unsynced (1 ∷ 9 ∷ 3 ∷ []) → ⊥
  -- a write and a sync that succeed go through three moments
  pub went_through : moments (history_of (1 ∷ 2 ∷ 3 ∷ []) (Write 1 (9 ∷ []) ∷ Sync ∷ [])) ≡ synced_again ∷ unsynced ∷ at_rest ∷ []

-- the moments of that append of the byte 6 behind the log of one byte
abbrev pub batch_torn : Disk
batch_torn = record { synced = 5 ∷ 0 ∷ []; written = record { at = 2; count = 2 } ∷ []; shows = 5 ∷ 0 ∷ 255 ∷ [] }

abbrev pub staged : Disk
staged = record { synced = 5 ∷ 0 ∷ 6 ∷ 0 ∷ []; written = []; shows = 5 ∷ 0 ∷ 6 ∷ 0 ∷ [] }

abbrev pub gate_torn : Disk
gate_torn = record { synced = 5 ∷ 0 ∷ 6 ∷ 0 ∷ []; written = record { at = 1; count = 1 } ∷ []; shows = 5 ∷ 255 ∷ 6 ∷ 0 ∷ [] }

abbrev pub gate_written : Disk
gate_written = record { synced = 5 ∷ 0 ∷ 6 ∷ 0 ∷ []; written = record { at = 1; count = 1 } ∷ []; shows = 5 ∷ 1 ∷ 6 ∷ 0 ∷ [] }

pub record WorkedAppend : Type 0 where
  -- before it, within the first write, after two calls, within the second write, before the last sync, and after it
  pub at_first : Reaches (append_calls 1 (6 ∷ [])) small_log small_log
  pub in_batch : Reaches (append_calls 1 (6 ∷ [])) small_log batch_torn
  pub between : Reaches (append_calls 1 (6 ∷ [])) small_log staged
  pub in_gate : Reaches (append_calls 1 (6 ∷ [])) small_log gate_torn
  pub unkept : Reaches (append_calls 1 (6 ∷ [])) small_log gate_written
  pub at_last : Reaches (append_calls 1 (6 ∷ [])) small_log grown_log
  -- its first two calls, after which the gate may fail, or the sync behind it
  pub stages : AllDone (stage_calls 1 (6 ∷ [])) small_log staged
  pub gate_fails : FailsAtGate 1 staged gate_torn
  pub sync_fails : FailsAtGate 1 staged gate_written
  pub settles : AllDone (settle_calls 1) gate_torn grown_log
  -- the log as before and whatever stands behind its closed gate; with the batch behind any open gate
  pub before : IsAsBefore (5 ∷ []) (5 ∷ 0 ∷ 255 ∷ [])
  pub opened : IsAsBefore (5 ∷ []) (5 ∷ 1 ∷ 6 ∷ 0 ∷ []) → ⊥
  pub no_gate : IsAsBefore (5 ∷ []) (5 ∷ []) → ⊥
  pub with_batch : IsWithBatch (5 ∷ []) (6 ∷ []) (5 ∷ 255 ∷ 6 ∷ 0 ∷ 9 ∷ [])
  pub gate_closed : IsWithBatch (5 ∷ []) (6 ∷ []) (5 ∷ 0 ∷ 6 ∷ 0 ∷ []) → ⊥
  pub next_gate_open : IsWithBatch (5 ∷ []) (6 ∷ []) (5 ∷ 1 ∷ 6 ∷ 1 ∷ []) → ⊥
