-- Worked examples: the log of a new store, at rest, and with a batch in doubt in which one command was started.
use Rattle.std.specs.Prelude.{ℕ, List, [], ◌∷◌}
use Rattle.record_rules.specs.Examples.{ls_entry}
use Rattle.disk_rules.specs.Disk.{Disk}
use Rattle.log_rules.specs.Log.{old_form, header_bytes}
use Rattle.log_rules.specs.Examples.{new_log, ls_log}
use Rattle.crash_rules.specs.Laws.{MayAppend, MaySettle, IsBeforeOrAfter}

-- these bytes, synced
abbrev pub resting : List ℕ → Disk
resting bytes = record { synced = bytes; written = []; shows = bytes }

-- the batch is synced behind the closed gate at offset 32, and the write of the gate failed
abbrev pub in_doubt : Disk
in_doubt = record { synced = ls_log old_form 0; written = record { at = 32; count = 1 } ∷ []; shows = ls_log old_form 0 }

pub record WorkedCrash : Type 0 where
  -- the start of `ls` may be appended to a new log
  pub may_append : MayAppend old_form (header_bytes old_form 1) 1 [] (ls_entry ∷ []) (resting (new_log old_form 1))
  -- not while a batch is in doubt, whose gate a crash may leave open, nor where the log was shown but never synced
  pub unsynced : MayAppend old_form (header_bytes old_form 1) 1 [] (ls_entry ∷ []) in_doubt → ⊥
  pub never_synced : MayAppend old_form (header_bytes old_form 1) 1 [] (ls_entry ∷ []) (record { synced = []; written = []; shows = new_log old_form 1 }) → ⊥
  -- not behind an open gate, nor behind bytes that are no prefix of a log
  pub open_gate : MayAppend old_form (header_bytes old_form 1) 1 [] (ls_entry ∷ []) (resting (ls_log old_form 1)) → ⊥
  pub no_prefix : MayAppend old_form [] 1 [] (ls_entry ∷ []) (resting (0 ∷ [])) → ⊥
  -- no batch without events, and no second start of one id
  pub nothing : (disk : Disk) → MayAppend old_form (header_bytes old_form 1) 1 [] [] disk → ⊥
  pub again : (prefix : List ℕ) (disk : Disk) → MayAppend old_form prefix 1 (ls_entry ∷ []) (ls_entry ∷ []) disk → ⊥
  -- the batch in doubt may be settled; there is none on a new log
  pub may_settle : MaySettle old_form (header_bytes old_form 1) 1 [] (ls_entry ∷ []) in_doubt
  pub no_doubt : MaySettle old_form (header_bytes old_form 1) 1 [] (ls_entry ∷ []) (resting (new_log old_form 1)) → ⊥
  pub other_host : MaySettle old_form (header_bytes old_form 1) 2 [] (ls_entry ∷ []) in_doubt → ⊥
  pub settle_nothing : (disk : Disk) → MaySettle old_form (header_bytes old_form 1) 1 [] [] disk → ⊥
  pub settle_again : (prefix : List ℕ) (disk : Disk) → MaySettle old_form prefix 1 (ls_entry ∷ []) (ls_entry ∷ []) disk → ⊥
  -- with the gate closed it is the journal as it was, with any open gate that with `ls`; the log of another host is neither
  pub before : IsBeforeOrAfter old_form 1 [] (ls_entry ∷ []) (ls_log old_form 0)
  pub after : IsBeforeOrAfter old_form 1 [] (ls_entry ∷ []) (ls_log old_form 7)
  pub neither : IsBeforeOrAfter old_form 1 [] (ls_entry ∷ []) (new_log old_form 2) → ⊥
