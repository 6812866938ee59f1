-- Worked examples: a small world, with every kind of event, and a world where two nodes have one host.
use Rattle.std.specs.Prelude.{◌≡◌, ℕ, List, [], ◌∷◌, codes, None, Err}
use Rattle.record_rules.specs.Records.{SealedRecord, Entry, Started, Local}
use Rattle.record_rules.specs.Journal.{status}
use Rattle.record_rules.specs.Growth.{PageForked, taken_entry, grow}
use Rattle.record_rules.specs.Examples.{caller, placed_record, started_ls, entry_of}
use Rattle.world_rules.specs.World.{HostsDiffer, World, empty_world, WorldEvent, Append, Send, Deliver, Crash, Cut, AppendsOwn, Reach}

-- a record of this host's chain of commands, and the entry where it was made
abbrev pub command_record : (host idx id : ℕ) → SealedRecord
command_record host idx id = placed_record host (codes "history") idx id

abbrev pub made_entry : (host idx id : ℕ) → Entry
made_entry host idx id = entry_of (Local None (command_record host idx id))

-- Node 1 makes a record and sends it, makes another one while it crashes, and sends that one alone. The server gets the second page first,
-- then both, then the first again. Node 2 starts a command and makes a record, crashes while
-- a page comes, crashes again, and gets both records from the server
abbrev pub schedule : List (WorldEvent (List Entry))
schedule =
    Append 1 (made_entry 1 0 11 ∷ []) ∷ Send 1 1 (codes "history") 0 10 ∷ Cut (Append 1 (made_entry 1 1 12 ∷ [])) ∷ Send 1 1 (codes "history") 1 10
    ∷ Deliver 1 0 caller ∷ Deliver 0 0 caller ∷ Deliver 1 0 caller ∷ Deliver 0 0 caller
    ∷ Append 2 (entry_of (Started (started_ls 7)) ∷ []) ∷ Append 2 (made_entry 2 0 21 ∷ []) ∷ Cut (Deliver 0 2 caller) ∷ Crash 2 ∷ Send 0 1 (codes "history") 0 10 ∷ Deliver 2 2 caller ∷ []

pub record WorkedWorld : Type 0 where
  pub hosts_differ : HostsDiffer (1 ∷ 2 ∷ [])
  pub world : World
  pub reached : Reach AppendsOwn (1 ∷ 2 ∷ []) schedule world
  pub of_server : world.journal 0 ≡ taken_entry caller 0 (command_record 1 0 11) ∷ taken_entry caller 0 (command_record 1 1 12) ∷ []
  pub of_first : world.journal 1 ≡ made_entry 1 0 11 ∷ made_entry 1 1 12 ∷ []
  pub of_second : world.journal 2 ≡ entry_of (Started (started_ls 7)) ∷ made_entry 2 0 21 ∷ taken_entry caller 0 (command_record 1 0 11) ∷ taken_entry caller 0 (command_record 1 1 12) ∷ []
  pub were_sent : world.sent ≡ (command_record 1 0 11 ∷ []) ∷ (command_record 1 1 12 ∷ []) ∷ (command_record 1 0 11 ∷ command_record 1 1 12 ∷ []) ∷ []
  pub status_of_server : status (world.journal 0) 0 ≡ record { host = 1; tag = codes "history"; count = 2 } ∷ []
  pub status_of_first : status (world.journal 1) 0 ≡ record { host = 1; tag = codes "history"; count = 2 } ∷ []
  -- a step that a crash cut may be lost whole, too
  pub lost : Reach AppendsOwn (1 ∷ []) (Cut (Append 1 (made_entry 1 0 11 ∷ [])) ∷ []) empty_world
  -- and the server makes no step
  pub no_server_steps : (other : World) → Reach AppendsOwn (1 ∷ []) (Append 0 [] ∷ []) other → ⊥

-- two nodes of host 1 make a record each, and the page of the one is a fork at the other
abbrev pub twin_schedule : List (WorldEvent (List Entry))
twin_schedule = Append 1 (made_entry 1 0 11 ∷ []) ∷ Append 2 (made_entry 1 0 12 ∷ []) ∷ Send 1 1 (codes "history") 0 10 ∷ []

pub record WorkedTwins : Type 0 where
  pub world : World
  pub reached : Reach AppendsOwn (1 ∷ 1 ∷ []) twin_schedule world
  pub was_sent : world.sent ≡ (command_record 1 0 11 ∷ []) ∷ []
  pub forked : grow (world.journal 2) caller 0 (command_record 1 0 11 ∷ []) ≡ Err (PageForked 0 12)
