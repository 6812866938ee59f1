-- The way along the batches of a log, from its first gate to its closed one.
use Rattle.std.specs.Prelude.{◌≡◌, ℕ, ◌+◌, ◌<◌, ◌≤◌, ◌^◌, List, [], ◌++◌, Vec, length, take, Some, None}
use Rattle.std.specs.List.{AllByRecursion}
use Rattle.std.specs.Global.{Global}
use Rattle.record_rules.specs.Records.{Entry, Event}
use Rattle.record_rules.specs.Journal.{events_of}
use Rattle.record_model.specs.declared.entries.Event as model
use Rattle.record_model.specs.Seen.{events_seen}
use Rattle.log_rules.specs.Log.{Form, Batch, IsOpenBatch, current_form, header_bytes, batches_bytes, events_in}
use Rattle.at_edge.specs.Storing.{DiskSeen, Tells}
use Rattle.record_log.specs.declared.spots.Spot.{Spot}
use Rattle.record_log.specs.Journals.{LogSeen, HasJournal}
use Rattle.record_log.specs.Reading.{IsGate, FindsBatch}

-- at a gate of the log whose closed gate stands there: behind the batches of these events, and before those of the others
pub record StandsBetween (form : Form) (shows : List ℕ) (gate offset : ℕ) (before after : List Event) : Type 0 where
  pub host : ℕ
  pub passed : List Batch
  pub coming : List Batch
  pub opened : AllByRecursion IsOpenBatch coming
  pub inside : gate ≤ length shows
  pub bytes_are : take gate shows ≡ header_bytes form host ++ batches_bytes form 32 (passed ++ coming)
  pub offset_is : offset ≡ 32 + length (batches_bytes form 32 passed)
  pub before_are : events_in passed ≡ before
  pub after_are : events_in coming ≡ after

-- these events come next, and the gate behind their batch is that one
pub record GoesOn (form : Form) (shows : List ℕ) (gate next : ℕ) (before after events : List Event) : Type 0 where
  pub rest : List Event
  pub after_are : after ≡ events ++ rest
  pub on : StandsBetween form shows gate next (before ++ events) rest

-- where the disk tells, the gate at this offset of a log stands so
abbrev pub IsBetween : DiskSeen → (gate offset : ℕ) → (before after : List Event) → Type 0
IsBetween seen gate offset before after = Tells seen (λ d. StandsBetween current_form d.shows gate offset before after)

-- ---- laws

-- at the first gate all events of the journal are still to come
abbrev pub WalkBegins : Type 0
WalkBegins = (log : LogSeen) (journal : List Entry) → HasJournal log journal → IsBetween log.disk log.gate 32 [] (events_of journal)

-- what stands there is a gate
abbrev pub WalkIsAtAGate : Type 0
WalkIsAtAGate = (seen : DiskSeen) (gate offset : ℕ) (before after : List Event) → IsBetween seen gate offset before after → Tells seen (λ d. IsGate gate offset d.shows)

-- the batch that is read there has the events that come next, and the next gate stands behind them
abbrev pub WalkGoesOn : Type 0
WalkGoesOn = (seen : DiskSeen) (gate offset : ℕ) (before after : List Event) (found : Vec model.Event Global × Spot × ℕ) → gate < 2 ^ 64 → IsBetween seen gate offset before after → FindsBatch gate offset seen (Some found)
    → Tells seen (λ d. GoesOn current_form d.shows gate found.2 before after (events_seen found.0.items))

-- at the closed gate none is to come
abbrev pub WalkEnds : Type 0
WalkEnds = (seen : DiskSeen) (gate offset : ℕ) (before after : List Event) → IsBetween seen gate offset before after → FindsBatch gate offset seen None → Tells seen (λ _. after ≡ [])
