-- Where the batches and the events of a log stand.
use Rattle.std.specs.Prelude.{◌≡◌, ◌≢◌, ℕ, List, ◌++◌, length, slice_get, Some}
use Rattle.record_rules.specs.Records.{Event}
use Rattle.log_rules.specs.Body.{body_bytes, IsBatch}
use Rattle.log_rules.specs.Log.{Form, batch_bytes}

-- where a batch stands: the offset of its gate, and the length of its body
pub record Spot : Type 0 where
  pub offset : ℕ
  pub count : ℕ

-- at the spot of these bytes stands an open batch of these events
pub record BatchAt (form : Form) (bytes : List ℕ) (spot : Spot) (events : List Event) : Type 0 where
  pub before : List ℕ
  pub gate : ℕ
  pub behind : List ℕ
  pub batch : IsBatch events
  pub gate_open : gate ≢ 0
  pub offset_is : spot.offset ≡ length before
  pub count_is : spot.count ≡ length (body_bytes events)
  pub bytes_are : bytes ≡ before ++ batch_bytes form spot.offset (record { gate = gate; events = events }) ++ behind

-- at this place in that batch stands this event
pub record EventAt (form : Form) (bytes : List ℕ) (spot : Spot) (at : ℕ) (event : Event) : Type 0 where
  pub events : List Event
  pub batch : BatchAt form bytes spot events
  pub event_is : slice_get events at ≡ Some event
