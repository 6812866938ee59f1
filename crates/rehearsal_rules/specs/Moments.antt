-- A world at one moment, and a call at a node of it: what the call reads of the one clock, and what it draws of the node's own generator.
use Rattle.std.specs.Prelude.{◌≡◌, ℕ, ◌+◌, ◌*◌, List, map, if◌then◌else◌, ◌==◌}
use Rattle.std.specs.List.{range_with_len}
use Rattle.definitions.specs.Uses.{Used}
use Rattle.record_rules.specs.Records.{Caller, Entry}
use Rattle.step_rules.specs.Calls.{Call, CallFits}
use Rattle.step_rules.specs.Answers.{Answer}
use Rattle.step_rules.specs.Store.{KeyedStore}
use Rattle.step_rules.specs.Step.{Step}
use Rattle.world_rules.specs.World.{World, empty_world, with_journal}
use Rattle.world_rules.specs.Stores.{at_host}
use Rattle.rehearsal_rules.specs.Words.{words_for, drawn_bytes}

-- the world, how often its clock was read, and how many random words each node has drawn
pub record Moment : Type 0 where
  pub world : World
  pub readings : ℕ
  pub drawn : ℕ → ℕ

abbrev pub first_moment : Moment
first_moment = record { world = empty_world; readings = 0; drawn = λ node. 0 }

-- the clock's reading of this number, from 0, in nanoseconds since 1970: it goes on by a millisecond at each
abbrev pub reading_at : ℕ → ℕ
reading_at n = 1700000000000000000 + n * 1000000

-- The next random bytes of a node. Its generator begins with the seed and the node's number, modulo 2^64: host h, counted from 0, is node
-- h + 1.
abbrev pub next_bytes : (seed : ℕ) → Moment → (node bytes : ℕ) → List ℕ
next_bytes seed r node bytes = drawn_bytes (seed + node) (r.drawn node) bytes

-- so many of the clock's next readings, and so many of the node's next random bytes
abbrev pub next_used : (seed : ℕ) → Moment → (node readings bytes : ℕ) → Used
next_used seed r node readings bytes = record { readings = map reading_at (range_with_len r.readings readings); drawn = next_bytes seed r node bytes; faults = 0 }

-- the moment when the node has this journal, and these were used; what is left of a draw's last word is dropped
abbrev pub moment_after : Moment → (node : ℕ) → List Entry → (readings bytes : ℕ) → Moment
moment_after r node journal readings bytes = record {
  world = with_journal r.world node journal;
  readings = r.readings + readings;
  drawn = λ other. if other == node then r.drawn node + words_for bytes else r.drawn other;
}

-- A call at a node, whose store has this host, with this answer: a step that uses as much of the clock's next readings and of the node's next
-- random bytes as the call uses.
pub record CallsAt (store : KeyedStore) (seed : ℕ) (r : Moment) (node host : ℕ) (call : Call) (answer : Answer) (after : Moment) : Type 0 where
  pub caller : Caller
  pub readings : ℕ
  pub bytes : ℕ
  pub journal : List Entry
  pub fits : CallFits call
  pub stepped : Step (at_host store host) (r.world.journal node) caller call (next_used seed r node readings bytes) journal answer
  pub becomes : after ≡ moment_after r node journal readings bytes
