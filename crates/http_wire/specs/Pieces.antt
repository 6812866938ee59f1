-- How far a text is written, some of it held back.
use Rattle.std.specs.Prelude.{ℕ, List, []}
use Rattle.std.specs.Bool.{MatchBool}
use Rattle.at_edge.specs.Writing.{SinkSeen, Stopped}
use Rattle.http_wire.specs.Gathering.{Handed}
use Rattle.http_wire.specs.declared.pieces.Pieces.{Pieces}

-- of this text, all is taken or held back; or the sink failed before it had taken all
abbrev pub IsAt : (first now : SinkSeen) → Pieces → (text : List ℕ) → Type 0
IsAt first now pieces text = MatchBool pieces.failed ((n : ℕ) × Stopped first now text n) (Handed first now [] pieces.held.items text)
