-- What a turn with a read leaves.
use Rattle.std.proofs.Common.{List}
use Rattle.record_rules.specs.Records.{Entry}
use Rattle.step_rules.specs.PageTurns.{PageLeaves}
use Rattle.step_rules.specs.ReadTurns.{StoreRead, ReadAnswer, ReadTurn, tells_status, tells_page, tells_front, faults_on_page, wants_memory}

pub ReadTurn-stands : (journal doubt : List Entry) (read : StoreRead) (after doubt_after : List Entry) (answer : ReadAnswer) → ReadTurn journal doubt read after doubt_after answer → PageLeaves journal doubt after doubt_after
ReadTurn-stands journal doubt read after doubt_after answer (tells_status _ _ stands _) = stands
ReadTurn-stands journal doubt read after doubt_after answer (tells_page _ _ _ _ _ _ stands _) = stands
ReadTurn-stands journal doubt read after doubt_after answer (tells_front _ stands _) = stands
ReadTurn-stands journal doubt read after doubt_after answer (faults_on_page _ _ _ _ _ _ stands _) = stands
ReadTurn-stands journal doubt read after doubt_after answer (wants_memory _ stands _) = stands
