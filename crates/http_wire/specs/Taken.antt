-- What is taken from a source and held behind what was held before.
use Rattle.std.specs.Prelude.{◌≡◌, ℕ, ◌+◌, ◌-◌, ◌<◌, ◌≤◌, List, ◌++◌, length, take, drop, Option, Some, None, Result, Ok, Err, ⊤}
use Rattle.std.specs.Io.KnownBytes.{IsAtEnd}
use Rattle.definitions.specs.Counts.{Rose}
use Rattle.at_edge.specs.Taking.{SourceSeen, Gave}
use Rattle.plain_types.specs.Buffer.{Buffer}
use Rattle.http_wire.specs.Looking.{HeadInFront, Looks}
use Rattle.http_wire.specs.Reading.{LacksHead}
use Rattle.http_wire.specs.declared.finding.HeadKind.{HeadKind}
use Rattle.http_wire.specs.declared.taking.Came.{Came}
use Rattle.http_wire.specs.declared.taking.Came.TheVariants.{Bytes, End}
use Rattle.http_wire.specs.declared.fail.HttpFail.{HttpFail}
use Rattle.http_wire.specs.declared.fail.HttpFail.TheVariants.{Ended, ReadFault, NoMemory}

-- the source gave bytes that are held now, behind the others
pub record HoldsMore (first now : SourceSeen) (before after : List ℕ) : Type 0 where
  pub taken : List ℕ
  pub gave : Gave first now taken
  pub held : after ≡ before ++ taken

abbrev pub MayStop : (first now : SourceSeen) → HttpFail → Type 0
MayStop first now ReadFault = Rose first.faults now.faults
MayStop first now NoMemory = ⊤
MayStop first now _ = ⊥

abbrev pub TakesSome : (first now : SourceSeen) (before after : List ℕ) → Result Came HttpFail → Type 0
TakesSome first now before after (Ok Bytes) = HoldsMore first now before after × (length before < length after)
TakesSome first now before after (Ok End) = HoldsMore first now before after × (after ≡ before) × IsAtEnd now.left
TakesSome first now before after (Err fail) = HoldsMore first now before after × MayStop first now fail

abbrev pub StopsAtHead : HeadKind → (first now : SourceSeen) (held : List ℕ) → HttpFail → Type 0
StopsAtHead kind first now held ReadFault = Rose first.faults now.faults
StopsAtHead kind first now held NoMemory = ⊤
StopsAtHead kind first now held fail = Looks kind held (Err fail)

abbrev pub TakesHead : HeadKind → (first now : SourceSeen) (before after : List ℕ) → Result (Option ℕ) HttpFail → Type 0
TakesHead kind first now before after (Ok (Some end)) = HoldsMore first now before after × HeadInFront kind after end
TakesHead kind first now before after (Ok None) = HoldsMore first now before after × LacksHead kind after × IsAtEnd now.left
TakesHead kind first now before after (Err fail) = HoldsMore first now before after × StopsAtHead kind first now after fail

abbrev pub StopsBefore : (first now : SourceSeen) (held : List ℕ) (enough : ℕ) → HttpFail → Type 0
StopsBefore first now held enough Ended = (length held < enough) × IsAtEnd now.left
StopsBefore first now held enough ReadFault = Rose first.faults now.faults
StopsBefore first now held enough NoMemory = ⊤
StopsBefore first now held enough _ = ⊥

abbrev pub TakesUntil : {T : Type 0} → (first now : SourceSeen) (before after : List ℕ) (enough : ℕ) → Result T HttpFail → Type 0
TakesUntil first now before after enough (Ok _) = HoldsMore first now before after × (enough ≤ length after)
TakesUntil first now before after enough (Err fail) = HoldsMore first now before after × StopsBefore first now after enough fail

abbrev pub CutsBody : {E : Type 0} → (held kept : List ℕ) (start end : ℕ) → Result Buffer E → Type 0
CutsBody held kept start end (Ok body) = (body.items ≡ take (end - start) (drop start held)) × (kept ≡ drop end held)
CutsBody held kept start end (Err _) = kept ≡ held

abbrev pub TakesBody : (first now : SourceSeen) (held kept : List ℕ) (start len : ℕ) → Result Buffer HttpFail → Type 0
TakesBody first now held kept start len (Ok body) = (taken : List ℕ) × Gave first now taken × (length body.items ≡ len) × (drop start held ++ taken ≡ body.items ++ kept)
TakesBody first now held kept start len (Err fail) = (taken : List ℕ) × Gave first now taken × StopsBefore first now (held ++ taken) (start + len) fail
