-- What a look for a head finds.
use Rattle.std.specs.Prelude.{◌≡◌, ℕ, ◌≤◌, List, [], length, take, drop, Option, Some, None, Result, Ok, Err}
use Rattle.httparse.specs.Grammar.{RequestHead, print_request, ReadsRequest, ResponseHead, print_response, ReadsResponse}
use Rattle.http_wire.specs.Fronts.{most_head_bytes, most_head_lines, lines_of, front_of, IsFull}
use Rattle.http_wire.specs.Heads.{HasNoHead, NeverHasHead}
use Rattle.http_wire.specs.declared.finding.HeadKind.{HeadKind}
use Rattle.http_wire.specs.declared.finding.HeadKind.TheVariants.{OfRequest, OfResponse}
use Rattle.http_wire.specs.declared.finding.HeadFound.{HeadFound}
use Rattle.http_wire.specs.declared.finding.HeadFound.TheVariants.{Whole, NotYet, Never}
use Rattle.http_wire.specs.declared.fail.HttpFail.{HttpFail}
use Rattle.http_wire.specs.declared.fail.HttpFail.TheVariants.{HeadTooLong, NotHttp}

-- the first so many bytes are a head
abbrev pub EndsHead : HeadKind → List ℕ → (end : ℕ) → Type 0
EndsHead OfRequest bytes end = (head : RequestHead) × ReadsRequest bytes head (drop end bytes) × (end ≡ length (print_request head))
EndsHead OfResponse bytes end = (head : ResponseHead) × ReadsResponse bytes head (drop end bytes) × (end ≡ length (print_response head))

-- all of them are one
abbrev pub IsWhole : HeadKind → List ℕ → Type 0
IsWhole OfRequest bytes = (head : RequestHead) × ReadsRequest bytes head []
IsWhole OfResponse bytes = (head : ResponseHead) × ReadsResponse bytes head []

abbrev pub FindsHead : HeadKind → (front : List ℕ) → HeadFound → Type 0
FindsHead kind front (Whole end) = (end ≤ length front) × EndsHead kind front end
FindsHead kind front NotYet = HasNoHead kind front
FindsHead kind front Never = NeverHasHead kind front

-- a head ends there, within the front
pub record HeadInFront (kind : HeadKind) (bytes : List ℕ) (end : ℕ) : Type 0 where
  pub head : EndsHead kind bytes end
  pub in_front : end ≤ length (front_of bytes)
  pub within : end ≤ length bytes
  pub short : end ≤ most_head_bytes
  pub lines : lines_of (take end bytes) ≤ most_head_lines

abbrev pub Looks : HeadKind → List ℕ → Result (Option ℕ) HttpFail → Type 0
Looks kind bytes (Ok (Some end)) = HeadInFront kind bytes end
Looks kind bytes (Ok None) = HasNoHead kind (front_of bytes) × ¬ IsFull bytes
Looks kind bytes (Err HeadTooLong) = IsFull bytes × HasNoHead kind (front_of bytes)
Looks kind bytes (Err NotHttp) = NeverHasHead kind (front_of bytes)
Looks kind bytes (Err _) = ⊥
