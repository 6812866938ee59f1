-- A frame that is read in two parts, its length and its payload.
use Rattle.std.proofs.Common.{◌≡◌, ℕ, ◌<◌, ◌≤◌, ◌^◌, List, [], ◌++◌, length, take, sym, ap, subst, ◌∙◌, arith, inr, ◌≢◌}
use Rattle.std.specs.Int.{w32, to_be_bytes}
use Rattle.std.proofs.lemmas.List.{length-take}
use Rattle.std.proofs.lemmas.Nat.{from_be_bytes-to_be_bytes_4}
use Rattle.definitions.specs.Limits.{most_payload_bytes}
use Rattle.definitions.specs.Frames.{named_length, CutFrame, LongFrame}
use Rattle.at_edge.specs.Taking.{SourceSeen, Gave}
use Rattle.at_edge.proofs.SourceLaws.{Gave-then}
use Rattle.session_seats.specs.declared.frames.FrameRead.{FrameRead}
use Rattle.session_seats.specs.declared.frames.FrameRead.TheVariants as reads
use Rattle.session_seats.specs.Frames.{ReadsFrame, ReadsPayload}

named_by : (named : ℕ) (behind : List ℕ) → named < 2 ^ 32 → named_length (to_be_bytes w32 named ++ behind) ≡ named
named_by named behind small = from_be_bytes-to_be_bytes_4 named small

not_empty : (n : ℕ) (behind : List ℕ) → to_be_bytes w32 n ++ behind ≢ []
not_empty n behind e = let none : length (to_be_bytes w32 n ++ behind) ≡ 0 = ap (λ (l : List ℕ). length l) e in omega arith

-- a length and a part of the payload that it names end within a frame
pub cut_behind : (named n : ℕ) (buffer : List ℕ) → named < 2 ^ 32 → n < named → named ≤ most_payload_bytes → CutFrame (to_be_bytes w32 named ++ take n buffer)
cut_behind named n buffer small part short = record {
  some = not_empty named (take n buffer);
  cut = inr (let named_is = named_by named (take n buffer) small in omega (arith, length-take n buffer));
  short = λ _. let named_is = named_by named (take n buffer) small in omega arith;
}

-- four bytes that name more than a frame may have
pub long_head : (named : ℕ) → named < 2 ^ 32 → most_payload_bytes < named → LongFrame (to_be_bytes w32 named)
long_head named small long = record { head = omega arith; long = let named_is = named_by named [] small in omega arith }

pub named_of_head : (named : ℕ) → named < 2 ^ 32 → named_length (to_be_bytes w32 named) ≡ named
named_of_head named small = named_by named [] small

-- what was read of the payload, with the length before it
pub behind_length : (result : FrameRead) (named : ℕ) (first middle last : SourceSeen) (buffer : List ℕ) → named < 2 ^ 32 → Gave first middle (to_be_bytes w32 named)
    → ReadsPayload named result middle last buffer → ReadsFrame result first last buffer
behind_length (reads.Payload n) named first middle last buffer small head read =
    let len : length (take n buffer) ≡ named = length-take n buffer ∙ omega arith in
    let gave = Gave-then first middle last (to_be_bytes w32 named) (take n buffer) head read.0 in
    (subst (λ (k : ℕ). Gave first last (to_be_bytes w32 k ++ take n buffer)) (sym len) gave, read.2, read.3)
behind_length reads.End named first middle last buffer small head read = absurd read
behind_length reads.Cut named first middle last buffer small head read =
    let part = read.0 in
    (to_be_bytes w32 named ++ take part.0 buffer, cut_behind named part.0 buffer small part.1 part.2, Gave-then first middle last (to_be_bytes w32 named) (take part.0 buffer) head part.4, read.1)
behind_length (reads.TooLong n) named first middle last buffer small head read =
    let gave = subst (λ (s : SourceSeen). Gave first s (to_be_bytes w32 named)) (sym read.1) head in
    (subst (λ (k : ℕ). Gave first last (to_be_bytes w32 k)) (sym read.0) gave, read.2, omega arith)
behind_length reads.Failed named first middle last buffer small head read =
    let part = read.0 in
    (to_be_bytes w32 named ++ take part.0 buffer, inr (cut_behind named part.0 buffer small part.1 part.2), Gave-then first middle last (to_be_bytes w32 named) (take part.0 buffer) head part.4, omega (arith, read.1, head.faults))
