-- How the input says where a session ends, from what the session took of it.
use Rattle.std.proofs.Common.{◌≡◌, ◌⊎◌, ℕ, ◌<◌, ◌≤◌, List, [], ◌++◌, length, Option, Some, None, Result, Ok, Err, refl, sym, ap, subst, ◌∙◌, append_assoc, append-nil, arith, inl, inr}
use Rattle.std.specs.List.{All}
use Rattle.std.specs.Io.KnownBytes.{Consumes, IsAtEnd}
use Rattle.std.specs.Int.{w32, from_be_bytes}
use Rattle.std.proofs.lemmas.List.{length-append, take_at}
use Rattle.definitions.specs.Limits.{most_payload_bytes}
use Rattle.definitions.specs.Frames.{frames, named_length, CutFrame, LongFrame, EndsStream, CutAfter}
use Rattle.definitions.proofs.Frames.{CutAfter-one}
use Rattle.at_edge.specs.Taking.{SourceSeen, Gave}
use Rattle.at_edge.specs.declared.ending.Served.{Served}
use Rattle.at_edge.specs.declared.ending.SessionFail.{SessionFail}
use Rattle.at_edge.specs.declared.ending.SessionFail.TheVariants as fails
use Rattle.session_seats.specs.Stores.{StoreSeen}
use Rattle.call_supplies.specs.Supplies.{Supplies}
use Rattle.session_seats.specs.Sessions.{most_requests, Pipe, SeatServes}
use Rattle.session_seats.specs.Inputs.{IsEndOf}

-- what is left, of a source that told what was left before
told_left : (old new : Option (List ℕ)) (input bytes : List ℕ) → old ≡ Some input → Consumes old new bytes → (left : List ℕ) × (new ≡ Some left) × (input ≡ bytes ++ left)
told_left None new input bytes e taken = absurd cc
told_left (Some whole) None input bytes e taken = absurd taken
told_left (Some whole) (Some left) input bytes e taken = let same : whole ≡ input = cc in (left, refl, sym same ∙ taken)

at_end : (new : Option (List ℕ)) (left : List ℕ) → new ≡ Some left → IsAtEnd new → left ≡ []
at_end None left e ended = absurd cc
at_end (Some rest) left e ended = let same : rest ≡ left = cc in sym same ∙ ended

-- what four bytes name they name with others behind them
named_more : (head left : List ℕ) → length head ≡ 4 → named_length (head ++ left) ≡ named_length head
named_more head left four = ap (λ (l : List ℕ). from_be_bytes w32 l) (take_at head left 4 four ∙ sym (take_at head [] 4 four)) ∙ ap (λ (l : List ℕ). named_length l) (append-nil head)

long_more : (head left : List ℕ) → length head ≡ 4 → LongFrame head → LongFrame (head ++ left)
long_more head left four long = record {
  head = omega (arith, length-append head left);
  long = subst (λ (n : ℕ). most_payload_bytes < n) (sym (named_more head left four)) long.long;
}

module _ (source_old source_new : SourceSeen) (payloads read : List (List ℕ)) (rest part : List ℕ) where
  -- the bytes taken are the input's front, so that both are cut in one way
  same_cut : (input : source_old.left ≡ Some (frames payloads ++ rest)) (cut : CutAfter most_requests payloads rest) (taken : Gave source_old source_new (frames read ++ part))
      → All (λ (payload : List ℕ). length payload ≤ most_payload_bytes) read → (length read ≤ most_requests) → ((left : List ℕ) → source_new.left ≡ Some left → (length read ≡ most_requests) ⊎ EndsStream (part ++ left))
      → (left : List ℕ) × (source_new.left ≡ Some left) × (payloads ≡ read) × (rest ≡ part ++ left)
  same_cut input cut taken short few how =
      let told = told_left source_old.left source_new.left (frames payloads ++ rest) (frames read ++ part) input taken.left in
      let other : CutAfter most_requests read (part ++ told.0) = record { short = short; few = few; ends = how told.0 told.1 } in
      let one = CutAfter-one most_requests payloads read rest (part ++ told.0) cut other (told.2 ∙ append_assoc (frames read) part told.0) in
      (told.0, told.1, one.0, one.1)

many_too : (payloads read : List (List ℕ)) → payloads ≡ read → length payloads ≡ length read
many_too payloads read same = ap (λ (l : List (List ℕ)). length l) same

pub input_ends : (outcome : Result Served SessionFail) (first store : StoreSeen) (before after : Supplies) (old new : Pipe) → SeatServes outcome first store before after old new
    → (payloads : List (List ℕ)) (rest : List ℕ) → CutAfter most_requests payloads rest → old.source.left ≡ Some (frames payloads ++ rest) → IsEndOf outcome payloads rest
input_ends (Ok served) first store before after old new session payloads rest cut input =
    let ends = session.ends in
    let same = same_cut old.source new.source payloads session.payloads rest [] input cut ends.0.taken session.short (omega (arith, ends.2)) (λ left is. inr (inl (at_end new.source.left left is ends.1))) in
    let many = many_too payloads session.payloads same.2 in
    (omega (arith, many, ends.2), same.3 ∙ at_end new.source.left same.0 same.1 ends.1, ends.3 ∙ sym many)
input_ends (Err fails.SourceFault) first store before after old new session payloads rest cut input = tt
input_ends (Err fails.SinkFault) first store before after old new session payloads rest cut input = tt
input_ends (Err (fails.CutFrame at)) first store before after old new session payloads rest cut input =
    let ends = session.ends in
    let cut_rest : (left : List ℕ) → new.source.left ≡ Some left → CutFrame (ends.0 ++ left) = λ left is. subst CutFrame (sym (ap (λ (l : List ℕ). ends.0 ++ l) (at_end new.source.left left is ends.3) ∙ append-nil ends.0)) ends.1 in
    let same = same_cut old.source new.source payloads session.payloads rest ends.0 input cut ends.2.taken session.short (omega (arith, ends.4)) (λ left is. inr (inr (inl (cut_rest left is)))) in
    (omega (arith, many_too payloads session.payloads same.2, ends.4), subst CutFrame (sym same.3) (cut_rest same.0 same.1), ends.5 ∙ sym (ap (λ (l : List (List ℕ)). length (frames l)) same.2))
input_ends (Err (fails.FrameTooLong named)) first store before after old new session payloads rest cut input =
    let ends = session.ends in
    let same = same_cut old.source new.source payloads session.payloads rest ends.0 input cut ends.4.taken session.short (omega (arith, ends.5)) (λ left is. inr (inr (inr (long_more ends.0 left ends.2 ends.1)))) in (
      omega (arith, many_too payloads session.payloads same.2, ends.5),
      subst LongFrame (sym same.3) (long_more ends.0 same.0 ends.2 ends.1),
      ap (λ (l : List ℕ). named_length l) same.3 ∙ named_more ends.0 same.0 ends.2 ∙ ends.3,
    )
input_ends (Err fails.SessionLimit) first store before after old new session payloads rest cut input =
    let ends = session.ends in
    let same = same_cut old.source new.source payloads session.payloads rest [] input cut ends.0.taken session.short (omega (arith, ends.1)) (λ left is. inl ends.1) in
    many_too payloads session.payloads same.2 ∙ ends.1
input_ends (Err fails.NoMemory) first store before after old new session payloads rest cut input = tt
