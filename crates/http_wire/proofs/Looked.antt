-- What a look into a front says of all the bytes.
use Rattle.std.proofs.Common.{◌≡◌, ℕ, ◌≤◌, List, ◌++◌, length, take, drop, sym, ap, subst, ◌∙◌, arith}
use Rattle.std.proofs.lemmas.List.{take-append-drop, take-append-le, drop-append-le, length-take-le}
use Rattle.httparse.specs.Grammar.{ReadsRequest, ReadsResponse}
use Rattle.httparse.specs.declared.spans.HeaderSpan.{HeaderSpan}
use Rattle.httparse.specs.declared.spans.RequestSpans.{RequestSpans}
use Rattle.httparse.specs.declared.spans.ResponseSpans.{ResponseSpans}
use Rattle.httparse.specs.Spans.{IsRequestOf, IsRequestWithin, IsResponseOf, IsResponseWithin}
use Rattle.httparse.proofs.GrammarLemmas.{ReadsRequest-append, ReadsResponse-append}
use Rattle.http_wire.specs.Fronts.{lines_of, front_of}
use Rattle.http_wire.specs.Looking.{EndsHead, FindsHead, HeadInFront}
use Rattle.http_wire.specs.declared.finding.HeadKind.{HeadKind}
use Rattle.http_wire.specs.declared.finding.HeadKind.TheVariants.{OfRequest, OfResponse}
use Rattle.http_wire.specs.declared.finding.HeadFound.TheVariants.{Whole}
use Rattle.http_wire.proofs.Lines.{lines-take}

pub found_request : (front : List ℕ) (spans : List HeaderSpan) (r : RequestSpans) → IsRequestWithin front spans r → IsRequestOf front spans r → FindsHead OfRequest front (Whole r.len)
found_request front spans r within of = (within.section.len_fits, (of.0, of.1.reads, of.1.len))

pub found_response : (front : List ℕ) (spans : List HeaderSpan) (r : ResponseSpans) → IsResponseWithin front spans r → IsResponseOf front spans r → FindsHead OfResponse front (Whole r.len)
found_response front spans r within of = (within.section.len_fits, (of.0, of.1.reads, of.1.len))

ends_more : (kind : HeadKind) (front rest : List ℕ) (end : ℕ) → end ≤ length front → EndsHead kind front end → EndsHead kind (front ++ rest) end
ends_more OfRequest front rest end fits at =
    (at.0, subst (λ (l : List ℕ). ReadsRequest (front ++ rest) at.0 l) (sym (drop-append-le end front rest fits)) (ReadsRequest-append front at.0 (drop end front) rest at.1), at.2)
ends_more OfResponse front rest end fits at =
    (at.0, subst (λ (l : List ℕ). ReadsResponse (front ++ rest) at.0 l) (sym (drop-append-le end front rest fits)) (ReadsResponse-append front at.0 (drop end front) rest at.1), at.2)

pub whole_in_front : (kind : HeadKind) (bytes : List ℕ) (n end : ℕ) → n ≤ length bytes → n ≤ 65536 → lines_of (take n bytes) ≤ 102 → take n bytes ≡ front_of bytes → FindsHead kind (take n bytes) (Whole end) → HeadInFront kind bytes end
whole_in_front kind bytes n end inside small few is found =
    let size = length-take-le n bytes inside in
    let front = ap length is in
    let fits = found.0 in
    let same : take end bytes ≡ take end (take n bytes) = ap (take end) (sym (take-append-drop n bytes)) ∙ take-append-le end (take n bytes) (drop n bytes) fits in
    let lines = ap lines_of same in
    let fewer = lines-take end (take n bytes) in
    record {
      head = subst (λ (l : List ℕ). EndsHead kind l end) (take-append-drop n bytes) (ends_more kind (take n bytes) (drop n bytes) end fits found.1);
      in_front = omega (arith, fits, front);
      within = omega (arith, fits, size, inside);
      short = omega (arith, fits, size, small);
      lines = omega (arith, lines, fewer, few);
    }
