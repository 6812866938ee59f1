-- Heads that are whole, and stay so whatever comes behind them.
use Rattle.std.proofs.Common.{◌≡◌, ℕ, zero, suc, ◌-◌, ◌<◌, ◌≤◌, Bool, true, false, cond, ◌==◌, List, [], ◌∷◌, ◌++◌, length, take, drop, refl, sym, ap, subst, ◌∙◌, arith, append-nil}
use Rattle.std.proofs.Math.Seq.{take-append_seam}
use Rattle.std.proofs.lemmas.List.Sums.{count_by-le-length}
use Rattle.httparse.specs.Grammar.{RequestHead, print_request, ReadsRequest, ResponseHead, print_response, ReadsResponse}
use Rattle.httparse.proofs.GrammarLemmas.{ReadsRequest-append, ReadsResponse-append}
use Rattle.http_wire.specs.Fronts.{is_line_feed, through_line, front_of}
use Rattle.http_wire.specs.Heads.{BeginsRequest, BeginsResponse}
use Rattle.http_wire.proofs.Found.{request_lines, response_lines}

cut : (m : ℕ) (xs ys : List ℕ) → (zs : List ℕ) × (take m (xs ++ ys) ≡ take m xs ++ zs)
cut zero xs ys = ([], refl)
cut (suc m) [] ys = (take (suc m) ys, refl)
cut (suc m) (x ∷ xs) ys = let rest = cut m xs ys in (rest.0, ap (λ (l : List ℕ). x ∷ l) rest.1)

longer : (b : Bool) (xs ys : List ℕ) → length xs ≤ length ys → length (cond b [] xs) ≤ length (cond b [] ys)
longer true xs ys fits = omega arith
longer false xs ys fits = fits

through_grows : (n : ℕ) (xs ys : List ℕ) → length (through_line n xs) ≤ length (through_line n (xs ++ ys))
through_grows n [] ys = omega arith
through_grows n (x ∷ xs) ys =
    let left = cond (is_line_feed x) (n - 1) n in
    let rest = through_grows left xs ys in
    longer (n == 0) (x ∷ through_line left xs) (x ∷ through_line left (xs ++ ys)) (omega (arith, rest))

front_grows : (xs ys : List ℕ) → length (front_of xs) ≤ length (front_of (xs ++ ys))
front_grows xs ys =
    let both = cut 65536 xs ys in
    subst (λ (l : List ℕ). length (front_of xs) ≤ length (through_line 102 l)) (sym both.1) (through_grows 102 (take 65536 xs) both.0)

-- ---- requests

pub request_whole : (bytes : List ℕ) (end : ℕ) (h : RequestHead) → ReadsRequest bytes h (drop end bytes) → end ≡ length (print_request h) → ReadsRequest (take end bytes) h []
request_whole bytes end h reads is = (
  reads.0,
  ap (λ (m : ℕ). take m bytes) is ∙ ap (take (length (print_request h))) reads.1 ∙ take-append_seam (print_request h) (drop end bytes) ∙ sym (append-nil (print_request h)),
)

pub request_begins : (held taken : List ℕ) (end : ℕ) (h : RequestHead) → ReadsRequest held h (drop end held) → end ≡ length (print_request h) → end ≤ length (front_of held) → BeginsRequest (held ++ taken) h (drop end held ++ taken)
request_begins held taken end h reads is inside = record {
  reads = ReadsRequest-append held h (drop end held) taken reads;
  in_front = let more = front_grows held taken in omega (arith, is, inside, more);
}

pub request_positive : (h : RequestHead) → 0 < length (print_request h)
request_positive h = let lines = request_lines h in let bytes = count_by-le-length is_line_feed (print_request h) in omega (arith, lines, bytes)

-- ---- responses

pub response_whole : (bytes : List ℕ) (end : ℕ) (h : ResponseHead) → ReadsResponse bytes h (drop end bytes) → end ≡ length (print_response h) → ReadsResponse (take end bytes) h []
response_whole bytes end h reads is = (
  reads.0,
  ap (λ (m : ℕ). take m bytes) is ∙ ap (take (length (print_response h))) reads.1 ∙ take-append_seam (print_response h) (drop end bytes) ∙ sym (append-nil (print_response h)),
)

pub response_begins : (held taken : List ℕ) (end : ℕ) (h : ResponseHead) → ReadsResponse held h (drop end held) → end ≡ length (print_response h) → end ≤ length (front_of held) → BeginsResponse (held ++ taken) h (drop end held ++ taken)
response_begins held taken end h reads is inside = record {
  reads = ReadsResponse-append held h (drop end held) taken reads;
  in_front = let more = front_grows held taken in omega (arith, is, inside, more);
}

pub response_positive : (h : ResponseHead) → 0 < length (print_response h)
response_positive h = let lines = response_lines h in let bytes = count_by-le-length is_line_feed (print_response h) in omega (arith, lines, bytes)
