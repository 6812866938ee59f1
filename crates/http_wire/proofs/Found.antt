-- Heads that are found in a front, and how many lines they have.
use Rattle.std.proofs.Common.{◌≡◌, ℕ, ◌<◌, ◌≤◌, List, [], ◌∷◌, ◌++◌, length, flat_map, refl, sym, ap, subst, ◌∙◌, arith, append-nil}
use Rattle.std.proofs.lemmas.List.Concat.{flat_map-cons}
use Rattle.httparse.specs.Grammar.{LineEnd, crlf, lf, print_end, print_blank, print_version, print_reason, Field, print_field, print_section, RequestHead, print_request, ReadsRequest, HasNoRequest, ResponseHead, print_response, ReadsResponse, HasNoResponse}
use Rattle.httparse.specs.Spans.{RequestOverflows, ResponseOverflows}
use Rattle.http_wire.specs.Fronts.{lines_of}
use Rattle.http_wire.proofs.Lines.{lines-append}

end_line : (end : LineEnd) → lines_of (print_end end) ≡ 1
end_line crlf = refl
end_line lf = refl

field_line : (f : Field) → 1 ≤ lines_of (print_field f)
field_line f =
    let both = lines-append (f.name ++ 58 ∷ f.raw) (print_end f.end) in let one = end_line f.end in omega (arith, both, one)

section_lines : (fields : List Field) → length fields ≤ lines_of (flat_map print_field fields)
section_lines [] = omega arith
section_lines (f ∷ fields) =
    let both = ap lines_of (flat_map-cons print_field f fields) ∙ lines-append (print_field f) (flat_map print_field fields) in
    let one = field_line f in let more = section_lines fields in omega (arith, both, one, more)

-- a text that ends with a section has more lines than that has fields
behind : (before : List ℕ) (fields : List Field) (last : LineEnd) → length fields < lines_of (before ++ print_section fields last)
behind before fields last =
    let a = lines-append before (print_section fields last) in
    let b = lines-append (flat_map print_field fields) (print_end last) in
    let c = section_lines fields in let d = end_line last in omega (arith, a, b, c, d)

pub request_lines : (h : RequestHead) → length h.fields < lines_of (print_request h)
unfolding print_request
request_lines h = behind (print_blank h.blank ++ h.method ++ 32 ∷ h.target ++ 32 ∷ print_version h.minor ++ print_end h.line_end) h.fields h.last

pub response_lines : (h : ResponseHead) → length h.fields < lines_of (print_response h)
unfolding print_response
response_lines h = behind (print_blank h.blank ++ print_version h.minor ++ 32 ∷ h.digits ++ print_reason h.reason ++ print_end h.line_end) h.fields h.last

-- bytes with few lines begin with a head of few fields alone
pub request_fits : (bytes : List ℕ) (h : RequestHead) (rest : List ℕ) → ReadsRequest bytes h rest → length h.fields < lines_of bytes
request_fits bytes h rest reads =
    let a = ap lines_of reads.1 ∙ lines-append (print_request h) rest in let b = request_lines h in omega (arith, a, b)

pub response_fits : (bytes : List ℕ) (h : ResponseHead) (rest : List ℕ) → ReadsResponse bytes h rest → length h.fields < lines_of bytes
response_fits bytes h rest reads =
    let a = ap lines_of reads.1 ∙ lines-append (print_response h) rest in let b = response_lines h in omega (arith, a, b)

-- so an answer of too many fields says that there is none
pub no_request : (bytes : List ℕ) → lines_of bytes ≤ 102 → RequestOverflows 102 bytes → HasNoRequest bytes
no_request bytes few over = λ h rest reads.
    let many = over [] h rest (subst (λ (l : List ℕ). ReadsRequest l h rest) (sym (append-nil bytes)) reads) in
    let fits = request_fits bytes h rest reads in omega (arith, many, fits, few)

pub no_response : (bytes : List ℕ) → lines_of bytes ≤ 102 → ResponseOverflows 102 bytes → HasNoResponse bytes
no_response bytes few over = λ h rest reads.
    let many = over [] h rest (subst (λ (l : List ℕ). ReadsResponse l h rest) (sym (append-nil bytes)) reads) in
    let fits = response_fits bytes h rest reads in omega (arith, many, fits, few)
