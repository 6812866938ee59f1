-- Requests and responses as they are written (RFC 9112, sections 2 to 6).
use Rattle.std.specs.Prelude.{ℕ, Bool, List, [], ◌∷◌, ◌++◌, length, flat_map, codes, decimal, Option, Some, None, if◌then◌else◌}
use Rattle.http_wire.specs.Phrases.{phrase_of}

-- each line ends in CR LF, and an empty line stands before the body
abbrev pub line_end : List ℕ
line_end = 13 ∷ 10 ∷ []

abbrev pub line : List ℕ → List ℕ
line text = text ++ line_end

abbrev pub head_of : (lines : List (List ℕ)) → List ℕ
head_of lines = flat_map line lines ++ line_end

abbrev pub message : (lines : List (List ℕ)) (body : List ℕ) → List ℕ
message lines body = head_of lines ++ body

-- the lines that stand in both
abbrev pub length_line : ℕ → List ℕ
length_line count = codes "Content-Length: " ++ decimal count

abbrev pub close_lines : Bool → List (List ℕ)
close_lines close = if close then codes "Connection: close" ∷ [] else []

-- a response
pub record ResponseSeen : Type 0 where
  pub code : ℕ
  pub close : Bool
  pub body : List ℕ

abbrev pub status_line : ℕ → List ℕ
status_line code = codes "HTTP/1.1 " ++ (decimal code ++ (32 ∷ phrase_of code))

abbrev pub response_lines : (code : ℕ) (close : Bool) (count : ℕ) → List (List ℕ)
response_lines code close count = status_line code ∷ codes "Content-Type: application/json" ∷ length_line count ∷ close_lines close

abbrev pub response_text : ResponseSeen → List ℕ
response_text r = message (response_lines r.code r.close (length r.body)) r.body

-- a request
pub record RequestSeen : Type 0 where
  pub method : List ℕ
  pub target : List ℕ
  pub authorization : Option (List ℕ)
  pub close : Bool
  pub body : List ℕ

abbrev pub request_line : (method target : List ℕ) → List ℕ
request_line method target = method ++ (32 ∷ target ++ codes " HTTP/1.1")

abbrev pub authorization_lines : Option (List ℕ) → List (List ℕ)
authorization_lines None = []
authorization_lines (Some value) = (codes "Authorization: " ++ value) ∷ []

-- the same with the end of the line before it
abbrev pub authorization_piece : Option (List ℕ) → List ℕ
authorization_piece None = []
authorization_piece (Some value) = 13 ∷ 10 ∷ codes "Authorization: " ++ value

abbrev pub request_text : RequestSeen → (host : List ℕ) → List ℕ
request_text r host =
    message (request_line r.method r.target ∷ (codes "Host: " ++ host) ∷ authorization_lines r.authorization ++ (close_lines r.close ++ length_line (length r.body) ∷ [])) r.body
