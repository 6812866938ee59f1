-- The pieces of a request are its text.
use Rattle.std.proofs.Common.{◌≡◌, ℕ, Bool, true, false, List, [], ◌∷◌, ◌++◌, codes, cond, Option, Some, None, sym, ap, ap₂, ◌∙◌, append_assoc, append-nil}
use Rattle.http_wire.specs.Written.{line_end, authorization_piece, close_lines, authorization_lines, request_line, message}

abbrev host_name : List ℕ
host_name = codes " HTTP/1.1" ++ (13 ∷ 10 ∷ codes "Host: ")

in_a_row : (a b c d e f g h i j k : List ℕ) → (((((((((([] ++ a) ++ b) ++ c) ++ d) ++ e) ++ f) ++ g) ++ h) ++ i) ++ j) ++ k ≡ a ++ (b ++ (c ++ (d ++ (e ++ (f ++ (g ++ (h ++ (i ++ (j ++ k)))))))))
in_a_row a b c d e f g h i j k = simp append_assoc

module _ (m s t v hn h ln n e body : List ℕ) where
  abbrev first_line : List ℕ
  first_line = m ++ ((s ++ t) ++ v)

  five_lines : (an a close : List ℕ) → (((first_line ++ e) ++ (((hn ++ h) ++ e) ++ (((an ++ a) ++ e) ++ ((close ++ e) ++ (((ln ++ n) ++ e) ++ []))))) ++ e) ++ body
      ≡ m ++ (s ++ (t ++ (v ++ (e ++ (hn ++ (h ++ (e ++ (an ++ (a ++ (e ++ (close ++ (e ++ (ln ++ (n ++ (e ++ (e ++ body))))))))))))))))
  five_lines an a close = simp (append_assoc, append-nil)

  without_close : (an a : List ℕ) → (((first_line ++ e) ++ (((hn ++ h) ++ e) ++ (((an ++ a) ++ e) ++ (((ln ++ n) ++ e) ++ [])))) ++ e) ++ body
      ≡ m ++ (s ++ (t ++ (v ++ (e ++ (hn ++ (h ++ (e ++ (an ++ (a ++ (e ++ (ln ++ (n ++ (e ++ (e ++ body))))))))))))))
  without_close an a = simp (append_assoc, append-nil)

  without_value : (close : List ℕ) → (((first_line ++ e) ++ (((hn ++ h) ++ e) ++ ((close ++ e) ++ (((ln ++ n) ++ e) ++ [])))) ++ e) ++ body
      ≡ m ++ (s ++ (t ++ (v ++ (e ++ (hn ++ (h ++ (e ++ (close ++ (e ++ (ln ++ (n ++ (e ++ (e ++ body)))))))))))))
  without_value close = simp (append_assoc, append-nil)

  three_lines : (((first_line ++ e) ++ (((hn ++ h) ++ e) ++ (((ln ++ n) ++ e) ++ []))) ++ e) ++ body
      ≡ m ++ (s ++ (t ++ (v ++ (e ++ (hn ++ (h ++ (e ++ (ln ++ (n ++ (e ++ (e ++ body)))))))))))
  three_lines = simp (append_assoc, append-nil)

-- the lines of a request whose length is told by these digits
abbrev text_of : (m t h : List ℕ) (a : Option (List ℕ)) (close : Bool) (n body : List ℕ) → List ℕ
text_of m t h a close n body = message (request_line m t ∷ (codes "Host: " ++ h) ∷ authorization_lines a ++ (close_lines close ++ (codes "Content-Length: " ++ n) ∷ [])) body

pub pieces_of_request : (m t h : List ℕ) (a : Option (List ℕ)) (close : Bool) (n body : List ℕ)
    → (((((((((([] ++ m) ++ 32 ∷ []) ++ t) ++ host_name) ++ h) ++ authorization_piece a) ++ cond close (13 ∷ 10 ∷ codes "Connection: close") []) ++ (13 ∷ 10 ∷ codes "Content-Length: ")) ++ n) ++ (13 ∷ 10 ∷ 13 ∷ 10 ∷ [])) ++ body
    ≡ text_of m t h a close n body
pieces_of_request m t h (Some a) true n body =
    in_a_row m (32 ∷ []) t host_name h (authorization_piece (Some a)) (13 ∷ 10 ∷ codes "Connection: close") (13 ∷ 10 ∷ codes "Content-Length: ") n (13 ∷ 10 ∷ 13 ∷ 10 ∷ []) body
    ∙ sym (five_lines m (32 ∷ []) t (codes " HTTP/1.1") (codes "Host: ") h (codes "Content-Length: ") n line_end body (codes "Authorization: ") a (codes "Connection: close"))
pieces_of_request m t h (Some a) false n body =
    in_a_row m (32 ∷ []) t host_name h (authorization_piece (Some a)) [] (13 ∷ 10 ∷ codes "Content-Length: ") n (13 ∷ 10 ∷ 13 ∷ 10 ∷ []) body
    ∙ sym (without_close m (32 ∷ []) t (codes " HTTP/1.1") (codes "Host: ") h (codes "Content-Length: ") n line_end body (codes "Authorization: ") a)
pieces_of_request m t h None true n body =
    in_a_row m (32 ∷ []) t host_name h [] (13 ∷ 10 ∷ codes "Connection: close") (13 ∷ 10 ∷ codes "Content-Length: ") n (13 ∷ 10 ∷ 13 ∷ 10 ∷ []) body
    ∙ sym (without_value m (32 ∷ []) t (codes " HTTP/1.1") (codes "Host: ") h (codes "Content-Length: ") n line_end body (codes "Connection: close"))
pieces_of_request m t h None false n body =
    in_a_row m (32 ∷ []) t host_name h [] [] (13 ∷ 10 ∷ codes "Content-Length: ") n (13 ∷ 10 ∷ 13 ∷ 10 ∷ []) body
    ∙ sym (three_lines m (32 ∷ []) t (codes " HTTP/1.1") (codes "Host: ") h (codes "Content-Length: ") n line_end body)

pub authorization_more : (text name bytes value : List ℕ) (said : Option (List ℕ)) → said ≡ Some value → name ≡ 13 ∷ 10 ∷ codes "Authorization: " → bytes ≡ value → (text ++ name) ++ bytes ≡ text ++ authorization_piece said
authorization_more text name bytes value said is named same =
    append_assoc text name bytes ∙ ap₂ (λ (x y : List ℕ). text ++ (x ++ y)) named same ∙ ap (λ (o : Option (List ℕ)). text ++ authorization_piece o) (sym is)
