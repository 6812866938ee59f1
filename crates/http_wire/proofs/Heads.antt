-- The pieces of a head are its lines.
use Rattle.std.proofs.Common.{◌≡◌, ℕ, Bool, true, false, List, [], ◌∷◌, ◌++◌, codes, decimal, cond, sym, ◌∙◌, append_assoc, append-nil}
use Rattle.http_wire.specs.Phrases.{phrase_of}
use Rattle.http_wire.specs.Written.{line_end, head_of, response_lines}

-- what stands between the phrase and the length, and behind all
abbrev middle : List ℕ
middle = 13 ∷ 10 ∷ (codes "Content-Type: application/json" ++ (13 ∷ 10 ∷ codes "Content-Length: "))

abbrev last : List ℕ
last = 13 ∷ 10 ∷ 13 ∷ 10 ∷ []

in_a_row : (a b c d e f g h : List ℕ) → ((((((a ++ b) ++ c) ++ d) ++ e) ++ f) ++ g) ++ h ≡ a ++ (b ++ (c ++ (d ++ (e ++ (f ++ (g ++ h))))))
in_a_row a b c d e f g h = simp append_assoc

four_lines : (a b c x y z w end : List ℕ) → (((a ++ (b ++ (32 ∷ c))) ++ end) ++ ((x ++ end) ++ (((y ++ z) ++ end) ++ ((w ++ end) ++ [])))) ++ end
    ≡ a ++ (b ++ (32 ∷ (c ++ (end ++ (x ++ (end ++ (y ++ (z ++ (end ++ (w ++ (end ++ end)))))))))))
four_lines a b c x y z w end = simp (append_assoc, append-nil)

three_lines : (a b c x y z end : List ℕ) → (((a ++ (b ++ (32 ∷ c))) ++ end) ++ ((x ++ end) ++ (((y ++ z) ++ end) ++ []))) ++ end
    ≡ a ++ (b ++ (32 ∷ (c ++ (end ++ (x ++ (end ++ (y ++ (z ++ (end ++ end)))))))))
three_lines a b c x y z end = simp (append_assoc, append-nil)

pub pieces_of_head : (code : ℕ) (close : Bool) (count : ℕ)
    → ((((((codes "HTTP/1.1 " ++ decimal code) ++ 32 ∷ []) ++ phrase_of code) ++ middle) ++ decimal count) ++ cond close (13 ∷ 10 ∷ codes "Connection: close") []) ++ last
    ≡ head_of (response_lines code close count)
pieces_of_head code true count =
    in_a_row (codes "HTTP/1.1 ") (decimal code) (32 ∷ []) (phrase_of code) middle (decimal count) (13 ∷ 10 ∷ codes "Connection: close") last
    ∙ sym (four_lines (codes "HTTP/1.1 ") (decimal code) (phrase_of code) (codes "Content-Type: application/json") (codes "Content-Length: ") (decimal count) (codes "Connection: close") line_end)
pieces_of_head code false count =
    in_a_row (codes "HTTP/1.1 ") (decimal code) (32 ∷ []) (phrase_of code) middle (decimal count) [] last
    ∙ sym (three_lines (codes "HTTP/1.1 ") (decimal code) (phrase_of code) (codes "Content-Type: application/json") (codes "Content-Length: ") (decimal count) line_end)
