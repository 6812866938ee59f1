-- Pre-authentication encoding (PASETO, "Common implementation details"): several pieces as one text from which each
-- piece can be told, so that no two lists of pieces are authenticated alike.
use Rattle.std.specs.Prelude.{ℕ, ◌^◌, ◌%◌, List, [], ◌∷◌, ◌++◌, length}
use Rattle.std.specs.Int.{w64, to_le_bytes}

-- LE64: a count in eight bytes, low byte first, the top bit cleared
unfoldable pub le64 : ℕ → List ℕ
le64 count = to_le_bytes w64 (count % 2 ^ 63)

-- each piece behind its length
abbrev pub pieces_encoded : List (List ℕ) → List ℕ
pieces_encoded [] = []
pieces_encoded (piece ∷ rest) = le64 (length piece) ++ (piece ++ pieces_encoded rest)

-- PAE: the number of pieces, and then the pieces
abbrev pub pae : List (List ℕ) → List ℕ
pae pieces = le64 (length pieces) ++ pieces_encoded pieces
