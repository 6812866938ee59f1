-- Which of the folder's files the words call for.
use Rattle.std.specs.Prelude.{List, [], ◌∷◌, Bool, false, ◌||◌, codes}
use Rattle.std.specs.Str.{bytes_eq}
use Rattle.search_words.specs.Words.{Text}

-- `pipe` and `search` work under a key
abbrev pub call_for_a_key : List Text → Bool
call_for_a_key (folder ∷ name ∷ rest) = bytes_eq name (codes "pipe") || bytes_eq name (codes "search")
call_for_a_key _ = false

-- FOLDER init
abbrev pub call_for_a_folder : List Text → Bool
call_for_a_folder (folder ∷ name ∷ []) = bytes_eq name (codes "init")
call_for_a_folder _ = false
