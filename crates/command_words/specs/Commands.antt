-- Which command the words of the command line are.
use Rattle.std.specs.Prelude.{List, [], ◌∷◌, Option, Some, None, option_map, codes, if◌then◌else◌}
use Rattle.std.specs.Str.{bytes_eq}
use Rattle.search_words.specs.Words.{Text}
use Rattle.search_words.specs.Queries.{query_of}
use Rattle.command_words.specs.declared.Command.{Command}
use Rattle.command_words.specs.declared.Command.TheVariants as command

-- FOLDER and one word more
abbrev pub lone_command : Text → Option Command
lone_command name =
    if bytes_eq name (codes "init") then Some command.Init
    else (if bytes_eq name (codes "pipe") then Some command.Pipe
    else (if bytes_eq name (codes "status") then Some command.Status
    else (if bytes_eq name (codes "migrate") then Some command.Migrate else None)))

-- what stands where no word is left
abbrev pub without_words : List Text → Option Command → Option Command
without_words [] found = found
without_words (word ∷ rest) found = None

-- FOLDER, whatever it says, a name, and the words behind it: a search has words of its own, the others have none
abbrev pub named_command : Text → List Text → Option Command
named_command name rest =
    if bytes_eq name (codes "search") then option_map command.Search (query_of rest)
    else without_words rest (lone_command name)

abbrev pub command_of : List Text → Option Command
command_of [] = None
command_of (folder ∷ []) = None
command_of (folder ∷ name ∷ rest) = named_command name rest
