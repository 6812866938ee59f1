-- The command that is handed to the parser of command lines.
use Rattle.std.specs.Prelude.{◌≡◌, codes, Option, Some, None, unwrap_or, true}
use Rattle.clap.specs.Walk.{Rule, Text}
use Rattle.clap.specs.Simple.{App, new_app, new_rule, on_top, with_rule}
use Rattle.clap.specs.Matches.{first_value, found_of}
use Rattle.clap.specs.declared.parser.matches.ArgMatches.{ArgMatches}
use Rattle.search_words.specs.Words.{Said, said_of}
use Rattle.clap.specs.declared.builder.action.ArgAction.TheVariants.{Set, SetTrue}

-- an option that takes a value
abbrev pub option_rule : Text → Rule
option_rule name = record (new_rule name) { long = Some name; action = Some Set }

-- an option that takes none
abbrev pub flag_rule : Text → Rule
flag_rule name = record (new_rule name) { long = Some name; action = Some SetTrue }

-- a word that is no option
abbrev pub text_rule : Rule
text_rule = record (new_rule (codes "text")) { action = Some Set }

abbrev pub bare_app : App
bare_app = on_top (λ s. record s { no_binary_name = true; disable_help_flag = true; disable_version_flag = true }) (new_app (codes "search"))

abbrev pub search_app : App
search_app =
    with_rule (with_rule (with_rule (with_rule (with_rule (with_rule bare_app
    (option_rule (codes "mode"))) (option_rule (codes "filter"))) (flag_rule (codes "unique")))
    (option_rule (codes "offset"))) (option_rule (codes "limit"))) text_rule

-- what the parser found is what was said; `unique` has a value where nothing was said of it, too
pub record Shows (said : Said) (m : ArgMatches) : Type 0 where
  pub mode : first_value (found_of m) (codes "mode") ≡ said_of (codes "mode") said
  pub filter : first_value (found_of m) (codes "filter") ≡ said_of (codes "filter") said
  pub unique : unwrap_or (first_value (found_of m) (codes "unique")) (codes "false") ≡ unwrap_or (said_of (codes "unique") said) (codes "false")
  pub offset : first_value (found_of m) (codes "offset") ≡ said_of (codes "offset") said
  pub limit : first_value (found_of m) (codes "limit") ≡ said_of (codes "limit") said
  pub text : first_value (found_of m) (codes "text") ≡ said_of (codes "text") said

-- something is found exactly where the words can be read, and it is what they say
abbrev pub Finds : Option Said → Option ArgMatches → Type 0
Finds None None = Unit {0}
Finds (Some said) (Some m) = Shows said m
Finds _ _ = ⊥
