use Rattle.std.proofs.Common.{sym, ◌∙◌}
use Rattle.search_words.specs.Words.{texts}
use Rattle.atuin_main.proofs.Fits.{command_fits}
use Rattle.atuin_main.proofs.top.run_once.Goals as goal

pub run-requires : goal.run-requires
run-requires g c = record { fits = command_fits (texts c.args.words.now) c.in-Ok-Some.command (sym c.in-Ok-Some.ensures ∙ c.in-Ok-Some.field-0-is) }
