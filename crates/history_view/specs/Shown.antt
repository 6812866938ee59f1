-- A command that is lent.
use Rattle.std.specs.Option.{option_map}
use Rattle.definitions.specs.Journal.{HistoryRecord}
use Rattle.history_view.specs.declared.shown.ShownCommand.{ShownCommand}

abbrev pub command_seen : ShownCommand → HistoryRecord
command_seen h =
    record { id = h.id; timestamp = h.timestamp; duration = h.duration; exit = h.exit; command = h.command.now; cwd = h.cwd.now; session = h.session.now; hostname = h.hostname.now; deleted_at = h.deleted_at; author = option_map (λ a. a.now) h.author }
