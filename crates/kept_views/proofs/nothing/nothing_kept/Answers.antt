use Rattle.kept_views.proofs.Changes.{nothing_keeps}
use Rattle.kept_views.proofs.nothing.nothing_kept.Goals as goal

pub returns : goal.returns
returns c = λ host key. nothing_keeps host key (record { commands = c.new.result; history = c.new-2.result; pairs = c.new-3.result; aliases = c.new-4.result }) c.new.ensures c.new-2.ensures c.new-3.ensures c.new-4.ensures
