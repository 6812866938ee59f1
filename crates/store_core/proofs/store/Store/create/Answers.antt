use Rattle.std.proofs.Common.{[], refl}
use Rattle.std.proofs.lemmas.List.Elements.{All-nil}
use Rattle.record_rules.proofs.Soundness.{empty_sound}
use Rattle.store_core.specs.Store.{StandsThere}
use Rattle.store_core.proofs.store.Store.create.Goals as goal

pub returns-in-Ok-clause-made : goal.returns-in-Ok-clause-made
returns-in-Ok-clause-made g c = record {
  filed = [];
  journal_is = refl;
  doubt_is = refl;
  log = c.in-Ok.ensures.made.0;
  sound = empty_sound c.in-Ok.log.host;
  there = All-nil (StandsThere c.in-Ok.log);
  tables = c.new.ensures c.in-Ok.log.host c.args.key;
  room = tt;
}
