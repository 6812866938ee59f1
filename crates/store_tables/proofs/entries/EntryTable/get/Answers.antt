use Rattle.std.proofs.Common.{Option, ap, ◌∙◌}
use Rattle.std.specs.Option.{option_map}
use Rattle.store_tables.specs.declared.entries.KeptEntry.{KeptEntry}
use Rattle.store_tables.specs.Entries.{place_seen}
use Rattle.store_tables.proofs.Adding.{place_found}
use Rattle.store_tables.proofs.entries.EntryTable.get.Goals as goal

pub returns : goal.returns
returns c = λ filed is. ap (λ (o : Option KeptEntry). option_map place_seen o) c.entry.ensures ∙ place_found c.args.self.now filed is c.args.number
