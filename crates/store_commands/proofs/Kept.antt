-- What a store that was opened keeps of its disk, and what a command over it comes to.
use Rattle.std.proofs.Common.{◌≡◌, ℕ, List, [], Option, Some, None, Result, Ok, Err, refl, subst}
use Rattle.record_rules.specs.Records.{Entry}
use Rattle.record_rules.specs.Journal.{status}
use Rattle.log_rules.specs.Opened.{opened_journal}
use Rattle.view_rules.specs.Answers.{ScopedQuery}
use Rattle.at_edge.specs.Storing.{DiskSeen}
use Rattle.at_edge.specs.Writing.{SinkSeen}
use Rattle.printing.specs.Lines.{chain_lines}
use Rattle.key_text.specs.KeyText.{key_of}
use Rattle.record_log.specs.Journals.{HasJournal}
use Rattle.store_tables.specs.declared.tables.Batch.{Batch}
use Rattle.store_core.specs.Store.{StoreSeen, LogMeans, IsStoreOf}
use Rattle.store_core.specs.Opening.{OpensStore}
use Rattle.commands.proofs.Copies.{holds_journal}
use Rattle.store_commands.specs.Ends.{Prints, KeepsLog}
use Rattle.store_commands.specs.Telling.{TellsStatus}
use Rattle.store_commands.specs.Finding.{PrintsFound, FindsHits}
use Rattle.store_commands.specs.declared.ends.CommandFail.{CommandFail}
use Rattle.store_commands.specs.declared.ends.CommandFail.TheVariants as fails

store_journal : (store : StoreSeen) (journal : List Entry) → store.doubt ≡ None → IsStoreOf store journal [] → HasJournal store.log journal
store_journal store journal settled is = subst (λ (doubt : Option Batch). LogMeans store.log journal doubt) settled is.log

pub keeps : (old : DiskSeen) (store : StoreSeen) → (opens : OpensStore old store) → store.doubt ≡ None → KeepsLog store.log.host opens.events old store.log.disk
keeps old store opens settled = record {
  shown = opens.shown;
  holds = holds_journal store.log store.log.host (opened_journal opens.events) refl (store_journal store (opened_journal opens.events) settled opens.is);
  synced = opens.synced;
}

module _ (old : DiskSeen) (store : StoreSeen) (opens : OpensStore old store) (settled : store.doubt ≡ None) (sink_old sink_new : SinkSeen) where
  pub told : (result : Result (Unit {0}) CommandFail) → Prints result sink_old sink_new (chain_lines (status (opened_journal opens.events) 0)) → TellsStatus result old store.log.disk sink_old sink_new
  told (Ok _) prints = (store.log.host, (opens.events, keeps old store opens settled, prints))
  told (Err fails.SinkFault) prints = (store.log.host, (opens.events, keeps old store opens settled, prints))
  told (Err fails.NoMemory) prints = (store.log.host, (opens.events, keeps old store opens settled, prints))
  told (Err fails.FaultyKeyText) prints = absurd prints
  told (Err (fails.Unopened fail)) prints = absurd prints

  pub found : (result : Result (Unit {0}) CommandFail) (key_text key : List ℕ) (asked : ScopedQuery) → key_of key_text ≡ Some key → PrintsFound result store.log.host key (opened_journal opens.events) asked sink_old sink_new → FindsHits result key_text asked old store.log.disk sink_old sink_new
  found (Ok _) key_text key asked is prints = (key, (is, (store.log.host, (opens.events, keeps old store opens settled, prints))))
  found (Err fails.SinkFault) key_text key asked is prints = (key, (is, (store.log.host, (opens.events, keeps old store opens settled, prints))))
  found (Err fails.NoMemory) key_text key asked is prints = (key, (is, (store.log.host, (opens.events, keeps old store opens settled, prints))))
  found (Err fails.FaultyKeyText) key_text key asked is prints = absurd prints.prints
  found (Err (fails.Unopened fail)) key_text key asked is prints = absurd prints.prints
