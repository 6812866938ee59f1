use Rattle.std.proofs.Common.{List, refl, sym, subst}
use Rattle.record_rules.specs.Records.{Entry}
use Rattle.record_model.specs.Seen.{caller_seen, event_seen}
use Rattle.chain_index.specs.Meaning.{Filed, journal_of}
use Rattle.kept_views.specs.Shown.{shown_under}
use Rattle.kept_views.specs.Keeping.{KeepsFor}
use Rattle.store_tables.specs.Entries.{filed_by}
use Rattle.store_tables.proofs.Batches.{journal_more, may_file, may_keep}
use Rattle.store_tables.proofs.tables.add_one.Goals as goal

pub add-requires-clause-next : goal.add-requires-clause-next
add-requires-clause-next c = may_file c.requires.0 c.requires.1 c.args.tables.now c.requires.2 (event_seen c.args.event) c.args.room c.requires.3

pub add_event-requires : goal.add_event-requires
add_event-requires c = (shown_under c.requires.1 (event_seen c.args.event), c.requires.3.fits)

pub returns-clause-adds : goal.returns-clause-adds
returns-clause-adds c = λ host key filed may.
    let f : Filed = filed_by (caller_seen c.args.caller) (event_seen c.args.event) c.args.spot c.args.at in
    record {
      entries = c.add.ensures.files filed may.is.entries;
      kept = subst (λ (j : List Entry). KeepsFor host key c.add_event.new.kept j) (sym (journal_more filed (filed_by (caller_seen c.args.caller) (event_seen c.args.event) c.args.spot c.args.at)))
          (c.add_event.ensures.grows host key (journal_of filed) f.entry refl (may_keep host key c.args.tables.now filed f c.args.room may));
    }
