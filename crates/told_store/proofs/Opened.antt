-- What is noted of a store that is opened.
use Rattle.std.proofs.Common.{◌≡◌, [], refl, sym, subst}
use Rattle.log_rules.specs.Opened.{opened_journal}
use Rattle.at_edge.specs.Storing.{DiskSeen}
use Rattle.state_notes.specs.Notes.{StoreNote}
use Rattle.store_core.specs.Store.{StoreSeen}
use Rattle.store_core.specs.Opening.{OpensStore}
use Rattle.told_store.specs.Opening.{OpensTold}
use Rattle.told_store.proofs.Leaving.{state_leaves}

-- the note of the journal that the disk showed
pub opened_note : (noted old : DiskSeen) (store : StoreSeen) → noted ≡ old → OpensStore old store → (note : StoreNote) × OpensTold noted store note
opened_note noted old store same opens =
    let note : StoreNote = record { state = record { entries = opened_journal opens.events; doubt = []; faults = store.log.disk.faults }; turns = [] } in
    let told : OpensTold old store note = record {
      events = opens.events;
      first = record { told = record { is = opens.is; counted = refl }; none = refl };
      entries = refl;
      settled = refl;
      leaves = state_leaves store note.state opens.is;
      shown = opens.shown;
      synced = opens.synced;
    } in
    (note, subst (λ (d : DiskSeen). OpensTold d store note) (sym same) told)
