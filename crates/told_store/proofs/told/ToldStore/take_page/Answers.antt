use Rattle.record_model.specs.Seen.{caller_seen, records_seen}
use Rattle.told_store.proofs.Paging.{page_note_of}
use Rattle.told_store.proofs.told.ToldStore.take_page.Goals as goal

pub chosen-noted-requires : goal.chosen-noted-requires
chosen-noted-requires g c =
    let asked = c.take_page-answer in
    page_note_of c.of-store_was.result.value c.self.inside.store c.self.inside.noted.note asked.new.self
    (caller_seen c.args.caller) c.args.owner (records_seen c.args.page.now) asked.result c.of-store_was.ensures
    c.self.invariant asked.ensures.takes asked.ensures.counted asked.ensures.kept asked.ensures.host
