use Rattle.std.proofs.Common.{refl, sym}
use Rattle.record_model.specs.Seen.{record_seen, records_seen}
use Rattle.chain_index.specs.Meaning.{journal_of}
use Rattle.page_growth.proofs.Taking.{held_first, held_later}
use Rattle.page_growth.proofs.pages.held_id.Goals as goal

pub returns-in-Some : goal.returns-in-Some
returns-in-Some c = λ filed is numbered.
    held_first (journal_of filed) c.args.owner (records_seen c.args.before.now) c.args.marks.now (record_seen c.args.r.now) c.in-Some.id
    (c.in-Some.ensures.holder filed (record_seen c.args.r.now) is (numbered c.args.r.now.host c.as_bytes.result.now) (record { host_is = refl; tag_is = sym c.as_bytes.ensures.value; idx_is = refl }))

pub returns-in-None : goal.returns-in-None
returns-in-None c = λ filed is numbered.
    held_later (journal_of filed) c.args.owner (records_seen c.args.before.now) c.args.marks.now (record_seen c.args.r.now) c.id_among.result
    (c.in-None.ensures.holder filed (record_seen c.args.r.now) is (numbered c.args.r.now.host c.as_bytes.result.now) (record { host_is = refl; tag_is = sym c.as_bytes.ensures.value; idx_is = refl })) c.id_among.ensures
