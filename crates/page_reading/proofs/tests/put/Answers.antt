use Rattle.std.proofs.Common.{◌++◌, ◌∷◌, [], refl}
use Rattle.record_rules.specs.Records.{Entry, Taken}
use Rattle.record_model.specs.Seen.{record_seen}
use Rattle.chain_index.specs.Meaning.{Filed}
use Rattle.page_reading.proofs.tests.put.Goals as goal

pub returns-clause-index : goal.returns-clause-index
returns-clause-index g c =
    let filed = c.requires.index.0 in
    let entry : Entry = record { caller = record { number = 0; call = 0; settled_for = 0 }; event = Taken 5 (record_seen c.in_ok-rec.rec) } in
    let last : Filed = record { entry = entry; spot = c.in-Ok.spot; at = 0 } in
    (filed ++ last ∷ [], c.add_reserved.ensures.files filed entry (c.in_ok-room.ensures.same filed c.requires.index.1) (record { owned = refl; is = refl }))
