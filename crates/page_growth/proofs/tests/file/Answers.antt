use Rattle.std.proofs.Common.{◌++◌, ◌∷◌, [], refl}
use Rattle.record_rules.specs.Records.{Entry, Taken}
use Rattle.record_model.specs.Seen.{record_seen}
use Rattle.chain_index.specs.Meaning.{Filed}
use Rattle.page_growth.proofs.tests.file.Goals as goal

pub returns : goal.returns
returns c =
    let filed = c.requires.0 in
    let entry : Entry = record { caller = record { number = 0; call = 0; settled_for = 0 }; event = Taken c.args.owner (record_seen c.args.rec.now) } in
    let last : Filed = record { entry = entry; spot = record { offset = 32; count = 9 }; at = 3 } in
    (filed ++ last ∷ [], c.add_reserved.ensures.files filed entry (c.in_ok-room.ensures.same filed c.requires.1) (record { owned = refl; is = refl }))
