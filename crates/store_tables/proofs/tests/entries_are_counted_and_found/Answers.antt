use Rattle.std.proofs.Common.{[], ◌∷◌, refl, sym, subst}
use Rattle.record_rules.specs.Records.{SealedRecord, Taken}
use Rattle.record_rules.specs.Journal.{MayComeNext}
use Rattle.record_rules.specs.Examples.{kv_record}
use Rattle.record_rules.proofs.Deciding.{may_come_told}
use Rattle.record_model.specs.Seen.{record_seen}
use Rattle.chain_index.specs.Meaning.{Filed}
use Rattle.store_tables.proofs.tests.entries_are_counted_and_found.Goals as goal

second_follows : MayComeNext (Taken 5 (kv_record 0 1000) ∷ []) 1 (Taken 5 (kv_record 1 1001))
second_follows = (may_come_told (Taken 5 (kv_record 0 1000) ∷ []) 1 (Taken 5 (kv_record 1 1001))).0 refl

pub keep-requires-2 : goal.keep-requires-2
keep-requires-2 g c =
    let first : Filed = record { entry = record { caller = record { number = 1; call = 1; settled_for = 0 }; event = Taken 5 (record_seen c.in_ok-rec.rec) }; spot = record { offset = 32; count = 90 }; at = 0 } in
    record {
      filed = first ∷ [];
      is = c.in_ok-keep.ensures [] c.new-table.ensures;
      host = 1;
      next = subst (λ (r : SealedRecord). MayComeNext (Taken 5 r ∷ []) 1 (Taken 5 (record_seen c.in_ok-rec-2.rec))) (sym c.in_ok-rec.ensures)
          (subst (λ (r : SealedRecord). MayComeNext (Taken 5 (kv_record 0 1000) ∷ []) 1 (Taken 5 r)) (sym c.in_ok-rec-2.ensures) second_follows);
    }
