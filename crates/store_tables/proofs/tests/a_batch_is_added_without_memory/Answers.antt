use Rattle.std.proofs.Common.{◌≡◌, List, [], ◌∷◌, ◌++◌, None, refl, sym, ap, subst, ◌∙◌}
use Rattle.record_rules.specs.Records.{Event, Started}
use Rattle.record_rules.specs.Journal.{SoundEvents}
use Rattle.record_rules.specs.Examples.{started_ls}
use Rattle.record_rules.proofs.Soundness.{empty_sound}
use Rattle.record_rules.proofs.Deciding.{may_all_come_told}
use Rattle.record_model.specs.declared.entries.Event as model
use Rattle.record_model.specs.Seen.{events_seen}
use Rattle.store_tables.proofs.tests.a_batch_is_added_without_memory.Goals as goal

ls_is_sound : SoundEvents (Started (started_ls 7) ∷ []) 1
ls_is_sound = (may_all_come_told [] 1 (Started (started_ls 7) ∷ []) (empty_sound 1)).0 refl

pub add-requires : goal.add-requires
add-requires g c =
    let are : c.in_ok-batch.batch.events.items ≡ c.in_ok-ls.field-0 ∷ [] = c.in_ok-batch.ensures.events ∙ c.in_ok-push.ensures.items ∙ ap (λ (es : List model.Event). es ++ c.in_ok-ls.field-0 ∷ []) c.new-events.ensures.items in
    let say : events_seen c.in_ok-batch.batch.events.items ≡ Started (started_ls 7) ∷ [] = ap events_seen are ∙ ap (λ (e : Event). e ∷ []) c.in_ok-ls.ensures in (
      1,
      None,
      [],
      record {
        is = c.ready.ensures.same 1 None [] (c.new-tables.ensures 1 None);
        ready = c.in_ok-batch.ensures.ready;
        sound = subst (λ (es : List Event). SoundEvents es 1) (sym say) ls_is_sound;
      },
    )
