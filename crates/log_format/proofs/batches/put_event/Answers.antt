use Rattle.std.proofs.Common.{◌≡◌, [], ◌∷◌, ◌++◌, sym, subst}
use Rattle.std.specs.Int.{w32, to_be_bytes}
use Rattle.log_rules.specs.Body.{HasEventBytes, started_bytes, record_bytes, event_bytes}
use Rattle.record_model.specs.declared.entries.Event.{Event}
use Rattle.record_model.specs.Seen.{record_seen, started_seen, event_seen}
use Rattle.log_format.proofs.Joins.{join}
use Rattle.log_format.proofs.batches.put_event.Goals as goal

pub returns-in_ok-put_started-in-Started-clause-bytes : goal.returns-in_ok-put_started-in-Started-clause-bytes
returns-in_ok-put_started-in-Started-clause-bytes c =
    subst (λ (e : Event). c.put_started.new.into.items ≡ c.args.into.now.items ++ event_bytes (event_seen e)) (sym c.in-Started.is)
    (join c.args.into.now.items (1 ∷ []) (started_bytes (started_seen c.in-Started.started)) c.push.new.self.items c.put_started.new.into.items c.in_ok-push-in-Started.ensures.ok c.in_ok-put_started-in-Started.ensures.bytes)

pub returns-in_ok-put_record-in-Local-clause-has : goal.returns-in_ok-put_record-in-Local-clause-has
returns-in_ok-put_record-in-Local-clause-has c =
    subst (λ (e : Event). HasEventBytes (event_seen e)) (sym c.in-Local.is) (record { closed_id = c.in_ok-put_closes-in-Local.ensures.fits; sealed_record = c.in_ok-put_record-in-Local.ensures.has })

pub returns-in_ok-put_record-in-Taken-clause-bytes : goal.returns-in_ok-put_record-in-Taken-clause-bytes
returns-in_ok-put_record-in-Taken-clause-bytes c =
    let owner = join c.args.into.now.items (3 ∷ []) (to_be_bytes w32 c.in-Taken.owner) c.push-in-Taken.new.self.items c.put_number_4.new.into.items c.in_ok-push-in-Taken.ensures.ok c.in_ok-put_number_4-in-Taken.ensures in
    subst (λ (e : Event). c.put_record-in-Taken.new.into.items ≡ c.args.into.now.items ++ event_bytes (event_seen e)) (sym c.in-Taken.is)
    (join c.args.into.now.items (3 ∷ to_be_bytes w32 c.in-Taken.owner) (record_bytes (record_seen c.in-Taken.rec)) c.put_number_4.new.into.items c.put_record-in-Taken.new.into.items owner c.in_ok-put_record-in-Taken.ensures.bytes)
