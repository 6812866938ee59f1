use Rattle.std.proofs.Common.{◌≡◌, Some, sym, subst, ◌∙◌, rules}
use Rattle.definitions.specs.Spelling.{IsBytes}
use Rattle.payload_rules.specs.Payloads.{written_payload}
use Rattle.record_rules.specs.Records.{SealedRecord}
use Rattle.record_rules.specs.Journal.{RecordFits}
use Rattle.record_model.specs.Seen.{record_seen}
use Rattle.step_rules.specs.Store.{sealed_record}
use Rattle.step_rules.specs.Sealing.{keyed_store}
use Rattle.record_seal.specs.Seals.{seal_of}
use Rattle.record_seal.specs.Seen.{seal_seen}
use Rattle.record_seal.proofs.StoreSealing.{record_sealing}
use Rattle.payload_forms.specs.Seen.{payload_seen}
use Rattle.payload_records.specs.Heads.{head_for, record_for}
use Rattle.payload_records.proofs.Records.{record_fits, record_opens}
use Rattle.payload_records.proofs.sealing.seal_payload.Goals as goal

pub returns-clause-fits : goal.returns-clause-fits
returns-clause-fits c =
    let payload = payload_seen c.args.payload.now in
    let sealed : seal_seen c.in_ok-sealed.sealed ≡ seal_of c.args.key.now (head_for c.args.stamp payload) (written_payload payload) c.args.drawn.now =
    c.in_ok-sealed.ensures ∙ (λ i. seal_of c.args.key.now (c.in_ok-head.ensures i) ((c.as_slice-written.ensures.items ∙ c.in_ok-bytes.ensures) i) c.args.drawn.now) in
    let made : record_seen c.record_of.result ≡ record_for c.args.key.now c.args.stamp payload c.args.drawn.now =
    c.record_of.ensures ∙ (λ i. sealed_record (c.in_ok-head.ensures i) c.args.stamp.timestamp (sealed i)) in
    subst RecordFits (sym made) (record_fits c.args.key.now c.args.stamp payload c.args.drawn.now c.requires c.told-drawn)

pub returns-clause-opens : goal.returns-clause-opens
returns-clause-opens c =
    let payload = payload_seen c.args.payload.now in
    let sealed : seal_seen c.in_ok-sealed.sealed ≡ seal_of c.args.key.now (head_for c.args.stamp payload) (written_payload payload) c.args.drawn.now =
    c.in_ok-sealed.ensures ∙ (λ i. seal_of c.args.key.now (c.in_ok-head.ensures i) ((c.as_slice-written.ensures.items ∙ c.in_ok-bytes.ensures) i) c.args.drawn.now) in
    let made : record_seen c.record_of.result ≡ record_for c.args.key.now c.args.stamp payload c.args.drawn.now =
    c.record_of.ensures ∙ (λ i. sealed_record (c.in_ok-head.ensures i) c.args.stamp.timestamp (sealed i)) in
    let key_are : IsBytes c.args.key.now = search rules in
    let drawn_are : IsBytes c.args.drawn.now = search rules in
    let written_are : IsBytes (written_payload payload) = subst IsBytes (c.as_slice-written.ensures.items ∙ c.in_ok-bytes.ensures) c.bytes_fit.ensures in
    subst (λ (r : SealedRecord). (keyed_store record_sealing c.args.stamp.host c.args.key.now).opens r ≡ Some payload) (sym made)
    (record_opens c.args.key.now c.args.stamp payload c.args.drawn.now c.requires c.told-drawn c.told-key key_are c.payload_fits.ensures.numbers c.payload_fits.ensures.texts written_are drawn_are)
