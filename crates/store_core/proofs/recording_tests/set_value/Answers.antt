use Rattle.std.proofs.Common.{◌≡◌, ℕ, List, [], ◌∷◌, Option, Some, None, refl, ap, subst, arith}
use Rattle.std.specs.Prelude.{◌≢◌}
use Rattle.payload_rules.specs.Payloads.{Payload, KvSet}
use Rattle.payload_forms.specs.Seen.{payload_seen}
use Rattle.record_rules.specs.Records.{Entry}
use Rattle.step_rules.specs.Calls.{kv_set_call}
use Rattle.step_rules.specs.Step.{record_draft, kv_set_drafts}
use Rattle.store_core.specs.Store.{StoreSeen, IsStoreOf}
use Rattle.store_core.specs.Writing.{MayWrite}
use Rattle.store_core.proofs.Leaving.{nothing_doubted}
use Rattle.store_core.proofs.recording_tests.set_value.Goals as goal

keyed_by : (key : Option (List ℕ)) → key ≢ None → (k : List ℕ) × (key ≡ Some k)
keyed_by None some = absurd (some refl)
keyed_by (Some k) some = (k, refl)

may_set : (store : StoreSeen) (journal doubt : List Entry) → IsStoreOf store journal doubt → store.doubt ≡ None → store.key ≢ None → (payload : Payload) → payload ≡ KvSet (110 ∷ []) (107 ∷ []) (118 ∷ []) → MayWrite store (record_draft None payload)
may_set store journal doubt is none keyed payload sets =
    let key = keyed_by store.key keyed in
    record {
      key = key.0;
      journal = journal;
      call = kv_set_call (110 ∷ []) (107 ∷ []) (118 ∷ []);
      keyed = key.1;
      is = subst (λ (more : List Entry). IsStoreOf store journal more) (nothing_doubted store journal doubt is none) is;
      fits = record { numbers = tt; texts = omega arith };
      short = refl;
      drafts = kv_set_drafts (110 ∷ []) (107 ∷ []) (118 ∷ []) refl (ap (record_draft None) sets);
    }

pub record-requires-clause-writes : goal.record-requires-clause-writes
record-requires-clause-writes c = may_set c.args.store.now c.requires.means.0 c.requires.means.1 c.requires.means.2 c.requires.settled c.requires.keyed (payload_seen c.in_ok-payload.payload) c.in_ok-payload.ensures

pub returns-clause-means : goal.returns-clause-means
returns-clause-means c =
    let may = may_set c.args.store.now c.requires.means.0 c.requires.means.1 c.requires.means.2 c.requires.settled c.requires.keyed (payload_seen c.in_ok-payload.payload) c.in_ok-payload.ensures in
    let done = c.record.ensures.writes.writes may.key may.journal may.call may.keyed may.is may.fits may.short may.drafts in
    (done.after, done.doubt_after, done.is)
