use Rattle.std.proofs.Common.{◌≡◌, ℕ, List, Some, sym, subst}
use Rattle.record_rules.specs.Records.{Entry}
use Rattle.chain_index.specs.Chains.{IndexSeen}
use Rattle.chain_index.specs.Meaning.{IsIndexOf}
use Rattle.model_words.specs.Seen.{call_seen, answer_seen}
use Rattle.step_rules.specs.Step.{Shows}
use Rattle.step_rules.specs.Sealing.{keyed_store}
use Rattle.record_seal.proofs.StoreSealing.{record_sealing}
use Rattle.store_core.specs.Store.{StoreSeen, IsStoreOf}
use Rattle.store_core.proofs.Answered.{shown}
use Rattle.store_core.proofs.store.Store.answer.Goals as goal

pub returns-in-Ok : goal.returns-in-Ok
returns-in-Ok g c =
    let store : StoreSeen = record { log = c.self.inside.log; key = c.self.inside.key; tables = c.self.inside.tables; doubt = c.self.inside.doubt } in
    subst (λ (s : StoreSeen). (key : List ℕ) (journal doubt : List Entry) → s.key ≡ Some key → IsStoreOf s journal doubt → Shows (keyed_store record_sealing s.log.host key) journal (call_seen c.args.call.now) (answer_seen c.in-Ok.shown)) c.self.view_is
    (shown store (call_seen c.args.call.now) (answer_seen c.in-Ok.shown) (λ keyed filed kept index. c.in-Ok.ensures keyed filed kept (subst (λ (i : IndexSeen). IsIndexOf i filed) (sym c.index.ensures) index)))
