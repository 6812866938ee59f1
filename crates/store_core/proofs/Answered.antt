-- What is kept beside the log answers from the journal that the store means.
use Rattle.std.proofs.Common.{◌≡◌, ℕ, List, Option, Some, sym, subst}
use Rattle.record_rules.specs.Records.{Entry}
use Rattle.chain_index.specs.Meaning.{Filed, journal_of, IsIndexOf}
use Rattle.call_drafts.specs.Drafting.{IsKeptOf}
use Rattle.kept_views.specs.Keeping.{KeepsFor}
use Rattle.step_rules.specs.Calls.{Call}
use Rattle.step_rules.specs.Answers.{Answer}
use Rattle.step_rules.specs.Store.{KeyedStore}
use Rattle.step_rules.specs.Step.{Shows}
use Rattle.step_rules.specs.Sealing.{keyed_store}
use Rattle.record_seal.proofs.StoreSealing.{record_sealing}
use Rattle.store_core.specs.Store.{StoreSeen, IsStoreOf}

pub shown : (store : StoreSeen) (call : Call) (answer : Answer) → ((keyed : KeyedStore) (filed : List Filed) → IsKeptOf store.tables.kept keyed (journal_of filed) → IsIndexOf store.tables.entries.index filed → Shows keyed (journal_of filed) call answer)
    → (key : List ℕ) (journal doubt : List Entry) → store.key ≡ Some key → IsStoreOf store journal doubt → Shows (keyed_store record_sealing store.log.host key) journal call answer
shown store call answer answers key journal doubt has is =
    let keyed = keyed_store record_sealing store.log.host key in
    let kept : IsKeptOf store.tables.kept keyed (journal_of is.filed) = subst (λ (k : Option (List ℕ)). KeepsFor store.log.host k store.tables.kept (journal_of is.filed)) has is.tables.kept in
    subst (λ (j : List Entry). Shows keyed j call answer) (sym is.journal_is) (answers keyed is.filed kept is.tables.entries.index)
