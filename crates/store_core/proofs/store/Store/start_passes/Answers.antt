use Rattle.std.proofs.Common.{None, refl, sym, subst}
use Rattle.record_rules.specs.Journal.{own_events}
use Rattle.chain_index.specs.Chains.{IndexSeen}
use Rattle.chain_index.specs.Meaning.{IsIndexOf}
use Rattle.store_core.specs.Store.{StoreSeen, IsStoreOf}
use Rattle.store_core.proofs.Started.{held_told}
use Rattle.store_core.proofs.store.Store.start_passes.Goals as goal

pub returns : goal.returns
returns g c = λ journal doubt now.
    let store : StoreSeen = record { log = c.self.inside.log; key = c.self.inside.key; tables = c.self.inside.tables; doubt = c.self.inside.doubt } in
    let is = subst (λ (s : StoreSeen). IsStoreOf s journal doubt) (sym c.self.view_is) now in
    c.limit_passed.ensures (own_events journal 0) None
    (held_told store c.held.result (λ filed index. c.held.ensures filed (subst (λ (i : IndexSeen). IsIndexOf i filed) (sym c.index.ensures) index)) journal doubt is) refl
