use Rattle.std.proofs.Common.{sym, subst}
use Rattle.store_core.specs.Store.{StoreSeen, IsStoreOf}
use Rattle.store_core.proofs.PageTurns.{rests_still}
use Rattle.store_core.proofs.store.Store.page.Goals as goal

pub returns-clause-same : goal.returns-clause-same
returns-clause-same g c = λ journal doubt is.
    let store : StoreSeen = record { log = c.self.inside.log; key = c.self.inside.key; tables = c.self.inside.tables; doubt = c.self.inside.doubt } in
    let now = subst (λ (s : StoreSeen). IsStoreOf s journal doubt) (sym c.self.view_is) is in
    rests_still store c.read_page.new.log c.read_page.ensures.rests journal doubt now
