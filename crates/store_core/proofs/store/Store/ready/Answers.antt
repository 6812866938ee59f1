use Rattle.std.proofs.Common.{◌≡◌, [], None, sym, subst}
use Rattle.store_core.specs.Store.{StoreSeen, IsStoreOf}
use Rattle.store_core.specs.Commits.{MayMake}
use Rattle.store_core.proofs.Committed.{made_ready, may_commit}
use Rattle.store_core.proofs.store.Store.ready.Goals as goal

pub returns-clause-ready : goal.returns-clause-ready
returns-clause-ready g c = λ journal now.
    let may = subst (λ (s : StoreSeen). MayMake s journal c.args.caller c.args.events.items) (sym c.self.view_is) now in
    let none = subst (λ (s : StoreSeen). s.doubt ≡ None) (sym c.self.view_is) c.requires.settled in
    may_commit (record { log = c.self.inside.log; key = c.self.inside.key; tables = c.ready-2.new.self; doubt = c.self.inside.doubt }) journal c.in_ok-batch.batch c.in_ok-bytes.bytes c.args.caller c.args.events.items
    (made_ready c.self.inside.log c.self.inside.key c.self.inside.tables c.ready-2.new.self c.self.inside.doubt journal none c.ready-2.ensures.same may.0) none
    c.in_ok-batch.ensures.caller c.in_ok-batch.ensures.events c.in_ok-bytes.ensures.placed c.as_slice.result.now c.as_slice.ensures.value c.in_ok-bytes.ensures.body c.in_ok-bytes.ensures.batch c.in_ok-batch.ensures.ready may.1

pub returns-clause-same : goal.returns-clause-same
returns-clause-same g c = λ journal now.
    let is = subst (λ (s : StoreSeen). IsStoreOf s journal []) (sym c.self.view_is) now in
    let none = subst (λ (s : StoreSeen). s.doubt ≡ None) (sym c.self.view_is) c.requires.settled in
    made_ready c.self.inside.log c.self.inside.key c.self.inside.tables c.ready-2.new.self c.self.inside.doubt journal none c.ready-2.ensures.same is
