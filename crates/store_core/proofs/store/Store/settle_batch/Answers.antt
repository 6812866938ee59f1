use Rattle.std.proofs.Common.{◌≡◌, Some, None, sym, subst}
use Rattle.record_log.specs.Journals.{LeavesOneOfTwo}
use Rattle.store_core.specs.Store.{StoreSeen, entries_of, IsStoreOf}
use Rattle.store_core.proofs.Committed.{Follows, is_doubtful, settle_adds, after_settling, after_failing, leaves_same, some_held}
use Rattle.store_core.proofs.store.Store.settle_batch.Goals as goal

pub settle-requires : goal.settle-requires
settle-requires g c =
    let is = subst (λ (s : StoreSeen). IsStoreOf (record s { doubt = Some c.args.batch }) c.requires.means.0 (entries_of c.args.batch)) (sym c.self.view_is) c.requires.means.1 in
    is_doubtful c.self.inside.log c.requires.means.0 c.args.batch is.log

pub add-requires : goal.add-requires
add-requires g c =
    let old : StoreSeen = record { log = c.self.inside.log; key = c.self.inside.key; tables = c.self.inside.tables; doubt = Some c.args.batch } in
    let is = subst (λ (s : StoreSeen). IsStoreOf (record s { doubt = Some c.args.batch }) c.requires.means.0 (entries_of c.args.batch)) (sym c.self.view_is) c.requires.means.1 in
    (c.self.inside.log.host, c.self.inside.key, is.filed, settle_adds old c.requires.means.0 (entries_of c.args.batch) c.args.batch c.settled_batch.result is c.settled_batch.ensures.caller c.settled_batch.ensures.events c.settled_batch.ensures.rooms)

pub returns-in-Ok-clause-settles : goal.returns-in-Ok-clause-settles
returns-in-Ok-clause-settles g c = λ journal doubt now.
    let old : StoreSeen = record { log = c.self.inside.log; key = c.self.inside.key; tables = c.self.inside.tables; doubt = Some c.args.batch } in
    let is = subst (λ (s : StoreSeen). IsStoreOf (record s { doubt = Some c.args.batch }) journal doubt) (sym c.self.view_is) now in
    let none = subst (λ (s : StoreSeen). s.doubt ≡ None) (sym c.self.view_is) c.requires.none in
    let follows : Follows c.self.inside.log c.settle.new.self = record { gate = c.settle.ensures.gate; below = c.settle.ensures.below; silent = c.settle.ensures.silent; host = c.settle.ensures.host } in
    let took = c.in-Ok.ensures.settles journal (entries_of c.args.batch) is.log in (
      after_settling old journal doubt c.args.batch c.settled_batch.result is c.settled_batch.ensures.caller c.settled_batch.ensures.events c.settled_batch.ensures.rooms c.settle.new.self follows c.add.new.self c.in-Ok.spot c.self.inside.doubt none took.0 took.1
          (c.add.ensures c.self.inside.log.host c.self.inside.key is.filed (settle_adds old journal doubt c.args.batch c.settled_batch.result is c.settled_batch.ensures.caller c.settled_batch.ensures.events c.settled_batch.ensures.rooms)),
      subst (λ (s : StoreSeen). LeavesOneOfTwo journal doubt s.log c.settle.new.self) c.self.view_is (leaves_same c.self.inside.log c.settle.new.self journal doubt c.args.batch is.doubt_is took.2),
    )

pub returns-in-Err-clause-settles : goal.returns-in-Err-clause-settles
returns-in-Err-clause-settles g c = λ journal doubt now.
    let old : StoreSeen = record { log = c.self.inside.log; key = c.self.inside.key; tables = c.self.inside.tables; doubt = Some c.args.batch } in
    let is = subst (λ (s : StoreSeen). IsStoreOf (record s { doubt = Some c.args.batch }) journal doubt) (sym c.self.view_is) now in
    let follows : Follows c.self.inside.log c.settle.new.self = record { gate = c.settle.ensures.gate; below = c.settle.ensures.below; silent = c.settle.ensures.silent; host = c.settle.ensures.host } in
    let left = c.in-Err.ensures.settles journal (entries_of c.args.batch) is.log in
    let leaves = leaves_same c.self.inside.log c.settle.new.self journal doubt c.args.batch is.doubt_is left.1 in (
      subst (λ (s : StoreSeen). IsStoreOf s journal doubt) (sym c.doubt_batch.ensures) (after_failing old journal doubt c.args.batch is c.settle.new.self follows left.0),
      some_held c.args.batch,
      subst (λ (s : StoreSeen). LeavesOneOfTwo journal doubt s.log c.doubt_batch.new.self.log) c.self.view_is (subst (λ (s : StoreSeen). LeavesOneOfTwo journal doubt c.self.inside.log s.log) (sym c.doubt_batch.ensures) leaves),
    )
