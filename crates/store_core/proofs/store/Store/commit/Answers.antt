use Rattle.std.proofs.Common.{◌≡◌, ◌≢◌, None, sym, subst}
use Rattle.std.specs.Bool.{OnTrue, OnFalse}
use Rattle.record_log.specs.Journals.{LeavesOneOfTwo}
use Rattle.store_core.specs.Store.{StoreSeen, entries_of}
use Rattle.store_core.specs.Commits.{MayCommit, IsLostOrDoubted}
use Rattle.store_core.proofs.Committed.{Follows, log_of, may_take, commit_adds, after_commit, commit_doubted, commit_lost}
use Rattle.store_core.proofs.store.Store.commit.Goals as goal

pub append-requires-clause-settled : goal.append-requires-clause-settled
append-requires-clause-settled g c =
    let may = subst (λ (s : StoreSeen). MayCommit s c.requires.0 c.args.batch c.args.bytes) (sym c.self.view_is) c.requires.1 in
    (log_of c.self.inside.log c.requires.0 c.self.inside.doubt may.settled may.is.log).settled

pub add-requires : goal.add-requires
add-requires g c =
    let old : StoreSeen = record { log = c.self.inside.log; key = c.self.inside.key; tables = c.self.inside.tables; doubt = c.self.inside.doubt } in
    let may = subst (λ (s : StoreSeen). MayCommit s c.requires.0 c.args.batch c.args.bytes) (sym c.self.view_is) c.requires.1 in
    (c.self.inside.log.host, c.self.inside.key, may.is.filed, commit_adds old c.requires.0 c.args.batch c.args.bytes may)

pub returns-in-Ok-clause-commits : goal.returns-in-Ok-clause-commits
returns-in-Ok-clause-commits g c = λ journal now.
    let old : StoreSeen = record { log = c.self.inside.log; key = c.self.inside.key; tables = c.self.inside.tables; doubt = c.self.inside.doubt } in
    let may = subst (λ (s : StoreSeen). MayCommit s journal c.args.batch c.args.bytes) (sym c.self.view_is) now in
    let follows : Follows c.self.inside.log c.append.new.self = record { gate = c.append.ensures.gate; below = c.append.ensures.below; silent = c.append.ensures.silent; host = c.append.ensures.host } in
    let took = c.in-Ok.ensures.appends journal (entries_of c.args.batch) (may_take old journal c.args.batch c.args.bytes may) in (
      after_commit old journal c.args.batch c.args.bytes may c.append.new.self follows c.add.new.self c.in-Ok.spot took.0 took.1 (c.add.ensures c.self.inside.log.host c.self.inside.key may.is.filed (commit_adds old journal c.args.batch c.args.bytes may)),
      subst (λ (s : StoreSeen). LeavesOneOfTwo journal (entries_of c.args.batch) s.log c.append.new.self) c.self.view_is took.2,
    )

pub returns-then-in_doubt-clause-commits : goal.returns-then-in_doubt-clause-commits
returns-then-in_doubt-clause-commits g c = λ journal now.
    let old : StoreSeen = record { log = c.self.inside.log; key = c.self.inside.key; tables = c.self.inside.tables; doubt = c.self.inside.doubt } in
    let may = subst (λ (s : StoreSeen). MayCommit s journal c.args.batch c.args.bytes) (sym c.self.view_is) now in
    let follows : Follows c.self.inside.log c.append.new.self = record { gate = c.append.ensures.gate; below = c.append.ensures.below; silent = c.append.ensures.silent; host = c.append.ensures.host } in
    let failed = c.in-Err.ensures.appends journal (entries_of c.args.batch) (may_take old journal c.args.batch c.args.bytes may) in
    let doubtful = subst (λ b. OnTrue b (c.append.new.self.doubt ≢ None)) c.if-in_doubt.true c.in_doubt.ensures.doubt in
    subst (λ (s : StoreSeen). IsLostOrDoubted s c.doubt_batch.new.self journal c.args.batch) c.self.view_is
    (subst (λ (s : StoreSeen). IsLostOrDoubted old s journal c.args.batch) (sym c.doubt_batch.ensures)
    (commit_doubted old journal c.args.batch c.args.bytes may c.append.new.self follows doubtful failed))

pub returns-else-in_doubt-clause-commits : goal.returns-else-in_doubt-clause-commits
returns-else-in_doubt-clause-commits g c = λ journal now.
    let old : StoreSeen = record { log = c.self.inside.log; key = c.self.inside.key; tables = c.self.inside.tables; doubt = c.self.inside.doubt } in
    let may = subst (λ (s : StoreSeen). MayCommit s journal c.args.batch c.args.bytes) (sym c.self.view_is) now in
    let follows : Follows c.self.inside.log c.append.new.self = record { gate = c.append.ensures.gate; below = c.append.ensures.below; silent = c.append.ensures.silent; host = c.append.ensures.host } in
    let failed = c.in-Err.ensures.appends journal (entries_of c.args.batch) (may_take old journal c.args.batch c.args.bytes may) in
    let settled = subst (λ b. OnFalse b (c.append.new.self.doubt ≡ None)) c.if-in_doubt.false c.in_doubt.ensures.settled in
    let new : StoreSeen = record { log = c.append.new.self; key = c.self.inside.key; tables = c.self.inside.tables; doubt = c.self.inside.doubt } in
    subst (λ (s : StoreSeen). IsLostOrDoubted s new journal c.args.batch) c.self.view_is
    (commit_lost old journal c.args.batch c.args.bytes may c.append.new.self follows settled failed)
