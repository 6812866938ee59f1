use Rattle.std.proofs.Common.{◌∙◌, ap, Err}
use Rattle.std.proofs.lemmas.Result.{err_from_is_err_and}
use Rattle.http_wire.proofs.Taken.{no_room, some_came, none_came, read_failed}
use Rattle.http_wire.proofs.taking.take_some.Goals as goal

pub returns-in_err-reserve : goal.returns-in_err-reserve
returns-in_err-reserve g c =
    let p = err_from_is_err_and c.from_residual.result c.from_residual.ensures.1 in
    no_room (g.S.Source.source c.args.source.now) c.args.held.now.items c.reserve.new.self.items c.from_residual.result c.in_err-reserve.ensures.items (p.1 ∙ ap Err p.2)

pub returns-in-Ok : goal.returns-in-Ok
returns-in-Ok g c =
    some_came (g.S.Source.source c.args.source.now) (g.S.Source.source c.read.new.self) c.args.held.now.items c.reserve.new.self.items c.extend.new.self.items c.read.new.into c.in-Bytes.count
    c.in_ok-reserve.ensures.items c.in-Bytes.ensures.0 c.in-Bytes.ensures.1 c.in-Bytes.ensures.2 c.in-Ok.ensures.ok

pub returns-in-End : goal.returns-in-End
returns-in-End g c =
    none_came (g.S.Source.source c.args.source.now) (g.S.Source.source c.read.new.self) c.args.held.now.items c.reserve.new.self.items c.in_ok-reserve.ensures.items c.in-End.ensures.0 c.in-End.ensures.1

pub returns-in-Failed : goal.returns-in-Failed
returns-in-Failed g c =
    read_failed (g.S.Source.source c.args.source.now) (g.S.Source.source c.read.new.self) c.args.held.now.items c.reserve.new.self.items c.in_ok-reserve.ensures.items c.in-Failed.ensures.0 c.in-Failed.ensures.1
