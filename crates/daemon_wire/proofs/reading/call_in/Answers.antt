use Rattle.std.proofs.Common.{List, ℕ, ap, length, arith}
use Rattle.daemon_wire.proofs.CallLaws.{named_so, bad_length, gives_call}
use Rattle.daemon_wire.proofs.reading.call_in.Goals as goal

pub returns-then-count-items : goal.returns-then-count-items
returns-then-count-items c =
    let named = named_so c.new-reader.result.rest c.args.payload.now c.call_length.new.reader.rest c.call_name.new.reader.rest c.in_ok-count.count c.in_ok-name.name c.new-reader.ensures.rest c.in_ok-count.ensures.0 c.in_ok-name.ensures.read.0 in
    bad_length c.args.payload.now c.call_name.new.reader.rest c.in_ok-count.count c.in_ok-name.items c.in_ok-name.name named c.in_ok-name.ensures.items c.if-count-items.true

pub returns : goal.returns
returns c =
    let named = named_so c.new-reader.result.rest c.args.payload.now c.call_length.new.reader.rest c.call_name.new.reader.rest c.in_ok-count.count c.in_ok-name.name c.new-reader.ensures.rest c.in_ok-count.ensures.0 c.in_ok-name.ensures.read.0 in
    let whole = ap (λ (l : List ℕ). length l) c.new-reader.ensures.rest in
    gives_call c.args.payload.now c.in_ok-count.count c.in_ok-name.items c.in_ok-name.name c.arguments.result c.call_name.new.reader named c.in_ok-name.ensures.items c.if-count-items.false
    (omega (arith, whole, c.new-reader.ensures.place, c.in_ok-count.ensures.1, c.in_ok-name.ensures.read.1)) c.arguments.ensures
