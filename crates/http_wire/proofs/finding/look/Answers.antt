use Rattle.std.proofs.Common.{subst, Bool, MatchBool}
use Rattle.http_wire.specs.Fronts.{IsFull}
use Rattle.http_wire.specs.Heads.{HasNoHead, NeverHasHead}
use Rattle.http_wire.proofs.Looked.{whole_in_front}
use Rattle.http_wire.proofs.finding.look.Goals as goal

pub find_head-requires : goal.find_head-requires
find_head-requires c = c.find_front-front.ensures.lines

pub returns-in-Whole : goal.returns-in-Whole
returns-in-Whole c =
    let front = c.find_front-front in
    whole_in_front c.args.kind c.args.bytes.now front.result.len c.in-Whole.end front.ensures.within front.ensures.short front.ensures.lines front.ensures.front c.in-Whole.ensures

pub returns-in-Never : goal.returns-in-Never
returns-in-Never c = subst (NeverHasHead c.args.kind) c.find_front-front.ensures.front c.in-Never.ensures

pub returns-in-NotYet : goal.returns-in-NotYet
returns-in-NotYet c =
    let front = c.find_front-front in
    (subst (λ (b : Bool). MatchBool b (IsFull c.args.bytes.now) (¬ (IsFull c.args.bytes.now))) c.if-front.true front.ensures.full, subst (HasNoHead c.args.kind) front.ensures.front c.in-NotYet.ensures)

pub returns-in-NotYet-2 : goal.returns-in-NotYet-2
returns-in-NotYet-2 c =
    let front = c.find_front-front in
    (subst (HasNoHead c.args.kind) front.ensures.front c.in-NotYet.ensures, subst (λ (b : Bool). MatchBool b (IsFull c.args.bytes.now) (¬ (IsFull c.args.bytes.now))) c.if-front.false front.ensures.full)
