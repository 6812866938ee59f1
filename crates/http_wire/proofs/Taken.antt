-- Bytes that are taken one after the other, and what is refused of them.
use Rattle.std.proofs.Common.{◌≡◌, inl, inr, ℕ, ◌+◌, ◌-◌, ◌<◌, ◌≤◌, List, [], ◌++◌, length, take, drop, Option, Some, None, Result, Ok, Err, refl, sym, ap, ap₂, subst, ◌∙◌, arith, append_assoc, append-nil, length-append, length-drop}
use Rattle.std.proofs.lemmas.List.{take-append-drop, length-take-le, drop-append-le, drop-drop}
use Rattle.std.specs.Io.KnownBytes.{IsAtEnd}
use Rattle.definitions.specs.Counts.{Rose}
use Rattle.plain_types.specs.Buffer.{Buffer}
use Rattle.at_edge.specs.Taking.{SourceSeen, Gave}
use Rattle.at_edge.proofs.SourceLaws.{Gave-nothing, Gave-then}
use Rattle.std.proofs.lemmas.Bool.{cases_lt}
use Rattle.http_wire.specs.Fronts.{IsFull}
use Rattle.http_wire.specs.Looking.{HeadInFront, Looks}
use Rattle.http_wire.specs.Taken.{HoldsMore, MayStop, TakesSome, StopsAtHead, TakesHead, StopsBefore, TakesUntil, TakesBody}
use Rattle.http_wire.specs.Reading.{LacksHead, Refuses}
use Rattle.http_wire.specs.declared.finding.HeadKind.{HeadKind}
use Rattle.http_wire.specs.declared.taking.Came.{Came}
use Rattle.http_wire.specs.declared.taking.Came.TheVariants.{Bytes, End}
use Rattle.http_wire.specs.declared.fail.HttpFail.{HttpFail}
use Rattle.http_wire.specs.declared.fail.HttpFail.TheVariants.{HeadTooLong, NotHttp, NoLength, BodyTooLong, Ended, ReadFault, NoMemory}

pub holds_nothing : (s : SourceSeen) (held : List ℕ) → HoldsMore s s held held
holds_nothing s held = record { taken = []; gave = Gave-nothing s; held = sym (append-nil held) }

pub holds_then : (a b c : SourceSeen) (xs ys zs : List ℕ) → HoldsMore a b xs ys → HoldsMore b c ys zs → HoldsMore a c xs zs
holds_then a b c xs ys zs first then = record {
  taken = first.taken ++ then.taken;
  gave = Gave-then a b c first.taken then.taken first.gave then.gave;
  held = then.held ∙ ap (λ (l : List ℕ). l ++ then.taken) first.held ∙ append_assoc xs first.taken then.taken;
}

-- a fault since later is one since earlier
pub refuses_since : (kind : HeadKind) (a b c : SourceSeen) (taken bytes : List ℕ) (fail : HttpFail) → Gave a b taken → Refuses kind b c bytes fail → Refuses kind a c bytes fail
refuses_since kind a b c taken bytes HeadTooLong gave why = why
refuses_since kind a b c taken bytes NotHttp gave why = why
refuses_since kind a b c taken bytes NoLength gave why = why
refuses_since kind a b c taken bytes (BodyTooLong told) gave why = why
refuses_since kind a b c taken bytes Ended gave why = why
refuses_since kind a b c taken bytes ReadFault gave why = let before = gave.faults in omega (arith, before, why)
refuses_since kind a b c taken bytes NoMemory gave why = why

pub stops_head : (kind : HeadKind) (a b : SourceSeen) (bytes : List ℕ) (fail : HttpFail) → StopsAtHead kind a b bytes fail → Refuses kind a b bytes fail
stops_head kind a b bytes HeadTooLong why = why
stops_head kind a b bytes NotHttp why = why
stops_head kind a b bytes NoLength why = absurd why
stops_head kind a b bytes (BodyTooLong told) why = absurd why
stops_head kind a b bytes Ended why = absurd why
stops_head kind a b bytes ReadFault why = why
stops_head kind a b bytes NoMemory why = why

pub may_stop_head : (kind : HeadKind) (a b c : SourceSeen) (taken bytes : List ℕ) (fail : HttpFail) → Gave a b taken → MayStop b c fail → StopsAtHead kind a c bytes fail
may_stop_head kind a b c taken bytes HeadTooLong gave why = absurd why
may_stop_head kind a b c taken bytes NotHttp gave why = absurd why
may_stop_head kind a b c taken bytes NoLength gave why = absurd why
may_stop_head kind a b c taken bytes (BodyTooLong told) gave why = absurd why
may_stop_head kind a b c taken bytes Ended gave why = absurd why
may_stop_head kind a b c taken bytes ReadFault gave why = let before = gave.faults in omega (arith, before, why)
may_stop_head kind a b c taken bytes NoMemory gave why = why

pub may_stop_before : (a b c : SourceSeen) (taken bytes : List ℕ) (enough : ℕ) (fail : HttpFail) → Gave a b taken → MayStop b c fail → StopsBefore a c bytes enough fail
may_stop_before a b c taken bytes enough HeadTooLong gave why = absurd why
may_stop_before a b c taken bytes enough NotHttp gave why = absurd why
may_stop_before a b c taken bytes enough NoLength gave why = absurd why
may_stop_before a b c taken bytes enough (BodyTooLong told) gave why = absurd why
may_stop_before a b c taken bytes enough Ended gave why = absurd why
may_stop_before a b c taken bytes enough ReadFault gave why = let before = gave.faults in omega (arith, before, why)
may_stop_before a b c taken bytes enough NoMemory gave why = why

-- ---- one read

pub some_came : (a b : SourceSeen) (before held after piece : List ℕ) (count : ℕ) → held ≡ before → 0 < count → count ≤ length piece → Gave a b (take count piece) → after ≡ held ++ take count piece → TakesSome a b before after (Ok Bytes)
some_came a b before held after piece count same some fits gave is =
    let more : after ≡ before ++ take count piece = is ∙ ap (λ (l : List ℕ). l ++ take count piece) same in
    let long = ap length more ∙ length-append before (take count piece) in
    let new = length-take-le count piece fits in
    (record { taken = take count piece; gave = gave; held = more }, omega (arith, long, new, some))

pub none_came : (a b : SourceSeen) (before after : List ℕ) → after ≡ before → Gave a b [] → IsAtEnd b.left → TakesSome a b before after (Ok End)
none_came a b before after same gave at_end = (record { taken = []; gave = gave; held = same ∙ sym (append-nil before) }, same, at_end)

pub read_failed : (a b : SourceSeen) (before after : List ℕ) → after ≡ before → Gave a b [] → Rose a.faults b.faults → TakesSome a b before after (Err ReadFault)
read_failed a b before after same gave rose = (record { taken = []; gave = gave; held = same ∙ sym (append-nil before) }, rose)

pub no_room : (a : SourceSeen) (before after : List ℕ) (r : Result Came HttpFail) → after ≡ before → r ≡ Err NoMemory → TakesSome a a before after r
no_room a before after r same is = subst (λ (o : Result Came HttpFail). TakesSome a a before after o) (sym is) (record { taken = []; gave = Gave-nothing a; held = same ∙ sym (append-nil before) }, tt)

-- ---- a head, and a body

pub head_held : (kind : HeadKind) (a b : SourceSeen) (before held : List ℕ) (end : ℕ) → HoldsMore a b before held → HeadInFront kind held end → TakesHead kind a b before held (Ok (Some end))
head_held kind a b before held end more at = (more, at)

pub head_ended : (kind : HeadKind) (a b c : SourceSeen) (before held after : List ℕ) → HoldsMore a b before held → LacksHead kind held → TakesSome b c held after (Ok End) → TakesHead kind a c before after (Ok None)
head_ended kind a b c before held after more lacks ends =
    (holds_then a b c before held after more ends.0, subst (LacksHead kind) (sym ends.1) lacks, ends.2)

pub head_refused : (kind : HeadKind) (a b : SourceSeen) (before held : List ℕ) (fail : HttpFail) → HoldsMore a b before held → Looks kind held (Err fail) → TakesHead kind a b before held (Err fail)
head_refused kind a b before held HeadTooLong more why = (more, why)
head_refused kind a b before held NotHttp more why = (more, why)
head_refused kind a b before held NoLength more why = absurd why
head_refused kind a b before held (BodyTooLong told) more why = absurd why
head_refused kind a b before held Ended more why = absurd why
head_refused kind a b before held ReadFault more why = absurd why
head_refused kind a b before held NoMemory more why = absurd why

pub head_stopped : (kind : HeadKind) (a b c : SourceSeen) (before held after : List ℕ) (fail : HttpFail) → HoldsMore a b before held → TakesSome b c held after (Err fail) → TakesHead kind a c before after (Err fail)
head_stopped kind a b c before held after fail more stops =
    (holds_then a b c before held after more stops.0, may_stop_head kind a b c more.taken after fail more.gave stops.1)

pub body_ended : (T : Type 0) (a b c : SourceSeen) (before held after : List ℕ) (enough : ℕ) → HoldsMore a b before held → length held < enough → TakesSome b c held after (Ok End) → TakesUntil {T = T} a c before after enough (Err Ended)
body_ended T a b c before held after enough more short ends =
    (holds_then a b c before held after more ends.0, ((let same = ap length ends.1 in omega (arith, same, short)), ends.2))

pub body_stopped : (T : Type 0) (a b c : SourceSeen) (before held after : List ℕ) (enough : ℕ) (fail : HttpFail) → HoldsMore a b before held → TakesSome b c held after (Err fail) → TakesUntil {T = T} a c before after enough (Err fail)
body_stopped T a b c before held after enough fail more stops =
    (holds_then a b c before held after more stops.0, may_stop_before a b c more.taken after enough fail more.gave stops.1)

-- ---- the body out of what is held

pub cut_out : (held kept body : List ℕ) (start end : ℕ) → start ≤ end → end ≤ length held → body ≡ take (end - start) (drop start held) → kept ≡ drop end held → drop start held ≡ body ++ kept
cut_out held kept body start end ordered within body_is kept_is =
    let whole : start + (end - start) ≡ end = omega (arith, ordered) in
    sym (take-append-drop (end - start) (drop start held))
    ∙ ap₂ (λ (x y : List ℕ). x ++ y) (sym body_is) (drop-drop (end - start) start held ∙ ap (λ (m : ℕ). drop m held) whole ∙ sym kept_is)

pub body_taken : (a b : SourceSeen) (before held kept : List ℕ) (body : Buffer) (start len : ℕ) → start ≤ length before → HoldsMore a b before held → start + len ≤ length held → body.items ≡ take (start + len - start) (drop start held) → kept ≡ drop (start + len) held
    → TakesBody a b before kept start len (Ok body)
body_taken a b before held kept body start len inside more enough body_is kept_is =
    let behind : drop start held ≡ drop start before ++ more.taken = ap (drop start) more.held ∙ drop-append-le start before more.taken inside in
    let rest = length-drop start held in
    let fits : start + len - start ≤ length (drop start held) = omega (arith, rest, enough) in (
      more.taken,
      more.gave,
      (let size = ap length body_is ∙ length-take-le (start + len - start) (drop start held) fits in omega (arith, size)),
      sym behind ∙ cut_out held kept body.items start (start + len) (omega arith) enough body_is kept_is,
    )

pub body_refused : (a b : SourceSeen) (before held kept : List ℕ) (start len : ℕ) (fail : HttpFail) → HoldsMore a b before held → StopsBefore a b held (start + len) fail → TakesBody a b before kept start len (Err fail)
body_refused a b before held kept start len fail more why = (more.taken, more.gave, subst (λ (l : List ℕ). StopsBefore a b l (start + len) fail) more.held why)

-- ---- a look that found no head yet

pub none_looked : (kind : HeadKind) (shown held : List ℕ) (found : Option ℕ) → shown ≡ held → Looks kind shown (Ok found) → ((end : ℕ) → found ≡ Some end → ⊥) → LacksHead kind held
none_looked kind shown held found same looks none = subst (LacksHead kind) same (by found looks none)
  where
    by : (found : Option ℕ) → Looks kind shown (Ok found) → ((end : ℕ) → found ≡ Some end → ⊥) → LacksHead kind shown
    by None looks none = looks
    by (Some end) looks none = absurd (none end refl)

pub room_left : (held : List ℕ) → ¬ (IsFull held) → length held < 65536
room_left held other = elim (cases_lt (length held) 65536) [ inl short ↦ short | inr long ↦ absurd (other (inl long)) ]
