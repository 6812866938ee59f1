-- What was taken is a message, or is refused.
use Rattle.std.proofs.Common.{◌≡◌, inl, inr, ℕ, ◌+◌, ◌<◌, ◌≤◌, zero, suc, eqb, false, List, [], ◌∷◌, ◌++◌, length, take, drop, Option, Some, None, Result, Ok, Err, refl, sym, ap, subst, ◌∙◌, arith, append_assoc, length-append, length-drop}
use Rattle.std.proofs.lemmas.Bool.{eqb-false}
use Rattle.std.specs.Io.KnownBytes.{IsAtEnd}
use Rattle.httparse.specs.Grammar.{RequestHead, ReadsRequest, ResponseHead, ReadsResponse}
use Rattle.at_edge.specs.Taking.{SourceSeen, Gave}
use Rattle.at_edge.proofs.SourceLaws.{Gave-nothing, Gave-then}
use Rattle.plain_types.specs.Buffer.{Buffer}
use Rattle.http_wire.specs.Announced.{AnnouncesRequest, AnnouncesResponse}
use Rattle.http_wire.specs.Heads.{HasHead, BeginsRequest, BeginsResponse}
use Rattle.http_wire.specs.Looking.{HeadInFront}
use Rattle.http_wire.specs.Messages.{IsRequest, IsResponse}
use Rattle.http_wire.specs.Reading.{MustGoOn, LacksHead, Refuses, AllowsBody, TakesRequest, TakesResponse, AnswersRequest}
use Rattle.http_wire.specs.Seen.{request_seen, response_seen}
use Rattle.http_wire.specs.Taken.{HoldsMore, StopsAtHead, StopsBefore, TakesBody}
use Rattle.http_wire.specs.Written.{RequestSeen, ResponseSeen}
use Rattle.http_wire.specs.declared.announced.Announced.{Announced}
use Rattle.http_wire.specs.declared.finding.HeadKind.{HeadKind}
use Rattle.http_wire.specs.declared.finding.HeadKind.TheVariants.{OfRequest, OfResponse}
use Rattle.http_wire.specs.declared.fail.HttpFail.{HttpFail}
use Rattle.http_wire.specs.declared.fail.HttpFail.TheVariants.{HeadTooLong, NotHttp, NoLength, BodyTooLong, Ended, ReadFault, NoMemory}
use Rattle.http_wire.specs.declared.messages.Request.{Request}
use Rattle.http_wire.specs.declared.messages.Response.{Response}
use Rattle.http_wire.proofs.Taken.{refuses_since, stops_head}
use Rattle.http_wire.proofs.Whole.{request_whole, request_begins, request_positive, response_whole, response_begins, response_positive}

must_go_on : (kind : HeadKind) (bytes : List ℕ) → 0 < length bytes → MustGoOn kind bytes
must_go_on OfRequest bytes some = some
must_go_on OfResponse bytes some = tt

-- ---- refusals behind a head

refuses_told : (kind : HeadKind) (a b : SourceSeen) (bytes behind : List ℕ) (told : Option ℕ) (fail : HttpFail) → HasHead kind bytes told behind → AllowsBody told (Err fail) → Refuses kind a b bytes fail
refuses_told kind a b bytes behind told HeadTooLong has why = absurd why
refuses_told kind a b bytes behind told NotHttp has why = absurd why
refuses_told kind a b bytes behind told NoLength has why = (behind, subst (λ (t : Option ℕ). HasHead kind bytes t behind) why has)
refuses_told kind a b bytes behind told (BodyTooLong len) has why = ((behind, subst (λ (t : Option ℕ). HasHead kind bytes t behind) why.0 has), why.1)
refuses_told kind a b bytes behind told Ended has why = absurd why
refuses_told kind a b bytes behind told ReadFault has why = absurd why
refuses_told kind a b bytes behind told NoMemory has why = absurd why

refuses_body : (kind : HeadKind) (a b : SourceSeen) (held taken : List ℕ) (end len : ℕ) (fail : HttpFail) → end ≤ length held → 0 < end → HasHead kind (held ++ taken) (Some len) (drop end held ++ taken) → len ≤ 33554432
    → StopsBefore a b (held ++ taken) (end + len) fail → Refuses kind a b (held ++ taken) fail
refuses_body kind a b held taken end len HeadTooLong inside some has small why = absurd why
refuses_body kind a b held taken end len NotHttp inside some has small why = absurd why
refuses_body kind a b held taken end len NoLength inside some has small why = absurd why
refuses_body kind a b held taken end len (BodyTooLong told) inside some has small why = absurd why
refuses_body kind a b held taken end len Ended inside some has small why =
    let all = length-append held taken in
    let behind = length-append (drop end held) taken in
    let rest = length-drop end held in
    let short = why.0 in
    (must_go_on kind (held ++ taken) (omega (arith, all, inside, some)), why.1, inr (len, drop end held ++ taken, has, small, omega (arith, all, behind, rest, short, inside)))
refuses_body kind a b held taken end len ReadFault inside some has small why = why
refuses_body kind a b held taken end len NoMemory inside some has small why = why

-- ---- requests

module _ (a b : SourceSeen) (held : List ℕ) (end : ℕ) (at : HeadInFront OfRequest held end) (told : Announced Request) (announces : AnnouncesRequest at.head.0 told) where
  abbrev asked_head : RequestHead
  asked_head = at.head.0

  request_has : (taken : List ℕ) (length_is : Option ℕ) → told.length ≡ length_is → HasHead OfRequest (held ++ taken) length_is (drop end held ++ taken)
  request_has taken length_is is = (asked_head, request_begins held taken end asked_head at.head.1 at.head.2 at.in_front, sym announces.length ∙ is)

  some_asked : 0 < end
  some_asked = let some = request_positive asked_head in let is = at.head.2 in omega (arith, some, is)

  pub request_not_allowed : (kept : List ℕ) (fail : HttpFail) → AllowsBody told.length (Err fail) → TakesRequest a a held kept (Err fail)
  request_not_allowed kept fail why = ([], Gave-nothing a, refuses_told OfRequest a a (held ++ []) (drop end held ++ []) told.length fail (request_has [] told.length refl) why)

  pub request_cut : (kept : List ℕ) (len : ℕ) (fail : HttpFail) → AllowsBody told.length (Ok len) → TakesBody a b held kept end len (Err fail) → TakesRequest a b held kept (Err fail)
  request_cut kept len fail allowed stops = (
    stops.0,
    stops.1,
    refuses_body OfRequest a b held stops.0 end len fail at.within some_asked (request_has stops.0 (Some len) allowed.0) allowed.1 stops.2,
  )

  pub request_taken : (kept : List ℕ) (len : ℕ) (body : Buffer) → AllowsBody told.length (Ok len) → TakesBody a b held kept end len (Ok body)
      → TakesRequest a b held kept (Ok (record told.message { body = body }))
  request_taken kept len body allowed takes = (
    takes.0,
    takes.1,
    record {
      head = asked_head;
      begins = subst (λ (l : List ℕ). BeginsRequest (held ++ takes.0) asked_head l) takes.3 (request_begins held takes.0 end asked_head at.head.1 at.head.2 at.in_front);
      length_is = sym announces.length ∙ allowed.0 ∙ ap Some (sym takes.2);
      short = let small = allowed.1 in let is = takes.2 in omega (arith, small, is);
      request_is = ap (λ (r : RequestSeen). record r { body = body.items }) announces.message;
    },
  )

-- ---- responses

module _ (a b : SourceSeen) (held : List ℕ) (end : ℕ) (at : HeadInFront OfResponse held end) (told : Announced Response) (announces : AnnouncesResponse at.head.0 told) where
  abbrev told_head : ResponseHead
  told_head = at.head.0

  response_has : (taken : List ℕ) (length_is : Option ℕ) → told.length ≡ length_is → HasHead OfResponse (held ++ taken) length_is (drop end held ++ taken)
  response_has taken length_is is = (told_head, response_begins held taken end told_head at.head.1 at.head.2 at.in_front, sym announces.length ∙ is)

  some_told : 0 < end
  some_told = let some = response_positive told_head in let is = at.head.2 in omega (arith, some, is)

  pub response_not_allowed : (kept : List ℕ) (fail : HttpFail) → AllowsBody told.length (Err fail) → TakesResponse a a held kept (Err fail)
  response_not_allowed kept fail why = ([], Gave-nothing a, refuses_told OfResponse a a (held ++ []) (drop end held ++ []) told.length fail (response_has [] told.length refl) why)

  pub response_cut : (kept : List ℕ) (len : ℕ) (fail : HttpFail) → AllowsBody told.length (Ok len) → TakesBody a b held kept end len (Err fail) → TakesResponse a b held kept (Err fail)
  response_cut kept len fail allowed stops = (
    stops.0,
    stops.1,
    refuses_body OfResponse a b held stops.0 end len fail at.within some_told (response_has stops.0 (Some len) allowed.0) allowed.1 stops.2,
  )

  pub response_taken : (kept : List ℕ) (len : ℕ) (body : Buffer) → AllowsBody told.length (Ok len) → TakesBody a b held kept end len (Ok body)
      → TakesResponse a b held kept (Ok (record told.message { body = body.items }))
  response_taken kept len body allowed takes = (
    takes.0,
    takes.1,
    record {
      head = told_head;
      begins = subst (λ (l : List ℕ). BeginsResponse (held ++ takes.0) told_head l) takes.3 (response_begins held takes.0 end told_head at.head.1 at.head.2 at.in_front);
      length_is = sym announces.length ∙ allowed.0 ∙ ap Some (sym takes.2);
      short = let small = allowed.1 in let is = takes.2 in omega (arith, small, is);
      response_is = ap (λ (r : ResponseSeen). record r { body = body.items }) announces.message;
    },
  )

-- ---- a head first, and then its message

pub request_after : (a b c : SourceSeen) (before held kept : List ℕ) (r : Result Request HttpFail) → HoldsMore a b before held → TakesRequest b c held kept r → TakesRequest a c before kept r
request_after a b c before held kept (Ok request) more takes =
    let both : held ++ takes.0 ≡ before ++ (more.taken ++ takes.0) = ap (λ (l : List ℕ). l ++ takes.0) more.held ∙ append_assoc before more.taken takes.0 in
    (more.taken ++ takes.0, Gave-then a b c more.taken takes.0 more.gave takes.1, subst (λ (l : List ℕ). IsRequest l (request_seen request) kept) both takes.2)
request_after a b c before held kept (Err fail) more takes =
    let both : held ++ takes.0 ≡ before ++ (more.taken ++ takes.0) = ap (λ (l : List ℕ). l ++ takes.0) more.held ∙ append_assoc before more.taken takes.0 in
    let since = refuses_since OfRequest a b c more.taken (held ++ takes.0) fail more.gave takes.2 in
    (more.taken ++ takes.0, Gave-then a b c more.taken takes.0 more.gave takes.1, subst (λ (l : List ℕ). Refuses OfRequest a c l fail) both since)

pub request_stops : (a b : SourceSeen) (before held kept : List ℕ) (fail : HttpFail) → HoldsMore a b before held → StopsAtHead OfRequest a b held fail → TakesRequest a b before kept (Err fail)
request_stops a b before held kept fail more why = (more.taken, more.gave, subst (λ (l : List ℕ). Refuses OfRequest a b l fail) more.held (stops_head OfRequest a b held fail why))

pub request_ended : (a b : SourceSeen) (before held kept : List ℕ) → HoldsMore a b before held → 0 < length held → LacksHead OfRequest held → IsAtEnd b.left → TakesRequest a b before kept (Err Ended)
request_ended a b before held kept more some lacks at_end = (more.taken, more.gave, subst (λ (l : List ℕ). Refuses OfRequest a b l Ended) more.held (some, at_end, inl lacks))

nothing_before : (xs ys : List ℕ) → length (xs ++ ys) ≡ 0 → (xs ≡ []) × (ys ≡ [])
nothing_before [] [] none = (refl, refl)
nothing_before [] (y ∷ ys) none = absurd (omega (arith, none))
nothing_before (x ∷ xs) ys none = absurd (omega (arith, none))

nothing_held : (xs : List ℕ) → length xs ≡ 0 → xs ≡ []
nothing_held [] none = refl
nothing_held (x ∷ xs) none = absurd (omega (arith, none))

pub request_none : (a b : SourceSeen) (before held : List ℕ) → HoldsMore a b before held → length held ≡ 0 → IsAtEnd b.left → AnswersRequest a b before held (Ok None)
request_none a b before held more none at_end =
    let empty = nothing_before before more.taken (ap length (sym more.held) ∙ none) in
    (empty.0, nothing_held held none, subst (λ (l : List ℕ). Gave a b l) empty.1 more.gave, at_end)

pub response_after : (a b c : SourceSeen) (before held kept : List ℕ) (r : Result Response HttpFail) → HoldsMore a b before held → TakesResponse b c held kept r → TakesResponse a c before kept r
response_after a b c before held kept (Ok response) more takes =
    let both : held ++ takes.0 ≡ before ++ (more.taken ++ takes.0) = ap (λ (l : List ℕ). l ++ takes.0) more.held ∙ append_assoc before more.taken takes.0 in
    (more.taken ++ takes.0, Gave-then a b c more.taken takes.0 more.gave takes.1, subst (λ (l : List ℕ). IsResponse l (response_seen response) kept) both takes.2)
response_after a b c before held kept (Err fail) more takes =
    let both : held ++ takes.0 ≡ before ++ (more.taken ++ takes.0) = ap (λ (l : List ℕ). l ++ takes.0) more.held ∙ append_assoc before more.taken takes.0 in
    let since = refuses_since OfResponse a b c more.taken (held ++ takes.0) fail more.gave takes.2 in
    (more.taken ++ takes.0, Gave-then a b c more.taken takes.0 more.gave takes.1, subst (λ (l : List ℕ). Refuses OfResponse a c l fail) both since)

pub response_stops : (a b : SourceSeen) (before held kept : List ℕ) (fail : HttpFail) → HoldsMore a b before held → StopsAtHead OfResponse a b held fail → TakesResponse a b before kept (Err fail)
response_stops a b before held kept fail more why = (more.taken, more.gave, subst (λ (l : List ℕ). Refuses OfResponse a b l fail) more.held (stops_head OfResponse a b held fail why))

pub response_ended : (a b : SourceSeen) (before held kept : List ℕ) → HoldsMore a b before held → LacksHead OfResponse held → IsAtEnd b.left → TakesResponse a b before kept (Err Ended)
response_ended a b before held kept more lacks at_end = (more.taken, more.gave, subst (λ (l : List ℕ). Refuses OfResponse a b l Ended) more.held (tt, at_end, inl lacks))

-- the head, out of what is held
pub request_slice : (held shown : List ℕ) (end : ℕ) (at : HeadInFront OfRequest held end) → shown ≡ held → ReadsRequest (take end shown) at.head.0 []
request_slice held shown end at same = subst (λ (l : List ℕ). ReadsRequest (take end l) at.head.0 []) (sym same) (request_whole held end at.head.0 at.head.1 at.head.2)

-- the head, out of what is held
pub response_slice : (held shown : List ℕ) (end : ℕ) (at : HeadInFront OfResponse held end) → shown ≡ held → ReadsResponse (take end shown) at.head.0 []
response_slice held shown end at same = subst (λ (l : List ℕ). ReadsResponse (take end l) at.head.0 []) (sym same) (response_whole held end at.head.0 at.head.1 at.head.2)

pub some_held : (n : ℕ) → eqb n 0 ≡ false → 0 < n
some_held n some = above n (eqb-false n 0 some)
  where
    above : (n : ℕ) → (n ≡ 0 → ⊥) → 0 < n
    above zero other = absurd (other refl)
    above (suc n) other = omega arith
