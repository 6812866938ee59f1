-- How an exchange ends, from what each call of the link did.
use Rattle.std.proofs.Common.{◌≡◌, inl, inr, ℕ, ◌≤◌, List, [], ◌∷◌, take, Result, Ok, Err, refl, sym, ap, subst, arith}
use Rattle.definitions.specs.Counts.{Rose}
use Rattle.at_edge.specs.Linking.{LinkSeen, response_side, HasSides, Idle, BeginsOne, BegunSince}
use Rattle.at_edge.specs.Taking.{SourceSeen, Gave}
use Rattle.at_edge.specs.Writing.{SinkSeen, Holds, Stopped}
use Rattle.at_edge.proofs.LinkLaws.{received, sent, begun_nothing, begun_one, begun_sent, begun_received}
use Rattle.http_wire.specs.Messages.{IsResponse}
use Rattle.http_wire.specs.Reading.{Refuses, TakesResponse}
use Rattle.http_wire.specs.Seen.{response_seen}
use Rattle.http_wire.specs.Written.{RequestSeen, ResponseSeen, request_text}
use Rattle.http_wire.specs.declared.fail.HttpFail.{HttpFail}
use Rattle.http_wire.specs.declared.fail.HttpFail.TheVariants.{HeadTooLong, NotHttp, NoLength, BodyTooLong, Ended, ReadFault, NoMemory as NoHttpMemory}
use Rattle.http_wire.specs.declared.finding.HeadKind.TheVariants.{OfResponse}
use Rattle.http_wire.specs.declared.messages.Response.{Response}
use Rattle.sync_wire.specs.Exchanging.{Way, NotBegun, CutShort, Sent, exchanges_on, Received, EndsOn, Asks, GivesBody, SaysItself, NeverUnsaid, ReadsBody}
use Rattle.sync_wire.specs.Refusals.{reply_refused}
use Rattle.sync_wire.specs.declared.fail.AskFail.{AskFail}
use Rattle.sync_wire.specs.declared.fail.AskFail.TheVariants.{LinkFault, PeerStatus, PeerForm, NoMemory}

-- ---- sending

idle_begun : (first now : LinkSeen) → now.exchanges ≡ first.exchanges → BegunSince first.exchanges now.exchanges []
idle_begun first now same = subst (λ e. BegunSince first.exchanges e []) (sym same) (begun_nothing first.exchanges)

pub sends_nothing : (text : List ℕ) (first now : LinkSeen) → Idle first now → Rose first.faults now.faults → Asks SaysItself NeverUnsaid text first now (Err LinkFault)
sends_nothing text first now idle rose = record { way = NotBegun; begun = idle_begun first now idle.exchanges; faults = idle.faults; ends = rose }

module _ (first mid now : LinkSeen) (source source_now : SourceSeen) (sink sink_now : SinkSeen) where
  -- an exchange was begun, and of its request these bytes were sent
  sends_bytes : (bytes : List ℕ) → BeginsOne first.exchanges mid.exchanges → HasSides mid source sink → HasSides now source_now sink_now → Holds sink sink_now bytes
      → BegunSince first.exchanges now.exchanges (record { request = bytes; response = [] } ∷ [])
  sends_bytes bytes begins sides sides_now holds =
      let begun = begun_one first.exchanges first.exchanges mid.exchanges [] (begun_nothing first.exchanges) begins in
      begun_sent first.exchanges mid.exchanges now.exchanges (record { request = []; response = [] }) [] bytes begun (sent mid now source source_now sink sink_now bytes sides sides_now holds)

  pub sends_whole : (text : List ℕ) → BeginsOne first.exchanges mid.exchanges → first.faults ≤ mid.faults → HasSides mid source sink → HasSides now source_now sink_now → Holds sink sink_now text
      → BegunSince first.exchanges now.exchanges (exchanges_on text (Sent [])) × (first.faults ≤ now.faults)
  sends_whole text begins kept sides sides_now holds =
      let before : sink.faults ≡ mid.faults = ap (λ (s : SinkSeen). s.faults) sides.sink_is in
      let after : sink_now.faults ≡ now.faults = ap (λ (s : SinkSeen). s.faults) sides_now.sink_is in
      (sends_bytes text begins sides sides_now holds, omega (arith, kept, holds.faults, before, after))

  pub sends_part : (text : List ℕ) (n : ℕ) → BeginsOne first.exchanges mid.exchanges → first.faults ≤ mid.faults → HasSides mid source sink → HasSides now source_now sink_now → Stopped sink sink_now text n
      → Asks SaysItself NeverUnsaid text first now (Err LinkFault)
  sends_part text n begins kept sides sides_now stopped =
      let before : sink.faults ≡ mid.faults = ap (λ (s : SinkSeen). s.faults) sides.sink_is in
      let after : sink_now.faults ≡ now.faults = ap (λ (s : SinkSeen). s.faults) sides_now.sink_is in
      let rose : Rose sink.faults sink_now.faults = stopped.faults in
      record {
        way = CutShort n;
        begun = sends_bytes (take n text) begins sides sides_now stopped.taken;
        faults = omega (arith, kept, stopped.taken.faults, before, after);
        ends = record { short = stopped.short; answered = refl; rose = omega (arith, kept, rose, before, after) };
      }

-- ---- receiving

-- why bytes are no response doesn't depend on the faults before
refused_anew : (a first now : SourceSeen) (bytes : List ℕ) (fail : HttpFail) → reply_refused fail ≡ PeerForm → Refuses OfResponse a now bytes fail → Refuses OfResponse first now bytes fail
refused_anew a first now bytes HeadTooLong form why = why
refused_anew a first now bytes NotHttp form why = why
refused_anew a first now bytes NoLength form why = why
refused_anew a first now bytes (BodyTooLong told) form why = why
refused_anew a first now bytes Ended form why = why
refused_anew a first now bytes ReadFault form why = absurd (no form)
  where
    no : LinkFault ≡ PeerForm → ⊥
    no e = cc
refused_anew a first now bytes NoHttpMemory form why = absurd (no form)
  where
    no : NoMemory ≡ PeerForm → ⊥
    no e = cc

-- what a refusal of the wire is answered as
refused_as : (first now : LinkSeen) (source source_now : SourceSeen) (received : List ℕ) (fail : HttpFail) → first.faults ≤ source.faults → source_now ≡ response_side now → Refuses OfResponse source source_now received fail
    → Received SaysItself NeverUnsaid first now received (Err (reply_refused fail))
refused_as first now source source_now received HeadTooLong before is why = inl (record { fail = HeadTooLong; refuses = refused_anew source (response_side first) (response_side now) received HeadTooLong refl (subst (λ (s : SourceSeen). Refuses OfResponse source s received HeadTooLong) is why); is_form = refl })
refused_as first now source source_now received NotHttp before is why = inl (record { fail = NotHttp; refuses = refused_anew source (response_side first) (response_side now) received NotHttp refl (subst (λ (s : SourceSeen). Refuses OfResponse source s received NotHttp) is why); is_form = refl })
refused_as first now source source_now received NoLength before is why = inl (record { fail = NoLength; refuses = refused_anew source (response_side first) (response_side now) received NoLength refl (subst (λ (s : SourceSeen). Refuses OfResponse source s received NoLength) is why); is_form = refl })
refused_as first now source source_now received (BodyTooLong told) before is why = inl (record { fail = BodyTooLong told; refuses = refused_anew source (response_side first) (response_side now) received (BodyTooLong told) refl (subst (λ (s : SourceSeen). Refuses OfResponse source s received (BodyTooLong told)) is why); is_form = refl })
refused_as first now source source_now received Ended before is why = inl (record { fail = Ended; refuses = refused_anew source (response_side first) (response_side now) received Ended refl (subst (λ (s : SourceSeen). Refuses OfResponse source s received Ended) is why); is_form = refl })
refused_as first now source source_now received ReadFault before is why =
    let after : source_now.faults ≡ now.faults = ap (λ (s : SourceSeen). s.faults) is in
    omega (arith, before, after, why)
refused_as first now source source_now received NoHttpMemory before is why = tt

module _ (text : List ℕ) (first mid now : LinkSeen) (source source_now : SourceSeen) (sink sink_now : SinkSeen) where
  -- the request was sent, and then these bytes came
  receives_bytes : (taken : List ℕ) → BegunSince first.exchanges mid.exchanges (exchanges_on text (Sent [])) × (first.faults ≤ mid.faults) → HasSides mid source sink → HasSides now source_now sink_now → Gave source source_now taken
      → BegunSince first.exchanges now.exchanges (exchanges_on text (Sent taken))
  receives_bytes taken sends sides sides_now gave =
      begun_received first.exchanges mid.exchanges now.exchanges (record { request = text; response = [] }) [] taken sends.0 (received mid now source source_now sink sink_now taken sides sides_now gave)

  faults_kept : (taken : List ℕ) → BegunSince first.exchanges mid.exchanges (exchanges_on text (Sent [])) × (first.faults ≤ mid.faults) → HasSides mid source sink → HasSides now source_now sink_now → Gave source source_now taken → first.faults ≤ now.faults
  faults_kept taken sends sides sides_now gave =
      let before : source.faults ≡ mid.faults = ap (λ (s : SourceSeen). s.faults) sides.source_is in
      let after : source_now.faults ≡ now.faults = ap (λ (s : SourceSeen). s.faults) sides_now.source_is in
      omega (arith, sends.1, gave.faults, before, after)

  pub asks_refused : (kept : List ℕ) (fail : HttpFail) → BegunSince first.exchanges mid.exchanges (exchanges_on text (Sent [])) × (first.faults ≤ mid.faults) → HasSides mid source sink → HasSides now source_now sink_now → TakesResponse source source_now [] kept (Err fail)
      → Asks SaysItself NeverUnsaid text first now (Err (reply_refused fail))
  asks_refused kept fail sends sides sides_now takes =
      let before : source.faults ≡ mid.faults = ap (λ (s : SourceSeen). s.faults) sides.source_is in
      record {
        way = Sent takes.0;
        begun = receives_bytes takes.0 sends sides sides_now takes.1;
        faults = faults_kept takes.0 sends sides sides_now takes.1;
        ends = refused_as first now source source_now takes.0 fail (omega (arith, sends.1, before)) sides_now.source_is takes.2;
      }

  answered_as : (received behind : List ℕ) (response : ResponseSeen) (answer : Result (List ℕ) AskFail) → IsResponse received response behind → GivesBody response answer → Received SaysItself NeverUnsaid first now received answer
  answered_as received behind response (Ok body) is gives =
      let same : response ≡ record { code = 200; close = response.close; body = response.body } = ap (λ (n : ℕ). record { code = n; close = response.close; body = response.body }) gives.0 in
      (response.body, record { close = response.close; behind = behind; is = subst (λ (r : ResponseSeen). IsResponse received r behind) same is }, gives.1)
  answered_as received behind response (Err LinkFault) is gives = absurd gives
  answered_as received behind response (Err (PeerStatus code)) is gives = record { response = response; behind = behind; is = is; code_is = gives.0; other = gives.1 }
  answered_as received behind response (Err PeerForm) is gives = absurd gives
  answered_as received behind response (Err NoMemory) is gives = absurd gives

  pub asks_answered : (kept : List ℕ) (response : Response) (answer : Result (List ℕ) AskFail) → BegunSince first.exchanges mid.exchanges (exchanges_on text (Sent [])) × (first.faults ≤ mid.faults) → HasSides mid source sink → HasSides now source_now sink_now
      → TakesResponse source source_now [] kept (Ok response) → GivesBody (response_seen response) answer → Asks SaysItself NeverUnsaid text first now answer
  asks_answered kept response answer sends sides sides_now takes gives =
      record {
        way = Sent takes.0;
        begun = receives_bytes takes.0 sends sides sides_now takes.1;
        faults = faults_kept takes.0 sends sides sides_now takes.1;
        ends = answered_as takes.0 kept (response_seen response) answer takes.2 gives;
      }

-- ---- any form

pub asks_memory : {T : Type 0} (Says : List ℕ → T → Type 0) (Unsaid : List ℕ → Type 0) (text : List ℕ) (link : LinkSeen) → Asks Says Unsaid text link link (Err NoMemory)
asks_memory Says Unsaid text link = record { way = NotBegun; begun = begun_nothing link.exchanges; faults = omega arith; ends = tt }

module _ {T : Type 0} (Says : List ℕ → T → Type 0) (Unsaid : List ℕ → Type 0) (text : List ℕ) (first now : LinkSeen) where
  failed_on : (way : Way) (fail : AskFail) → EndsOn SaysItself NeverUnsaid text first now way (Err fail) → EndsOn Says Unsaid text first now way (Err fail)
  failed_on NotBegun LinkFault ends = ends
  failed_on NotBegun (PeerStatus code) ends = ends
  failed_on NotBegun PeerForm ends = ends
  failed_on NotBegun NoMemory ends = ends
  failed_on (CutShort sent) fail ends = let answered = ends.answered in record { short = ends.short; answered = cc; rose = ends.rose }
  failed_on (Sent received) LinkFault ends = ends
  failed_on (Sent received) (PeerStatus code) ends = ends
  failed_on (Sent received) PeerForm (inl none) = inl none
  failed_on (Sent received) PeerForm (inr unsaid) = absurd unsaid.2
  failed_on (Sent received) NoMemory ends = tt

  pub asks_failed : (fail : AskFail) → Asks SaysItself NeverUnsaid text first now (Err fail) → Asks Says Unsaid text first now (Err fail)
  asks_failed fail asks = record { way = asks.way; begun = asks.begun; faults = asks.faults; ends = failed_on asks.way fail asks.ends }

  read_on : (way : Way) (body : List ℕ) (answer : Result T AskFail) → EndsOn SaysItself NeverUnsaid text first now way (Ok body) → ReadsBody Says Unsaid body answer → EndsOn Says Unsaid text first now way answer
  read_on NotBegun body answer ends reads = absurd ends
  read_on (CutShort sent) body answer ends reads = absurd (no ends.answered)
    where
      no : ◌≡◌ {A = Result (List ℕ) AskFail} (Ok body) (Err LinkFault) → ⊥
      no e = cc
  read_on (Sent received) body (Ok said) ends reads = (ends.0, ends.1, subst (λ (b : List ℕ). Says b said) ends.2 reads)
  read_on (Sent received) body (Err LinkFault) ends reads = absurd reads
  read_on (Sent received) body (Err (PeerStatus code)) ends reads = absurd reads
  read_on (Sent received) body (Err PeerForm) ends reads = inr (ends.0, ends.1, subst Unsaid ends.2 reads)
  read_on (Sent received) body (Err NoMemory) ends reads = tt

  pub asks_read : (body : List ℕ) (answer : Result T AskFail) → Asks SaysItself NeverUnsaid text first now (Ok body) → ReadsBody Says Unsaid body answer → Asks Says Unsaid text first now answer
  asks_read body answer asks reads = record { way = asks.way; begun = asks.begun; faults = asks.faults; ends = read_on asks.way body answer asks.ends reads }

module _ {T : Type 0} (Says : List ℕ → T → Type 0) (Unsaid : List ℕ → Type 0) (sent asked : RequestSeen) (host : List ℕ) (first now : LinkSeen) (same : sent ≡ asked) where
  -- what is asked by a request of this text
  texts_same : request_text sent host ≡ request_text asked host
  texts_same = ap (λ (r : RequestSeen). request_text r host) same

  pub ask_failed : (fail : AskFail) (answer : Result T AskFail) → Asks SaysItself NeverUnsaid (request_text sent host) first now (Err fail) → answer ≡ Err fail → Asks Says Unsaid (request_text asked host) first now answer
  ask_failed fail answer asks is =
      let failed = subst (λ (t : List ℕ). Asks SaysItself NeverUnsaid t first now (Err fail)) texts_same asks in
      subst (λ (o : Result T AskFail). Asks Says Unsaid (request_text asked host) first now o) (sym is) (asks_failed Says Unsaid (request_text asked host) first now fail failed)

  pub ask_read : (body read : List ℕ) (answer : Result T AskFail) → Asks SaysItself NeverUnsaid (request_text sent host) first now (Ok body) → read ≡ body → ReadsBody Says Unsaid read answer → Asks Says Unsaid (request_text asked host) first now answer
  ask_read body read answer asks is reads =
      let answered = subst (λ (t : List ℕ). Asks SaysItself NeverUnsaid t first now (Ok body)) texts_same asks in
      asks_read Says Unsaid (request_text asked host) first now body answer answered (subst (λ (b : List ℕ). ReadsBody Says Unsaid b answer) is reads)
