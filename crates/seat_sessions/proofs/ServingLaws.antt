-- One connection that a worker serves.
use Rattle.std.proofs.Common.{◌≡◌, List, Option, Some, Result, refl, sym, ◌∙◌, ap, subst, arith}
use Rattle.std.specs.Option.{unwrap_or}
use Rattle.atomic_table.specs.Seated.{TableId}
use Rattle.book_lock.specs.LockPasses.{LockPass}
use Rattle.at_edge.specs.declared.ending.Served.{Served}
use Rattle.at_edge.specs.declared.ending.SessionFail.{SessionFail}
use Rattle.call_supplies.specs.Supplies.{Supplies}
use Rattle.serving_edge.specs.Connections.{ConnSeen}
use Rattle.serving_edge.specs.Listening.{Handled, ListenerSeen, TakesFirst, AddsHandled, HandsOut, TakesBack}
use Rattle.seat_sessions.specs.Serving.{SessionServes}
use Rattle.seat_sessions.specs.Seats.{seat_seen, ConnServed, ListenerGave, ServesConn}

same_some : {A : Type 0} (a b : A) → Some a ≡ Some b → a ≡ b
same_some a b e = ap (λ (o : Option _). unwrap_or o a) e

-- what was accepted was handed back
gave_back : (old out new : ListenerSeen) (accepted back : ConnSeen) → HandsOut old out accepted → TakesBack out new back → ListenerGave old new (record { accepted = accepted; back = back })
gave_back old out new accepted back hands takes =
    let same : takes.accepted ≡ accepted = same_some takes.accepted accepted (sym takes.was_out ∙ hands.out) in
    let adds : AddsHandled out.done new.done (record { accepted = accepted; back = back }) =
    subst (λ (a : ConnSeen). AddsHandled out.done new.done (record { accepted = a; back = back })) same takes.done in
    record {
      first = subst (λ (c : Option (List ConnSeen)). TakesFirst old.coming c accepted) (sym takes.coming) hands.first;
      back = subst (λ (d : Option (List Handled)). AddsHandled d new.done (record { accepted = accepted; back = back })) hands.done adds;
      out = takes.out;
      faults = omega (arith, hands.faults, takes.faults);
    }

-- a session over the connection that is out, which is then handed back
pub serves_conn : (lock : TableId) (held : Option LockPass) (p q : LockPass) (old out new : ListenerSeen) (before after : Supplies) (accepted back : ConnSeen) (outcome : Result Served SessionFail)
    → held ≡ Some p → HandsOut old out accepted → SessionServes outcome p.pass q.pass before after accepted back → TakesBack out new back
    → (conn : ConnServed) × ServesConn (seat_seen lock held old before) (seat_seen lock (Some q) new after) conn
serves_conn lock held p q old out new before after accepted back outcome is hands session takes =
    let s = session.serves in
    let conn : ConnServed = record { handled = record { accepted = accepted; back = back }; outcome = outcome; payloads = s.payloads; asked = s.asked; used = s.used; replies = s.replies } in
    let one : ServesConn (seat_seen lock (Some p) old before) (seat_seen lock (Some q) new after) conn = record {
      lock = refl;
      serves = record { short = s.short; reads = s.reads; ends = s.ends };
      moves = session.moves;
      session = s.session;
      turns = s.turns;
      uses = s.uses;
      listener = gave_back old out new accepted back hands takes;
    } in
    (conn, subst (λ (h : Option LockPass). ServesConn (seat_seen lock h old before) (seat_seen lock (Some q) new after) conn) (sym is) one)
