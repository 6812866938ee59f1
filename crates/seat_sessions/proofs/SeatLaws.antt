-- Connections that were served one after the other.
use Rattle.std.proofs.Common.{◌≡◌, ℕ, List, [], ◌∷◌, ◌++◌, map, Option, Some, None, refl, sym, ◌∙◌, ap, subst, append_assoc, append-nil, arith}
use Rattle.std.specs.List.{flat_map}
use Rattle.std.proofs.lemmas.List.{map-append}
use Rattle.std.proofs.lemmas.List.Elements.{All-push, All-nil}
use Rattle.definitions.specs.Uses.{Used, then_used}
use Rattle.definitions.proofs.Uses.{then_used-assoc, nothing-then_used, then_used-nothing}
use Rattle.session_rules.specs.Sessions.{SessionRequest, SessionReply, numbered_from, call_reply, Session}
use Rattle.session_rules.specs.Passes.{TurnsOf}
use Rattle.session_rules.proofs.Sessions.{session_begins, sessions_follow}
use Rattle.session_rules.proofs.Turns.{turns_follow}
use Rattle.session_rules.proofs.Passes.{moves_then, stays}
use Rattle.call_supplies.specs.Supplies.{Uses}
use Rattle.session_seats.proofs.SupplyLaws.{Uses-nothing, Uses-then}
use Rattle.shared_store.specs.Books.{keyed_by}
use Rattle.serving_edge.specs.Connections.{ConnSeen}
use Rattle.serving_edge.specs.Listening.{Handled, ListenerSeen, TakesFirst, AddsHandled}
use Rattle.seat_sessions.specs.Seats.{SeatSeen, ConnServed, ConnServes, requests_by, replies_by, used_by, handled_of, Came, WentBack, ListenerServed, ListenerGave, SeatServed, ServesConn}

-- ---- lists of connections

module _ {B : Type 0} (f : ConnServed → List B) where
  pub all_more : (conns : List ConnServed) (conn : ConnServed) → flat_map f (conns ++ conn ∷ []) ≡ flat_map f conns ++ f conn
  all_more [] conn = append-nil (f conn)
  all_more (x ∷ conns) conn = ap (λ (l : List B). f x ++ l) (all_more conns conn) ∙ sym (append_assoc (f x) (flat_map f conns) (f conn))

pub used_more : (conns : List ConnServed) (conn : ConnServed) → used_by (conns ++ conn ∷ []) ≡ then_used (used_by conns) conn.used
used_more [] conn = then_used-nothing conn.used ∙ sym (nothing-then_used conn.used)
used_more (x ∷ conns) conn = ap (then_used x.used) (used_more conns conn) ∙ sym (then_used-assoc x.used (used_by conns) conn.used)

-- ---- what the listener gave

came_nothing : (coming : Option (List ConnSeen)) → Came coming coming []
came_nothing None = tt
came_nothing (Some coming) = (coming, refl, refl)

back_nothing : (done : Option (List Handled)) → WentBack done done []
back_nothing None = tt
back_nothing (Some done) = ap Some (sym (append-nil done))

abbrev accepted_of : List Handled → List ConnSeen
accepted_of handled = map (λ (one : Handled). one.accepted) handled

came_more : (a b c : Option (List ConnSeen)) (handled : List Handled) (one : Handled) → Came a b handled → TakesFirst b c one.accepted → Came a c (handled ++ one ∷ [])
came_more None b c handled one came first = tt
came_more (Some old) b c handled one came first =
    let took : TakesFirst (Some came.0) c one.accepted = subst (λ (s : Option (List ConnSeen)). TakesFirst s c one.accepted) came.2 first in
    let front : old ≡ accepted_of handled ++ (one.accepted ∷ took.0) = came.1 ∙ ap (λ (l : List ConnSeen). accepted_of handled ++ l) took.1 in
    let both : accepted_of handled ++ (one.accepted ∷ took.0) ≡ accepted_of (handled ++ one ∷ []) ++ took.0 =
    sym (append_assoc (accepted_of handled) (one.accepted ∷ []) took.0) ∙ ap (λ (l : List ConnSeen). l ++ took.0) (sym (map-append (λ (h : Handled). h.accepted) handled (one ∷ []))) in
    (took.0, front ∙ both, took.2)

back_more : (a b c : Option (List Handled)) (handled : List Handled) (one : Handled) → WentBack a b handled → AddsHandled b c one → WentBack a c (handled ++ one ∷ [])
back_more None b c handled one back adds = tt
back_more (Some old) b c handled one back adds =
    let added : AddsHandled (Some (old ++ handled)) c one = subst (λ (s : Option (List Handled)). AddsHandled s c one) back adds in
    added ∙ ap Some (append_assoc old handled (one ∷ []))

listener_more : (a b c : ListenerSeen) (handled : List Handled) (one : Handled) → ListenerServed a b handled → ListenerGave b c one → ListenerServed a c (handled ++ one ∷ [])
listener_more a b c handled one served gave = record {
  came = came_more a.coming b.coming c.coming handled one served.came gave.first;
  back = back_more a.done b.done c.done handled one served.back gave.back;
  out = gave.out;
  faults = omega (arith, served.faults, gave.faults);
}

-- ---- the work

pub served_nothing : (seen : SeatSeen) → seen.listener.out ≡ None → SeatServed seen seen []
served_nothing seen free = record {
  lock = refl;
  each = All-nil ConnServes;
  moves = stays seen.pass;
  session = session_begins (keyed_by seen.pass.fixed) seen.pass.seen seen.pass.number;
  turns = ([], sym (append-nil seen.pass.turns), tt);
  uses = Uses-nothing seen.supplies;
  listener = record { came = came_nothing seen.listener.coming; back = back_nothing seen.listener.done; out = free; faults = omega arith };
}

pub served_more : (first old new : SeatSeen) (conns : List ConnServed) (conn : ConnServed) → SeatServed first old conns → ServesConn old new conn → SeatServed first new (conns ++ conn ∷ [])
served_more first old new conns conn served one =
    let fixed : old.pass.fixed ≡ first.pass.fixed = served.moves.fixed in
    let number : old.pass.number ≡ first.pass.number = served.moves.number in
    let replies = map call_reply conn.replies in
    let requests = numbered_from 1 conn.asked in
    let here : Session (keyed_by first.pass.fixed) old.pass.seen first.pass.number requests conn.used replies new.pass.seen =
    subst (λ (n : ℕ). Session (keyed_by first.pass.fixed) old.pass.seen n requests conn.used replies new.pass.seen) number
    (subst (λ (f : List ℕ). Session (keyed_by f) old.pass.seen old.pass.number requests conn.used replies new.pass.seen) fixed one.session) in
    let both = sessions_follow (keyed_by first.pass.fixed) first.pass.seen first.pass.number (requests_by conns) (used_by conns) (replies_by conns) old.pass.seen requests conn.used replies new.pass.seen served.session here in
    let requests_are : requests_by conns ++ requests ≡ requests_by (conns ++ conn ∷ []) = sym (all_more (λ (c : ConnServed). numbered_from 1 c.asked) conns conn) in
    let replies_are : replies_by conns ++ replies ≡ replies_by (conns ++ conn ∷ []) = sym (all_more (λ (c : ConnServed). map call_reply c.replies) conns conn) in
    let used_is : then_used (used_by conns) conn.used ≡ used_by (conns ++ conn ∷ []) = sym (used_more conns conn) in
    record {
      lock = one.lock ∙ served.lock;
      each = All-push ConnServes conns conn served.each one.serves;
      moves = moves_then first.pass old.pass new.pass served.moves one.moves;
      session = subst (λ (r : List SessionReply). Session (keyed_by first.pass.fixed) first.pass.seen first.pass.number (requests_by (conns ++ conn ∷ [])) (used_by (conns ++ conn ∷ [])) r new.pass.seen) replies_are
          (subst (λ (u : Used). Session (keyed_by first.pass.fixed) first.pass.seen first.pass.number (requests_by (conns ++ conn ∷ [])) u (replies_by conns ++ replies) new.pass.seen) used_is
          (subst (λ (q : List SessionRequest). Session (keyed_by first.pass.fixed) first.pass.seen first.pass.number q (then_used (used_by conns) conn.used) (replies_by conns ++ replies) new.pass.seen) requests_are both));
      turns = subst (λ (r : List SessionReply). TurnsOf first.pass.turns r new.pass.turns) replies_are (turns_follow first.pass.turns old.pass.turns new.pass.turns (replies_by conns) replies served.turns one.turns);
      uses = subst (λ (u : Used). Uses first.supplies new.supplies u) used_is (Uses-then first.supplies old.supplies new.supplies (used_by conns) conn.used served.uses one.uses);
      listener = subst (λ (h : List Handled). ListenerServed first.listener new.listener h) (sym (map-append (λ (c : ConnServed). c.handled) conns (conn ∷ []))) (listener_more first.listener old.listener new.listener (handled_of conns) conn.handled served.listener one.listener);
    }
