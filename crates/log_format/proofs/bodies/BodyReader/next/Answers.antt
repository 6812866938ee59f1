use Rattle.std.proofs.Common.{◌≡◌, ℕ, suc, ◌-◌, ◌∙◌, List, length, drop, Some, Result, Ok, refl, sym, ap, subst, arith}
use Rattle.log_rules.specs.Reading.{Reading, Stop}
use Rattle.log_rules.specs.Pieces.{Pieces, Given, left_by}
use Rattle.log_rules.proofs.Moves.{next_moves}
use Rattle.record_model.specs.Seen.{event_seen}
use Rattle.log_format.proofs.Following.{unread_inside, after_is_held, still_within, event_given}
use Rattle.log_format.proofs.bodies.BodyReader.next.Goals as goal

abbrev left_so : ℕ × Reading → Result (ℕ × Reading) Stop
left_so x = Ok x

pub overflow_sub-self : goal.overflow_sub-self
overflow_sub-self c =
    let left_is = subst (λ (p : Pieces). left_by p.left p.reading ≡ left_so (c.in-Ok.next.0, c.in-Ok.next.1)) (sym c.self.view_is) c.in-Ok.ensures in
    let moved = next_moves _ _ c.in-Ok.next.1 c.event.new.self c.in-Ok.next.0 (event_seen c.in-Ok-event.event) left_is c.in-Ok-event.ensures in
    unread_inside c.self.inside.held.items c.self.inside.start c.left-unread.result _ _ c.event.new.self c.self.invariant.0 refl moved c.left-unread.ensures (ap (λ (l : List ℕ). length l) c.as_slice-len.ensures.value)

pub invariant_of-self : goal.invariant_of-self
invariant_of-self c =
    let left_is = subst (λ (p : Pieces). left_by p.left p.reading ≡ left_so (c.in-Ok.next.0, c.in-Ok.next.1)) (sym c.self.view_is) c.in-Ok.ensures in
    let moved = next_moves _ _ c.in-Ok.next.1 c.event.new.self c.in-Ok.next.0 (event_seen c.in-Ok-event.event) left_is c.in-Ok-event.ensures in
    let within = still_within c.self.inside.held.items c.self.inside.start c.left-unread.result _ c.self.inside.limit _ c.event.new.self c.self.invariant.0 refl c.self.invariant.1 moved c.left-unread.ensures (ap (λ (l : List ℕ). length l) c.as_slice-len.ensures.value) in
    (within.0, omega (arith, within.1, c.at-at.ensures), c.self.invariant.2)

pub returns-in-Ok-event : goal.returns-in-Ok-event
returns-in-Ok-event c =
    let left_is = subst (λ (p : Pieces). left_by p.left p.reading ≡ left_so (c.in-Ok.next.0, c.in-Ok.next.1)) (sym c.self.view_is) c.in-Ok.ensures in
    let moved = next_moves _ _ c.in-Ok.next.1 c.event.new.self c.in-Ok.next.0 (event_seen c.in-Ok-event.event) left_is c.in-Ok-event.ensures in
    let held = after_is_held c.self.inside.held.items c.self.inside.start c.left-unread.result _ c.self.inside.limit _ c.event.new.self c.self.invariant.0 refl refl moved c.left-unread.ensures (ap (λ (l : List ℕ). length l) c.as_slice-len.ensures.value) in
    let suc_is : c.in-Ok.next.0 ≡ suc (c.in-Ok.next.0 - 1) = omega (arith, c.if-left-eq0.false) in
    let counted = c.in-Ok.ensures ∙ ap (λ (n : ℕ). left_so (n, c.in-Ok.next.1)) suc_is in
    let there = held ∙ (λ i. record { limit = c.self.inside.limit; at = sym c.at-at.ensures i; rest = drop (length c.as_slice-len.result.now - c.left-unread.result) c.self.inside.held.items }) in
    event_given c.args.self.now (c.in-Ok.next.0 - 1) c.in-Ok.next.1 c.event.new.self (event_seen c.in-Ok-event.event) counted c.in-Ok-event.ensures
    ∙ ap (λ (s : Reading). Given (event_seen c.in-Ok-event.event) (record { left = Some (c.in-Ok.next.0 - 1); reading = s })) there
