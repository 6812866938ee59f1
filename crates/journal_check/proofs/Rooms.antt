-- The limits as tests.
use Rattle.std.proofs.Common.{◌≡◌, ℕ, suc, ◌+◌, ◌-◌, ◌≤◌, ◌<◌, ◌⊎◌, inl, inr, Bool, true, false, cond, List, [], ◌∷◌, length, Option, Some, None, refl, sym, ap, arith}
use Rattle.std.specs.Prelude.{◌&&◌, ◌||◌, filter, sum_by, nat_lt, nat_le}
use Rattle.std.specs.List.{list_any}
use Rattle.std.specs.Option.{option_or}
use Rattle.std.proofs.lemmas.Bool.{leb-true, le-leb, ne_eqb, true≢false}
use Rattle.definitions.specs.Journal.{StartedRecord}
use Rattle.definitions.proofs.Items.{both_true}
use Rattle.record_rules.specs.Records.{SealedRecord, Event, event_weight, record_weight}
use Rattle.record_rules.specs.Journal.{ChainPlace, PassedLimit, Totals, held_of, records_of, in_place, places_of, places_added, limit_passed, RecordFits, StartedFits}
use Rattle.record_rules.proofs.Totals.{room_from_none}
use Rattle.journal_check.specs.declared.owner_totals.OwnerTotals.{OwnerTotals}
use Rattle.journal_check.specs.Tallies.{totals_seen}
use Rattle.journal_check.specs.Admission.{started_fits, record_fits, capped, has_room, places_by}

pub both : (a b : Bool) → a ≡ true → b ≡ true → (a && b) ≡ true
both true b p q = q
both false b p q = absurd (true≢false (sym p))

-- ---- one entry

pub started_within : (s : StartedRecord) → started_fits s ≡ true → StartedFits s
started_within s e =
    let one = both_true (nat_le (length s.command) 262144) _ e in
    let two = both_true (nat_le (length s.cwd) 4096) _ one.1 in
    let three = both_true (nat_le (length s.session) 4096) (nat_le (length s.hostname) 4096) two.1 in
    record { command = leb-true _ _ one.0; cwd = leb-true _ _ two.0; session = leb-true _ _ three.0; hostname = leb-true _ _ three.1 }

pub within_started : (s : StartedRecord) → StartedFits s → started_fits s ≡ true
within_started s fits = both _ _ (le-leb _ _ fits.command) (both _ _ (le-leb _ _ fits.cwd) (both _ _ (le-leb _ _ fits.session) (le-leb _ _ fits.hostname)))

pub record_within : (r : SealedRecord) → record_fits r ≡ true → RecordFits r
record_within r e =
    let one = both_true (nat_le (length r.host_name) 4096) _ e in
    let two = both_true (nat_le (length r.version) 256) _ one.1 in
    let three = both_true (nat_le (length r.tag) 256) (nat_le (record_weight r) 4194304) two.1 in
    record { host_name = leb-true _ _ one.0; version = leb-true _ _ two.0; tag = leb-true _ _ three.0; weight = leb-true _ _ three.1 }

pub within_record : (r : SealedRecord) → RecordFits r → record_fits r ≡ true
within_record r fits = both _ _ (le-leb _ _ fits.host_name) (both _ _ (le-leb _ _ fits.version) (both _ _ (le-leb _ _ fits.tag) (le-leb _ _ fits.weight)))

-- ---- an owner

not_less : (a b : ℕ) → b ≤ a → nat_lt a b ≡ false
not_less a b h = elim (cases a b) [
  | inl less ↦ absurd (omega (arith, less, h))
  | inr other ↦ other
]
  where
    cases : (a b : ℕ) → (a < b) ⊎ (nat_lt a b ≡ false)
    cases a b = by (nat_lt a b) refl
      where
        by : (t : Bool) → nat_lt a b ≡ t → (a < b) ⊎ (nat_lt a b ≡ false)
        by true e = inl (leb-true (suc a) b e)
        by false e = inr e

-- what room is, in the numbers that are kept
pub record Fits (totals : OwnerTotals) (more added : ℕ) : Type 0 where
  pub entries : totals.entries + 1 ≤ 4000000
  pub weight : totals.weight + more ≤ 4294967296
  pub places : totals.places + added ≤ 4096

pub room_fits : (totals : OwnerTotals) (weight places : ℕ) → has_room totals weight places ≡ true → Fits totals weight places
room_fits totals weight places e =
    let one = both_true (nat_le (capped totals.entries 1) 4000000) _ e in
    let two = both_true (nat_le (capped totals.weight weight) 4294967296) (nat_le (capped totals.places places) 4096) one.1 in
    let entries = leb-true (capped totals.entries 1) 4000000 one.0 in
    let weights = leb-true (capped totals.weight weight) 4294967296 two.0 in
    let place = leb-true (capped totals.places places) 4096 two.1 in
    record { entries = omega (arith, entries); weight = omega (arith, weights); places = omega (arith, place) }

pub fits_room : (totals : OwnerTotals) (weight places : ℕ) → Fits totals weight places → has_room totals weight places ≡ true
fits_room totals weight places fits =
    let entries = fits.entries in
    let weights = fits.weight in
    let place = fits.places in
    both _ _ (le-leb (capped totals.entries 1) 4000000 (omega (arith, entries))) (both _ _ (le-leb (capped totals.weight weight) 4294967296 (omega (arith, weights))) (le-leb (capped totals.places places) 4096 (omega (arith, place))))

module _ (events : List Event) (totals : OwnerTotals) (is : totals_seen totals ≡ held_of events) (weight places : ℕ) (place : Option ChainPlace) (places_are : places ≡ places_added events place) where
  entries_are : totals.entries ≡ length events
  entries_are = ap (λ (t : Totals). t.entries) is

  weights_are : totals.weight ≡ sum_by event_weight events
  weights_are = ap (λ (t : Totals). t.weight) is

  place_count : totals.places ≡ length (places_of (records_of events))
  place_count = ap (λ (t : Totals). t.places) is

  abbrev limit_by : Bool → Bool → Bool → Option PassedLimit
  limit_by a b c = option_or (cond a (Some (record { what = 1; held = length events })) None) (option_or (cond b (Some (record { what = 2; held = sum_by event_weight events })) None) (cond c (Some (record { what = 3; held = length (places_of (records_of events)) })) None))

  pub room_none : Fits totals weight places → limit_passed events weight place ≡ None
  room_none fits =
      let few : length events + 1 ≤ 4000000 = omega (arith, fits.entries, entries_are) in
      let light : sum_by event_weight events + weight ≤ 4294967296 = omega (arith, fits.weight, weights_are) in
      let narrow : length (places_of (records_of events)) + places_added events place ≤ 4096 = omega (arith, fits.places, place_count, places_are) in
      none (nat_lt 4000000 (length events + 1)) (nat_lt 4294967296 (sum_by event_weight events + weight)) (nat_lt 4096 (length (places_of (records_of events)) + places_added events place)) (not_less _ _ few) (not_less _ _ light) (not_less _ _ narrow)
    where
      none : (a b c : Bool) → a ≡ false → b ≡ false → c ≡ false → limit_by a b c ≡ None
      none a b c p q r = λ i. limit_by (p i) (q i) (r i)

  pub none_room : limit_passed events weight place ≡ None → Fits totals weight places
  none_room none =
      let room = room_from_none events weight place none in
      record {
        entries = omega (arith, room.entries, entries_are);
        weight = omega (arith, room.total, weights_are);
        places = omega (arith, room.places, place_count, places_are);
      }

-- how many places a record adds, by its chain
pub added_by_count : (host : ℕ) (tag : List ℕ) (records : List SealedRecord) → places_by (length (filter (in_place host tag) records)) ≡ cond (list_any (in_place host tag) records) 0 1
added_by_count host tag [] = refl
added_by_count host tag (r ∷ records) = by (in_place host tag r) (added_by_count host tag records)
  where
    by : (b : Bool) → places_by (length (filter (in_place host tag) records)) ≡ cond (list_any (in_place host tag) records) 0 1
        → places_by (length (cond b (r ∷ filter (in_place host tag) records) (filter (in_place host tag) records))) ≡ cond (b || list_any (in_place host tag) records) 0 1
    by true h = ap (λ (b : Bool). cond b 1 0) (ne_eqb (suc (length (filter (in_place host tag) records))) 0 (λ e. absurd (omega (arith, e))))
    by false h = h
