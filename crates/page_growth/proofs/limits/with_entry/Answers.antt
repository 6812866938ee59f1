use Rattle.std.proofs.Common.{◌≡◌, ◌+◌, ℕ, cond, arith}
use Rattle.page_growth.proofs.Passing.{places_pass, none_pass, totals_more}
use Rattle.page_growth.proofs.limits.with_entry.Goals as goal

pub returns-then-places-gt-MOST_PLACES : goal.returns-then-places-gt-MOST_PLACES
returns-then-places-gt-MOST_PLACES c = λ events place is adds.
    places_pass events place c.args.totals c.args.weight c.args.new_place is adds
    (omega (arith, c.saturating_add-entries.ensures, c.if-entries-gt-MOST_ENTRIES.false)) (omega (arith, c.saturating_add-bytes.ensures, c.if-bytes-gt-MOST_BYTES.false))
    (omega (arith, c.saturating_add-places.ensures, c.if-places-gt-MOST_PLACES.true, c.places_by.ensures))

pub returns : goal.returns
returns c = λ events place is adds.
    let entries : c.saturating_add-entries.result ≡ c.args.totals.entries + 1 = omega (arith, c.saturating_add-entries.ensures, c.if-entries-gt-MOST_ENTRIES.false) in
    let bytes : c.saturating_add-bytes.result ≡ c.args.totals.bytes + c.args.weight = omega (arith, c.saturating_add-bytes.ensures, c.if-bytes-gt-MOST_BYTES.false) in
    let places : c.saturating_add-places.result ≡ c.args.totals.places + cond {A = ℕ} c.args.new_place 1 0 = omega (arith, c.saturating_add-places.ensures, c.if-places-gt-MOST_PLACES.false, c.places_by.ensures) in (
      none_pass events place c.args.totals c.args.weight c.args.new_place is adds
          (omega (arith, entries, c.if-entries-gt-MOST_ENTRIES.false)) (omega (arith, bytes, c.if-bytes-gt-MOST_BYTES.false)) (omega (arith, places, c.if-places-gt-MOST_PLACES.false)),
      totals_more events place c.args.totals c.args.weight c.args.new_place is adds (record { entries = c.saturating_add-entries.result; bytes = c.saturating_add-bytes.result; places = c.saturating_add-places.result }) entries bytes places,
    )
