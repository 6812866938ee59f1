-- Events within their limits are few bytes, so that their number fits the four bytes before a body.
use Rattle.std.proofs.Common.{◌*◌, ◌-◌, ◌<◌, ◌≤◌, ◌^◌, List, [], ◌∷◌, length, arith, length-append}
use Rattle.std.specs.Prelude.{All}
use Rattle.std.specs.List.{flat_map}
use Rattle.std.specs.Int.{w32, to_be_bytes}
use Rattle.std.proofs.lemmas.List.Elements.{All-head, All-tail}
use Rattle.record_rules.specs.Records.{Event, Started, Local, Taken, event_weight}
use Rattle.record_rules.specs.Journal.{EventFits}
use Rattle.log_rules.specs.Body.{event_bytes, body_bytes}
use Rattle.log_rules.proofs.Weights.{events_weigh_their_bytes}

fits_weight : (event : Event) → EventFits event → event_weight event ≤ 4194304
fits_weight (Started s) fits = omega (arith, fits.command, fits.cwd, fits.session, fits.hostname)
fits_weight (Local closes r) fits = fits.weight
fits_weight (Taken owner r) fits = fits.weight

fit_bytes : (events : List Event) → All EventFits events → length (flat_map event_bytes events) ≤ 4194304 * length events
fit_bytes [] fit = omega arith
fit_bytes (event ∷ events) fit =
    omega (arith, fit_bytes events (All-tail EventFits event events fit), fits_weight event (All-head EventFits event events fit), events_weigh_their_bytes event, length-append (event_bytes event) (flat_map event_bytes events))

pub fit_is_short : (events : List Event) → length events ≤ 100 → All EventFits events → length (body_bytes events) < 2 ^ 32
fit_is_short events few fit = omega (arith, few, fit_bytes events fit, length-append (to_be_bytes w32 (length events)) (flat_map event_bytes events))
