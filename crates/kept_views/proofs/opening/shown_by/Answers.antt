use Rattle.std.proofs.Common.{sym, ap, ◌∙◌}
use Rattle.std.specs.Option.{option_map}
use Rattle.plain_types.specs.Buffer.{Buffer}
use Rattle.record_model.specs.Seen.{record_seen}
use Rattle.kept_views.proofs.HeldPayloads.{held_as_read}
use Rattle.kept_views.proofs.opening.shown_by.Goals as goal

pub returns-in-Some : goal.returns-in-Some
returns-in-Some c =
    held_as_read c.args.key.now (record_seen c.args.rec.now) c.as_bytes.result.now c.as_bytes-in-Some.result.now c.as_slice.result.now c.in-Some.bytes.items c.read.result
    c.as_bytes.ensures.value c.as_bytes-in-Some.ensures.value c.as_slice.ensures.items (sym (ap (option_map (λ (b : Buffer). b.items)) c.in-Some.is) ∙ c.in_ok-bytes.ensures) c.read.ensures
