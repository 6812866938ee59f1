use Rattle.std.proofs.Common.{sym, ap, ◌∙◌, arith}
use Rattle.std.specs.Option.{option_map}
use Rattle.payload_forms.specs.Seen.{version_seen}
use Rattle.payload_forms.proofs.TellingLaws.{read_is_spelled, read_is_short, unread_is_unspelled, unnamed_is_unspelled}
use Rattle.payload_forms.proofs.reading.read_payload.Goals as goal

pub returns-in-Some-clause-read : goal.returns-in-Some-clause-read
returns-in-Some-clause-read c =
    let named = sym c.version_named.ensures ∙ ap (option_map version_seen) c.in-Some.is in
    read_is_spelled c.args.tag.now c.args.version.now c.args.bytes.now c.read_form.result (version_seen c.in-Some.version) (λ i. omega (arith, c.type_inv.bytes i)) named c.read_form.ensures

pub returns-in-Some-clause-unread : goal.returns-in-Some-clause-unread
returns-in-Some-clause-unread c =
    let named = sym c.version_named.ensures ∙ ap (option_map version_seen) c.in-Some.is in
    unread_is_unspelled c.args.tag.now c.args.version.now c.args.bytes.now c.read_form.result (version_seen c.in-Some.version) named c.read_form.ensures

pub returns-in-None-clause-unread : goal.returns-in-None-clause-unread
returns-in-None-clause-unread c is p s =
    unnamed_is_unspelled c.args.tag.now c.args.version.now c.args.bytes.now p (sym c.version_named.ensures ∙ ap (option_map version_seen) c.in-None.is) s

pub returns-in-Some-clause-short : goal.returns-in-Some-clause-short
returns-in-Some-clause-short c =
    read_is_short c.args.tag.now c.args.version.now c.args.bytes.now c.read_form.result (returns-in-Some-clause-read c)
