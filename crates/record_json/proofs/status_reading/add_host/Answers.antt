use Rattle.std.proofs.Common.{sym, ap, ◌∙◌}
use Rattle.std.specs.Option.{option_map}
use Rattle.serde_json.specs.View.{view, members_view}
use Rattle.record_json.specs.Json.{id_of}
use Rattle.record_json.proofs.HostsRead.{host_new, host_again}
use Rattle.record_json.proofs.status_reading.add_host.Goals as goal

pub returns-in-Some-2 : goal.returns-in-Some-2
returns-in-Some-2 c =
    host_again c.args.hosts.now.entries c.in-Some.host c.in-Some-as_object.tags c.args.name.now (view c.args.value.now)
    (ap id_of (sym c.as_bytes.ensures.value) ∙ sym c.read_record_id.ensures.value ∙ c.in-Some.is)
    (sym c.as_object.ensures ∙ ap (option_map (λ m. members_view m.now.entries)) c.in-Some-as_object.is)
    c.in-Some-2.field-0 (sym c.in_ok-insert.ensures.old ∙ c.in-Some-2.is)

pub returns-in-None : goal.returns-in-None
returns-in-None c =
    host_new c.args.hosts.now.entries c.in-Some.host c.in-Some-as_object.tags c.args.name.now (view c.args.value.now)
    (ap id_of (sym c.as_bytes.ensures.value) ∙ sym c.read_record_id.ensures.value ∙ c.in-Some.is)
    (sym c.as_object.ensures ∙ ap (option_map (λ m. members_view m.now.entries)) c.in-Some-as_object.is)
    c.insert.new.self.entries (sym c.in_ok-insert.ensures.old ∙ c.in-None.is) c.in_ok-insert.ensures.entries
