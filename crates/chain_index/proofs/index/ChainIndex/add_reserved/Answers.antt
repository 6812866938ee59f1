use Rattle.std.proofs.Common.{◌≡◌, ℕ, ◌<◌, List, length, true, cond, sym, ap, subst, ◌∙◌}
use Rattle.std.specs.Prelude.{nat_eq}
use Rattle.record_model.specs.Seen.{record_seen}
use Rattle.record_rules.specs.Records.{record_weight}
use Rattle.chain_index.specs.declared.links.Link.{Link}
use Rattle.chain_index.specs.Chains.{IndexSeen, IdsSeen, links_in, reserved_in, has_id, IdsGrow, OwnersAdd}
use Rattle.chain_index.specs.Meaning.{Filed, id_of, link_of}
use Rattle.chain_index.proofs.Filing.{filed_is, room_there, rooms_kept}
use Rattle.chain_index.proofs.index.ChainIndex.add_reserved.Goals as goal

pub add_link-requires-clause-room : goal.add_link-requires-clause-room
add_link-requires-clause-room c =
    let r = record_seen c.args.rec.now in
    subst (λ (tag : List ℕ). length (links_in c.args.self.now c.args.owner r.host tag) < reserved_in c.args.self.now c.args.owner r.host tag) (sym c.as_bytes.ensures.value) (room_there c.args.self.now c.args.owner r c.requires)

pub returns-clause-files : goal.returns-clause-files
returns-clause-files c = λ filed entry is says.
    let r = record_seen c.args.rec.now in
    let old = c.args.self.now in
    let mid : IndexSeen = record { here = c.self.inside.here; others = c.self.inside.others.entries; ids = c.self.inside.ids.entries } in
    let new : IndexSeen = record { here = c.self.inside.here; others = c.self.inside.others.entries; ids = c.add.new.ids.entries } in
    let f : Filed = record { entry = entry; spot = c.args.spot; at = c.args.at } in
    let link : Link = record { id = r.id; spot = c.args.spot; at = c.args.at } in
    let same : link ≡ link_of f = λ i. record { id = id_of (sym says.is i); spot = c.args.spot; at = c.args.at } in
    let moved : OwnersAdd c.args.owner r.host c.as_bytes.result.now c.weight.result link old mid = subst (λ (x : IndexSeen). OwnersAdd c.args.owner r.host c.as_bytes.result.now c.weight.result link old x) (sym c.self.view_is) c.add_link.ensures.adds in
    let adds : OwnersAdd c.args.owner r.host r.tag (record_weight r) (link_of f) old mid =
    subst (λ (l : Link). OwnersAdd c.args.owner r.host r.tag (record_weight r) l old mid) same
    (subst (λ (w : ℕ). OwnersAdd c.args.owner r.host r.tag w link old mid) c.weight.ensures.value
    (subst (λ (tag : List ℕ). OwnersAdd c.args.owner r.host tag c.weight.result link old mid) c.as_bytes.ensures.value moved)) in
    let ids : c.self.inside.ids.entries ≡ old.ids = ap (λ (x : IndexSeen). x.ids) c.self.view_is ∙ c.add_link.ensures.ids in
    filed_is old new filed f c.args.owner r is says adds (λ q. c.add.ensures.has q ∙ ap (λ (es : IdsSeen). cond (nat_eq r.id q) true (has_id es q)) ids)

pub returns-clause-rooms : goal.returns-clause-rooms
returns-clause-rooms c =
    let r = record_seen c.args.rec.now in
    let old = c.args.self.now in
    let mid : IndexSeen = record { here = c.self.inside.here; others = c.self.inside.others.entries; ids = c.self.inside.ids.entries } in
    let new : IndexSeen = record { here = c.self.inside.here; others = c.self.inside.others.entries; ids = c.add.new.ids.entries } in
    let link : Link = record { id = r.id; spot = c.args.spot; at = c.args.at } in
    let adds : OwnersAdd c.args.owner r.host c.as_bytes.result.now c.weight.result link old mid = subst (λ (x : IndexSeen). OwnersAdd c.args.owner r.host c.as_bytes.result.now c.weight.result link old x) (sym c.self.view_is) c.add_link.ensures.adds in
    let ids : c.self.inside.ids.entries ≡ old.ids = ap (λ (x : IndexSeen). x.ids) c.self.view_is ∙ c.add_link.ensures.ids in
    rooms_kept old new c.args.owner r.host c.as_bytes.result.now c.weight.result link adds (subst (λ (es : IdsSeen). IdsGrow es c.add.new.ids.entries) ids c.add.ensures.kept)
