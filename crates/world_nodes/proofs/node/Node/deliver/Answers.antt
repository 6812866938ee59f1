use Rattle.std.proofs.Common.{Err, sym, subst, ap, ◌∙◌}
use Rattle.record_model.specs.Seen.{records_seen}
use Rattle.page_growth.specs.Checking.{refusal_seen}
use Rattle.store_core.specs.Pages.{page_answer_seen}
use Rattle.world_nodes.specs.Nodes.{NodeSeen, node_of, IsReady}
use Rattle.world_nodes.specs.Events.{Delivers, Grows, Stays}
use Rattle.world_nodes.proofs.Paged.{page_grows, page_stays}
use Rattle.world_nodes.proofs.node.Node.deliver.Goals.{in-Ok, in-Err-Refused, in-Err-DiskFault, in-Err-NoMemory}
use Rattle.world_nodes.proofs.node.Node.deliver.Goals as goal

pub returns : goal.returns
returns c =
    let was = c.self.inside.store in
    let key = c.self.inside.key in
    let random = c.self.inside.random in
    let now = c.take_page.new.self in
    let records = records_seen c.args.records.now in
    let answer = page_answer_seen c.take_page.result in
    let ready : IsReady (node_of was key random) = subst IsReady (sym c.self.view_is) c.requires in
    elim c.match-take_page.branch [
      | in-Ok w ↦ subst (Delivers c.args.self.now (node_of now key random) records) (sym w.result-is) (subst (λ (n : NodeSeen). Grows n (node_of now key random) records) c.self.view_is (page_grows was now key random records answer ready c.take_page.ensures.told c.take_page.ensures.host _ (ap page_answer_seen w.in-Ok.is)))
      | in-Err-Refused w ↦ subst (Delivers c.args.self.now (node_of now key random) records) (sym w.result-is) (subst (λ (n : NodeSeen). Stays n (node_of now key random) records (refusal_seen w.in-Err-Refused.refusal)) c.self.view_is (page_stays was now key random records answer ready c.take_page.ensures.told c.take_page.ensures.host (refusal_seen w.in-Err-Refused.refusal) (ap page_answer_seen w.in-Err-Refused.is ∙ ap page_answer_seen (ap Err w.in-Err-Refused.field-0-is))))
      | in-Err-DiskFault w ↦ subst (Delivers c.args.self.now (node_of now key random) records) (sym w.result-is) tt
      | in-Err-NoMemory w ↦ subst (Delivers c.args.self.now (node_of now key random) records) (sym w.result-is) tt
    ]
