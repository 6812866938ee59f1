use Rattle.std.proofs.Common.{refl, sym, ◌∙◌}
use Rattle.serving_edge.specs.KeptViews.{ended_of}
use Rattle.serving_edge.proofs.KeptLaws.{put_back}
use Rattle.serving_edge.proofs.kept.KeptConnections.finish.Goals as goal

pub returns : goal.returns
returns g c =
    let now = c.args.self.now in
    put_back (λ s. s.value) ended_of now.coming.items now.out c.take.new.self now.done.items c.push_reserved.new.self.items c.in-Some.accepted _ c.args.conn (sym c.take.ensures.value ∙ c.in-Some.is) c.take.ensures.after c.push_reserved.ensures.items refl
