use Rattle.std.proofs.Common.{ℕ, List, Vec, Global, sym, ap, subst, ◌∙◌}
use Rattle.latest_values.proofs.Placed.{seen}
use Rattle.kv_view.specs.Pairs.{Pairs, Means, payload_for}
use Rattle.kv_view.proofs.Held.{grows}
use Rattle.kv_view.proofs.view.KvView.add.Goals as goal

pub returns-clause-grows : goal.returns-clause-grows
returns-clause-grows c = λ payload changes ready means.
    let items = λ (v : Vec ℕ Global). v.items in
    let holds = ready.holds ∙ ap (λ (n : List ℕ). payload_for n c.args.room.key.items c.args.room.said) (sym c.as_slice.ensures.value) in
    grows (seen items c.self.inside.spaces.entries) (seen items c.add.new.spaces.entries) c.as_slice.result.now c.args.room.key.items c.args.room.said
    (record { host = c.args.host; idx = c.args.idx; timestamp = c.args.timestamp; payload = payload }) changes holds c.add.ensures.said (subst (λ (s : Pairs). Means s changes) (sym c.self.view_is) means)
