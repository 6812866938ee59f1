use Rattle.std.proofs.Common.{ℕ, List, ◌++◌, ap₂, ◌∙◌}
use Rattle.http_wire.proofs.Heads.{pieces_of_head}
use Rattle.http_wire.proofs.writing.response_head.Goals as goal

pub returns : goal.returns
returns c =
    let behind = λ (xs ys : List ℕ). xs ++ ys in
    let one = c.add.ensures.items ∙ ap₂ behind c.new-head.ensures c.as_bytes.ensures.value in
    let two = c.add-2.ensures.items ∙ ap₂ behind one (c.as_bytes-2.ensures.value ∙ c.format.ensures.text) in
    let three = c.add-3.ensures.items ∙ ap₂ behind two c.as_bytes-3.ensures.value in
    let four = c.add-4.ensures.items ∙ ap₂ behind three (c.as_bytes-4.ensures.value ∙ c.phrase.ensures.value) in
    let five = c.add-5.ensures.items ∙ ap₂ behind four c.as_bytes-5.ensures.value in
    let six = c.add-6.ensures.items ∙ ap₂ behind five (c.as_bytes-6.ensures.value ∙ c.format-2.ensures.text) in
    let seven = c.add-7.ensures.items ∙ ap₂ behind six (c.as_bytes-7.ensures.value ∙ c.close_line.ensures.value) in
    c.add-8.ensures.items ∙ ap₂ behind seven c.as_bytes-8.ensures.value ∙ pieces_of_head c.args.code c.args.close c.args.body_len
