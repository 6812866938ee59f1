use Rattle.std.proofs.Common.{◌≡◌, ℕ, List, ◌++◌, ap, ◌∙◌, codes, decimal, append_assoc}
use Rattle.definitions.specs.Ids.{hyphenated}
use Rattle.response_texts.proofs.pages.forked_body.Goals as goal

-- pieces that were added one by one
regroup : (a b c d : List ℕ) → ((a ++ b) ++ c) ++ d ≡ a ++ (b ++ (c ++ d))
regroup a b c d = simp append_assoc

pub returns : goal.returns
returns c =
    let id = hyphenated c.args.held in
    let position = decimal c.args.position in
    let one = c.add.ensures.items ∙ ap (λ (l : List ℕ). l ++ codes "{\"held\":\"") c.new-body.ensures in
    let two = c.add_id.ensures.items ∙ ap (λ (l : List ℕ). l ++ id) one in
    let three = c.add-2.ensures.items ∙ ap (λ (l : List ℕ). l ++ codes "\",\"position\":") two in
    let four = c.add_number.ensures.items ∙ ap (λ (l : List ℕ). l ++ position) three in
    let five = c.add-3.ensures.items ∙ ap (λ (l : List ℕ). l ++ codes ",\"reason\":\"forked\"}") four in
    c.short.ensures ∙ c.as_slice.ensures.value ∙ five ∙ ap (λ (l : List ℕ). codes "{\"held\":\"" ++ l) (regroup id (codes "\",\"position\":") position (codes ",\"reason\":\"forked\"}"))
