use Rattle.std.proofs.Common.{ℕ, List, [], ◌∷◌, ◌++◌, codes, decimal, ap, ap₂, ◌∙◌}
use Rattle.json.specs.Token.{Token, begin_object, end_object, key, string, number}
use Rattle.json.specs.Print.{print}
use Rattle.record_seal.specs.Assertion.{assertion}
use Rattle.record_seal.proofs.asserted.assertion.Goals as goal

pub returns : goal.returns
unfolding assertion
returns c =
    let name = λ (word : List ℕ) (ts : List Token). ts ++ key word ∷ [] in
    let said = λ (ts : List Token) (text : List ℕ). ts ++ string text ∷ [] in
    let opened = c.in_ok-begin_object.ensures.ok ∙ ap (λ (ts : List Token). ts ++ begin_object ∷ []) c.new-writer.ensures.tokens in
    let id = c.in_ok-string.ensures.ok ∙ ap₂ said (c.in_ok-key.ensures.ok ∙ ap (name (codes "id")) opened) c.printed_id.ensures in
    let idx = c.in_ok-u64.ensures.ok
    ∙ ap (λ (ts : List Token). ts ++ number (decimal c.args.idx) ∷ []) (c.in_ok-key-2.ensures.ok ∙ ap (name (codes "idx")) id) in
    let version = c.in_ok-string-2.ensures.ok ∙ ap₂ said (c.in_ok-key-3.ensures.ok ∙ ap (name (codes "version")) idx) c.text_str.ensures in
    let tag = c.in_ok-string-3.ensures.ok ∙ ap₂ said (c.in_ok-key-4.ensures.ok ∙ ap (name (codes "tag")) version) c.text_str-2.ensures in
    let host = c.in_ok-string-4.ensures.ok ∙ ap₂ said (c.in_ok-key-5.ensures.ok ∙ ap (name (codes "host")) tag) c.printed_id-2.ensures in
    let all = c.in_ok-end_object.ensures.ok ∙ ap (λ (ts : List Token). ts ++ end_object ∷ []) host in
    let before = c.in_ok-end_object.ensures.room.0 ∙ c.in_ok-string-4.ensures.room.0 ∙ c.in_ok-key-5.ensures.room.0
    ∙ c.in_ok-string-3.ensures.room.0 ∙ c.in_ok-key-4.ensures.room.0 ∙ c.in_ok-string-2.ensures.room.0 ∙ c.in_ok-key-3.ensures.room.0
    ∙ c.in_ok-u64.ensures.room.0 ∙ c.in_ok-key-2.ensures.room.0 ∙ c.in_ok-string.ensures.room.0 ∙ c.in_ok-key.ensures.room.0
    ∙ c.in_ok-begin_object.ensures.room.0 ∙ c.new-writer.ensures.before ∙ c.in_ok-with_capacity.ensures.items in
    c.into_inner.ensures.items ∙ ap₂ (λ (front : List ℕ) (ts : List Token). front ++ print ts) before all
