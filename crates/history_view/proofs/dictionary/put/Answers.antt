use Rattle.std.proofs.Common.{◌≡◌, ◌⊎◌, ℕ, ◌+◌, ◌≤◌, ◌<◌, List, map, length, get_or, Some, Vec, Global, nat_eq, ap, sym, subst, ◌∙◌, arith}
use Rattle.std.proofs.lemmas.List.{length-map}
use Rattle.std.specs.Prelude.{◌/◌}
use Rattle.std.specs.Char.{to_ascii_lowercase}
use Rattle.std.specs.Cmp.Lexicographic.{pointwise}
use Rattle.history_view.specs.Folded.{blocks_seen, starts_seen, block_of, StandsFrom}
use Rattle.history_view.proofs.Texts.{put_keeps, put_names}
use Rattle.history_view.proofs.Folding.{still_stand, still_folded, put_folded}
use Rattle.history_view.proofs.dictionary.put.Goals as goal
use Rattle.history_view.proofs.dictionary.put.Goals.{in-Ok, in-Err}

same_below : (keys : List (Vec ℕ Global)) (starts now : List ℕ) (count : ℕ) → count ≡ length keys → ((n : ℕ) → n < count → get_or now n 0 ≡ get_or starts n 0) → (n : ℕ) → n < length (map (λ (t : Vec ℕ Global). t.items) keys) → get_or now n 0 ≡ get_or starts n 0
same_below keys starts now count is same n below = let many = length-map keys (λ (t : Vec ℕ Global). t.items) in same n (omega (arith, is, many, below))

pub returns-clause-keeps : goal.returns-clause-keeps
returns-clause-keeps c = put_keeps (λ (t : Vec ℕ Global). t.items) (λ (x y : Vec ℕ Global). pointwise nat_eq x.items y.items) c.insert_full.result c.args.texts.now.keys c.insert_full.new.self.keys c.in_ok-owned.owned c.insert_full.ensures.keys c.insert_full.ensures.err

pub returns-clause-named : goal.returns-clause-named
returns-clause-named c = elim c.match-insert_full.branch [
  | in-Ok w ↦
      let e = w.in-Ok.ensures.stored in
      rw w.result-is (put_names (λ (t : Vec ℕ Global). t.items) (λ (x y : Vec ℕ Global). pointwise nat_eq x.items y.items) c.insert_full.new.self.keys w.in-Ok.place c.in_ok-owned.owned.items e.0 e.1 e.2 ∙ ap Some c.in_ok-owned.ensures.items)
  | in-Err w ↦ rw w.result-is tt
]

pub returns-clause-folded : goal.returns-clause-folded
returns-clause-folded c =
    let texts : List (List ℕ) = map (λ (t : Vec ℕ Global). t.items) c.args.texts.now.keys in
    let more : List (List ℕ) = blocks_seen c.add.new.self in
    let now : List ℕ = starts_seen c.add.new.self in
    let named = subst (λ (t : List ℕ). StandsFrom (map to_ascii_lowercase t) (block_of more c.len.result) (get_or now c.len.result 0)) (sym c.in_ok-owned.ensures.items) c.in_ok-add.ensures.holds in
    let holds = subst (λ (n : ℕ). StandsFrom (map to_ascii_lowercase c.in_ok-owned.owned.items) (block_of more n) (get_or now n 0)) c.len.ensures.len named in
    put_folded (λ (t : Vec ℕ Global). t.items) (λ (x y : Vec ℕ Global). pointwise nat_eq x.items y.items) c.insert_full.result c.args.texts.now.keys c.insert_full.new.self.keys c.in_ok-owned.owned (blocks_seen c.args.blocks.now) more
    (starts_seen c.args.blocks.now) now c.insert_full.ensures.keys c.insert_full.ensures.err
    (still_stand texts (blocks_seen c.args.blocks.now) more (starts_seen c.args.blocks.now) now c.requires c.add.ensures.keeps (same_below c.args.texts.now.keys (starts_seen c.args.blocks.now) now c.len.result c.len.ensures.len c.add.ensures.starts))
    holds (c.in_ok-add.ensures.reach ∙ ap (λ (n : ℕ). n / 64 + 1) c.len.ensures.len) (subst (λ (n : ℕ). n + 1 ≤ length now) c.len.ensures.len c.in_ok-add.ensures.started)

pub returns-in_err-add-clause-folded : goal.returns-in_err-add-clause-folded
returns-in_err-add-clause-folded c =
    let texts : List (List ℕ) = map (λ (t : Vec ℕ Global). t.items) c.args.texts.now.keys in
    let many = length-map c.args.texts.now.keys (λ (t : Vec ℕ Global). t.items) in
    let same : c.len.result ≡ length texts = c.len.ensures.len ∙ sym many in
    still_folded texts (blocks_seen c.args.blocks.now) (blocks_seen c.add.new.self) (starts_seen c.args.blocks.now) (starts_seen c.add.new.self) c.requires c.add.ensures.keeps
    (same_below c.args.texts.now.keys (starts_seen c.args.blocks.now) (starts_seen c.add.new.self) c.len.result c.len.ensures.len c.add.ensures.starts) c.add.ensures.longer
    (subst (λ (n : ℕ). (length (blocks_seen c.add.new.self) ≡ length (blocks_seen c.args.blocks.now)) ⊎ (length (blocks_seen c.add.new.self) ≡ n / 64 + 1)) same c.add.ensures.size)
