-- A hit, written in three parts.
use Rattle.std.proofs.Common.{◌≡◌, ℕ, List, ◌++◌, ap, ◌∙◌, append_assoc}
use Rattle.definitions.specs.Journal.{HistoryRecord}
use Rattle.definitions.specs.Replies.{hit_item}
use Rattle.daemon_wire.specs.Writing.{hit_head, hit_numbers, hit_texts}

hit_item_is : (h : HistoryRecord) (before : List ℕ) → ((before ++ hit_head h) ++ hit_numbers h) ++ hit_texts h ≡ before ++ hit_item h
unfolding hit_texts
hit_item_is h before = simp append_assoc

pub hit_in_parts : (h : HistoryRecord) (before headed numbered after : List ℕ) → headed ≡ before ++ hit_head h → numbered ≡ headed ++ hit_numbers h → after ≡ numbered ++ hit_texts h → after ≡ before ++ hit_item h
hit_in_parts h before headed numbered after head numbers texts =
    texts ∙ ap (λ (l : List ℕ). l ++ hit_texts h) (numbers ∙ ap (λ (l : List ℕ). l ++ hit_numbers h) head) ∙ hit_item_is h before
