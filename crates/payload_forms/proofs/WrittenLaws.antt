-- How long what is written is, and what is written in two parts.
use Rattle.std.proofs.Common.{◌≡◌, ℕ, ◌+◌, List, ◌++◌, length, length-append, refl, sym, ap, ap₂, ◌∙◌, append_assoc, arith}
use Rattle.definitions.specs.Ids.{id_text}
use Rattle.definitions.specs.Journal.{HistoryRecord}
use Rattle.definitions.specs.Spelling.{text_head, shortest_text, written_text, written_integer}
use Rattle.definitions.proofs.Ids.{id_text-length}
use Rattle.payload_rules.specs.Payloads.{written_u8, written_u64, written_told, written_payload}
use Rattle.payload_forms.specs.declared.kinds.Payload.{Payload}
use Rattle.payload_forms.specs.declared.kinds.Payload.TheVariants as payloads
use Rattle.payload_forms.specs.Seen.{payload_seen}
use Rattle.payload_forms.specs.Writing.{told_numbers, told_texts}

id_length : (id : ℕ) → length (written_text (id_text id)) ≡ 34
id_length id =
    length-append (text_head (shortest_text (length (id_text id))) (length (id_text id))) (id_text id)
    ∙ ap (λ (n : ℕ). length (text_head (shortest_text n) n) + n) (id_text-length id)

pub deletion_length : (p : Payload) (id : ℕ) → p ≡ payloads.HistoryDelete id → 36 ≡ length (written_payload (payload_seen p))
deletion_length p id is = sym (ap (λ (q : Payload). length (written_payload (payload_seen q))) is ∙ length-append (written_u8 1) (written_text (id_text id)) ∙ ap (λ (n : ℕ). 2 + n) (id_length id))

pub numbers_length : (h : HistoryRecord) (x y : ℕ) → x ≡ length (written_integer h.duration) → y ≡ length (written_integer h.exit) → 43 + x + y ≡ length (told_numbers h)
unfolding told_numbers
numbers_length h x y is_x is_y =
    let id = length-append (written_text (id_text h.id)) (written_u64 h.timestamp ++ (written_integer h.duration ++ written_integer h.exit)) in
    let time = length-append (written_u64 h.timestamp) (written_integer h.duration ++ written_integer h.exit) in
    let both = length-append (written_integer h.duration) (written_integer h.exit) in
    let wide : length (written_u64 h.timestamp) ≡ 9 = refl in
    omega (arith, id, time, both, wide, id_length h.id, is_x, is_y)

pub four_parts : (a b c d e p q r s : List ℕ) → b ≡ a ++ p → c ≡ b ++ q → d ≡ c ++ r → e ≡ d ++ s → e ≡ a ++ (p ++ (q ++ (r ++ s)))
four_parts a b c d e p q r s is_b is_c is_d is_e =
    is_e ∙ ap (λ (l : List ℕ). l ++ s) (is_d ∙ ap (λ (l : List ℕ). l ++ r) (is_c ∙ ap (λ (l : List ℕ). l ++ q) is_b)) ∙ simp append_assoc

pub numbers_put : (h : HistoryRecord) (a b c d e : List ℕ) → b ≡ a ++ written_text (id_text h.id) → c ≡ b ++ written_u64 h.timestamp → d ≡ c ++ written_integer h.duration → e ≡ d ++ written_integer h.exit → e ≡ a ++ told_numbers h
unfolding told_numbers
numbers_put h a b c d e = four_parts a b c d e (written_text (id_text h.id)) (written_u64 h.timestamp) (written_integer h.duration) (written_integer h.exit)

told_is : (h : HistoryRecord) → told_numbers h ++ told_texts h ≡ written_told h
unfolding told_numbers told_texts
told_is h = simp append_assoc

pub told_in_parts : (h : HistoryRecord) (before middle after : List ℕ) → middle ≡ before ++ told_numbers h → after ≡ middle ++ told_texts h → after ≡ before ++ written_told h
told_in_parts h before middle after numbers texts =
    texts ∙ ap (λ (l : List ℕ). l ++ told_texts h) numbers ∙ append_assoc before (told_numbers h) (told_texts h) ∙ ap (λ (l : List ℕ). before ++ l) (told_is h)

pub told_length : (h : HistoryRecord) (x y : ℕ) → x ≡ length (told_numbers h) → y ≡ length (told_texts h) → x + y ≡ length (written_told h)
told_length h x y is_x is_y = ap₂ (λ (a b : ℕ). a + b) is_x is_y ∙ sym (length-append (told_numbers h) (told_texts h)) ∙ ap length (told_is h)
