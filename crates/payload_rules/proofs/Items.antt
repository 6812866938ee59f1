-- Each item is known by its first byte, no spelling begins another, and bins are read as they are spelled.
use Rattle.std.proofs.Common.{◌≡◌, ℕ, suc, ◌+◌, ◌-◌, ◌%◌, ◌^◌, ◌<◌, ◌≤◌, ℤ, pos, negsuc, Bool, true, false, cond, ltb, eqb, List, [], ◌∷◌, ◌++◌, length, take, drop, Some, None, refl, sym, ap, subst, ◌∙◌, append_assoc, length-append, arith}
use Rattle.std.specs.Int.{Width, w8, w16, w32, to_be_bytes}
use mir.Val.{bits}
use Rattle.std.proofs.lemmas.Bool.Decides.{nat_tests}
use Rattle.std.proofs.lemmas.Bool.{ltb-false, le-ltb, eqb-true}
use Rattle.std.proofs.lemmas.List.{take_at, drop_at, take-append-drop, length-take, append_cancel_left}
use Rattle.std.proofs.lemmas.Option.{same_Some}
use Rattle.definitions.specs.Spelling.{IsBytes, IntegerForm, positive_fixint, negative_fixint, uint_8, uint_16, uint_32, uint_64, int_8, int_16, int_32, int_64, FitsInteger, integer_bytes, TextForm, fixstr, str_8, str_16, str_32, text_limit, text_head, ArrayForm, fixarray, array_16, array_32, array_limit, array_head}
use Rattle.definitions.specs.Reading.{wide_at}
use Rattle.definitions.proofs.Bytes.{IsBytes-drop, IsBytes-tail, Takes, Takes-then, Takes-behind, bind_some, when_false, ReadsSpellings, spellings_apart}
use Rattle.definitions.proofs.Spelling.{IsWide, wide8, wide16, wide32, wide_takes, wide_again, integers_apart, texts_apart, arrays_apart}
use Rattle.payload_rules.specs.Items.{BinForm, bin_8, bin_16, bin_32, bin_limit, bin_head, SpellsBin, Item, an_integer, a_text, an_array, a_bin, a_nil, SpellsItem, SpellsItems}
use Rattle.payload_rules.specs.Reading.{bin_head_at, bin_at}

-- ---- bins are read as they are spelled

bin_head_again : (form : BinForm) (n : ℕ) (rest : List ℕ) → n < bin_limit form → bin_head_at (bin_head form n ++ rest) ≡ Some (n, rest)
unfolding bin_head_at
bin_head_again bin_8 n rest lt = wide_again w8 wide8 n rest lt
bin_head_again bin_16 n rest lt = wide_again w16 wide16 n rest lt
bin_head_again bin_32 n rest lt = wide_again w32 wide32 n rest lt

pub bin_again : (held spelled rest : List ℕ) → SpellsBin held spelled → bin_at (spelled ++ rest) ≡ Some (held, rest)
unfolding bin_at
bin_again held spelled rest s =
    let regrouped : spelled ++ rest ≡ bin_head s.form (length held) ++ (held ++ rest) = ap (λ (x : List ℕ). x ++ rest) s.are ∙ append_assoc (bin_head s.form (length held)) held rest in
    let long : ltb (length (held ++ rest)) (length held) ≡ false = le-ltb _ _ (omega (arith, length-append held rest)) in
    ap bin_at regrouped ∙ rw (bin_head_again s.form (length held) (held ++ rest) s.fits, long, take_at held rest (length held) refl, drop_at held rest (length held) refl) refl

abbrev TakesBinHead : List ℕ → ℕ → List ℕ → Type 0
TakesBinHead bytes n rest = (form : BinForm) × ((n < bin_limit form) × Takes bytes (bin_head form n) rest)

by_test : {P : Type 0} (t : Bool) → (t ≡ true → P) → (t ≡ false → P) → P
by_test true f g = f refl
by_test false f g = g refl

wide_bin_taken : (form : BinForm) (b : ℕ) (bytes : List ℕ) (n : ℕ) (rest : List ℕ) (first : ℕ) (w : Width) → IsBytes bytes → IsWide w → 2 ^ bits w ≡ bin_limit form
    → bin_head form n ≡ first ∷ to_be_bytes w n → eqb b first ≡ true → wide_at w bytes ≡ Some (n, rest) → TakesBinHead (b ∷ bytes) n rest
wide_bin_taken form b bytes n rest first w are wide limit head is e =
    let t = wide_takes w wide bytes n rest are e in
    let behind : Takes (b ∷ bytes) (first ∷ to_be_bytes w n) rest = rw (eqb-true b first is) (Takes-behind first bytes (to_be_bytes w n) rest t.0) in
    (form, (rw (← limit) t.1, rw head behind))

bin_head_takes : (bytes : List ℕ) (n : ℕ) (rest : List ℕ) → IsBytes bytes → bin_head_at bytes ≡ Some (n, rest) → TakesBinHead bytes n rest
unfolding bin_head_at
bin_head_takes [] n rest are e = absurd cc
bin_head_takes (b ∷ bytes) n rest are e =
    let tail = IsBytes-tail b bytes are in
    by_test (eqb b 0xc4) (λ t. wide_bin_taken bin_8 b bytes n rest 0xc4 w8 tail wide8 refl refl t (rw t at e)) (λ f. let e1 = rw f at e in
    by_test (eqb b 0xc5) (λ t. wide_bin_taken bin_16 b bytes n rest 0xc5 w16 tail wide16 refl refl t (rw t at e1)) (λ f. let e2 = rw f at e1 in
    by_test (eqb b 0xc6) (λ t. wide_bin_taken bin_32 b bytes n rest 0xc6 w32 tail wide32 refl refl t (rw t at e2)) (λ f. absurd (let none = rw f at e2 in cc))))

bin_taken : (bytes : List ℕ) (n : ℕ) (after held rest : List ℕ) → TakesBinHead bytes n after → ltb (length after) n ≡ false
    → ◌≡◌ {A = List ℕ × List ℕ} (take n after, drop n after) (held, rest) → (spelled : List ℕ) × SpellsBin held spelled × Takes bytes spelled rest
bin_taken bytes n after held rest head long found =
    let enough : n ≤ length after = ltb-false _ _ long in
    let len : length (take n after) ≡ n = omega (arith, length-take n after) in
    let fits : length (take n after) < bin_limit head.0 = rw len head.1.0 in
    let spelled : List ℕ = bin_head head.0 (length (take n after)) ++ take n after in
    let second : Takes after (take n after) (drop n after) = record { parts = sym (take-append-drop n after); rest_is_bytes = IsBytes-drop n after head.1.1.rest_is_bytes } in
    let both = Takes-then bytes (bin_head head.0 n) after (take n after) (drop n after) head.1.1 second in
    let whole : Takes bytes spelled (drop n after) = subst (λ (k : ℕ). Takes bytes (bin_head head.0 k ++ take n after) (drop n after)) (sym len) both in
    let spells : SpellsBin (take n after) spelled = record { form = head.0; fits = fits; are = refl } in
    subst (λ (x : List ℕ × List ℕ). (s : List ℕ) × SpellsBin x.0 s × Takes bytes s x.1) found (spelled, spells, whole)

pub bin_takes : (bytes held rest : List ℕ) → IsBytes bytes → bin_at bytes ≡ Some (held, rest) → (spelled : List ℕ) × SpellsBin held spelled × Takes bytes spelled rest
unfolding bin_at
bin_takes bytes held rest are e =
    let b = bind_some (bin_head_at bytes) (λ n. cond (ltb (length n.1) n.0) None (Some (take n.0 n.1, drop n.0 n.1))) (held, rest) e in
    let n = b.0.0 in
    let after = b.0.1 in
    let longer = when_false (ltb (length after) n) (held, rest) (Some (take n after, drop n after)) b.2 in
    bin_taken bytes n after held rest (bin_head_takes bytes n after are b.1) longer.0 (same_Some (take n after, drop n after) (held, rest) longer.1)

pub bins_read : ReadsSpellings {A = List ℕ} bin_at SpellsBin
bins_read = record { takes = bin_takes; again = bin_again }

pub bins_apart : (a b x y v w : List ℕ) → SpellsBin v a → SpellsBin w b → a ++ x ≡ b ++ y → (a ≡ b) × (v ≡ w)
bins_apart = spellings_apart (List ℕ) bin_at SpellsBin bins_read

-- ---- the first byte of an item tells its kind

abbrev kind : Item → ℕ
kind (an_integer z) = 0
kind (a_text text) = 1
kind (an_array n) = 2
kind (a_bin held) = 3
kind a_nil = 4

abbrev kind_at : ℕ → ℕ
kind_at b = cond (ltb b 0x80) 0 (cond (ltb b 0xa0) 2 (cond (ltb b 0xc0) 1 (cond (ltb b 0xc4) 4 (cond (ltb b 0xcc) 3 (cond (ltb b 0xd9) 0 (cond (ltb b 0xdc) 1 (cond (ltb b 0xe0) 2 0)))))))

pub record Begins (item : Item) (bytes : List ℕ) : Type 0 where
  pub first : ℕ
  pub rest : List ℕ
  pub parts : bytes ≡ first ∷ rest
  pub tells : kind_at first ≡ kind item

integer_begins : (form : IntegerForm) (z : ℤ) → FitsInteger form z → Begins (an_integer z) (integer_bytes form z)
integer_begins positive_fixint (pos n) lt = record { first = n % 256; rest = []; parts = refl; tells = let low : n % 256 < 128 = omega arith in grind (arith, nat_tests) }
integer_begins positive_fixint (negsuc n) lt = absurd lt
integer_begins negative_fixint (pos n) lt = absurd lt
integer_begins negative_fixint (negsuc n) lt = record { first = (256 - suc n) % 256; rest = []; parts = refl; tells = let high : 224 ≤ (256 - suc n) % 256 = omega arith in grind (arith, nat_tests) }
integer_begins uint_8 z fits = record { first = 0xcc; rest = _; parts = refl; tells = refl }
integer_begins uint_16 z fits = record { first = 0xcd; rest = _; parts = refl; tells = refl }
integer_begins uint_32 z fits = record { first = 0xce; rest = _; parts = refl; tells = refl }
integer_begins uint_64 z fits = record { first = 0xcf; rest = _; parts = refl; tells = refl }
integer_begins int_8 z fits = record { first = 0xd0; rest = _; parts = refl; tells = refl }
integer_begins int_16 z fits = record { first = 0xd1; rest = _; parts = refl; tells = refl }
integer_begins int_32 z fits = record { first = 0xd2; rest = _; parts = refl; tells = refl }
integer_begins int_64 z fits = record { first = 0xd3; rest = _; parts = refl; tells = refl }

fixstr_kind : (n : ℕ) → n < 32 → kind_at (0xa0 + n) ≡ 1
fixstr_kind n lt = grind (arith, nat_tests)

text_begins : (form : TextForm) (n : ℕ) (text : List ℕ) → n < text_limit form → Begins (a_text text) (text_head form n ++ text)
text_begins fixstr n text lt = record { first = 0xa0 + n; rest = text; parts = refl; tells = fixstr_kind n lt }
text_begins str_8 n text lt = record { first = 0xd9; rest = _; parts = refl; tells = refl }
text_begins str_16 n text lt = record { first = 0xda; rest = _; parts = refl; tells = refl }
text_begins str_32 n text lt = record { first = 0xdb; rest = _; parts = refl; tells = refl }

fixarray_kind : (n : ℕ) → n < 16 → kind_at (0x90 + n) ≡ 2
fixarray_kind n lt = grind (arith, nat_tests)

array_begins : (form : ArrayForm) (n : ℕ) → n < array_limit form → Begins (an_array n) (array_head form n)
array_begins fixarray n lt = record { first = 0x90 + n; rest = []; parts = refl; tells = fixarray_kind n lt }
array_begins array_16 n lt = record { first = 0xdc; rest = _; parts = refl; tells = refl }
array_begins array_32 n lt = record { first = 0xdd; rest = _; parts = refl; tells = refl }

bin_begins : (form : BinForm) (n : ℕ) (held : List ℕ) → Begins (a_bin held) (bin_head form n ++ held)
bin_begins bin_8 n held = record { first = 0xc4; rest = _; parts = refl; tells = refl }
bin_begins bin_16 n held = record { first = 0xc5; rest = _; parts = refl; tells = refl }
bin_begins bin_32 n held = record { first = 0xc6; rest = _; parts = refl; tells = refl }

pub item_begins : (item : Item) (bytes : List ℕ) → SpellsItem item bytes → Begins item bytes
item_begins (an_integer z) bytes s = subst (Begins (an_integer z)) (sym s.2) (integer_begins s.0 z s.1)
item_begins (a_text text) bytes s = subst (Begins (a_text text)) (sym s.are) (text_begins s.form (length text) text s.fits)
item_begins (an_array n) bytes s = subst (Begins (an_array n)) (sym s.2) (array_begins s.0 n s.1)
item_begins (a_bin held) bytes s = subst (Begins (a_bin held)) (sym s.are) (bin_begins s.form (length held) held)
item_begins a_nil bytes s = record { first = 0xc0; rest = []; parts = s; tells = refl }

same_kind : (i j : Item) (a b x y : List ℕ) → Begins i a → Begins j b → a ++ x ≡ b ++ y → kind i ≡ kind j
same_kind i j a b x y p q e =
    let fronts : p.first ∷ (p.rest ++ x) ≡ q.first ∷ (q.rest ++ y) = ap (λ (l : List ℕ). l ++ x) (sym p.parts) ∙ e ∙ ap (λ (l : List ℕ). l ++ y) q.parts in
    let one : p.first ≡ q.first = cc in
    sym p.tells ∙ ap kind_at one ∙ q.tells

-- ---- one item stands at the front of bytes

of_one_kind : (i j : Item) (a b x y : List ℕ) → kind i ≡ kind j → SpellsItem i a → SpellsItem j b → a ++ x ≡ b ++ y → (a ≡ b) × (i ≡ j)
of_one_kind (an_integer v) (an_integer w) a b x y same s t e = let h = integers_apart a b x y v w s t e in (h.0, ap an_integer h.1)
of_one_kind (a_text v) (a_text w) a b x y same s t e = let h = texts_apart a b x y v w s t e in (h.0, ap a_text h.1)
of_one_kind (an_array v) (an_array w) a b x y same s t e = let h = arrays_apart a b x y v w s t e in (h.0, ap an_array h.1)
of_one_kind (a_bin v) (a_bin w) a b x y same s t e = let h = bins_apart a b x y v w s t e in (h.0, ap a_bin h.1)
of_one_kind a_nil a_nil a b x y same s t e = (s ∙ sym t, refl)
of_one_kind _ _ a b x y same s t e = absurd (omega arith)

pub one_item : (a b x y : List ℕ) (i j : Item) → SpellsItem i a → SpellsItem j b → a ++ x ≡ b ++ y → (a ≡ b) × (i ≡ j)
one_item a b x y i j s t e = of_one_kind i j a b x y (same_kind i j a b x y (item_begins i a s) (item_begins j b t) e) s t e

-- ---- items one behind the other

regroup : (whole first rest x : List ℕ) → whole ≡ first ++ rest → whole ++ x ≡ first ++ (rest ++ x)
regroup whole first rest x e = ap (λ (l : List ℕ). l ++ x) e ∙ append_assoc first rest x

-- the first items agree, and what stands behind them
firsts : (i j : Item) (is js : List Item) (a b x y : List ℕ) (s : SpellsItems (i ∷ is) a) (t : SpellsItems (j ∷ js) b) → a ++ x ≡ b ++ y → (s.0 ≡ t.0) × (i ≡ j) × (s.1 ++ x ≡ t.1 ++ y)
firsts i j is js a b x y s t e =
    let both : s.0 ++ (s.1 ++ x) ≡ t.0 ++ (t.1 ++ y) = sym (regroup a s.0 s.1 x s.4) ∙ e ∙ regroup b t.0 t.1 y t.4 in
    let h = one_item s.0 t.0 (s.1 ++ x) (t.1 ++ y) i j s.2 t.2 both in
    (h.0, h.1, append_cancel_left t.0 (s.1 ++ x) (t.1 ++ y) (ap (λ (l : List ℕ). l ++ (s.1 ++ x)) (sym h.0) ∙ both))

pub first_items : (i j : Item) (is js : List Item) (a b x y : List ℕ) → SpellsItems (i ∷ is) a → SpellsItems (j ∷ js) b → a ++ x ≡ b ++ y → i ≡ j
first_items i j is js a b x y s t e = (firsts i j is js a b x y s t e).1

-- as many items are the same, in the same bytes
pub all_items : (is js : List Item) (a b x y : List ℕ) → length is ≡ length js → SpellsItems is a → SpellsItems js b → a ++ x ≡ b ++ y → (a ≡ b) × (is ≡ js)
all_items [] [] a b x y len s t e = (s ∙ sym t, refl)
all_items [] (j ∷ js) a b x y len s t e = absurd (omega arith)
all_items (i ∷ is) [] a b x y len s t e = absurd (omega arith)
all_items (i ∷ is) (j ∷ js) a b x y len s t e =
    let f = firsts i j is js a b x y s t e in
    let more = all_items is js s.1 t.1 x y (omega arith) s.3 t.3 f.2 in
    let bytes : a ≡ b = s.4 ∙ ap (λ (l : List ℕ). l ++ s.1) f.0 ∙ ap (λ (l : List ℕ). t.0 ++ l) more.0 ∙ sym t.4 in
    let items : i ∷ is ≡ j ∷ js = ap (λ (k : Item). k ∷ is) f.1 ∙ ap (λ (l : List Item). j ∷ l) more.1 in
    (bytes, items)
