-- Fields of a name, one more at a time.
use Rattle.std.proofs.Common.{◌≡◌, ℕ, ◌+◌, ◌<◌, ◌≤◌, Bool, true, false, cond, ◌||◌, List, [], ◌∷◌, ◌++◌, length, get_or, take, map, refl, sym, ap, ap₂, subst, ◌∙◌, arith, append-nil, ◌↔◌, IsTrue, Option, Some, None, codes, filter, bytes_eq, add-one, take-suc, length-append, ◌==◌, Bor}
use Rattle.std.proofs.lemmas.Bool.Decides.{same_from_decides}
use Rattle.std.proofs.lemmas.Slice.Eq.{bytes_eq-Decides}
use Rattle.std.proofs.lemmas.List.{map-append, get_or-map, length-map}
use Rattle.std.proofs.lemmas.List.Elements.{filter-append}
use Rattle.std.proofs.lemmas.List.Folds.{list_any_at, list_any-append}
use Rattle.httparse.specs.declared.spans.HeaderSpan.{HeaderSpan}
use Rattle.httparse.specs.Spans.{header_bytes}
use Rattle.std.specs.Str.{is_utf8}
use Rattle.std.proofs.Math.Dec.{eqb-suc-zero}
use Rattle.http_wire.specs.Fields.{FieldSeen, is_named, value_of, values_of, closes, says_close, only_text, only_length, length_told}
use Rattle.http_wire.specs.Occurring.{IsOccurrence}
use Rattle.http_wire.specs.declared.fields.Occurs.{Occurs}
use Rattle.http_wire.specs.declared.fields.Occurs.TheVariants.{Never, Once, Often}

-- a test that is true exactly where two texts are one is their comparison
pub compared : (b : Bool) (xs ys : List ℕ) → (IsTrue b ↔ (xs ≡ ys)) → b ≡ bytes_eq xs ys
compared b xs ys tells = same_from_decides b (bytes_eq xs ys) tells (bytes_eq-Decides xs ys)

pub map_more : {X Y : Type 0} (f : X → Y) (xs : List X) (i : ℕ) (d : X) → i < length xs → map f (take (i + 1) xs) ≡ map f (take i xs) ++ f (get_or xs i d) ∷ []
map_more f xs i d inside =
    ap (λ (n : ℕ). map f (take n xs)) (add-one i) ∙ ap (map f) (take-suc xs i d inside) ∙ map-append f (take i xs) (get_or xs i d ∷ [])

values-append : (name : List ℕ) (xs ys : List FieldSeen) → values_of name (xs ++ ys) ≡ values_of name xs ++ values_of name ys
values-append name xs ys = ap (map value_of) (filter-append (is_named name) xs ys) ∙ map-append value_of (filter (is_named name) xs) (filter (is_named name) ys)

values_named : (name : List ℕ) (f : FieldSeen) → is_named name f ≡ true → values_of name (f ∷ []) ≡ f.1 ∷ []
values_named name f is = ap (λ (b : Bool). map value_of (cond b (f ∷ []) [])) is

values_other : (name : List ℕ) (f : FieldSeen) → is_named name f ≡ false → values_of name (f ∷ []) ≡ []
values_other name f is = ap (λ (b : Bool). map value_of (cond b (f ∷ []) [])) is

-- the item that a slice of places has past its end
abbrev pub no_span : HeaderSpan
no_span = record { name = record { start = 0; end = 0 }; value = record { start = 0; end = 0 } }

module _ (head name : List ℕ) (spans : List HeaderSpan) (i : ℕ) (d : HeaderSpan) (inside : i < length spans) where
  abbrev before : List FieldSeen
  before = map (header_bytes head) (take i spans)

  abbrev after : List FieldSeen
  after = map (header_bytes head) (take (i + 1) spans)

  abbrev this : FieldSeen
  this = header_bytes head (get_or spans i d)

  values_more : values_of name after ≡ values_of name before ++ values_of name (this ∷ [])
  values_more = ap (values_of name) (map_more (header_bytes head) spans i d inside) ∙ values-append name before (this ∷ [])

  pub one_more : is_named name this ≡ true → values_of name after ≡ values_of name before ++ this.1 ∷ []
  one_more is = values_more ∙ ap (λ (l : List (List ℕ)). values_of name before ++ l) (values_named name this is)

  pub none_more : is_named name this ≡ false → values_of name after ≡ values_of name before
  none_more is = values_more ∙ ap (λ (l : List (List ℕ)). values_of name before ++ l) (values_other name this is) ∙ append-nil (values_of name before)

  pub close_found : closes this ≡ true → says_close (map (header_bytes head) spans) ≡ true
  close_found is =
      let all = map (header_bytes head) spans in
      let at : get_or all i (header_bytes head d) ≡ this = get_or-map (header_bytes head) spans i d (header_bytes head d) inside in
      let fits = length-map spans (header_bytes head) in
      list_any_at closes all i (header_bytes head d) (omega (arith, inside, fits)) (ap closes at ∙ is)

  pub no_close_more : closes this ≡ false → says_close before ≡ false → says_close after ≡ false
  no_close_more is none =
      ap says_close (map_more (header_bytes head) spans i d inside) ∙ list_any-append closes before (this ∷ [])
      ∙ ap₂ (λ (a b : Bool). a || (b || false)) none is

  pub occurs_first : (found now : Occurs) (value : Bor (List ℕ)) → is_named name this ≡ true → IsOccurrence head name before found → found ≡ Never → now ≡ Once value → value.now ≡ this.1 → length value.now ≤ length head → IsOccurrence head name after now
  occurs_first found now value is at was now_is same short =
      let none : values_of name before ≡ [] = subst (IsOccurrence head name before) was at in
      subst (IsOccurrence head name after) (sym now_is) (one_more is ∙ ap₂ (λ (l : List (List ℕ)) (v : List ℕ). l ++ v ∷ []) none (sym same), short)

  pub occurs_again : (found now : Occurs) → is_named name this ≡ true → IsOccurrence head name before found → (found ≡ Never → ⊥) → now ≡ Often → IsOccurrence head name after now
  occurs_again found now is at was now_is = subst (IsOccurrence head name after) (sym now_is) (by found at was)
    where
      by : (o : Occurs) → IsOccurrence head name before o → (o ≡ Never → ⊥) → 1 < length (values_of name after)
      by Never at was = absurd (was refl)
      by (Once value) at was =
          let long = ap length (one_more is) ∙ length-append (values_of name before) (this.1 ∷ []) in let one = ap length at.0 in omega (arith, long, one)
      by Often at was =
          let long = ap length (one_more is) ∙ length-append (values_of name before) (this.1 ∷ []) in omega (arith, long, at)

  pub occurs_other : (found now : Occurs) → is_named name this ≡ false → IsOccurrence head name before found → now ≡ found → IsOccurrence head name after now
  occurs_other found now is at same = subst (IsOccurrence head name after) (sym same) (by found at)
    where
      by : (o : Occurs) → IsOccurrence head name before o → IsOccurrence head name after o
      by Never at = none_more is ∙ at
      by (Once value) at = (none_more is ∙ at.0, at.1)
      by Often at = let same = ap length (none_more is) in omega (arith, same, at)

-- ---- what the values tell

pub one_text : (values : List (List ℕ)) (value : List ℕ) → values ≡ value ∷ [] → is_utf8 value ≡ true → Some value ≡ only_text values
one_text values value is text = sym (ap only_text is ∙ ap (λ (b : Bool). cond b (Some value) None) text)

pub no_text : (values : List (List ℕ)) (value : List ℕ) → values ≡ value ∷ [] → is_utf8 value ≡ false → None ≡ only_text values
no_text values value is other = sym (ap only_text is ∙ ap (λ (b : Bool). cond b (Some value) None) other)

pub no_only : (head name : List ℕ) (fields : List FieldSeen) (o : Occurs) → IsOccurrence head name fields o → ((value : Bor (List ℕ)) → o ≡ Once value → ⊥) → None ≡ only_text (values_of name fields)
no_only head name fields Never at other = sym (ap only_text at)
no_only head name fields (Once value) at other = absurd (other value refl)
no_only head name fields Often at other = several (values_of name fields) at
  where
    several : (values : List (List ℕ)) → 1 < length values → None ≡ only_text values
    several [] long = absurd (omega (arith, long))
    several (v ∷ []) long = absurd (omega (arith, long))
    several (v ∷ w ∷ values) long = refl

pub several_lengths : (without : Option ℕ) (values : List (List ℕ)) → 1 < length values → only_length without values ≡ None
several_lengths without [] long = absurd (omega (arith, long))
several_lengths without (v ∷ []) long = absurd (omega (arith, long))
several_lengths without (v ∷ w ∷ values) long = refl

pub no_coding : (without : Option ℕ) (fields : List FieldSeen) → values_of (codes "transfer-encoding") fields ≡ [] → length_told without fields ≡ only_length without (values_of (codes "content-length") fields)
no_coding without fields none = ap (λ (l : List (List ℕ)). cond (length l == 0) (only_length without (values_of (codes "content-length") fields)) None) none

pub coding : (head : List ℕ) (without : Option ℕ) (fields : List FieldSeen) (o : Occurs) → IsOccurrence head (codes "transfer-encoding") fields o → (o ≡ Never → ⊥) → length_told without fields ≡ None
coding head without fields o at other = ap (λ (b : Bool). cond b (only_length without (values_of (codes "content-length") fields)) None) (some (values_of (codes "transfer-encoding") fields) (by o at other))
  where
    by : (o : Occurs) → IsOccurrence head (codes "transfer-encoding") fields o → (o ≡ Never → ⊥) → 0 < length (values_of (codes "transfer-encoding") fields)
    by Never at other = absurd (other refl)
    by (Once value) at other = let one = ap length at.0 in omega (arith, one)
    by Often at other = omega (arith, at)

    some : (values : List (List ℕ)) → 0 < length values → (length values == 0) ≡ false
    some [] above = absurd (omega (arith, above))
    some (v ∷ values) above = eqb-suc-zero (length values)
