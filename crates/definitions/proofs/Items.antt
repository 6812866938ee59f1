-- Items that must pass a test, the arguments of a call among them: each is read exactly where it is spelled.
use Rattle.std.proofs.Common.{◌≡◌, ℕ, ◌^◌, ℤ, pos, negsuc, FitsSigned, Bool, true, false, ◌&&◌, cond, leb, eqb, List, [], ◌∷◌, ◌++◌, length, Option, Some, None, Result, Ok, Err, refl, sym, ap, subst, ◌∙◌, append_assoc, arith, inl, inr, ◌⊎◌}
use Rattle.std.specs.Int.{w64}
use Rattle.std.proofs.lemmas.Bool.{lt-ltb, ltb-true, leb-true, le-leb, eqb-true}
use Rattle.definitions.specs.Spelling.{IsBytes, SpellsInteger, SpellsText}
use Rattle.definitions.specs.Calls.{Argument, a_text, an_integer, SpellsArgument, Kind, any_text, empty_text, id_digits, signed_64, from_to, IsOfKind, SpellsArguments, NoPrefix, IsArgument}
use Rattle.definitions.specs.Reading.{◌>=>◌, item_at, text_at, integer_at, is_id_text, fits_64, is_from_to, text_argument, integer_argument, argument_at, arguments_at, id_value}
use Rattle.definitions.proofs.Bytes.{Takes, Takes-then, ReadsSpellings}
use Rattle.definitions.proofs.Spelling.{integers_read, texts_read}
use Rattle.definitions.proofs.Ids.{is_id_text-found, is_id_text-id_text}

-- ---- steps of reading

pub bind_ok : {A B : Type 0} (r : Result A ℕ) (f : A → Result B ℕ) (y : B) → (r >=> f) ≡ Ok y → (x : A) × (r ≡ Ok x) × (f x ≡ Ok y)
bind_ok (Ok x) f y e = (x, refl, e)
bind_ok (Err left) f y e = absurd cc

pub bind_err : {A B : Type 0} (r : Result A ℕ) (f : A → Result B ℕ) (left : ℕ) → (r >=> f) ≡ Err left → (r ≡ Err left) ⊎ ((x : A) × (r ≡ Ok x) × (f x ≡ Err left))
bind_err (Ok x) f left e = inr (x, refl, e)
bind_err (Err n) f left e = inl cc

abbrev pub read_ok : {A : Type 0} → A → Result A ℕ
read_ok x = Ok x

pub same_Ok : {A : Type 0} (x y : A) → read_ok x ≡ read_ok y → x ≡ y
same_Ok x y e = cc

-- a test that an item has to pass
pub when_ok : {A : Type 0} (t : Bool) (y x : A) (left : ℕ) → cond t (read_ok y) (Err left) ≡ Ok x → (t ≡ true) × (y ≡ x)
when_ok true y x left e = (refl, cc)
when_ok false y x left e = absurd cc

pub when_err : {A : Type 0} (t : Bool) (y : A) (n left : ℕ) → cond t (read_ok y) (Err n) ≡ Err left → (t ≡ false) × (n ≡ left)
when_err true y n left e = absurd cc
when_err false y n left e = (refl, cc)

-- ---- items

-- read takes exactly the items that are spelled so, and says how many bytes were left where there is none
pub record ReadsItems {A : Type 0} (read : List ℕ → Result (A × List ℕ) ℕ) (Spells : A → List ℕ → Type 0) : Type 0 where
  pub takes : (bytes : List ℕ) (v : A) (rest : List ℕ) → IsBytes bytes → read bytes ≡ Ok (v, rest) → (spelled : List ℕ) × Spells v spelled × Takes bytes spelled rest
  pub again : (v : A) (spelled rest : List ℕ) → Spells v spelled → read (spelled ++ rest) ≡ Ok (v, rest)
  pub wrong : (bytes : List ℕ) (left : ℕ) → read bytes ≡ Err left → left ≡ length bytes

module _ (A : Type 0) (read : List ℕ → Result (A × List ℕ) ℕ) (Spells : A → List ℕ → Type 0) (reads : ReadsItems read Spells) where
  -- where none is read, none stands
  pub no_item_stands : (bytes : List ℕ) (left : ℕ) → read bytes ≡ Err left → NoPrefix (λ (item : List ℕ). (v : A) × Spells v item) bytes
  no_item_stands bytes left e front rest parts s =
      let found = reads.again s.0 front rest s.1 in
      let there = ap read parts in
      cc

  -- where none stands, none is read
  pub no_item_read : (bytes : List ℕ) → IsBytes bytes → NoPrefix (λ (item : List ℕ). (v : A) × Spells v item) bytes → read bytes ≡ Err (length bytes)
  no_item_read bytes are absent =
      let cases : (r : Result (A × List ℕ) ℕ) → read bytes ≡ r → r ≡ Err (length bytes) = λ r. elim r as (λ o. read bytes ≡ o → o ≡ Err (length bytes)) [
        | Ok x ↦ λ e. let t = reads.takes bytes x.0 x.1 are e in absurd (absent t.0 x.1 t.2.parts (x.0, t.1))
        | Err left ↦ λ e. ap (λ (n : ℕ). Err n) (reads.wrong bytes left e)
      ] in
      cases (read bytes) refl

item_ok : {A : Type 0} (o : Option (A × List ℕ)) (passes : A → Bool) (bytes : List ℕ) (v : A) (rest : List ℕ) → item_at o passes bytes ≡ Ok (v, rest) → (o ≡ Some (v, rest)) × (passes v ≡ true)
item_ok None passes bytes v rest e = absurd cc
item_ok {A} (Some y) passes bytes v rest e =
    let w = when_ok {A = A × List ℕ} (passes y.0) y (v, rest) (length bytes) e in
    (ap (λ (p : A × List ℕ). Some p) w.1, ap (λ (p : A × List ℕ). passes p.0) (sym w.1) ∙ w.0)

item_err : {A : Type 0} (o : Option (A × List ℕ)) (passes : A → Bool) (bytes : List ℕ) (left : ℕ) → item_at o passes bytes ≡ Err left → left ≡ length bytes
item_err None passes bytes left e = cc
item_err {A} (Some y) passes bytes left e = sym (when_err {A = A × List ℕ} (passes y.0) y (length bytes) left e).1

-- spellings whose value passes a test
pub tested_items : {A : Type 0} (read : List ℕ → Option (A × List ℕ)) (Spells : A → List ℕ → Type 0) (passes : A → Bool) → ReadsSpellings read Spells
    → ReadsItems (λ bytes. item_at (read bytes) passes bytes) (λ v item. (passes v ≡ true) × Spells v item)
tested_items read Spells passes reads = record {
  takes = λ bytes v rest are e. let o = item_ok (read bytes) passes bytes v rest e in let t = reads.takes bytes v rest are o.0 in (t.0, (o.1, t.1), t.2);
  again = λ v spelled rest s. rw (reads.again v spelled rest s.1, s.0) refl;
  wrong = λ bytes left e. item_err (read bytes) passes bytes left e;
}

-- their values under another name
mapped_items : {A B : Type 0} (read : List ℕ → Result (A × List ℕ) ℕ) (Spells : A → List ℕ → Type 0) (f : A → B) → ReadsItems read Spells
    → ReadsItems (λ bytes. read bytes >=> λ x. Ok (f x.0, x.1)) (λ b item. (v : A) × (b ≡ f v) × Spells v item)
mapped_items {A} {B} read Spells f reads = record {
  takes = λ bytes b rest are e.
      let x = bind_ok (read bytes) (λ (x : A × List ℕ). Ok (f x.0, x.1)) (b, rest) e in
      let same = same_Ok {A = B × List ℕ} (f x.0.0, x.0.1) (b, rest) x.2 in
      let t = reads.takes bytes x.0.0 x.0.1 are x.1 in
      (t.0, (x.0.0, sym (ap (λ (p : B × List ℕ). p.0) same), t.1), subst (λ (r : List ℕ). Takes bytes t.0 r) (ap (λ (p : B × List ℕ). p.1) same) t.2);
  again = λ b spelled rest s. rw (reads.again s.0 spelled rest s.2, s.1) refl;
  wrong = λ bytes left e. elim (bind_err (read bytes) (λ (x : A × List ℕ). Ok (f x.0, x.1)) left e) [
    | inl none ↦ reads.wrong bytes left none
    | inr x ↦ absurd (let never = x.2 in cc)
  ];
}

renamed_items : {A : Type 0} (read : List ℕ → Result (A × List ℕ) ℕ) (Spells Spelled : A → List ℕ → Type 0) → ((v : A) (item : List ℕ) → Spells v item → Spelled v item) → ((v : A) (item : List ℕ) → Spelled v item → Spells v item)
    → ReadsItems read Spells → ReadsItems read Spelled
renamed_items read Spells Spelled there back reads = record {
  takes = λ bytes v rest are e. let t = reads.takes bytes v rest are e in (t.0, there v t.0 t.1, t.2);
  again = λ v spelled rest s. reads.again v spelled rest (back v spelled s);
  wrong = reads.wrong;
}

-- ---- arguments

abbrev pub SpellsOfKind : Kind → Argument → List ℕ → Type 0
SpellsOfKind kind argument item = IsOfKind kind argument × SpellsArgument argument item

text_items : (kind : Kind) (passes : List ℕ → Bool) → ((text : List ℕ) → passes text ≡ true → IsOfKind kind (a_text text)) → ((text : List ℕ) → IsOfKind kind (a_text text) → passes text ≡ true)
    → ((z : ℤ) → IsOfKind kind (an_integer z) → ⊥) → ReadsItems (λ bytes. text_argument (item_at (text_at bytes) passes bytes)) (SpellsOfKind kind)
text_items kind passes good back none =
    renamed_items (λ bytes. text_argument (item_at (text_at bytes) passes bytes)) (λ a item. (v : List ℕ) × (a ≡ a_text v) × ((passes v ≡ true) × SpellsText v item)) (SpellsOfKind kind)
    (λ a item s. subst (λ (b : Argument). SpellsOfKind kind b item) (sym s.1) (good s.0 s.2.0, s.2.1)) back_to
    (mapped_items (λ bytes. item_at (text_at bytes) passes bytes) (λ v item. (passes v ≡ true) × SpellsText v item) a_text (tested_items text_at SpellsText passes texts_read))
  where
    back_to : (a : Argument) (item : List ℕ) → SpellsOfKind kind a item → (v : List ℕ) × (a ≡ a_text v) × ((passes v ≡ true) × SpellsText v item)
    back_to (a_text text) item s = (text, refl, (back text s.0, s.1))
    back_to (an_integer z) item s = absurd (none z s.0)

integer_items : (kind : Kind) (passes : ℤ → Bool) → ((z : ℤ) → passes z ≡ true → IsOfKind kind (an_integer z)) → ((z : ℤ) → IsOfKind kind (an_integer z) → passes z ≡ true)
    → ((text : List ℕ) → IsOfKind kind (a_text text) → ⊥) → ReadsItems (λ bytes. integer_argument (item_at (integer_at bytes) passes bytes)) (SpellsOfKind kind)
integer_items kind passes good back none =
    renamed_items (λ bytes. integer_argument (item_at (integer_at bytes) passes bytes)) (λ a item. (v : ℤ) × (a ≡ an_integer v) × ((passes v ≡ true) × SpellsInteger v item)) (SpellsOfKind kind)
    (λ a item s. subst (λ (b : Argument). SpellsOfKind kind b item) (sym s.1) (good s.0 s.2.0, s.2.1)) back_to
    (mapped_items (λ bytes. item_at (integer_at bytes) passes bytes) (λ v item. (passes v ≡ true) × SpellsInteger v item) an_integer (tested_items integer_at SpellsInteger passes integers_read))
  where
    back_to : (a : Argument) (item : List ℕ) → SpellsOfKind kind a item → (v : ℤ) × (a ≡ an_integer v) × ((passes v ≡ true) × SpellsInteger v item)
    back_to (an_integer z) item s = (z, refl, (back z s.0, s.1))
    back_to (a_text text) item s = absurd (none text s.0)

empty_text_is : (text : List ℕ) → eqb (length text) 0 ≡ true → text ≡ []
empty_text_is [] e = refl
empty_text_is (b ∷ text) e = absurd (let n = eqb-true (length (b ∷ text)) 0 e in omega arith)

pub fits_64-fits : (z : ℤ) → fits_64 z ≡ true → FitsSigned w64 z
fits_64-fits (pos n) e = record { sfits = ltb-true n (2 ^ 63) e }
fits_64-fits (negsuc n) e = record { sfits = ltb-true n (2 ^ 63) e }

pub fits-fits_64 : (z : ℤ) → FitsSigned w64 z → fits_64 z ≡ true
fits-fits_64 (pos n) f = lt-ltb n (2 ^ 63) f.sfits
fits-fits_64 (negsuc n) f = lt-ltb n (2 ^ 63) f.sfits

pub both_true : (a b : Bool) → (a && b) ≡ true → (a ≡ true) × (b ≡ true)
both_true true true e = (refl, refl)
both_true true false e = absurd cc
both_true false b e = absurd cc

from_to-within : (low high : ℕ) (z : ℤ) → is_from_to low high z ≡ true → IsOfKind (from_to low high) (an_integer z)
from_to-within low high (pos n) e = let b = both_true (leb low n) (leb n high) e in (leb-true low n b.0, leb-true n high b.1)
from_to-within low high (negsuc n) e = absurd cc

within-from_to : (low high : ℕ) (z : ℤ) → IsOfKind (from_to low high) (an_integer z) → is_from_to low high z ≡ true
within-from_to low high (pos n) w = rw (le-leb low n w.0, le-leb n high w.1) refl
within-from_to low high (negsuc n) w = absurd w

-- an argument of each kind is read exactly where it is spelled
pub argument_items : (kind : Kind) → ReadsItems (argument_at kind) (SpellsOfKind kind)
unfolding argument_at
argument_items any_text = text_items any_text (λ text. true) (λ text e. tt) (λ text w. refl) (λ z w. w)
argument_items empty_text = text_items empty_text (λ text. eqb (length text) 0) (λ text e. empty_text_is text e) (λ text w. ap (λ (t : List ℕ). eqb (length t) 0) w) (λ z w. w)
argument_items id_digits = text_items id_digits is_id_text (λ text e. let f = is_id_text-found text e in (id_value text, f.0, f.1)) (λ text w. ap is_id_text w.2 ∙ is_id_text-id_text w.0) (λ z w. w)
argument_items signed_64 = integer_items signed_64 fits_64 fits_64-fits fits-fits_64 (λ text w. w)
argument_items (from_to low high) = integer_items (from_to low high) (is_from_to low high) (from_to-within low high) (within-from_to low high) (λ text w. w)

-- ---- arguments one after another

pub arguments_taken : (all : List Kind) (bytes : List ℕ) (good : List Argument) (rest : List ℕ) → IsBytes bytes → arguments_at all bytes ≡ Ok (good, rest) → (spelled : List ℕ) × SpellsArguments all good spelled × Takes bytes spelled rest
unfolding arguments_at
arguments_taken [] bytes good rest are e =
    subst (λ (x : List Argument × List ℕ). (spelled : List ℕ) × SpellsArguments [] x.0 spelled × Takes bytes spelled x.1) (same_Ok {A = List Argument × List ℕ} ([], bytes) (good, rest) e) ([], refl, record { parts = refl; rest_is_bytes = are })
arguments_taken (kind ∷ others) bytes good rest are e =
    let first = bind_ok (argument_at kind bytes) (λ (first : Argument × List ℕ). arguments_at others first.1 >=> λ more. Ok (first.0 ∷ more.0, more.1)) (good, rest) e in
    let more = bind_ok (arguments_at others first.0.1) (λ (more : List Argument × List ℕ). Ok (first.0.0 ∷ more.0, more.1)) (good, rest) first.2 in
    let one = (argument_items kind).takes bytes first.0.0 first.0.1 are first.1 in
    let rest_of = arguments_taken others first.0.1 more.0.0 more.0.1 one.2.rest_is_bytes more.1 in
    subst (λ (x : List Argument × List ℕ). (spelled : List ℕ) × SpellsArguments (kind ∷ others) x.0 spelled × Takes bytes spelled x.1) (same_Ok {A = List Argument × List ℕ} (first.0.0 ∷ more.0.0, more.0.1) (good, rest) more.2)
    (one.0 ++ rest_of.0, (one.0, rest_of.0, one.1.0, one.1.1, rest_of.1, refl {a = one.0 ++ rest_of.0}), Takes-then bytes one.0 first.0.1 rest_of.0 more.0.1 one.2 rest_of.2)

pub arguments_again : (all : List Kind) (good : List Argument) (spelled rest : List ℕ) → SpellsArguments all good spelled → arguments_at all (spelled ++ rest) ≡ Ok (good, rest)
unfolding arguments_at
arguments_again [] [] spelled rest s = rw s refl
arguments_again (kind ∷ others) (argument ∷ more) spelled rest s =
    let parts : spelled ++ rest ≡ s.0 ++ (s.1 ++ rest) = ap (λ (x : List ℕ). x ++ rest) s.5 ∙ append_assoc s.0 s.1 rest in
    rw (parts, (argument_items kind).again argument s.0 (s.1 ++ rest) (s.2, s.3), arguments_again others more s.1 rest s.4) refl
arguments_again [] (argument ∷ more) spelled rest s = elim s [ ]
arguments_again (kind ∷ others) [] spelled rest s = elim s [ ]

-- where the first argument stands that is wrong
pub record WrongArgument (all : List Kind) (bytes : List ℕ) (left : ℕ) : Type 0 where
  pub before : List Kind
  pub kind : Kind
  pub after : List Kind
  pub good : List Argument
  pub read : List ℕ
  pub rest : List ℕ
  pub all_are : all ≡ before ++ kind ∷ after
  pub parts : bytes ≡ read ++ rest
  pub spelled : SpellsArguments before good read
  pub none : NoPrefix (IsArgument kind) rest
  pub left_is : left ≡ length rest

pub argument_wrong : (all : List Kind) (bytes : List ℕ) (left : ℕ) → IsBytes bytes → arguments_at all bytes ≡ Err left → WrongArgument all bytes left
unfolding arguments_at
argument_wrong [] bytes left are e = absurd cc
argument_wrong (kind ∷ others) bytes left are e =
    elim (bind_err (argument_at kind bytes) (λ (first : Argument × List ℕ). arguments_at others first.1 >=> λ more. Ok (first.0 ∷ more.0, more.1)) left e) [
      | inl wrong ↦ record { before = []; kind = kind; after = others; good = []; read = []; rest = bytes; all_are = refl; parts = refl; spelled = refl; none = λ front rest parts s. no_item_stands Argument (argument_at kind) (SpellsOfKind kind) (argument_items kind) bytes left wrong front rest parts (s.0, (s.1, s.2)); left_is = (argument_items kind).wrong bytes left wrong }
      | inr first ↦
          let one = (argument_items kind).takes bytes first.0.0 first.0.1 are first.1 in
          elim (bind_err (arguments_at others first.0.1) (λ (more : List Argument × List ℕ). Ok (first.0.0 ∷ more.0, more.1)) left first.2) [
            | inl wrong ↦
                let w = argument_wrong others first.0.1 left one.2.rest_is_bytes wrong in
                record {
                  before = kind ∷ w.before;
                  kind = w.kind;
                  after = w.after;
                  good = first.0.0 ∷ w.good;
                  read = one.0 ++ w.read;
                  rest = w.rest;
                  all_are = ap (λ (ks : List Kind). kind ∷ ks) w.all_are;
                  parts = one.2.parts ∙ ap (λ (x : List ℕ). one.0 ++ x) w.parts ∙ sym (append_assoc one.0 w.read w.rest);
                  spelled = (one.0, w.read, one.1.0, one.1.1, w.spelled, refl);
                  none = w.none;
                  left_is = w.left_is;
                }
            | inr more ↦ absurd (let never = more.2 in cc)
          ]
    ]

pub wrong_argument_read : (before : List Kind) (kind : Kind) (after : List Kind) (good : List Argument) (read rest : List ℕ) → IsBytes rest → SpellsArguments before good read → NoPrefix (IsArgument kind) rest
    → arguments_at (before ++ kind ∷ after) (read ++ rest) ≡ Err (length rest)
unfolding arguments_at
wrong_argument_read [] kind after [] read rest are s none =
    let e = no_item_read Argument (argument_at kind) (SpellsOfKind kind) (argument_items kind) rest are (λ front behind parts x. none front behind parts (x.0, x.1.0, x.1.1)) in
    rw (s, e) refl
wrong_argument_read (k ∷ ks) kind after (argument ∷ more) read rest are s none =
    let parts : read ++ rest ≡ s.0 ++ (s.1 ++ rest) = ap (λ (x : List ℕ). x ++ rest) s.5 ∙ append_assoc s.0 s.1 rest in
    rw (parts, (argument_items k).again argument s.0 (s.1 ++ rest) (s.2, s.3), wrong_argument_read ks kind after more s.1 rest are s.4 none) refl
wrong_argument_read [] kind after (argument ∷ more) read rest are s none = elim s [ ]
wrong_argument_read (k ∷ ks) kind after [] read rest are s none = elim s [ ]
