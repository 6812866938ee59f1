-- A payload by a table of calls is read exactly where it is spelled, and one that is none is found wrong exactly where it is.
use Rattle.std.proofs.Common.{◌≡◌, ◌≢◌, ℕ, ◌+◌, ◌-◌, ◌≤◌, ℤ, pos, negsuc, Bool, true, false, cond, leb, eqb, List, [], ◌∷◌, ◌++◌, length, Option, Some, None, Result, Ok, Err, refl, sym, ap, subst, ◌∙◌, append_assoc, append-nil, length-append, arith, inl, inr, ◌⊎◌}
use Rattle.std.specs.Prelude.{is_some}
use Rattle.std.proofs.lemmas.Bool.{leb-true, le-leb, eqb-true, eq-eqb, ne_eqb}
use Rattle.definitions.specs.Spelling.{IsBytes, SpellsInteger, SpellsArray}
use Rattle.definitions.specs.Calls.{Argument, Kind, SpellsNumbered, IsNumber, WrongAt, wrong_header, wrong_number, wrong_length, wrong_argument, left_over}
use Rattle.definitions.specs.Reading.{◌>=>◌, item_at, integer_at, array_at, arguments_at, is_call_number, or_none, kinds_of, last_arguments_at, is_call_length, call_at}
use Rattle.definitions.proofs.Bytes.{IsBytes-rest}
use Rattle.definitions.proofs.Spelling.{integers_read, arrays_read}
use Rattle.definitions.proofs.Items.{same_Ok, both_true, ReadsItems, no_item_stands, no_item_read, tested_items, arguments_taken, arguments_again, argument_wrong, wrong_argument_read}

pub by_test : {P : Type 0} (t : Bool) → (t ≡ true → P) → (t ≡ false → P) → P
by_test true f g = f refl
by_test false f g = g refl

by_result : {A P : Type 0} (r : Result A ℕ) → ((x : A) → r ≡ Ok x → P) → ((left : ℕ) → r ≡ Err left → P) → P
by_result (Ok x) f g = f x refl
by_result (Err left) f g = g left refl

abbrev some_kinds : List Kind → Option (List Kind)
some_kinds all = Some all

empty_is : (bytes : List ℕ) → eqb (length bytes) 0 ≡ true → bytes ≡ []
empty_is [] e = refl
empty_is (b ∷ bytes) e = absurd (let n = eqb-true (length (b ∷ bytes)) 0 e in omega arith)

length_none : (bytes : List ℕ) → length bytes ≡ 0 → bytes ≡ []
length_none [] e = refl
length_none (b ∷ bytes) e = absurd (omega arith)

not_empty : (bytes : List ℕ) → eqb (length bytes) 0 ≡ false → bytes ≢ []
not_empty bytes f e = let t : eqb (length bytes) 0 ≡ true = ap (λ (x : List ℕ). eqb (length x) 0) e in cc

-- ---- the header and the number

header_items : ReadsItems (λ bytes. item_at (array_at bytes) is_call_length bytes) (λ n item. (is_call_length n ≡ true) × SpellsArray n item)
header_items = tested_items array_at SpellsArray is_call_length arrays_read

number_items : (table : ℕ → Option (List Kind)) → ReadsItems (λ bytes. item_at (integer_at bytes) (is_call_number table) bytes) (λ z item. (is_call_number table z ≡ true) × SpellsInteger z item)
number_items table = tested_items integer_at SpellsInteger (is_call_number table) integers_read

call_length-within : (n : ℕ) → is_call_length n ≡ true → (1 ≤ n) × (n ≤ 8)
call_length-within n e = let b = both_true (leb 1 n) (leb n 8) e in (leb-true 1 n b.0, leb-true n 8 b.1)

within-call_length : (n : ℕ) → 1 ≤ n → n ≤ 8 → is_call_length n ≡ true
within-call_length n low high = rw (le-leb 1 n low, le-leb n 8 high) refl

kinds_found : (table : ℕ → Option (List Kind)) (n : ℕ) (o : Option (List Kind)) → table n ≡ o → is_some o ≡ true → (all : List Kind) × (table n ≡ Some all)
kinds_found table n None e t = absurd cc
kinds_found table n (Some all) e t = (all, e)

number_is : (table : ℕ → Option (List Kind)) (z : ℤ) → is_call_number table z ≡ true → (c : ℕ) × (all : List Kind) × (z ≡ pos c) × (table c ≡ Some all)
number_is table (pos n) t = let k = kinds_found table n (table n) refl t in (n, k.0, refl, k.1)
number_is table (negsuc n) t = absurd cc

number_front : (table : ℕ → Option (List Kind)) (z : ℤ) (item : List ℕ) → is_call_number table z ≡ true → SpellsInteger z item → IsNumber table item
number_front table z item t s = let c = number_is table z t in (c.0, ap is_some c.3, subst (λ (x : ℤ). SpellsInteger x item) c.2 s)

-- what is read behind the header and the number
abbrev behind_number : (n c : ℕ) (all : List Kind) (bytes payload : List ℕ) → Result (ℤ × List Argument) ℕ
behind_number n c all bytes payload = cond (eqb n (1 + length all)) (last_arguments_at all bytes >=> λ read. Ok (pos c, read)) (Err (length payload))

-- the header, the number and the arguments, where the length fits and all arguments are good
call_behind : (c : ℕ) (all : List Kind) (good : List Argument) (bytes over payload : List ℕ) → arguments_at all bytes ≡ Ok (good, over) → behind_number (1 + length all) c all bytes payload ≡ cond (eqb (length over) 0) (Ok (pos c, good)) (Err (length over))
unfolding last_arguments_at
call_behind c all good bytes over payload e =
    let fits : eqb (1 + length all) (1 + length all) ≡ true = eq-eqb (1 + length all) (1 + length all) refl in
    rw (fits, e) (by_cases (eqb (length over) 0))
  where
    by_cases : (t : Bool) → (cond t (Ok good) (Err (length over)) >=> λ read. Ok (pos c, read)) ≡ cond {A = Result (ℤ × List Argument) ℕ} t (Ok (pos c, good)) (Err (length over))
    by_cases true = refl
    by_cases false = refl

wrong_behind : (c : ℕ) (all : List Kind) (bytes payload : List ℕ) (left : ℕ) → arguments_at all bytes ≡ Err left → behind_number (1 + length all) c all bytes payload ≡ Err left
unfolding last_arguments_at
wrong_behind c all bytes payload left e =
    let fits : eqb (1 + length all) (1 + length all) ≡ true = eq-eqb (1 + length all) (1 + length all) refl in
    rw (fits, e) refl

-- ---- what reading a payload finds

data Found (table : ℕ → Option (List Kind)) (payload : List ℕ) (read : Result (ℤ × List Argument) ℕ) : Type 0 where
  found_call : (c : ℕ) (good : List Argument) → SpellsNumbered table c good payload → read ≡ Ok (pos c, good) → Found table payload read
  found_wrong : (place left : ℕ) → WrongAt table payload place → place + left ≡ length payload → read ≡ Err left → Found table payload read

same_number : (a b : ℕ) (x y : List Argument) → ◌≡◌ {A = Result (ℤ × List Argument) ℕ} (Ok (pos a, x)) (Ok (pos b, y)) → (a ≡ b) × (x ≡ y)
same_number a b x y e =
    let p = same_Ok {A = ℤ × List Argument} (pos a, x) (pos b, y) e in
    let number : pos a ≡ pos b = ap (λ (q : ℤ × List Argument). q.0) p in
    (cc, ap (λ (q : ℤ × List Argument). q.1) p)

module _ (table : ℕ → Option (List Kind)) where
  call_front : (n c : ℕ) (all : List Kind) (header number bytes : List ℕ) → 1 ≤ n → n ≤ 8 → SpellsArray n header → SpellsInteger (pos c) number → table c ≡ Some all
      → call_at table (header ++ (number ++ bytes)) ≡ behind_number n c all bytes (header ++ (number ++ bytes))
  unfolding call_at
  call_front n c all header number bytes low high h i k =
      let is_number : is_call_number table (pos c) ≡ true = ap is_some k in
      let are : kinds_of table (pos c) ≡ all = ap or_none k in
      rw (header_items.again n header (number ++ bytes) (within-call_length n low high, h), (number_items table).again (pos c) number bytes (is_number, i), are) refl

  module _ (c : ℕ) (all : List Kind) (payload header number bytes : List ℕ) (are : IsBytes bytes) (h : SpellsArray (1 + length all) header) (i : SpellsInteger (pos c) number) (k : table c ≡ Some all) (parts : payload ≡ header ++ (number ++ bytes)) where
    arguments_found : call_at table payload ≡ behind_number (1 + length all) c all bytes payload → Found table payload (call_at table payload)
    arguments_found e =
        by_result (arguments_at all bytes)
        (λ read ok.
        let t = arguments_taken all bytes read.0 read.1 are ok in
        let spelled : SpellsNumbered table c read.0 (header ++ (number ++ t.0)) = record { header = header; number = number; rest = t.0; all_kinds = all; kinds_are = k; is_header = h; is_number = i; are_arguments = t.1; are = refl } in
        let whole : payload ≡ (header ++ (number ++ t.0)) ++ read.1 =
        parts ∙ ap (λ (x : List ℕ). header ++ (number ++ x)) t.2.parts ∙ ap (λ (x : List ℕ). header ++ x) (sym (append_assoc number t.0 read.1)) ∙ sym (append_assoc header (number ++ t.0) read.1) in
        let found = e ∙ call_behind c all read.0 bytes read.1 payload ok in
        by_test (eqb (length read.1) 0)
        (λ y.
        let none = empty_is read.1 y in
        let same : header ++ (number ++ t.0) ≡ payload = sym (append-nil (header ++ (number ++ t.0))) ∙ ap (λ (x : List ℕ). (header ++ (number ++ t.0)) ++ x) (sym none) ∙ sym whole in
        found_call c read.0 (subst (λ (x : List ℕ). SpellsNumbered table c read.0 x) same spelled) (found ∙ rw y refl))
        (λ n.
        let l = ap (λ (x : List ℕ). length x) whole ∙ length-append (header ++ (number ++ t.0)) read.1 in
        found_wrong (length (header ++ (number ++ t.0))) (length read.1) (left_over c read.0 (header ++ (number ++ t.0)) read.1 whole spelled (not_empty read.1 n) refl) (sym l) (found ∙ rw n refl)))
        (λ left wrong.
        let w = argument_wrong all bytes left are wrong in
        let whole : payload ≡ header ++ (number ++ (w.read ++ w.rest)) = parts ∙ ap (λ (x : List ℕ). header ++ (number ++ x)) w.parts in
        let h' : SpellsArray (1 + length (w.before ++ w.kind ∷ w.after)) header = subst (λ (ks : List Kind). SpellsArray (1 + length ks) header) w.all_are h in
        let k' : table c ≡ Some (w.before ++ w.kind ∷ w.after) = k ∙ ap some_kinds w.all_are in
        let l : length (header ++ (number ++ w.read)) + left ≡ length payload = sym (ap (λ (x : List ℕ). length x) whole ∙ simp length-append (let q = w.left_is in omega arith)) in
        found_wrong (length (header ++ (number ++ w.read))) left (wrong_argument c header number w.read w.rest w.before w.kind w.after w.good whole h' i k' w.spelled w.none refl) l (e ∙ wrong_behind c all bytes payload left wrong))

  read_found : (payload : List ℕ) → IsBytes payload → Found table payload (call_at table payload)
  unfolding call_at
  read_found payload are =
      by_result (item_at (array_at payload) is_call_length payload)
      (λ n e1.
      let t1 = header_items.takes payload n.0 n.1 are e1 in
      let within = call_length-within n.0 t1.1.0 in
      let l1 = ap (λ (x : List ℕ). length x) t1.2.parts ∙ length-append t1.0 n.1 in
      by_result (item_at (integer_at n.1) (is_call_number table) n.1)
      (λ z e2.
      let t2 = (number_items table).takes n.1 z.0 z.1 t1.2.rest_is_bytes e2 in
      let c = number_is table z.0 t2.1.0 in
      let i : SpellsInteger (pos c.0) t2.0 = subst (λ (x : ℤ). SpellsInteger x t2.0) c.2 t2.1.1 in
      let parts : payload ≡ t1.0 ++ (t2.0 ++ z.1) = t1.2.parts ∙ ap (λ (x : List ℕ). t1.0 ++ x) t2.2.parts in
      let front = subst (λ (x : List ℕ). call_at table x ≡ behind_number n.0 c.0 c.1 z.1 x) (sym parts) (call_front n.0 c.0 c.1 t1.0 t2.0 z.1 within.0 within.1 t1.1.1 i c.3) in
      by_test (eqb n.0 (1 + length c.1))
      (λ y.
      let fits : n.0 ≡ 1 + length c.1 = eqb-true n.0 (1 + length c.1) y in
      arguments_found c.0 c.1 payload t1.0 t2.0 z.1 t2.2.rest_is_bytes (subst (λ (m : ℕ). SpellsArray m t1.0) fits t1.1.1) i c.3 parts (subst (λ (m : ℕ). call_at table payload ≡ behind_number m c.0 c.1 z.1 payload) fits front))
      (λ y.
      let differs : n.0 ≢ 1 + length c.1 = λ same. let t = eq-eqb n.0 (1 + length c.1) same in cc in
      found_wrong 0 (length payload) (wrong_length n.0 c.0 t1.0 t2.0 z.1 c.1 parts t1.1.1 within.0 within.1 i c.3 differs refl) (omega arith) (front ∙ rw y refl)))
      (λ left e2.
      let none = no_item_stands ℤ (λ bytes. item_at (integer_at bytes) (is_call_number table) bytes) (λ z item. (is_call_number table z ≡ true) × SpellsInteger z item) (number_items table) n.1 left e2 in
      let l2 = (number_items table).wrong n.1 left e2 in
      found_wrong (length t1.0) left
      (wrong_number t1.0 n.1 t1.2.parts (n.0, within.0, within.1, t1.1.1) (λ front rest p s. none front rest p (pos s.0, (s.1, s.2))) refl)
      (omega arith) (rw (e1, e2) refl)))
      (λ left e1.
      let none = no_item_stands ℕ (λ bytes. item_at (array_at bytes) is_call_length bytes) (λ n item. (is_call_length n ≡ true) × SpellsArray n item) header_items payload left e1 in
      let l1 = header_items.wrong payload left e1 in
      found_wrong 0 left (wrong_header (λ front rest p s. none front rest p (s.0, (within-call_length s.0 s.1 s.2, s.3))) refl) (omega arith) (rw e1 refl))

  -- ---- the laws of reading

  -- what is read is spelled so
  pub numbered_found : (payload : List ℕ) (z : ℤ) (good : List Argument) → IsBytes payload → call_at table payload ≡ Ok (z, good) → (c : ℕ) × (z ≡ pos c) × SpellsNumbered table c good payload
  numbered_found payload z good are e =
      elim (read_found payload are) [
        | found_call c found s r ↦
            let same = same_Ok {A = ℤ × List Argument} (z, good) (pos c, found) (sym e ∙ r) in
            (c, ap (λ (x : ℤ × List Argument). x.0) same, subst (λ (g : List Argument). SpellsNumbered table c g payload) (sym (ap (λ (x : ℤ × List Argument). x.1) same)) s)
        | found_wrong place left w l r ↦ absurd (let never = sym e ∙ r in cc)
      ]

  pub numbered_spelled : (payload : List ℕ) (c : ℕ) (good : List Argument) → IsBytes payload → call_at table payload ≡ Ok (pos c, good) → SpellsNumbered table c good payload
  numbered_spelled payload c good are e =
      let found = numbered_found payload (pos c) good are e in
      let number = found.1 in
      let same : found.0 ≡ c = cc in
      subst (λ (n : ℕ). SpellsNumbered table n good payload) same found.2

  -- where no call is read, the payload is wrong at the place that reading names
  pub wrong_found : (payload : List ℕ) (left : ℕ) → IsBytes payload → call_at table payload ≡ Err left → (left ≤ length payload) × WrongAt table payload (length payload - left)
  wrong_found payload left are e =
      elim (read_found payload are) [
        | found_call c good s r ↦ absurd (let never = sym e ∙ r in cc)
        | found_wrong place left' w l r ↦
            let same : left' ≡ left = let both = sym r ∙ e in cc in
            let is : place ≡ length payload - left = omega arith in
            (omega arith, subst (λ (n : ℕ). WrongAt table payload n) is w)
      ]

  pub wrong_at : (payload : List ℕ) (place : ℕ) → IsBytes payload → place ≤ length payload → call_at table payload ≡ Err (length payload - place) → WrongAt table payload place
  wrong_at payload place are le e =
      let w = wrong_found payload (length payload - place) are e in
      let back : length payload - (length payload - place) ≡ place = omega arith in
      subst (λ (n : ℕ). WrongAt table payload n) back w.1

  -- a payload is an array of a call's number and arguments, or is wrong at a place
  pub numbered_or_wrong : (payload : List ℕ) → IsBytes payload → ((c : ℕ) × (good : List Argument) × SpellsNumbered table c good payload) ⊎ ((place : ℕ) × WrongAt table payload place)
  numbered_or_wrong payload are =
      elim (read_found payload are) [
        | found_call c good s r ↦ inl (c, good, s)
        | found_wrong place left w l r ↦ inr (place, w)
      ]

  -- the place of a fault, from the bytes that were left there
  left_at : (payload : List ℕ) (place left : ℕ) → place + left ≡ length payload → call_at table payload ≡ Err left → (call_at table payload ≡ Err (length payload - place)) × (place ≤ length payload)
  left_at payload place left l e = let is : left ≡ length payload - place = omega arith in (e ∙ ap (λ (n : ℕ). Err n) is, omega arith)

  -- no call of the table has more than seven arguments
  module _ (few : (c : ℕ) (all : List Kind) → table c ≡ Some all → length all ≤ 7) where
    call_again : (c : ℕ) (good : List Argument) (payload over : List ℕ) → SpellsNumbered table c good payload → call_at table (payload ++ over) ≡ cond (eqb (length over) 0) (Ok (pos c, good)) (Err (length over))
    call_again c good payload over s =
        let most = few c s.all_kinds s.kinds_are in
        let parts : payload ++ over ≡ s.header ++ (s.number ++ (s.rest ++ over)) = ap (λ (x : List ℕ). x ++ over) s.are ∙ append_assoc s.header (s.number ++ s.rest) over ∙ ap (λ (x : List ℕ). s.header ++ x) (append_assoc s.number s.rest over) in
        let front = call_front (1 + length s.all_kinds) c s.all_kinds s.header s.number (s.rest ++ over) (omega arith) (omega arith) s.is_header s.is_number s.kinds_are in
        ap (call_at table) parts ∙ front ∙ call_behind c s.all_kinds good (s.rest ++ over) over (s.header ++ (s.number ++ (s.rest ++ over))) (arguments_again s.all_kinds good s.rest over s.are_arguments)

    -- what is spelled is read, whatever it is spelled with
    pub numbered_read : (payload : List ℕ) (c : ℕ) (good : List Argument) → SpellsNumbered table c good payload → call_at table payload ≡ Ok (pos c, good)
    numbered_read payload c good s = ap (call_at table) (sym (append-nil payload)) ∙ call_again c good payload [] s

    -- so it is spelled as one number and one list of arguments
    pub numbered_one : (payload : List ℕ) (c d : ℕ) (good more : List Argument) → SpellsNumbered table c good payload → SpellsNumbered table d more payload → (c ≡ d) × (good ≡ more)
    numbered_one payload c d good more s t = same_number c d good more (sym (numbered_read payload c good s) ∙ numbered_read payload d more t)

    -- a payload that is wrong at a place is read as wrong there
    pub wrong_read : (payload : List ℕ) (place : ℕ) → IsBytes payload → WrongAt table payload place → (call_at table payload ≡ Err (length payload - place)) × (place ≤ length payload)
    unfolding call_at
    wrong_read payload place are (wrong_header none place_is) =
        let e = no_item_read ℕ (λ bytes. item_at (array_at bytes) is_call_length bytes) (λ n item. (is_call_length n ≡ true) × SpellsArray n item) header_items payload are
        (λ front rest p s. let w = call_length-within s.0 s.1.0 in none front rest p (s.0, w.0, w.1, s.1.1)) in
        left_at payload place (length payload) (omega arith) (rw e refl)
    wrong_read payload place are (wrong_number header rest parts h none place_is) =
        let whole : item_at (array_at payload) is_call_length payload ≡ Ok (h.0, rest) = subst (λ (x : List ℕ). item_at (array_at x) is_call_length x ≡ Ok (h.0, rest)) (sym parts) (header_items.again h.0 header rest (within-call_length h.0 h.1 h.2, h.3)) in
        let e = no_item_read ℤ (λ bytes. item_at (integer_at bytes) (is_call_number table) bytes) (λ z item. (is_call_number table z ≡ true) × SpellsInteger z item) (number_items table) rest
        (IsBytes-rest header rest (subst IsBytes parts are)) (λ front behind p s. none front behind p (number_front table s.0 front s.1.0 s.1.1)) in
        let l = ap (λ (x : List ℕ). length x) parts ∙ length-append header rest in
        left_at payload place (length rest) (omega arith) (rw (whole, e) refl)
    wrong_read payload place are (wrong_length n c header number rest all parts h low high i k differs place_is) =
        let front = subst (λ (x : List ℕ). call_at table x ≡ behind_number n c all rest x) (sym parts) (call_front n c all header number rest low high h i k) in
        let f : eqb n (1 + length all) ≡ false = ne_eqb n (1 + length all) differs in
        left_at payload place (length payload) (omega arith) (front ∙ rw f refl)
    wrong_read payload place are (wrong_argument c header number read rest before kind after good parts h i k s none place_is) =
        let most = few c (before ++ kind ∷ after) k in
        let all = before ++ kind ∷ after in
        let bytes : IsBytes rest = IsBytes-rest read rest (IsBytes-rest number (read ++ rest) (IsBytes-rest header (number ++ (read ++ rest)) (subst IsBytes parts are))) in
        let front = subst (λ (x : List ℕ). call_at table x ≡ behind_number (1 + length all) c all (read ++ rest) x) (sym parts) (call_front (1 + length all) c all header number (read ++ rest) (omega arith) (omega arith) h i k) in
        let l : length (header ++ (number ++ read)) + length rest ≡ length payload = sym (ap (λ (x : List ℕ). length x) parts ∙ simp length-append (omega arith)) in
        left_at payload place (length rest) (rw place_is l) (front ∙ wrong_behind c all (read ++ rest) payload (length rest) (wrong_argument_read before kind after good read rest bytes s none))
    wrong_read payload place are (left_over c good spelled rest parts s some place_is) =
        let again = call_again c good spelled rest s in
        let f : eqb (length rest) 0 ≡ false = ne_eqb (length rest) 0 (λ none. some (length_none rest none)) in
        let l = ap (λ (x : List ℕ). length x) parts ∙ length-append spelled rest in
        left_at payload place (length rest) (omega arith) (ap (call_at table) parts ∙ again ∙ rw f refl)

    pub one_place : (payload : List ℕ) (place other : ℕ) → IsBytes payload → WrongAt table payload place → WrongAt table payload other → place ≡ other
    one_place payload place other are w v =
        let a = wrong_read payload place are w in
        let b = wrong_read payload other are v in
        let same : length payload - place ≡ length payload - other = let both = sym a.0 ∙ b.0 in cc in
        omega (arith, a.1, b.1)

    pub never_both : (payload : List ℕ) (c : ℕ) (good : List Argument) (place : ℕ) → IsBytes payload → SpellsNumbered table c good payload → WrongAt table payload place → ⊥
    never_both payload c good place are s w = let both = sym (numbered_read payload c good s) ∙ (wrong_read payload place are w).0 in cc
