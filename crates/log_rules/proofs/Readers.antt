-- What is read is what was spelled, what was spelled is read, and a field that is wrong stays wrong with more bytes behind.
use Rattle.std.proofs.Common.{◌≡◌, ℕ, ◌+◌, ◌<◌, ◌≤◌, ◌^◌, ◌⊎◌, Bool, true, false, cond, inl, inr, List, ◌++◌, length, take, drop, Result, Ok, Err, refl, sym, ◌∙◌, ap, subst, arith, append_assoc, length-append}
use Rattle.std.specs.Prelude.{nat_lt}
use Rattle.std.specs.Int.{w32, bytes_high_first, to_be_bytes}
use Rattle.std.specs.Str.{is_utf8}
use Rattle.std.proofs.lemmas.Str.{IsUtf8-from_is_utf8, is_utf8-from_IsUtf8}
use Rattle.std.proofs.lemmas.Bool.{ltb-false, le-ltb}
use Rattle.std.proofs.lemmas.List.{take_at, drop_at, drop-drop, take-append-le, drop-append-le, take-append-drop, length-take, length-drop}
use Rattle.byteorder.specs.Endian.{big_number}
use Rattle.byteorder.specs.Numbers.{big_from-lt, big_from-append, big_number-reads_back, length-bytes_high_first}
use Rattle.definitions.specs.Spelling.{IsBytes, TextFits}
use Rattle.definitions.proofs.Bytes.{IsBytes-take, IsBytes-drop}
use Rattle.log_rules.specs.Body.{text_bytes}
use Rattle.log_rules.specs.Reading.{Reading, Stop, Cut, Wrong, Field, ◌>>=◌, ◌&◌, field_as, passed, with_more, number_at, text_at}
use Rattle.log_rules.proofs.Numbers.{bytes_of_number}

-- what a field took
pub record Took (A : Type 0) (P : A → Type 0) (spell : A → List ℕ) (r : Reading) (x : A) (next : Reading) : Type 0 where
  pub has : P x
  pub parts : r.rest ≡ spell x ++ next.rest
  pub at_is : next.at ≡ r.at + length (spell x)
  pub limit_is : next.limit ≡ r.limit
  pub are_bytes : IsBytes next.rest

pub record IsField (A : Type 0) (P : A → Type 0) (spell : A → List ℕ) (read : Field A) : Type 0 where
  pub takes : (r : Reading) (x : A) (next : Reading) → IsBytes r.rest → read r ≡ Ok (x, next) → Took A P spell r x next
  pub again : (limit at : ℕ) (x : A) (rest : List ℕ) → P x → at + length (spell x) ≤ limit → read (record { limit = limit; at = at; rest = spell x ++ rest }) ≡ Ok (x, record { limit = limit; at = at + length (spell x); rest = rest })
  pub judged : (r : Reading) (more : List ℕ) (place : ℕ) → read r ≡ Err (Wrong place) → read (with_more r more) ≡ Err (Wrong place)
  -- with more bytes behind, the same value is read
  pub longer : (r : Reading) (more : List ℕ) (x : A) (next : Reading) → read r ≡ Ok (x, next) → read (with_more r more) ≡ Ok (x, with_more next more)

-- ---- steps

pub bind_ok : {A B : Type 0} (r : Result A Stop) (f : A → Result B Stop) (y : B) → (r >>= f) ≡ Ok y → (x : A) × (r ≡ Ok x) × (f x ≡ Ok y)
bind_ok (Ok x) f y e = (x, refl, e)
bind_ok (Err stop) f y e = absurd cc

-- where two steps stop, the first stops or the second does
pub bind_err : {A B : Type 0} (r : Result A Stop) (f : A → Result B Stop) (stop : Stop) → (r >>= f) ≡ Err stop → (r ≡ Err stop) ⊎ ((x : A) × (r ≡ Ok x) × (f x ≡ Err stop))
bind_err (Ok x) f stop e = inr (x, refl, e)
bind_err {A = A} (Err other) f stop e = inl (let same : other ≡ stop = cc in ap (λ (s : Stop). Err s) same)

abbrev done : {A : Type 0} → A → Result A Stop
done x = Ok x

pub ok_is : {A : Type 0} (x y : A) → done x ≡ done y → x ≡ y
ok_is x y e = cc

-- a test that let the value through
pub passed_test : {A : Type 0} (b : Bool) (stop : Stop) (x : Result A Stop) (y : A) → cond b (Err stop) x ≡ Ok y → (b ≡ false) × (x ≡ Ok y)
passed_test true stop x y e = absurd cc
passed_test false stop x y e = (refl, e)

-- ---- one field behind the other

pub both_fields : (A B : Type 0) (P : A → Type 0) (Q : B → Type 0) (spell : A → List ℕ) (write : B → List ℕ) (f : Field A) (g : Field B) → IsField A P spell f → IsField B Q write g → IsField (A × B) (λ p. P p.0 × Q p.1) (λ p. spell p.0 ++ write p.1) (f & g)
both_fields A B P Q spell write f g first second = record {
  takes = λ r x next are e.
      let a = bind_ok (f r) (λ a. g a.1 >>= λ b. Ok ((a.0, b.0), b.1)) (x, next) e in
      let b = bind_ok (g a.0.1) (λ b. Ok ((a.0.0, b.0), b.1)) (x, next) a.2 in
      let same : ((a.0.0, b.0.0), b.0.1) ≡ (x, next) = ok_is _ _ b.2 in
      let one = first.takes r a.0.0 a.0.1 are a.1 in
      let two = second.takes a.0.1 b.0.0 b.0.1 one.are_bytes b.1 in
      subst (λ (p : (A × B) × Reading). Took (A × B) (λ p. P p.0 × Q p.1) (λ p. spell p.0 ++ write p.1) r p.0 p.1) same (record {
        has = (one.has, two.has);
        parts = one.parts ∙ ap (λ (l : List ℕ). spell a.0.0 ++ l) two.parts ∙ sym (append_assoc (spell a.0.0) (write b.0.0) b.0.1.rest);
        at_is = omega (arith, one.at_is, two.at_is, length-append (spell a.0.0) (write b.0.0));
        limit_is = two.limit_is ∙ one.limit_is;
        are_bytes = two.are_bytes;
      });
  again = λ limit at x rest has fits.
      let all = length-append (spell x.0) (write x.1) in
      let one = first.again limit at x.0 (write x.1 ++ rest) has.0 (omega (arith, fits, all)) in
      let two = second.again limit (at + length (spell x.0)) x.1 rest has.1 (omega (arith, fits, all)) in
      let place : (at + length (spell x.0)) + length (write x.1) ≡ at + length (spell x.0 ++ write x.1) = omega (arith, all) in
      ap (λ (l : List ℕ). (f & g) (record { limit = limit; at = at; rest = l })) (append_assoc (spell x.0) (write x.1) rest)
      ∙ ap (λ (s : Result (A × Reading) Stop). s >>= λ a. g a.1 >>= λ b. Ok ((a.0, b.0), b.1)) one
      ∙ ap (λ (s : Result (B × Reading) Stop). s >>= λ b. Ok ((x.0, b.0), b.1)) two
      ∙ ap (λ (n : ℕ). done (x, record { limit = limit; at = n; rest = rest })) place;
  judged = λ r more place e. elim (bind_err (f r) (λ a. g a.1 >>= λ b. Ok ((a.0, b.0), b.1)) (Wrong place) e) [
    | inl stops ↦ ap (λ (s : Result (A × Reading) Stop). s >>= λ a. g a.1 >>= λ b. Ok ((a.0, b.0), b.1)) (first.judged r more place stops)
    | inr on ↦ elim (bind_err (g on.0.1) (λ b. Ok ((on.0.0, b.0), b.1)) (Wrong place) on.2) [
      | inl stops ↦
          ap (λ (s : Result (A × Reading) Stop). s >>= λ a. g a.1 >>= λ b. Ok ((a.0, b.0), b.1)) (first.longer r more on.0.0 on.0.1 on.1)
          ∙ ap (λ (s : Result (B × Reading) Stop). s >>= λ b. Ok ((on.0.0, b.0), b.1)) (second.judged on.0.1 more place stops)
      | inr made ↦ absurd (no_stop _ (Wrong place) made.2)
    ]
  ];
  longer = λ r more x next e.
      let a = bind_ok (f r) (λ a. g a.1 >>= λ b. Ok ((a.0, b.0), b.1)) (x, next) e in
      let b = bind_ok (g a.0.1) (λ b. Ok ((a.0.0, b.0), b.1)) (x, next) a.2 in
      let same : ((a.0.0, b.0.0), b.0.1) ≡ (x, next) = ok_is _ _ b.2 in
      ap (λ (s : Result (A × Reading) Stop). s >>= λ a. g a.1 >>= λ b. Ok ((a.0, b.0), b.1)) (first.longer r more a.0.0 a.0.1 a.1)
      ∙ ap (λ (s : Result (B × Reading) Stop). s >>= λ b. Ok ((a.0.0, b.0), b.1)) (second.longer a.0.1 more b.0.0 b.0.1 b.1)
      ∙ ap (λ (p : (A × B) × Reading). done (p.0, with_more p.1 more)) same;
}
  where
    no_stop : {C : Type 0} (x : C) (stop : Stop) → done x ≡ Err stop → ⊥
    no_stop x stop e = cc

-- what is made of a field's value, where its value is told by what is made
pub made_field : (A B : Type 0) (P : A → Type 0) (Q : B → Type 0) (spell : A → List ℕ) (write : B → List ℕ) (f : Field A) (make : A → B) (part : B → A) → IsField A P spell f → ((x : A) → P x → Q (make x)) → ((x : A) → write (make x) ≡ spell x) → ((y : B) → Q y → P (part y)) → ((y : B) → make (part y) ≡ y) → IsField B Q write (field_as make f)
made_field A B P Q spell write f make part is has_made same_bytes has_part back = record {
  takes = λ r y next are e.
      let a = bind_ok (f r) (λ a. Ok (make a.0, a.1)) (y, next) e in
      let same : (make a.0.0, a.0.1) ≡ (y, next) = ok_is _ _ a.2 in
      let one = is.takes r a.0.0 a.0.1 are a.1 in
      let bytes = same_bytes a.0.0 in
      subst (λ (p : B × Reading). Took B Q write r p.0 p.1) same (record {
        has = has_made a.0.0 one.has;
        parts = one.parts ∙ ap (λ (l : List ℕ). l ++ a.0.1.rest) (sym bytes);
        at_is = omega (arith, one.at_is, ap (λ (l : List ℕ). length l) bytes);
        limit_is = one.limit_is;
        are_bytes = one.are_bytes;
      });
  again = λ limit at y rest has fits.
      let bytes : write y ≡ spell (part y) = ap write (sym (back y)) ∙ same_bytes (part y) in
      let one = is.again limit at (part y) rest (has_part y has) (omega (arith, fits, ap (λ (l : List ℕ). length l) bytes)) in
      ap (λ (l : List ℕ). field_as make f (record { limit = limit; at = at; rest = l ++ rest })) bytes
      ∙ ap (λ (s : Result (A × Reading) Stop). s >>= λ a. Ok (make a.0, a.1)) one
      ∙ (λ i. done (back y i, record { limit = limit; at = at + length (sym bytes i); rest = rest }));
  judged = λ r more place e. elim (bind_err (f r) (λ a. Ok (make a.0, a.1)) (Wrong place) e) [
    | inl stops ↦ ap (λ (s : Result (A × Reading) Stop). s >>= λ a. Ok (make a.0, a.1)) (is.judged r more place stops)
    | inr on ↦ absurd (no_stop _ (Wrong place) on.2)
  ];
  longer = λ r more y next e.
      let a = bind_ok (f r) (λ a. Ok (make a.0, a.1)) (y, next) e in
      let same : (make a.0.0, a.0.1) ≡ (y, next) = ok_is _ _ a.2 in
      ap (λ (s : Result (A × Reading) Stop). s >>= λ a. Ok (make a.0, a.1)) (is.longer r more a.0.0 a.0.1 a.1)
      ∙ ap (λ (p : B × Reading). done (p.0, with_more p.1 more)) same;
}
  where
    no_stop : {C : Type 0} (x : C) (stop : Stop) → done x ≡ Err stop → ⊥
    no_stop x stop e = cc

-- ---- numbers

pub number_there : (r : Reading) (n : ℕ) → n ≤ length r.rest → number_at n r ≡ Ok (big_number n r.rest, passed n r)
unfolding number_at
number_there r n long = ap (λ (b : Bool). cond b (Err (Cut r.at)) (done (big_number n r.rest, passed n r))) (le-ltb (length r.rest) n long)

pub number_field : (n : ℕ) → IsField ℕ (λ x. x < 256 ^ n) (λ x. bytes_high_first n x) (number_at n)
unfolding number_at
number_field n = record {
  takes = λ r x next are e.
      let test = passed_test (nat_lt (length r.rest) n) (Cut r.at) (Ok (big_number n r.rest, passed n r)) (x, next) e in
      let same : (big_number n r.rest, passed n r) ≡ (x, next) = ok_is _ _ test.1 in
      let long : n ≤ length r.rest = ltb-false (length r.rest) n test.0 in
      let front = IsBytes-take n r.rest are in
      let first : big_number n (take n r.rest) ≡ big_number n r.rest = sym (big_from-append n (take n r.rest) (drop n r.rest) (omega (arith, length-take n r.rest, long))) ∙ ap (big_number n) (take-append-drop n r.rest) in
      let spelled : bytes_high_first n (big_number n r.rest) ≡ take n r.rest = ap (bytes_high_first n) (sym first) ∙ bytes_of_number n (take n r.rest) (omega (arith, length-take n r.rest, long)) front in
      subst (λ (p : ℕ × Reading). Took ℕ (λ x. x < 256 ^ n) (λ x. bytes_high_first n x) r p.0 p.1) same (record {
        has = big_from-lt 0 n r.rest are;
        parts = sym (take-append-drop n r.rest) ∙ ap (λ (l : List ℕ). l ++ drop n r.rest) (sym spelled);
        at_is = omega (arith, length-bytes_high_first n (big_number n r.rest));
        limit_is = refl;
        are_bytes = IsBytes-drop n r.rest are;
      });
  again = λ limit at x rest has fits.
      let spelled = bytes_high_first n x in
      let long : length spelled ≡ n = length-bytes_high_first n x in
      let there : nat_lt (length (spelled ++ rest)) n ≡ false = le-ltb (length (spelled ++ rest)) n (omega (arith, long, length-append spelled rest)) in
      ap (λ (b : Bool). cond b (Err (Cut at)) (done (big_number n (spelled ++ rest), passed n (record { limit = limit; at = at; rest = spelled ++ rest })))) there
      ∙ (λ i. done (big_number-reads_back n x rest has i, record { limit = limit; at = at + sym long i; rest = drop_at spelled rest n long i }));
  judged = λ r more place e. absurd (never (nat_lt (length r.rest) n) r.at place _ e);
  longer = λ r more x next e.
      let test = passed_test (nat_lt (length r.rest) n) (Cut r.at) (Ok (big_number n r.rest, passed n r)) (x, next) e in
      let same : (big_number n r.rest, passed n r) ≡ (x, next) = ok_is _ _ test.1 in
      let long : n ≤ length r.rest = ltb-false (length r.rest) n test.0 in
      let there : nat_lt (length (r.rest ++ more)) n ≡ false = le-ltb (length (r.rest ++ more)) n (omega (arith, long, length-append r.rest more)) in
      ap (λ (b : Bool). cond b (Err (Cut r.at)) (done (big_number n (r.rest ++ more), passed n (with_more r more)))) there
      ∙ (λ i. done (big_from-append n r.rest more long i, record { limit = r.limit; at = r.at + n; rest = drop-append-le n r.rest more long i }))
      ∙ ap (λ (p : ℕ × Reading). done (p.0, with_more p.1 more)) same;
}
  where
    never : (b : Bool) (at place : ℕ) (x : ℕ × Reading) → cond b (Err (Cut at)) (done x) ≡ Err (Wrong place) → ⊥
    never true at place x e = cc
    never false at place x e = cc

-- ---- texts

-- a text is there
text_there : (r : Reading) → 4 ≤ length r.rest → r.at + 4 + big_number 4 r.rest ≤ r.limit → big_number 4 r.rest ≤ length (drop 4 r.rest) → is_utf8 (take (big_number 4 r.rest) (drop 4 r.rest)) ≡ true
    → text_at r ≡ Ok (take (big_number 4 r.rest) (drop 4 r.rest), passed (4 + big_number 4 r.rest) r)
unfolding text_at
text_there r long fits there utf8 =
    let n = big_number 4 r.rest in
    let text = take n (drop 4 r.rest) in
    let one : nat_lt (length r.rest) 4 ≡ false = le-ltb (length r.rest) 4 long in
    let two : nat_lt r.limit (r.at + 4 + n) ≡ false = le-ltb r.limit (r.at + 4 + n) fits in
    let three : nat_lt (length (drop 4 r.rest)) n ≡ false = le-ltb (length (drop 4 r.rest)) n there in
    λ i. cond (one i) (Err (Cut r.at)) (cond (two i) (Err (Wrong r.at)) (cond (three i) (Err (Cut r.at)) (cond (utf8 i) (done (text, passed (4 + n) r)) (Err (Wrong r.at)))))

-- what is so where a text was read
pub record TextThere (r : Reading) (x : List ℕ) (next : Reading) : Type 0 where
  pub long : 4 ≤ length r.rest
  pub fits : r.at + 4 + big_number 4 r.rest ≤ r.limit
  pub there : big_number 4 r.rest ≤ length (drop 4 r.rest)
  pub utf8 : is_utf8 (take (big_number 4 r.rest) (drop 4 r.rest)) ≡ true
  pub same : ◌≡◌ {A = List ℕ × Reading} (take (big_number 4 r.rest) (drop 4 r.rest), passed (4 + big_number 4 r.rest) r) (x, next)

passed_when : {A : Type 0} (b : Bool) (stop : Stop) (x : A) (y : A) → cond b (done x) (Err stop) ≡ Ok y → (b ≡ true) × (x ≡ y)
passed_when true stop x y e = (refl, ok_is x y e)
passed_when false stop x y e = absurd cc

pub text_was_there : (r : Reading) (x : List ℕ) (next : Reading) → text_at r ≡ Ok (x, next) → TextThere r x next
unfolding text_at
text_was_there r x next e =
    let n = big_number 4 r.rest in
    let one = passed_test (nat_lt (length r.rest) 4) (Cut r.at) _ (x, next) e in
    let two = passed_test (nat_lt r.limit (r.at + 4 + n)) (Wrong r.at) _ (x, next) one.1 in
    let three = passed_test (nat_lt (length (drop 4 r.rest)) n) (Cut r.at) _ (x, next) two.1 in
    let four = passed_when (is_utf8 (take n (drop 4 r.rest))) (Wrong r.at) (take n (drop 4 r.rest), passed (4 + n) r) (x, next) three.1 in
    record { long = ltb-false (length r.rest) 4 one.0; fits = ltb-false r.limit (r.at + 4 + n) two.0; there = ltb-false (length (drop 4 r.rest)) n three.0; utf8 = four.0; same = four.1 }

text_took : (r : Reading) (x : List ℕ) (next : Reading) → IsBytes r.rest → TextThere r x next → Took (List ℕ) TextFits text_bytes r x next
text_took r x next are t =
    let n = big_number 4 r.rest in
    let text = take n (drop 4 r.rest) in
    let number = (number_field 4).takes r n (passed 4 r) are (number_there r 4 t.long) in
    let count : length text ≡ n = omega (arith, length-take n (drop 4 r.rest), t.there) in
    let behind : drop 4 r.rest ≡ text ++ drop (4 + n) r.rest = sym (take-append-drop n (drop 4 r.rest)) ∙ ap (λ (l : List ℕ). text ++ l) (drop-drop n 4 r.rest) in
    subst (λ (p : List ℕ × Reading). Took (List ℕ) TextFits text_bytes r p.0 p.1) t.same (record {
      has = record { utf8 = IsUtf8-from_is_utf8 text t.utf8; short = omega (arith, count, number.has) };
      parts = number.parts ∙ (λ i. bytes_high_first 4 (sym count i) ++ behind i) ∙ sym (append_assoc (to_be_bytes w32 (length text)) text (drop (4 + n) r.rest));
      at_is = omega (arith, count, length-append (to_be_bytes w32 (length text)) text);
      limit_is = refl;
      are_bytes = IsBytes-drop (4 + n) r.rest are;
    })

-- how a test stopped
stopped_test : {A : Type 0} (b : Bool) (stop other : Stop) (x : Result A Stop) → cond b (Err stop) x ≡ Err other → ((b ≡ true) × (stop ≡ other)) ⊎ ((b ≡ false) × (x ≡ Err other))
stopped_test true stop other x e = inl (refl, cc)
stopped_test false stop other x e = inr (refl, e)

cut_not_wrong : (at place : ℕ) → Cut at ≡ Wrong place → ⊥
cut_not_wrong at place e = cc

longer_number : (r : Reading) (more : List ℕ) → 4 ≤ length r.rest → big_number 4 (r.rest ++ more) ≡ big_number 4 r.rest
longer_number r more long = big_from-append 4 r.rest more long

text_judged : (r : Reading) (more : List ℕ) (place : ℕ) → text_at r ≡ Err (Wrong place) → text_at (with_more r more) ≡ Err (Wrong place)
unfolding text_at
text_judged r more place e =
    let n = big_number 4 r.rest in
    let m = big_number 4 (r.rest ++ more) in
    elim (stopped_test (nat_lt (length r.rest) 4) (Cut r.at) (Wrong place) _ e) [
      | inl cut ↦ absurd (cut_not_wrong r.at place cut.1)
      | inr one ↦
          let long : 4 ≤ length r.rest = ltb-false (length r.rest) 4 one.0 in
          let same : m ≡ n = longer_number r more long in
          let still : nat_lt (length (r.rest ++ more)) 4 ≡ false = le-ltb (length (r.rest ++ more)) 4 (omega (arith, long, length-append r.rest more)) in
          let rest_is : drop 4 (r.rest ++ more) ≡ drop 4 r.rest ++ more = drop-append-le 4 r.rest more long in
          elim (stopped_test (nat_lt r.limit (r.at + 4 + n)) (Wrong r.at) (Wrong place) _ one.1) [
            | inl wrong ↦
                let passes : nat_lt r.limit (r.at + 4 + m) ≡ true = ap (λ (k : ℕ). nat_lt r.limit (r.at + 4 + k)) same ∙ wrong.0 in
                (λ i. cond (still i) (Err (Cut r.at)) (cond (passes i) (Err (Wrong r.at)) (behind r more))) ∙ ap (λ (s : Stop). Err s) wrong.1
            | inr two ↦ elim (stopped_test (nat_lt (length (drop 4 r.rest)) n) (Cut r.at) (Wrong place) _ two.1) [
              | inl cut ↦ absurd (cut_not_wrong r.at place cut.1)
              | inr three ↦
                  let last = no_text (is_utf8 (take n (drop 4 r.rest))) (Wrong r.at) (Wrong place) (take n (drop 4 r.rest), passed (4 + n) r) three.1 in
                  let inside : n ≤ length (drop 4 r.rest) = ltb-false (length (drop 4 r.rest)) n three.0 in
                  let passes : nat_lt r.limit (r.at + 4 + m) ≡ false = ap (λ (k : ℕ). nat_lt r.limit (r.at + 4 + k)) same ∙ two.0 in
                  let there : nat_lt (length (drop 4 (r.rest ++ more))) m ≡ false = le-ltb (length (drop 4 (r.rest ++ more))) m (omega (arith, same, inside, ap (λ (l : List ℕ). length l) rest_is, length-append (drop 4 r.rest) more)) in
                  let text : take m (drop 4 (r.rest ++ more)) ≡ take n (drop 4 r.rest) = (λ i. take (same i) (rest_is i)) ∙ take-append-le n (drop 4 r.rest) more inside in
                  let faulty : is_utf8 (take m (drop 4 (r.rest ++ more))) ≡ false = ap is_utf8 text ∙ last.0 in
                  (λ i. cond (still i) (Err (Cut r.at)) (cond (passes i) (Err (Wrong r.at)) (cond (there i) (Err (Cut r.at)) (cond (faulty i) (done (take m (drop 4 (r.rest ++ more)), passed (4 + m) (with_more r more))) (Err (Wrong r.at))))))
                  ∙ ap (λ (s : Stop). Err s) last.1
            ]
          ]
    ]
  where
    no_text : (b : Bool) (stop other : Stop) (x : List ℕ × Reading) → cond b (done x) (Err stop) ≡ Err other → (b ≡ false) × (stop ≡ other)
    no_text true stop other x e = absurd cc
    no_text false stop other x e = (refl, cc)

    behind : (r : Reading) (more : List ℕ) → Result (List ℕ × Reading) Stop
    behind r more =
        cond (nat_lt (length (drop 4 (r.rest ++ more))) (big_number 4 (r.rest ++ more))) (Err (Cut r.at))
        (cond (is_utf8 (take (big_number 4 (r.rest ++ more)) (drop 4 (r.rest ++ more)))) (done (take (big_number 4 (r.rest ++ more)) (drop 4 (r.rest ++ more)), passed (4 + big_number 4 (r.rest ++ more)) (with_more r more))) (Err (Wrong r.at)))

text_longer : (r : Reading) (more : List ℕ) (x : List ℕ) (next : Reading) → text_at r ≡ Ok (x, next) → text_at (with_more r more) ≡ Ok (x, with_more next more)
text_longer r more x next e =
    let t = text_was_there r x next e in
    let n = big_number 4 r.rest in
    let m = big_number 4 (r.rest ++ more) in
    let same : m ≡ n = longer_number r more t.long in
    let rest_is : drop 4 (r.rest ++ more) ≡ drop 4 r.rest ++ more = drop-append-le 4 r.rest more t.long in
    let text : take m (drop 4 (r.rest ++ more)) ≡ take n (drop 4 r.rest) = (λ i. take (same i) (rest_is i)) ∙ take-append-le n (drop 4 r.rest) more t.there in
    let all = length-append r.rest more in
    let inside : 4 + n ≤ length r.rest = omega (arith, t.there, t.long, length-drop 4 r.rest) in
    let read = text_there (with_more r more) (omega (arith, t.long, all)) (omega (arith, same, t.fits)) (omega (arith, same, t.there, ap (λ (l : List ℕ). length l) rest_is, length-append (drop 4 r.rest) more)) (ap is_utf8 text ∙ t.utf8) in
    read ∙ (λ i. done (text i, record { limit = r.limit; at = r.at + (4 + same i); rest = (ap (λ (k : ℕ). drop (4 + k) (r.rest ++ more)) same ∙ drop-append-le (4 + n) r.rest more inside) i }))
    ∙ ap (λ (p : List ℕ × Reading). done (p.0, with_more p.1 more)) t.same

text_again : (limit at : ℕ) (x : List ℕ) (rest : List ℕ) → TextFits x → at + length (text_bytes x) ≤ limit → text_at (record { limit = limit; at = at; rest = text_bytes x ++ rest }) ≡ Ok (x, record { limit = limit; at = at + length (text_bytes x); rest = rest })
text_again limit at x rest has fits =
    let bytes = text_bytes x ++ rest in
    let r : Reading = record { limit = limit; at = at; rest = bytes } in
    let spelled : length (text_bytes x) ≡ 4 + length x = length-append (to_be_bytes w32 (length x)) x in
    let n_is : big_number 4 bytes ≡ length x = ap (big_number 4) (append_assoc (to_be_bytes w32 (length x)) x rest) ∙ big_number-reads_back 4 (length x) (x ++ rest) has.short in
    let rest_is : drop 4 bytes ≡ x ++ rest = refl in
    let text : take (big_number 4 bytes) (drop 4 bytes) ≡ x = take_at x rest (big_number 4 bytes) (sym n_is) in
    let behind : drop (4 + big_number 4 bytes) bytes ≡ rest = sym (drop-drop (big_number 4 bytes) 4 bytes) ∙ drop_at x rest (big_number 4 bytes) (sym n_is) in
    let place : at + (4 + big_number 4 bytes) ≡ at + length (text_bytes x) = omega (arith, spelled, n_is) in
    text_there r (omega arith) (omega (arith, n_is, fits, spelled)) (omega (arith, n_is, length-append x rest)) (ap is_utf8 text ∙ is_utf8-from_IsUtf8 x has.utf8)
    ∙ (λ i. done (text i, record { limit = limit; at = place i; rest = behind i }))

pub text_field : IsField (List ℕ) TextFits text_bytes text_at
text_field = record { takes = λ r x next are e. text_took r x next are (text_was_there r x next e); again = text_again; judged = text_judged; longer = text_longer }
