-- The laws of spelling: what is read is spelled, what is spelled is read, and what is written is spelled.
use Rattle.std.proofs.Common.{◌≡◌, ℕ, suc, ◌+◌, ◌-◌, ◌%◌, ◌^◌, ◌<◌, ◌≤◌, ℤ, pos, negsuc, FitsSigned, Bool, true, false, ◌&&◌, cond, ltb, leb, eqb, List, [], ◌∷◌, ◌++◌, length, take, drop, Option, Some, None, refl, sym, ap, subst, ◌∙◌, append_assoc, length-append, arith, inl, inr}
use Rattle.std.specs.Int.{Width, w8, w16, w32, w64, byte_len, from_be_bytes, to_be_bytes, cast_signed, cast_unsigned}
use Rattle.std.proofs.lemmas.Bool.Decides.{nat_tests}
use mir.Val.{bits, hbits}
use Rattle.std.proofs.lemmas.Bool.{cases_lt, lt-ltb, ltb-false, ltb-true, le-ltb, leb-true, le-leb, eqb-true, and_parts, and_from, lt-leb, ne_eqb, and_right}
use Rattle.std.proofs.lemmas.List.{take_at, drop_at, take-append-drop, length-take}
use Rattle.std.proofs.lemmas.Nat.{pow_pos, be_bytes_2, be_bytes_4, be_bytes_8, from_be_bytes-to_be_bytes_2, from_be_bytes-to_be_bytes_4, from_be_bytes-to_be_bytes_8}
use Rattle.std.proofs.lemmas.Int.{of_z-to_z, to_z-of_z}
use Rattle.std.specs.Str.{is_utf8, IsUtf8}
use Rattle.std.proofs.lemmas.Str.{is_utf8-from_IsUtf8, IsUtf8-from_is_utf8}
use Rattle.std.proofs.lemmas.Option.{some_pair_parts, same_Some}
use Rattle.definitions.specs.Spelling.{IsBytes, IntegerForm, positive_fixint, negative_fixint, uint_8, uint_16, uint_32, uint_64, int_8, int_16, int_32, int_64, IsBelow, FitsInteger, marked, integer_bytes, SpellsInteger, IsInteger, IsSpellable, shortest_unsigned, shortest_negative, written_integer, TextForm, fixstr, str_8, str_16, str_32, text_limit, text_head, SpellsText, IsText, shortest_text, written_text, ArrayForm, fixarray, array_16, array_32, array_limit, array_head, SpellsArray, IsArray, shortest_array, written_array}
use Rattle.definitions.specs.Reading.{wide_at, unsigned_at, signed_at, integer_at, text_head_at, text_at, array_at}
use Rattle.definitions.proofs.Bytes.{IsBytes-take, IsBytes-drop, IsBytes-tail, Takes, Takes-then, Takes-behind, bind_some, when_false, when_true, ReadsSpellings, spellings_apart, none_stands, none_read}
use Rattle.definitions.specs.Calls.{NoPrefix}

-- ---- numbers in w bytes

pub record IsWide (w : Width) : Type 0 where
  pub len : (n : ℕ) → length (to_be_bytes w n) ≡ byte_len w
  pub back : (bytes : List ℕ) → length bytes ≡ byte_len w → IsBytes bytes → to_be_bytes w (from_be_bytes w bytes) ≡ bytes
  pub again : (n : ℕ) → n < 2 ^ bits w → from_be_bytes w (to_be_bytes w n) ≡ n
  pub below : (bytes : List ℕ) → IsBytes bytes → from_be_bytes w bytes < 2 ^ bits w
  pub halves : 2 ^ bits w ≡ 2 ^ hbits w + 2 ^ hbits w

cast_signed_fits : (w : Width) (n : ℕ) → 2 ^ bits w ≡ 2 ^ hbits w + 2 ^ hbits w → n < 2 ^ bits w → FitsSigned w (cast_signed w n)
cast_signed_fits w n halves lt =
    elim (cases_lt n (2 ^ hbits w)) [
      | inl low ↦ rw (lt-ltb n (2 ^ hbits w) low) (record { sfits = low })
      | inr high ↦ rw (le-ltb n (2 ^ hbits w) high) (record { sfits = omega arith })
    ]

cast_unsigned_below : (w : Width) (z : ℤ) → 2 ^ bits w ≡ 2 ^ hbits w + 2 ^ hbits w → FitsSigned w z → cast_unsigned w z < 2 ^ bits w
cast_unsigned_below w (pos n) halves fits = omega (arith, fits.sfits)
cast_unsigned_below w (negsuc n) halves fits = omega (arith, pow_pos (bits w))

be_bytes_1 : (bytes : List ℕ) → length bytes ≡ 1 → IsBytes bytes → to_be_bytes w8 (from_be_bytes w8 bytes) ≡ bytes
be_bytes_1 [] len are = absurd (omega arith)
be_bytes_1 (b ∷ []) len are = let low : b % 256 ≡ b = omega (arith, are 0) in ap (λ (k : ℕ). k ∷ []) low
be_bytes_1 (b ∷ c ∷ bytes) len are = absurd (omega arith)

pub wide8 : IsWide w8
wide8 = record {
  len = λ n. refl;
  back = λ bytes len are. be_bytes_1 bytes len are;
  again = λ n lt. omega arith;
  below = λ bytes are. omega (arith, are 0);
  halves = refl;
}

pub wide16 : IsWide w16
wide16 = record {
  len = λ n. refl;
  back = λ bytes len are. be_bytes_2 bytes _ len are refl;
  again = λ n lt. from_be_bytes-to_be_bytes_2 n lt;
  below = λ bytes are. omega (arith, are 0, are 1);
  halves = refl;
}

pub wide32 : IsWide w32
wide32 = record {
  len = λ n. refl;
  back = λ bytes len are. be_bytes_4 bytes _ len are refl;
  again = λ n lt. from_be_bytes-to_be_bytes_4 n lt;
  below = λ bytes are. omega (arith, are 0, are 1, are 2, are 3);
  halves = refl;
}

pub wide64 : IsWide w64
wide64 = record {
  len = λ n. refl;
  back = λ bytes len are. be_bytes_8 bytes _ len are refl;
  again = λ n lt. from_be_bytes-to_be_bytes_8 n lt;
  below = λ bytes are. omega (arith, are 0, are 1, are 2, are 3, are 4, are 5, are 6, are 7);
  halves = refl;
}

pub wide_takes : (w : Width) (wide : IsWide w) (bytes : List ℕ) (n : ℕ) (rest : List ℕ) → IsBytes bytes → wide_at w bytes ≡ Some (n, rest) → Takes bytes (to_be_bytes w n) rest × (n < 2 ^ bits w)
wide_takes w wide bytes n rest are e =
    let g = when_false (ltb (length bytes) (byte_len w)) (n, rest) (Some (from_be_bytes w (take (byte_len w) bytes), drop (byte_len w) bytes)) e in
    let long : byte_len w ≤ length bytes = ltb-false _ _ g.0 in
    let found = some_pair_parts (from_be_bytes w (take (byte_len w) bytes)) n (drop (byte_len w) bytes) rest g.1 in
    let front_bytes = IsBytes-take (byte_len w) bytes are in
    let front : to_be_bytes w n ≡ take (byte_len w) bytes =
    rw (← found.0) (wide.back (take (byte_len w) bytes) (omega (arith, length-take (byte_len w) bytes)) front_bytes) in
    let rest_bytes : IsBytes rest = rw (← found.1) (IsBytes-drop (byte_len w) bytes are) in
    (record { parts = rw (front, ← found.1) (sym (take-append-drop (byte_len w) bytes)); rest_is_bytes = rest_bytes }, rw (← found.0) (wide.below (take (byte_len w) bytes) front_bytes))

pub wide_again : (w : Width) (wide : IsWide w) (n : ℕ) (rest : List ℕ) → n < 2 ^ bits w → wide_at w (to_be_bytes w n ++ rest) ≡ Some (n, rest)
wide_again w wide n rest lt =
    let len = wide.len n in
    let long : ltb (length (to_be_bytes w n ++ rest)) (byte_len w) ≡ false = le-ltb _ _ (omega (arith, length-append (to_be_bytes w n) rest)) in
    rw (long, take_at (to_be_bytes w n) rest (byte_len w) len, drop_at (to_be_bytes w n) rest (byte_len w) len, wide.again n lt) refl

-- ---- integers

-- an integer as it stands behind its first byte
abbrev pub two's_complement : Width → ℤ → List ℕ
two's_complement w z = to_be_bytes w (cast_unsigned w z)

unsigned_takes : (w : Width) (wide : IsWide w) (bytes : List ℕ) (z : ℤ) (rest : List ℕ) → IsBytes bytes → unsigned_at w bytes ≡ Some (z, rest) → IsBelow (2 ^ bits w) z × Takes bytes (two's_complement w z) rest
unsigned_takes w wide bytes z rest are e =
    let b = bind_some (wide_at w bytes) (λ n. Some (pos n.0, n.1)) (z, rest) e in
    let t = wide_takes w wide bytes b.0.0 b.0.1 are b.1 in
    subst (λ (x : ℤ × List ℕ). IsBelow (2 ^ bits w) x.0 × Takes bytes (two's_complement w x.0) x.1) (same_Some (pos b.0.0, b.0.1) (z, rest) b.2) (t.1, t.0)

unsigned_again : (w : Width) (wide : IsWide w) (z : ℤ) (rest : List ℕ) → IsBelow (2 ^ bits w) z → unsigned_at w (two's_complement w z ++ rest) ≡ Some (z, rest)
unsigned_again w wide (pos n) rest lt = rw (wide_again w wide n rest lt) refl
unsigned_again w wide (negsuc n) rest lt = absurd lt

signed_takes : (w : Width) (wide : IsWide w) (bytes : List ℕ) (z : ℤ) (rest : List ℕ) → IsBytes bytes → signed_at w bytes ≡ Some (z, rest) → FitsSigned w z × Takes bytes (two's_complement w z) rest
signed_takes w wide bytes z rest are e =
    let b = bind_some (wide_at w bytes) (λ n. Some (cast_signed w n.0, n.1)) (z, rest) e in
    let t = wide_takes w wide bytes b.0.0 b.0.1 are b.1 in
    let back : cast_unsigned w (cast_signed w b.0.0) ≡ b.0.0 = of_z-to_z w b.0.0 t.1 in
    let whole : Takes bytes (two's_complement w (cast_signed w b.0.0)) b.0.1 = rw back t.0 in
    let fits = cast_signed_fits w b.0.0 wide.halves t.1 in
    subst (λ (x : ℤ × List ℕ). FitsSigned w x.0 × Takes bytes (two's_complement w x.0) x.1) (same_Some (cast_signed w b.0.0, b.0.1) (z, rest) b.2) (fits, whole)

signed_again : (w : Width) (wide : IsWide w) (z : ℤ) (rest : List ℕ) → FitsSigned w z → signed_at w (two's_complement w z ++ rest) ≡ Some (z, rest)
signed_again w wide z rest fits =
    let below = cast_unsigned_below w z wide.halves fits in
    rw (wide_again w wide (cast_unsigned w z) rest below, to_z-of_z w z fits) refl

integer_form_again : (form : IntegerForm) (z : ℤ) (rest : List ℕ) → FitsInteger form z → integer_at (integer_bytes form z ++ rest) ≡ Some (z, rest)
unfolding integer_at
integer_form_again positive_fixint (pos n) rest lt = let low : n % 256 ≡ n = omega arith in let t : ltb n 128 ≡ true = lt-ltb n 128 lt in rw (low, t) refl
integer_form_again positive_fixint (negsuc n) rest lt = absurd lt
integer_form_again negative_fixint (pos n) rest lt = absurd lt
integer_form_again negative_fixint (negsuc n) rest lt =
    let high : ltb ((256 - suc n) % 256) 128 ≡ false = le-ltb _ _ (omega arith) in
    let negative : leb 224 ((256 - suc n) % 256) ≡ true = le-leb _ _ (omega arith) in
    let back : 255 - (256 - suc n) % 256 ≡ n = omega arith in
    rw (high, negative, back) refl
integer_form_again uint_8 z rest fits = unsigned_again w8 wide8 z rest fits
integer_form_again uint_16 z rest fits = unsigned_again w16 wide16 z rest fits
integer_form_again uint_32 z rest fits = unsigned_again w32 wide32 z rest fits
integer_form_again uint_64 z rest fits = unsigned_again w64 wide64 z rest fits
integer_form_again int_8 z rest fits = signed_again w8 wide8 z rest fits
integer_form_again int_16 z rest fits = signed_again w16 wide16 z rest fits
integer_form_again int_32 z rest fits = signed_again w32 wide32 z rest fits
integer_form_again int_64 z rest fits = signed_again w64 wide64 z rest fits

pub integer_again : (z : ℤ) (spelled rest : List ℕ) → SpellsInteger z spelled → integer_at (spelled ++ rest) ≡ Some (z, rest)
integer_again z spelled rest s = rw s.2 (integer_form_again s.0 z rest s.1)

-- the cases of a test
by_test : {P : Type 0} (t : Bool) → (t ≡ true → P) → (t ≡ false → P) → P
by_test true f g = f refl
by_test false f g = g refl

behind_first : (first b : ℕ) (bytes spelled rest : List ℕ) → eqb b first ≡ true → Takes bytes spelled rest → Takes (b ∷ bytes) (first ∷ spelled) rest
behind_first first b bytes spelled rest same t = rw (eqb-true b first same) (Takes-behind first bytes spelled rest t)

abbrev pub TakesInteger : List ℕ → ℤ → List ℕ → Type 0
TakesInteger bytes z rest = (spelled : List ℕ) × SpellsInteger z spelled × Takes bytes spelled rest

fixint_taken : (b : ℕ) (bytes : List ℕ) → IsBytes (b ∷ bytes) → b < 128 → TakesInteger (b ∷ bytes) (pos b) bytes
fixint_taken b bytes are lt =
    let one : b ∷ [] ≡ b % 256 ∷ [] = let low : b ≡ b % 256 = omega arith in ap (λ (k : ℕ). k ∷ []) low in
    (b ∷ [], (positive_fixint, lt, one), record { parts = refl; rest_is_bytes = IsBytes-tail b bytes are })

negative_fixint_taken : (b : ℕ) (bytes : List ℕ) → IsBytes (b ∷ bytes) → 224 ≤ b → TakesInteger (b ∷ bytes) (negsuc (255 - b)) bytes
negative_fixint_taken b bytes are le =
    let low : b ≡ (256 - suc (255 - b)) % 256 = omega (arith, are 0) in
    let one : b ∷ [] ≡ (256 - suc (255 - b)) % 256 ∷ [] = ap (λ (k : ℕ). k ∷ []) low in
    (b ∷ [], (negative_fixint, omega arith, one), record { parts = refl; rest_is_bytes = IsBytes-tail b bytes are })

module _ (b : ℕ) (bytes : List ℕ) (z : ℤ) (rest : List ℕ) (are : IsBytes bytes) where
  unsigned_taken : (form : IntegerForm) (first : ℕ) (w : Width) → IsWide w → ((v : ℤ) → IsBelow (2 ^ bits w) v → FitsInteger form v) → integer_bytes form z ≡ marked first w z
      → eqb b first ≡ true → unsigned_at w bytes ≡ Some (z, rest) → TakesInteger (b ∷ bytes) z rest
  unsigned_taken form first w wide fits same is e =
      let t = unsigned_takes w wide bytes z rest are e in
      (marked first w z, (form, fits z t.0, sym same), behind_first first b bytes (two's_complement w z) rest is t.1)

  signed_taken : (form : IntegerForm) (first : ℕ) (w : Width) → IsWide w → ((v : ℤ) → FitsSigned w v → FitsInteger form v) → integer_bytes form z ≡ marked first w z
      → eqb b first ≡ true → signed_at w bytes ≡ Some (z, rest) → TakesInteger (b ∷ bytes) z rest
  signed_taken form first w wide fits same is e =
      let t = signed_takes w wide bytes z rest are e in
      (marked first w z, (form, fits z t.0, sym same), behind_first first b bytes (two's_complement w z) rest is t.1)

pub integer_takes : (bytes : List ℕ) (z : ℤ) (rest : List ℕ) → IsBytes bytes → integer_at bytes ≡ Some (z, rest) → TakesInteger bytes z rest
unfolding integer_at
integer_takes [] z rest are e = absurd cc
integer_takes (b ∷ bytes) z rest are e =
    let tail = IsBytes-tail b bytes are in
    by_test (ltb b 0x80)
    (λ t. let e' = rw t at e in subst (λ (x : ℤ × List ℕ). TakesInteger (b ∷ bytes) x.0 x.1) (same_Some (pos b, bytes) (z, rest) e') (fixint_taken b bytes are (ltb-true b 0x80 t)))
    (λ f. let e1 = rw f at e in
    by_test (leb 0xe0 b)
    (λ t. let e' = rw t at e1 in subst (λ (x : ℤ × List ℕ). TakesInteger (b ∷ bytes) x.0 x.1) (same_Some (negsuc (255 - b), bytes) (z, rest) e') (negative_fixint_taken b bytes are (leb-true 0xe0 b t)))
    (λ f. let e2 = rw f at e1 in
    by_test (eqb b 0xcc) (λ t. unsigned_taken b bytes z rest tail uint_8 0xcc w8 wide8 (λ v h. h) refl t (rw t at e2)) (λ f. let e3 = rw f at e2 in
    by_test (eqb b 0xcd) (λ t. unsigned_taken b bytes z rest tail uint_16 0xcd w16 wide16 (λ v h. h) refl t (rw t at e3)) (λ f. let e4 = rw f at e3 in
    by_test (eqb b 0xce) (λ t. unsigned_taken b bytes z rest tail uint_32 0xce w32 wide32 (λ v h. h) refl t (rw t at e4)) (λ f. let e5 = rw f at e4 in
    by_test (eqb b 0xcf) (λ t. unsigned_taken b bytes z rest tail uint_64 0xcf w64 wide64 (λ v h. h) refl t (rw t at e5)) (λ f. let e6 = rw f at e5 in
    by_test (eqb b 0xd0) (λ t. signed_taken b bytes z rest tail int_8 0xd0 w8 wide8 (λ v h. h) refl t (rw t at e6)) (λ f. let e7 = rw f at e6 in
    by_test (eqb b 0xd1) (λ t. signed_taken b bytes z rest tail int_16 0xd1 w16 wide16 (λ v h. h) refl t (rw t at e7)) (λ f. let e8 = rw f at e7 in
    by_test (eqb b 0xd2) (λ t. signed_taken b bytes z rest tail int_32 0xd2 w32 wide32 (λ v h. h) refl t (rw t at e8)) (λ f. let e9 = rw f at e8 in
    by_test (eqb b 0xd3) (λ t. signed_taken b bytes z rest tail int_64 0xd3 w64 wide64 (λ v h. h) refl t (rw t at e9)) (λ f. absurd (let none = rw f at e9 in cc)))))))))))

-- ---- heads with a length

-- a number in the low bits of the first byte
low_bits_taken : (low b : ℕ) (bytes : List ℕ) → IsBytes (b ∷ bytes) → low ≤ b → Takes (b ∷ bytes) ((low + (b - low)) ∷ []) bytes
low_bits_taken low b bytes are least =
    let same : b ≡ low + (b - low) = omega arith in
    record { parts = ap (λ (k : ℕ). k ∷ bytes) same; rest_is_bytes = IsBytes-tail b bytes are }

-- a number in the w bytes behind the first
wide_taken : (b : ℕ) (bytes : List ℕ) (n : ℕ) (rest : List ℕ) (first : ℕ) (w : Width) → IsBytes bytes → IsWide w → eqb b first ≡ true → wide_at w bytes ≡ Some (n, rest)
    → (n < 2 ^ bits w) × Takes (b ∷ bytes) (first ∷ to_be_bytes w n) rest
wide_taken b bytes n rest first w are wide is e =
    let t = wide_takes w wide bytes n rest are e in
    (t.1, behind_first first b bytes (to_be_bytes w n) rest is t.0)

abbrev pub TakesTextHead : List ℕ → ℕ → List ℕ → Type 0
TakesTextHead bytes n rest = (form : TextForm) × ((n < text_limit form) × Takes bytes (text_head form n) rest)

fixstr_taken : (b : ℕ) (bytes : List ℕ) → IsBytes (b ∷ bytes) → (leb 0xa0 b && leb b 0xbf) ≡ true → TakesTextHead (b ∷ bytes) (b - 0xa0) bytes
fixstr_taken b bytes are t =
    let within = and_parts (leb 0xa0 b) (leb b 0xbf) t in
    let most = leb-true b 0xbf within.1 in
    (fixstr, (omega arith, low_bits_taken 0xa0 b bytes are (leb-true 0xa0 b within.0)))

pub text_head_takes : (bytes : List ℕ) (n : ℕ) (rest : List ℕ) → IsBytes bytes → text_head_at bytes ≡ Some (n, rest) → TakesTextHead bytes n rest
unfolding text_head_at
text_head_takes [] n rest are e = absurd cc
text_head_takes (b ∷ bytes) n rest are e =
    let tail = IsBytes-tail b bytes are in
    by_test (leb 0xa0 b && leb b 0xbf)
    (λ t. let e' = rw t at e in subst (λ (x : ℕ × List ℕ). TakesTextHead (b ∷ bytes) x.0 x.1) (same_Some (b - 0xa0, bytes) (n, rest) e') (fixstr_taken b bytes are t))
    (λ f. let e1 = rw f at e in
    by_test (eqb b 0xd9) (λ t. (str_8, wide_taken b bytes n rest 0xd9 w8 tail wide8 t (rw t at e1))) (λ f. let e2 = rw f at e1 in
    by_test (eqb b 0xda) (λ t. (str_16, wide_taken b bytes n rest 0xda w16 tail wide16 t (rw t at e2))) (λ f. let e3 = rw f at e2 in
    by_test (eqb b 0xdb) (λ t. (str_32, wide_taken b bytes n rest 0xdb w32 tail wide32 t (rw t at e3))) (λ f. absurd (let none = rw f at e3 in cc)))))

pub text_head_again : (form : TextForm) (n : ℕ) (rest : List ℕ) → n < text_limit form → text_head_at (text_head form n ++ rest) ≡ Some (n, rest)
unfolding text_head_at
text_head_again fixstr n rest lt =
    let t : (leb 0xa0 (0xa0 + n) && leb (0xa0 + n) 0xbf) ≡ true = and_from (leb 0xa0 (0xa0 + n)) (leb (0xa0 + n) 0xbf) (le-leb 0xa0 (0xa0 + n) (omega arith)) (le-leb (0xa0 + n) 0xbf (omega arith)) in
    let back : 0xa0 + n - 0xa0 ≡ n = omega arith in
    rw (t, back) refl
text_head_again str_8 n rest lt = wide_again w8 wide8 n rest lt
text_head_again str_16 n rest lt = wide_again w16 wide16 n rest lt
text_head_again str_32 n rest lt = wide_again w32 wide32 n rest lt

-- ---- texts

text_taken : (bytes : List ℕ) (n : ℕ) (after text rest : List ℕ) → TakesTextHead bytes n after → ltb (length after) n ≡ false → is_utf8 (take n after) ≡ true
    → ◌≡◌ {A = List ℕ × List ℕ} (take n after, drop n after) (text, rest) → (spelled : List ℕ) × SpellsText text spelled × Takes bytes spelled rest
text_taken bytes n after text rest head long valid found =
    let enough : n ≤ length after = ltb-false _ _ long in
    let len : length (take n after) ≡ n = omega (arith, length-take n after) in
    let fits : length (take n after) < text_limit head.0 = rw len head.1.0 in
    let spelled : List ℕ = text_head head.0 (length (take n after)) ++ take n after in
    let second : Takes after (take n after) (drop n after) = record { parts = sym (take-append-drop n after); rest_is_bytes = IsBytes-drop n after head.1.1.rest_is_bytes } in
    let both = Takes-then bytes (text_head head.0 n) after (take n after) (drop n after) head.1.1 second in
    let whole : Takes bytes spelled (drop n after) = subst (λ (k : ℕ). Takes bytes (text_head head.0 k ++ take n after) (drop n after)) (sym len) both in
    let spells : SpellsText (take n after) spelled = record { form = head.0; fits = fits; utf8 = IsUtf8-from_is_utf8 (take n after) valid; are = refl } in
    subst (λ (x : List ℕ × List ℕ). (s : List ℕ) × SpellsText x.0 s × Takes bytes s x.1) found (spelled, spells, whole)

pub text_takes : (bytes text rest : List ℕ) → IsBytes bytes → text_at bytes ≡ Some (text, rest) → (spelled : List ℕ) × SpellsText text spelled × Takes bytes spelled rest
unfolding text_at
text_takes bytes text rest are e =
    let b = bind_some (text_head_at bytes) (λ n. cond (ltb (length n.1) n.0) None (cond (is_utf8 (take n.0 n.1)) (Some (take n.0 n.1, drop n.0 n.1)) None)) (text, rest) e in
    let n = b.0.0 in
    let after = b.0.1 in
    let head = text_head_takes bytes n after are b.1 in
    let longer = when_false (ltb (length after) n) (text, rest) (cond (is_utf8 (take n after)) (Some (take n after, drop n after)) None) b.2 in
    let valid = when_true (is_utf8 (take n after)) (text, rest) (Some (take n after, drop n after)) longer.1 in
    let found = same_Some (take n after, drop n after) (text, rest) valid.1 in
    text_taken bytes n after text rest head longer.0 valid.0 found

pub text_again : (text spelled rest : List ℕ) → SpellsText text spelled → text_at (spelled ++ rest) ≡ Some (text, rest)
unfolding text_at
text_again text spelled rest s =
    let regrouped : spelled ++ rest ≡ text_head s.form (length text) ++ (text ++ rest) = ap (λ (x : List ℕ). x ++ rest) s.are ∙ append_assoc (text_head s.form (length text)) text rest in
    let long : ltb (length (text ++ rest)) (length text) ≡ false = le-ltb _ _ (omega (arith, length-append text rest)) in
    ap text_at regrouped ∙ rw (text_head_again s.form (length text) (text ++ rest) s.fits, long, take_at text rest (length text) refl, drop_at text rest (length text) refl, is_utf8-from_IsUtf8 text s.utf8) refl

-- ---- headers of arrays

abbrev pub TakesArray : List ℕ → ℕ → List ℕ → Type 0
TakesArray bytes n rest = (spelled : List ℕ) × SpellsArray n spelled × Takes bytes spelled rest

fixarray_taken : (b : ℕ) (bytes : List ℕ) → IsBytes (b ∷ bytes) → (leb 0x90 b && leb b 0x9f) ≡ true → TakesArray (b ∷ bytes) (b - 0x90) bytes
fixarray_taken b bytes are t =
    let within = and_parts (leb 0x90 b) (leb b 0x9f) t in
    let most = leb-true b 0x9f within.1 in
    ((0x90 + (b - 0x90)) ∷ [], (fixarray, omega arith, refl), low_bits_taken 0x90 b bytes are (leb-true 0x90 b within.0))

wide_array_taken : (form : ArrayForm) (b : ℕ) (bytes : List ℕ) (n : ℕ) (rest : List ℕ) (first : ℕ) (w : Width) → IsBytes bytes → IsWide w → 2 ^ bits w ≡ array_limit form
    → array_head form n ≡ first ∷ to_be_bytes w n → eqb b first ≡ true → wide_at w bytes ≡ Some (n, rest) → TakesArray (b ∷ bytes) n rest
wide_array_taken form b bytes n rest first w are wide limit head is e =
    let t = wide_taken b bytes n rest first w are wide is e in
    (first ∷ to_be_bytes w n, (form, rw (← limit) t.0, sym head), t.1)

pub array_takes : (bytes : List ℕ) (n : ℕ) (rest : List ℕ) → IsBytes bytes → array_at bytes ≡ Some (n, rest) → TakesArray bytes n rest
unfolding array_at
array_takes [] n rest are e = absurd cc
array_takes (b ∷ bytes) n rest are e =
    let tail = IsBytes-tail b bytes are in
    by_test (leb 0x90 b && leb b 0x9f)
    (λ t. let e' = rw t at e in subst (λ (x : ℕ × List ℕ). TakesArray (b ∷ bytes) x.0 x.1) (same_Some (b - 0x90, bytes) (n, rest) e') (fixarray_taken b bytes are t))
    (λ f. let e1 = rw f at e in
    by_test (eqb b 0xdc) (λ t. wide_array_taken array_16 b bytes n rest 0xdc w16 tail wide16 refl refl t (rw t at e1)) (λ f. let e2 = rw f at e1 in
    by_test (eqb b 0xdd) (λ t. wide_array_taken array_32 b bytes n rest 0xdd w32 tail wide32 refl refl t (rw t at e2)) (λ f. absurd (let none = rw f at e2 in cc))))

array_head_again : (form : ArrayForm) (n : ℕ) (rest : List ℕ) → n < array_limit form → array_at (array_head form n ++ rest) ≡ Some (n, rest)
unfolding array_at
array_head_again fixarray n rest lt =
    let t : (leb 0x90 (0x90 + n) && leb (0x90 + n) 0x9f) ≡ true = and_from (leb 0x90 (0x90 + n)) (leb (0x90 + n) 0x9f) (le-leb 0x90 (0x90 + n) (omega arith)) (le-leb (0x90 + n) 0x9f (omega arith)) in
    let back : 0x90 + n - 0x90 ≡ n = omega arith in
    rw (t, back) refl
array_head_again array_16 n rest lt = wide_again w16 wide16 n rest lt
array_head_again array_32 n rest lt = wide_again w32 wide32 n rest lt

pub array_again : (n : ℕ) (spelled rest : List ℕ) → SpellsArray n spelled → array_at (spelled ++ rest) ≡ Some (n, rest)
array_again n spelled rest s = rw s.2 (array_head_again s.0 n rest s.1)

-- ---- the shortest spellings

shortest_unsigned_fits : (n : ℕ) → n < 2 ^ 64 → FitsInteger (shortest_unsigned n) (pos n)
shortest_unsigned_fits n lt =
    by_test (ltb n (2 ^ 7)) (λ t. rw t (ltb-true n (2 ^ 7) t)) (λ f. rw f (
    by_test (ltb n (2 ^ 8)) (λ t. rw t (ltb-true n (2 ^ 8) t)) (λ f. rw f (
    by_test (ltb n (2 ^ 16)) (λ t. rw t (ltb-true n (2 ^ 16) t)) (λ f. rw f (
    by_test (ltb n (2 ^ 32)) (λ t. rw t (ltb-true n (2 ^ 32) t)) (λ f. rw f lt)))))))

shortest_negative_fits : (n : ℕ) → n < 2 ^ 63 → FitsInteger (shortest_negative n) (negsuc n)
shortest_negative_fits n lt =
    by_test (ltb n 32) (λ t. rw t (ltb-true n 32 t)) (λ f. rw f (
    by_test (ltb n (2 ^ 7)) (λ t. rw t (record { sfits = ltb-true n (2 ^ 7) t })) (λ f. rw f (
    by_test (ltb n (2 ^ 15)) (λ t. rw t (record { sfits = ltb-true n (2 ^ 15) t })) (λ f. rw f (
    by_test (ltb n (2 ^ 31)) (λ t. rw t (record { sfits = ltb-true n (2 ^ 31) t })) (λ f. rw f (record { sfits = lt }))))))))

pub written_integer_spells : (z : ℤ) → IsSpellable z → SpellsInteger z (written_integer z)
written_integer_spells (pos n) lt = (shortest_unsigned n, shortest_unsigned_fits n lt, refl)
written_integer_spells (negsuc n) lt = (shortest_negative n, shortest_negative_fits n lt, refl)

shortest_text_fits : (n : ℕ) → n < 2 ^ 32 → n < text_limit (shortest_text n)
shortest_text_fits n lt =
    by_test (ltb n (2 ^ 5)) (λ t. rw t (ltb-true n (2 ^ 5) t)) (λ f. rw f (
    by_test (ltb n (2 ^ 8)) (λ t. rw t (ltb-true n (2 ^ 8) t)) (λ f. rw f (
    by_test (ltb n (2 ^ 16)) (λ t. rw t (ltb-true n (2 ^ 16) t)) (λ f. rw f lt)))))

pub written_text_spells : (text : List ℕ) → IsUtf8 text → length text < 2 ^ 32 → SpellsText text (written_text text)
written_text_spells text utf8 lt = record { form = shortest_text (length text); fits = shortest_text_fits (length text) lt; utf8 = utf8; are = refl }

shortest_array_fits : (n : ℕ) → n < 2 ^ 32 → n < array_limit (shortest_array n)
shortest_array_fits n lt =
    by_test (ltb n (2 ^ 4)) (λ t. rw t (ltb-true n (2 ^ 4) t)) (λ f. rw f (
    by_test (ltb n (2 ^ 16)) (λ t. rw t (ltb-true n (2 ^ 16) t)) (λ f. rw f lt)))

pub written_array_spells : (n : ℕ) → n < 2 ^ 32 → SpellsArray n (written_array n)
written_array_spells n lt = (shortest_array n, shortest_array_fits n lt, refl)

-- ---- what has a spelling, and how long it is

spellable_form : (form : IntegerForm) (z : ℤ) → FitsInteger form z → IsSpellable z
spellable_form positive_fixint (pos n) lt = omega arith
spellable_form positive_fixint (negsuc n) lt = absurd lt
spellable_form negative_fixint (pos n) lt = absurd lt
spellable_form negative_fixint (negsuc n) lt = omega arith
spellable_form uint_8 (pos n) lt = omega arith
spellable_form uint_8 (negsuc n) lt = absurd lt
spellable_form uint_16 (pos n) lt = omega arith
spellable_form uint_16 (negsuc n) lt = absurd lt
spellable_form uint_32 (pos n) lt = omega arith
spellable_form uint_32 (negsuc n) lt = absurd lt
spellable_form uint_64 (pos n) lt = omega arith
spellable_form uint_64 (negsuc n) lt = absurd lt
spellable_form int_8 (pos n) fits = omega (arith, fits.sfits)
spellable_form int_8 (negsuc n) fits = omega (arith, fits.sfits)
spellable_form int_16 (pos n) fits = omega (arith, fits.sfits)
spellable_form int_16 (negsuc n) fits = omega (arith, fits.sfits)
spellable_form int_32 (pos n) fits = omega (arith, fits.sfits)
spellable_form int_32 (negsuc n) fits = omega (arith, fits.sfits)
spellable_form int_64 (pos n) fits = omega (arith, fits.sfits)
spellable_form int_64 (negsuc n) fits = omega (arith, fits.sfits)

pub spelled_integer_fits : (z : ℤ) (spelled : List ℕ) → SpellsInteger z spelled → IsSpellable z
spelled_integer_fits z spelled s = spellable_form s.0 z s.1

spelled_text_form_short : (form : TextForm) (n : ℕ) → n < text_limit form → n < 2 ^ 32
spelled_text_form_short fixstr n lt = omega arith
spelled_text_form_short str_8 n lt = omega arith
spelled_text_form_short str_16 n lt = omega arith
spelled_text_form_short str_32 n lt = lt

pub spelled_text_short : (text spelled : List ℕ) → SpellsText text spelled → length text < 2 ^ 32
spelled_text_short text spelled s = spelled_text_form_short s.form (length text) s.fits

abbrev pub HasLength : ℕ → ℕ → List ℕ → Type 0
HasLength least most bytes = (least ≤ length bytes) × (length bytes ≤ most)

pub integer_form_length : (form : IntegerForm) (z : ℤ) → HasLength 1 9 (integer_bytes form z)
integer_form_length positive_fixint z = (omega arith, omega arith)
integer_form_length negative_fixint z = (omega arith, omega arith)
integer_form_length uint_8 z = (omega arith, omega arith)
integer_form_length uint_16 z = (omega arith, omega arith)
integer_form_length uint_32 z = (omega arith, omega arith)
integer_form_length uint_64 z = (omega arith, omega arith)
integer_form_length int_8 z = (omega arith, omega arith)
integer_form_length int_16 z = (omega arith, omega arith)
integer_form_length int_32 z = (omega arith, omega arith)
integer_form_length int_64 z = (omega arith, omega arith)

pub integer_length : (z : ℤ) (spelled : List ℕ) → SpellsInteger z spelled → HasLength 1 9 spelled
integer_length z spelled s = rw s.2 (integer_form_length s.0 z)

pub text_head_length : (form : TextForm) (n : ℕ) → HasLength 1 5 (text_head form n)
text_head_length fixstr n = (omega arith, omega arith)
text_head_length str_8 n = (omega arith, omega arith)
text_head_length str_16 n = (omega arith, omega arith)
text_head_length str_32 n = (omega arith, omega arith)

pub text_length : (text spelled : List ℕ) → SpellsText text spelled → HasLength 1 (5 + length text) spelled
text_length text spelled s =
    let head = text_head_length s.form (length text) in
    let whole = ap length s.are ∙ length-append (text_head s.form (length text)) text in
    (omega arith, omega arith)

pub array_form_length : (form : ArrayForm) (n : ℕ) → HasLength 1 5 (array_head form n)
array_form_length fixarray n = (omega arith, omega arith)
array_form_length array_16 n = (omega arith, omega arith)
array_form_length array_32 n = (omega arith, omega arith)

pub array_length : (n : ℕ) (spelled : List ℕ) → SpellsArray n spelled → HasLength 1 5 spelled
array_length n spelled s = rw s.2 (array_form_length s.0 n)

-- ---- no spelling is shorter than the written one

abbrev unsigned_length : ℕ → ℕ
unsigned_length n = cond (ltb n (2 ^ 7)) 1 (cond (ltb n (2 ^ 8)) 2 (cond (ltb n (2 ^ 16)) 3 (cond (ltb n (2 ^ 32)) 5 9)))

abbrev negative_length : ℕ → ℕ
negative_length n = cond (ltb n 32) 1 (cond (ltb n (2 ^ 7)) 2 (cond (ltb n (2 ^ 15)) 3 (cond (ltb n (2 ^ 31)) 5 9)))

unsigned_length_is : (n : ℕ) → length (written_integer (pos n)) ≡ unsigned_length n
unsigned_length_is n =
    by_test (ltb n (2 ^ 7)) (λ t. rw t refl) (λ f. rw f (
    by_test (ltb n (2 ^ 8)) (λ t. rw t refl) (λ f. rw f (
    by_test (ltb n (2 ^ 16)) (λ t. rw t refl) (λ f. rw f (
    by_test (ltb n (2 ^ 32)) (λ t. rw t refl) (λ f. rw f refl)))))))

negative_length_is : (n : ℕ) → length (written_integer (negsuc n)) ≡ negative_length n
negative_length_is n =
    by_test (ltb n 32) (λ t. rw t refl) (λ f. rw f (
    by_test (ltb n (2 ^ 7)) (λ t. rw t refl) (λ f. rw f (
    by_test (ltb n (2 ^ 15)) (λ t. rw t refl) (λ f. rw f (
    by_test (ltb n (2 ^ 31)) (λ t. rw t refl) (λ f. rw f refl)))))))

unsigned_least : (form : IntegerForm) (n : ℕ) → FitsInteger form (pos n) → length (written_integer (pos n)) ≤ length (integer_bytes form (pos n))
unsigned_least positive_fixint n fits = rw (unsigned_length_is n) (grind (arith, nat_tests))
unsigned_least negative_fixint n fits = absurd fits
unsigned_least uint_8 n fits = rw (unsigned_length_is n) (grind (arith, nat_tests))
unsigned_least uint_16 n fits = rw (unsigned_length_is n) (grind (arith, nat_tests))
unsigned_least uint_32 n fits = rw (unsigned_length_is n) (grind (arith, nat_tests))
unsigned_least uint_64 n fits = rw (unsigned_length_is n) (grind (arith, nat_tests))
unsigned_least int_8 n fits = let fits' = fits.sfits in rw (unsigned_length_is n) (grind (arith, nat_tests))
unsigned_least int_16 n fits = let fits' = fits.sfits in rw (unsigned_length_is n) (grind (arith, nat_tests))
unsigned_least int_32 n fits = let fits' = fits.sfits in rw (unsigned_length_is n) (grind (arith, nat_tests))
unsigned_least int_64 n fits = let fits' = fits.sfits in rw (unsigned_length_is n) (grind (arith, nat_tests))

negative_least : (form : IntegerForm) (n : ℕ) → FitsInteger form (negsuc n) → length (written_integer (negsuc n)) ≤ length (integer_bytes form (negsuc n))
negative_least positive_fixint n fits = absurd fits
negative_least negative_fixint n fits = rw (negative_length_is n) (grind (arith, nat_tests))
negative_least uint_8 n fits = absurd fits
negative_least uint_16 n fits = absurd fits
negative_least uint_32 n fits = absurd fits
negative_least uint_64 n fits = absurd fits
negative_least int_8 n fits = let fits' = fits.sfits in rw (negative_length_is n) (grind (arith, nat_tests))
negative_least int_16 n fits = let fits' = fits.sfits in rw (negative_length_is n) (grind (arith, nat_tests))
negative_least int_32 n fits = let fits' = fits.sfits in rw (negative_length_is n) (grind (arith, nat_tests))
negative_least int_64 n fits = let fits' = fits.sfits in rw (negative_length_is n) (grind (arith, nat_tests))

pub integer_least : (z : ℤ) (spelled : List ℕ) → SpellsInteger z spelled → length (written_integer z) ≤ length spelled
integer_least (pos n) spelled s = rw s.2 (unsigned_least s.0 n s.1)
integer_least (negsuc n) spelled s = rw s.2 (negative_least s.0 n s.1)

text_head_length_is : (n : ℕ) → length (text_head (shortest_text n) n) ≡ cond (ltb n (2 ^ 5)) 1 (cond (ltb n (2 ^ 8)) 2 (cond (ltb n (2 ^ 16)) 3 5))
text_head_length_is n =
    by_test (ltb n (2 ^ 5)) (λ t. rw t refl) (λ f. rw f (
    by_test (ltb n (2 ^ 8)) (λ t. rw t refl) (λ f. rw f (
    by_test (ltb n (2 ^ 16)) (λ t. rw t refl) (λ f. rw f refl)))))

text_head_least : (form : TextForm) (n : ℕ) → n < text_limit form → length (text_head (shortest_text n) n) ≤ length (text_head form n)
text_head_least fixstr n lt = rw (text_head_length_is n) (grind (arith, nat_tests))
text_head_least str_8 n lt = rw (text_head_length_is n) (grind (arith, nat_tests))
text_head_least str_16 n lt = rw (text_head_length_is n) (grind (arith, nat_tests))
text_head_least str_32 n lt = rw (text_head_length_is n) (grind (arith, nat_tests))

pub text_least : (text spelled : List ℕ) → SpellsText text spelled → length (written_text text) ≤ length spelled
text_least text spelled s =
    let head = text_head_least s.form (length text) s.fits in
    let written = length-append (text_head (shortest_text (length text)) (length text)) text in
    let whole = ap length s.are ∙ length-append (text_head s.form (length text)) text in
    omega arith

array_length_is : (n : ℕ) → length (written_array n) ≡ cond (ltb n (2 ^ 4)) 1 (cond (ltb n (2 ^ 16)) 3 5)
array_length_is n =
    by_test (ltb n (2 ^ 4)) (λ t. rw t refl) (λ f. rw f (
    by_test (ltb n (2 ^ 16)) (λ t. rw t refl) (λ f. rw f refl)))

array_form_least : (form : ArrayForm) (n : ℕ) → n < array_limit form → length (written_array n) ≤ length (array_head form n)
array_form_least fixarray n lt = rw (array_length_is n) (grind (arith, nat_tests))
array_form_least array_16 n lt = rw (array_length_is n) (grind (arith, nat_tests))
array_form_least array_32 n lt = rw (array_length_is n) (grind (arith, nat_tests))

pub array_least : (n : ℕ) (spelled : List ℕ) → SpellsArray n spelled → length (written_array n) ≤ length spelled
array_least n spelled s = rw s.2 (array_form_least s.0 n s.1)

-- ---- each kind is read by its spellings, exactly

pub integers_read : ReadsSpellings integer_at SpellsInteger
integers_read = record { takes = integer_takes; again = integer_again }

pub texts_read : ReadsSpellings text_at SpellsText
texts_read = record { takes = text_takes; again = text_again }

pub arrays_read : ReadsSpellings array_at SpellsArray
arrays_read = record { takes = array_takes; again = array_again }

pub integers_apart : (a b x y : List ℕ) (v w : ℤ) → SpellsInteger v a → SpellsInteger w b → a ++ x ≡ b ++ y → (a ≡ b) × (v ≡ w)
integers_apart = spellings_apart ℤ integer_at SpellsInteger integers_read

pub texts_apart : (a b x y v w : List ℕ) → SpellsText v a → SpellsText w b → a ++ x ≡ b ++ y → (a ≡ b) × (v ≡ w)
texts_apart = spellings_apart (List ℕ) text_at SpellsText texts_read

pub arrays_apart : (a b x y : List ℕ) (v w : ℕ) → SpellsArray v a → SpellsArray w b → a ++ x ≡ b ++ y → (a ≡ b) × (v ≡ w)
arrays_apart = spellings_apart ℕ array_at SpellsArray arrays_read

pub integer_none : (bytes : List ℕ) → integer_at bytes ≡ None → NoPrefix IsInteger bytes
integer_none = none_stands ℤ integer_at SpellsInteger integers_read

pub integer_none_read : (bytes : List ℕ) → IsBytes bytes → NoPrefix IsInteger bytes → integer_at bytes ≡ None
integer_none_read = none_read ℤ integer_at SpellsInteger integers_read

pub text_none : (bytes : List ℕ) → text_at bytes ≡ None → NoPrefix IsText bytes
text_none = none_stands (List ℕ) text_at SpellsText texts_read

pub text_none_read : (bytes : List ℕ) → IsBytes bytes → NoPrefix IsText bytes → text_at bytes ≡ None
text_none_read = none_read (List ℕ) text_at SpellsText texts_read

pub array_none : (bytes : List ℕ) → array_at bytes ≡ None → NoPrefix IsArray bytes
array_none = none_stands ℕ array_at SpellsArray arrays_read

pub array_none_read : (bytes : List ℕ) → IsBytes bytes → NoPrefix IsArray bytes → array_at bytes ≡ None
array_none_read = none_read ℕ array_at SpellsArray arrays_read

-- ---- kinds are apart: a first byte belongs to one kind

integer_not_at_text : (form : TextForm) (n : ℕ) (rest : List ℕ) → n < text_limit form → integer_at (text_head form n ++ rest) ≡ None
unfolding integer_at
integer_not_at_text fixstr n rest lt =
    let high : ltb (0xa0 + n) 0x80 ≡ false = le-ltb _ _ (omega arith) in
    let low : leb 0xe0 (0xa0 + n) ≡ false = lt-leb 0xe0 (0xa0 + n) (omega arith) in
    rw (high, low, ne_eqb (0xa0 + n) 0xcc (λ e. omega arith), ne_eqb (0xa0 + n) 0xcd (λ e. omega arith), ne_eqb (0xa0 + n) 0xce (λ e. omega arith), ne_eqb (0xa0 + n) 0xcf (λ e. omega arith), ne_eqb (0xa0 + n) 0xd0 (λ e. omega arith), ne_eqb (0xa0 + n) 0xd1 (λ e. omega arith), ne_eqb (0xa0 + n) 0xd2 (λ e. omega arith), ne_eqb (0xa0 + n) 0xd3 (λ e. omega arith)) refl
integer_not_at_text str_8 n rest lt = refl
integer_not_at_text str_16 n rest lt = refl
integer_not_at_text str_32 n rest lt = refl

integer_not_at_array : (form : ArrayForm) (n : ℕ) (rest : List ℕ) → n < array_limit form → integer_at (array_head form n ++ rest) ≡ None
unfolding integer_at
integer_not_at_array fixarray n rest lt =
    let high : ltb (0x90 + n) 0x80 ≡ false = le-ltb _ _ (omega arith) in
    let low : leb 0xe0 (0x90 + n) ≡ false = lt-leb 0xe0 (0x90 + n) (omega arith) in
    rw (high, low, ne_eqb (0x90 + n) 0xcc (λ e. omega arith), ne_eqb (0x90 + n) 0xcd (λ e. omega arith), ne_eqb (0x90 + n) 0xce (λ e. omega arith), ne_eqb (0x90 + n) 0xcf (λ e. omega arith), ne_eqb (0x90 + n) 0xd0 (λ e. omega arith), ne_eqb (0x90 + n) 0xd1 (λ e. omega arith), ne_eqb (0x90 + n) 0xd2 (λ e. omega arith), ne_eqb (0x90 + n) 0xd3 (λ e. omega arith)) refl
integer_not_at_array array_16 n rest lt = refl
integer_not_at_array array_32 n rest lt = refl

array_not_at_text : (form : TextForm) (n : ℕ) (rest : List ℕ) → n < text_limit form → array_at (text_head form n ++ rest) ≡ None
unfolding array_at
array_not_at_text fixstr n rest lt =
    let above : leb (0xa0 + n) 0x9f ≡ false = lt-leb (0xa0 + n) 0x9f (omega arith) in
    let outside : (leb 0x90 (0xa0 + n) && leb (0xa0 + n) 0x9f) ≡ false = and_right _ _ above in
    rw (outside, ne_eqb (0xa0 + n) 0xdc (λ e. omega arith), ne_eqb (0xa0 + n) 0xdd (λ e. omega arith)) refl
array_not_at_text str_8 n rest lt = refl
array_not_at_text str_16 n rest lt = refl
array_not_at_text str_32 n rest lt = refl

-- where nothing is read, no such spelling stands, whatever else does
not_both : {A : Type 0} (read : List ℕ → Option (A × List ℕ)) (one other : List ℕ) (found : A × List ℕ) → one ≡ other → read one ≡ None → read other ≡ Some found → ⊥
not_both read one other found same nothing there = let e = ap read same in cc

text_parts : (text spelled rest : List ℕ) (s : SpellsText text spelled) → spelled ++ rest ≡ text_head s.form (length text) ++ (text ++ rest)
text_parts text spelled rest s = ap (λ (x : List ℕ). x ++ rest) s.are ∙ append_assoc (text_head s.form (length text)) text rest

array_parts : (n : ℕ) (spelled rest : List ℕ) (s : SpellsArray n spelled) → spelled ++ rest ≡ array_head s.0 n ++ rest
array_parts n spelled rest s = ap (λ (x : List ℕ). x ++ rest) s.2

pub integer_and_text_apart : (a b x y v : List ℕ) (z : ℤ) → SpellsInteger z a → SpellsText v b → a ++ x ≡ b ++ y → ⊥
integer_and_text_apart a b x y v z s t e =
    not_both integer_at (text_head t.form (length v) ++ (v ++ y)) (a ++ x) (z, x) (sym (e ∙ text_parts v b y t)) (integer_not_at_text t.form (length v) (v ++ y) t.fits) (integer_again z a x s)

pub integer_and_array_apart : (a b x y : List ℕ) (z : ℤ) (n : ℕ) → SpellsInteger z a → SpellsArray n b → a ++ x ≡ b ++ y → ⊥
integer_and_array_apart a b x y z n s t e =
    not_both integer_at (array_head t.0 n ++ y) (a ++ x) (z, x) (sym (e ∙ array_parts n b y t)) (integer_not_at_array t.0 n y t.1) (integer_again z a x s)

pub array_and_text_apart : (a b x y v : List ℕ) (n : ℕ) → SpellsArray n a → SpellsText v b → a ++ x ≡ b ++ y → ⊥
array_and_text_apart a b x y v n s t e =
    not_both array_at (text_head t.form (length v) ++ (v ++ y)) (a ++ x) (n, x) (sym (e ∙ text_parts v b y t)) (array_not_at_text t.form (length v) (v ++ y) t.fits) (array_again n a x s)
