-- What the parser makes of one word, by what the word is.
use Rattle.std.proofs.Common.{◌≡◌, ℕ, Bool, true, false, cond, List, [], ◌∷◌, Option, Some, None, ◌&&◌, refl, sym, ap, ◌∙◌, subst, arith, slice_get, ◌==◌}
use Rattle.std.specs.Option.{option_map_or, option_and_then}
use Rattle.std.specs.Str.{bytes_eq, chars, IsUtf8, encode_utf8_all}
use Rattle.std.proofs.lemmas.Bool.{eqb-true}
use Rattle.std.proofs.lemmas.Str.{IsCharBoundary-after_ascii, IsUtf8-drop, chars-encodes}
use Rattle.clap.specs.Lexer.{long_of, long_of_rest, short_of, short_of_rest, strip_byte}
use Rattle.clap.specs.Kinds.{Kinds, or_else}
use Rattle.clap.specs.Faults.{bundle_fault, flag_word_fault, long_fault, step_fault, turn_fault, word_fault}
use Rattle.clap.specs.Simple.{Shape}
use Rattle.clap.specs.Walk.{Held, Rule, Step, Waiting, Walk, after_step, arg_by_long, idle, long_or_other, long_word, option, positional, short_or_plain, trailing, walked, word_met}
use Rattle.search_words.specs.Words.{Text, Word, end_of_options, named, hyphened, plain, word_of, behind_a_hyphen, behind_two_hyphens}

-- ---- what a word looks like

pub by_test : {P : Type 0} (b : Bool) → (b ≡ true → P) → (b ≡ false → P) → P
by_test true is_so is_not = is_so refl
by_test false is_so is_not = is_not refl

abbrev pub two_hyphens : Text
two_hyphens = 45 ∷ 45 ∷ []

-- the hyphen is followed by a character
pub record IsBundle (word : Text) : Type 0 where
  pub first : ℕ
  pub rest : Text
  pub character : ℕ
  pub short : short_of word ≡ Some (first ∷ rest)
  pub begins : slice_get (chars (first ∷ rest)) 0 ≡ Some character

abbrev pub Looks : Text → Word → Type 0
Looks word end_of_options = bytes_eq word two_hyphens ≡ true
Looks word (named name value) = (bytes_eq word two_hyphens ≡ false) × (long_of word ≡ Some (name, value))
Looks word hyphened = (bytes_eq word two_hyphens ≡ false) × (long_of word ≡ None) × IsBundle word
Looks word (plain text) = (bytes_eq word two_hyphens ≡ false) × (long_of word ≡ None) × (short_of word ≡ None) × (text ≡ word)

first_of_some : (xs : List ℕ) → (xs ≡ [] → ⊥) → (x : ℕ) × (slice_get xs 0 ≡ Some x)
first_of_some [] h = absurd (h refl)
first_of_some (x ∷ xs) h = (x, refl)

spelled_again : (text : Text) → IsUtf8 text → encode_utf8_all (chars text) ≡ text
spelled_again text u = ap encode_utf8_all (ap chars (sym u.1.1) ∙ chars-encodes u.0 u.1.0) ∙ u.1.1

never_empty : (b : ℕ) (rest : Text) → IsUtf8 (b ∷ rest) → chars (b ∷ rest) ≡ [] → ⊥
never_empty b rest u none = let wrong : [] ≡ b ∷ rest = sym (ap encode_utf8_all none) ∙ spelled_again (b ∷ rest) u in cc

behind_hyphen : (b : ℕ) (rest : Text) → IsUtf8 (45 ∷ b ∷ rest) → IsUtf8 (b ∷ rest)
behind_hyphen b rest u = IsUtf8-drop (45 ∷ b ∷ rest) 1 u (IsCharBoundary-after_ascii (45 ∷ b ∷ rest) 0 u (omega arith) (omega arith))

bundled : (b : ℕ) (rest : Text) → (b == 45) ≡ false → IsUtf8 (45 ∷ b ∷ rest) → IsBundle (45 ∷ b ∷ rest)
bundled b rest other u =
    let c = first_of_some (chars (b ∷ rest)) (never_empty b rest (behind_hyphen b rest u)) in
    record { first = b; rest = rest; character = c.0; short = rw other refl; begins = c.1 }

module _ (b : ℕ) (rest : Text) (other : (b == 45) ≡ false) where
  not_end : bytes_eq (45 ∷ b ∷ rest) two_hyphens ≡ false
  not_end = ap (λ (t : Bool). t && bytes_eq rest []) other

  not_long : long_of (45 ∷ b ∷ rest) ≡ None
  not_long = ap (λ (t : Bool). option_and_then long_of_rest (cond t (Some rest) None)) other

  plain_start : Looks (b ∷ rest) (plain (b ∷ rest))
  plain_start = (
    ap (λ (t : Bool). t && bytes_eq rest (45 ∷ [])) other,
    ap (λ (t : Bool). option_and_then long_of_rest (option_and_then (strip_byte 45) (cond t (Some rest) None))) other,
    ap (λ (t : Bool). option_and_then short_of_rest (cond t (Some rest) None)) other,
    refl,
  )

looks_two : (rest : Text) → Looks (45 ∷ 45 ∷ rest) (behind_two_hyphens rest)
looks_two [] = refl
looks_two (x ∷ xs) = (refl, refl)

looks_behind : (rest : Text) → IsUtf8 (45 ∷ rest) → Looks (45 ∷ rest) (behind_a_hyphen rest)
looks_behind [] u = (refl, refl, refl, refl)
looks_behind (b ∷ rest) u =
    by_test (b == 45)
    (λ yes. subst (λ (n : ℕ). Looks (45 ∷ n ∷ rest) (behind_a_hyphen (n ∷ rest))) (sym (eqb-true b 45 yes)) (looks_two rest))
    (λ no. subst (λ (t : Bool). Looks (45 ∷ b ∷ rest) (cond t (behind_two_hyphens rest) hyphened)) (sym no) (not_end b rest no, not_long b rest no, bundled b rest no u))

pub looks : (word : Text) → IsUtf8 word → Looks word (word_of word)
looks [] u = (refl, refl, refl, refl)
looks (b ∷ rest) u =
    by_test (b == 45)
    (λ yes. subst (λ (n : ℕ). IsUtf8 (n ∷ rest) → Looks (n ∷ rest) (word_of (n ∷ rest))) (sym (eqb-true b 45 yes)) (looks_behind rest) u)
    (λ no. subst (λ (t : Bool). Looks (b ∷ rest) (cond t (behind_a_hyphen rest) (plain (b ∷ rest)))) (sym no) (plain_start b rest no))

-- ---- the turn of one word

module _ (c : List Rule) (waiting : Waiting) (place : ℕ) (word : Text) (h : Held) where
  abbrev other_met : Option (Text × Option Text) → Option Text → Held × Step
  other_met (Some p) flags = long_word c waiting word p.0 p.1 h
  other_met None flags = short_or_plain c waiting word flags h

  abbrev pub met_by : Bool → Option (Text × Option Text) → Option Text → Held × Step
  met_by is_end long flags = cond is_end (h, trailing place) (other_met long flags)

  other_met_is : (long : Option (Text × Option Text)) → long_or_other c waiting word long h ≡ other_met long (short_of word)
  other_met_is (Some p) = refl
  other_met_is None = refl

  no_names : (w : Waiting) → word_met c [] false w place word h ≡ cond (bytes_eq word two_hyphens) (h, trailing place) (long_or_other c w word (long_of word) h)
  no_names idle = refl
  no_names (option id) = refl
  no_names positional = refl

  pub met_is : (is_end : Bool) (long : Option (Text × Option Text)) (flags : Option Text)
      → bytes_eq word two_hyphens ≡ is_end → long_of word ≡ long → short_of word ≡ flags → word_met c [] false waiting place word h ≡ met_by is_end long flags
  met_is is_end long flags e l f =
      no_names waiting
      ∙ ap (λ (o : Held × Step). cond (bytes_eq word two_hyphens) (h, trailing place) o) (other_met_is (long_of word))
      ∙ ap (λ (b : Bool). met_by b (long_of word) (short_of word)) e
      ∙ ap (λ (o : Option (Text × Option Text)). met_by is_end o (short_of word)) l
      ∙ ap (λ (o : Option Text). met_by is_end long o) f

module _ (s : Shape) (waiting : Waiting) (word : Text) (h : Held) where
  abbrev flags_fault_by : Option Text → Kinds
  flags_fault_by None = []
  flags_fault_by (Some flags) = bundle_fault s.rules s.args_override_self flags h

  abbrev other_fault_by : Option (Text × Option Text) → Option Text → Kinds
  other_fault_by (Some p) flags = long_fault s.rules s.args_override_self (arg_by_long s.rules p.0) p.1 h
  other_fault_by None flags = flags_fault_by flags

  abbrev pub fault_by : Bool → Option (Text × Option Text) → Option Text → Kinds
  fault_by is_end long flags = cond is_end [] (other_fault_by long flags)

  flags_is : (flags : Option Text) → option_map_or (λ (f : Text). bundle_fault s.rules s.args_override_self f h) flags [] ≡ flags_fault_by flags
  flags_is None = refl
  flags_is (Some flags) = refl

  other_fault_is : (long : Option (Text × Option Text)) → flag_word_fault s.rules s.args_override_self long word h ≡ other_fault_by long (short_of word)
  other_fault_is (Some p) = refl
  other_fault_is None = flags_is (short_of word)

  no_names_fault : (w : Waiting) → word_fault s [] false w word h ≡ cond (bytes_eq word two_hyphens) [] (flag_word_fault s.rules s.args_override_self (long_of word) word h)
  no_names_fault idle = refl
  no_names_fault (option id) = refl
  no_names_fault positional = refl

  pub fault_is : (is_end : Bool) (long : Option (Text × Option Text)) (flags : Option Text)
      → bytes_eq word two_hyphens ≡ is_end → long_of word ≡ long → short_of word ≡ flags → word_fault s [] false waiting word h ≡ fault_by is_end long flags
  fault_is is_end long flags e l f =
      no_names_fault waiting
      ∙ ap (λ (o : Kinds). cond (bytes_eq word two_hyphens) [] o) (other_fault_is (long_of word))
      ∙ ap (λ (b : Bool). fault_by b (long_of word) (short_of word)) e
      ∙ ap (λ (o : Option (Text × Option Text)). fault_by is_end o (short_of word)) l
      ∙ ap (λ (o : Option Text). fault_by is_end long o) f

-- a walk that goes on
abbrev pub walk_on : Bool → Waiting → ℕ → Held → Walk
walk_on is_trailing waiting place h = record { held = h; waiting = waiting; position = place; is_trailing = is_trailing; stopped = None }

-- a turn whose word has this fault and is met so
module _ (s : Shape) (is_trailing : Bool) (waiting : Waiting) (place : ℕ) (word : Text) (h : Held) (fault : Kinds) (met : Held × Step)
    (faulty : word_fault s [] is_trailing waiting word h ≡ fault) (is_met : word_met s.rules [] is_trailing waiting place word h ≡ met) where
  pub turn_fault_is : turn_fault s [] (walk_on is_trailing waiting place h) word ≡ or_else fault (step_fault s place met.0 met.1)
  turn_fault_is =
      ap (λ (k : Kinds). or_else k (step_fault s place (word_met s.rules [] is_trailing waiting place word h).0 (word_met s.rules [] is_trailing waiting place word h).1)) faulty
      ∙ ap (λ (m : Held × Step). or_else fault (step_fault s place m.0 m.1)) is_met

  pub walked_is : walked s.rules [] (walk_on is_trailing waiting place h) word ≡ after_step s.rules word (walk_on is_trailing waiting place h) met.0 met.1
  unfolding walked
  walked_is = ap (λ (m : Held × Step). after_step s.rules word (walk_on is_trailing waiting place h) m.0 m.1) is_met
