-- A text in a JSON object is no longer than the object's text.
use Rattle.std.proofs.Common.{◌≡◌, ℕ, zero, suc, ◌+◌, ◌≤◌, Bool, true, false, cond, List, [], ◌∷◌, length, Option, Some, None, option_and_then, option_map, refl, sym, ap, subst, ◌∙◌, ◌==◌, ◌&&◌, nat_lt, arith}
use Rattle.std.specs.Char.{encode_utf8}
use Rattle.std.proofs.lemmas.List.{length-append}
use Rattle.std.specs.Ordering.{match_ordering, nat_cmp}
use Rattle.std.specs.Cmp.Lexicographic.{slice_cmp}
use Rattle.std.specs.declared.cmp.Ordering.{Ordering}
use Rattle.std.specs.declared.cmp.Ordering.TheVariants.{Less, Equal, Greater}
use Rattle.json.specs.Ascii as ascii
use Rattle.json.specs.Json as json
use Rattle.json.specs.Lex.{Class, Lexeme, Mode, Place, after_comma, after_key, after_value, backslash, begins_colon, between, class, colon, comma, fresh, if_allowed, in_escape, in_string, in_word, lex, lex_byte, may_begin, may_close, operator, operator_lexeme, other, place_token, punctuate, quote, space, string_token, token, tokens}
use Rattle.json.specs.Text.{Within, after_backslash, after_high, after_u, code_unit, content, is_high_surrogate, is_low_surrogate, plain, prepend, short_escape, surrogate_pair}
use Rattle.json.specs.Token as of_token
use Rattle.json.specs.Token.{Token}
use Rattle.json.specs.Word.{head, literal, number_before, word, after_number, ends_word}
use Rattle.record_seal.specs.Json.{text_member}
use Rattle.serde_json.specs.Data as data_of
use Rattle.serde_json.specs.Data.{Data, put}
use Rattle.serde_json.specs.Find.{get, get_member, as_str}
use Rattle.serde_json.specs.Read.{max_depth, of_json, of_items, of_members, read}

-- ---- the content of a string

abbrev AtMost : ℕ → Option (List ℕ) → Type 0
AtMost n None = Unit {0}
AtMost n (Some s) = length s ≤ n

either_most : (n : ℕ) (b : Bool) (x y : Option (List ℕ)) → AtMost n x → AtMost n y → AtMost n (cond b x y)
either_most n true x y hx hy = hx
either_most n false x y hx hy = hy

then_most : (n : ℕ) (f : ℕ → Option (List ℕ)) (o : Option ℕ) → ((u : ℕ) → AtMost n (f u)) → AtMost n (option_and_then f o)
then_most n f None h = tt
then_most n f (Some u) h = h u

wider : (m n : ℕ) (r : Option (List ℕ)) → AtMost m r → m ≤ n → AtMost n r
wider m n None h le = tt
wider m n (Some s) h le = omega arith

longer : (m n : ℕ) (a : List ℕ) (r : Option (List ℕ)) → AtMost m r → length a + m ≤ n → AtMost n (prepend a r)
longer m n a None h le = tt
longer m n a (Some s) h le = omega (arith, length-append a s)

length-encode_utf8 : (u : ℕ) → length (encode_utf8 u) ≤ 4
unfolding encode_utf8
length-encode_utf8 u = grind arith

content_most : (w : Within) (xs : List ℕ) → AtMost (length xs) (content w xs)
unfolding content
content_most plain [] = tt
content_most plain (x ∷ xs) =
    let n = length (x ∷ xs) in
    either_most n (x == ascii.quote) (Some []) _ (omega arith)
    (either_most n (x == ascii.backslash) (content after_backslash xs) _ (wider (length xs) n (content after_backslash xs) (content_most after_backslash xs) (omega arith))
    (either_most n (nat_lt x ascii.space) None _ tt (longer (length xs) n (x ∷ []) (content plain xs) (content_most plain xs) (omega arith))))
content_most after_backslash [] = tt
content_most after_backslash (x ∷ xs) =
    let n = length (x ∷ xs) in
    either_most n (x == ascii.lower_u) (content after_u xs) _ (wider (length xs) n (content after_u xs) (content_most after_u xs) (omega arith))
    (then_most n (λ c. prepend (c ∷ []) (content plain xs)) (short_escape x) (λ c. longer (length xs) n (c ∷ []) (content plain xs) (content_most plain xs) (omega arith)))
content_most after_u [] = tt
content_most after_u (a ∷ []) = tt
content_most after_u (a ∷ b ∷ []) = tt
content_most after_u (a ∷ b ∷ c ∷ []) = tt
content_most after_u (a ∷ b ∷ c ∷ d ∷ xs) =
    let n = length (a ∷ b ∷ c ∷ d ∷ xs) in
    then_most n (λ u. cond (is_high_surrogate u) (content (after_high u) xs) (cond (is_low_surrogate u) None (prepend (encode_utf8 u) (content plain xs)))) (code_unit a b c d)
    (λ u. either_most n (is_high_surrogate u) (content (after_high u) xs) _ (wider (length xs) n (content (after_high u) xs) (content_most (after_high u) xs) (omega arith))
    (either_most n (is_low_surrogate u) None _ tt
    (longer (length xs) n (encode_utf8 u) (content plain xs) (content_most plain xs) (omega (arith, length-encode_utf8 u)))))
content_most (after_high h) [] = tt
content_most (after_high h) (s ∷ []) = tt
content_most (after_high h) (s ∷ u ∷ []) = tt
content_most (after_high h) (s ∷ u ∷ a ∷ []) = tt
content_most (after_high h) (s ∷ u ∷ a ∷ b ∷ []) = tt
content_most (after_high h) (s ∷ u ∷ a ∷ b ∷ c ∷ []) = tt
content_most (after_high h) (s ∷ u ∷ a ∷ b ∷ c ∷ d ∷ xs) =
    let n = length (s ∷ u ∷ a ∷ b ∷ c ∷ d ∷ xs) in
    either_most n ((s == ascii.backslash) && (u == ascii.lower_u)) _ None
    (then_most n (λ l. cond (is_low_surrogate l) (prepend (encode_utf8 (surrogate_pair h l)) (content plain xs)) None) (code_unit a b c d)
    (λ l. either_most n (is_low_surrogate l) _ None
    (longer (length xs) n (encode_utf8 (surrogate_pair h l)) (content plain xs) (content_most plain xs) (omega (arith, length-encode_utf8 (surrogate_pair h l)))) tt)) tt

module _ (n : ℕ) where
  -- ---- tokens

  abbrev TokenShort : Token → Type 0
  TokenShort (of_token.string s) = length s ≤ n
  TokenShort _ = Unit {0}

  abbrev TokensShort : List Token → Type 0
  TokensShort [] = Unit {0}
  TokensShort (t ∷ ts) = TokenShort t × TokensShort ts

  abbrev LexemeShort : Lexeme → Type 0
  LexemeShort (token t) = TokenShort t
  LexemeShort comma = Unit {0}
  LexemeShort colon = Unit {0}

  abbrev LexemesShort : List Lexeme → Type 0
  LexemesShort [] = Unit {0}
  LexemesShort (l ∷ ls) = LexemeShort l × LexemesShort ls

  either_lexeme : (b : Bool) (x y : Lexeme) → LexemeShort x → LexemeShort y → LexemeShort (cond b x y)
  either_lexeme true x y hx hy = hx
  either_lexeme false x y hx hy = hy

  either_token : (b : Bool) (x y : Token) → TokenShort x → TokenShort y → TokenShort (cond b x y)
  either_token true x y hx hy = hx
  either_token false x y hx hy = hy

  operator_short : (x : ℕ) → LexemeShort (operator_lexeme x)
  operator_short x =
      either_lexeme (x == ascii.open_brace) _ _ tt (either_lexeme (x == ascii.close_brace) _ _ tt (either_lexeme (x == ascii.open_bracket) _ _ tt
      (either_lexeme (x == ascii.close_bracket) _ _ tt (either_lexeme (x == ascii.comma) _ _ tt tt))))

  number_short : (xs : List ℕ) (rest : Option (List ℕ)) → TokenShort (number_before xs rest)
  number_short xs None = tt
  number_short xs (Some rest) = either_token (ends_word rest) _ _ tt tt

  literal_short : (name xs : List ℕ) (t : Token) → TokenShort t → TokenShort (literal name t xs)
  literal_short name xs t h = either_token _ t of_token.bad h tt

  word_short : (xs : List ℕ) → TokenShort (word xs)
  unfolding word
  word_short xs =
      either_token (head xs == ascii.lower_t) (literal ascii.true_text (of_token.boolean true) xs)
      (cond (head xs == ascii.lower_f) (literal ascii.false_text (of_token.boolean false) xs)
      (cond (head xs == ascii.lower_n) (literal ascii.null_text of_token.null xs) (number_before xs (after_number xs))))
      (literal_short ascii.true_text xs (of_token.boolean true) tt)
      (either_token (head xs == ascii.lower_f) (literal ascii.false_text (of_token.boolean false) xs)
      (cond (head xs == ascii.lower_n) (literal ascii.null_text of_token.null xs) (number_before xs (after_number xs)))
      (literal_short ascii.false_text xs (of_token.boolean false) tt)
      (either_token (head xs == ascii.lower_n) (literal ascii.null_text of_token.null xs) (number_before xs (after_number xs))
      (literal_short ascii.null_text xs of_token.null tt) (number_short xs (after_number xs))))

  string_short : (m : ℕ) (s : Option (List ℕ)) → AtMost m s → m ≤ n → TokenShort (string_token s)
  string_short m None h le = tt
  string_short m (Some s) h le = omega arith

  byte_short : (m : Mode) (c : Class) (x : ℕ) (xs : List ℕ) (k : Mode → List Lexeme) → length xs ≤ n
      → ((next : Mode) → LexemesShort (k next)) → LexemesShort (lex_byte m c x xs k)
  byte_short between quote x xs k le h = (string_short (length xs) (content plain xs) (content_most plain xs) le, h in_string)
  byte_short between backslash x xs k le h = (tt, h in_word)
  byte_short between operator x xs k le h = (operator_short x, h between)
  byte_short between space x xs k le h = h between
  byte_short between other x xs k le h = (word_short (x ∷ xs), h in_word)
  byte_short in_word quote x xs k le h = h in_word
  byte_short in_word backslash x xs k le h = h in_word
  byte_short in_word operator x xs k le h = (operator_short x, h between)
  byte_short in_word space x xs k le h = h between
  byte_short in_word other x xs k le h = h in_word
  byte_short in_string quote x xs k le h = h between
  byte_short in_string backslash x xs k le h = h in_escape
  byte_short in_string operator x xs k le h = h in_string
  byte_short in_string space x xs k le h = h in_string
  byte_short in_string other x xs k le h = h in_string
  byte_short in_escape c x xs k le h = h in_string

  lexemes_short : (m : Mode) (xs : List ℕ) → length xs ≤ n → LexemesShort (lex m xs)
  unfolding lex
  lexemes_short m [] le = tt
  lexemes_short m (x ∷ xs) le =
      byte_short m (class x) x xs (λ next. lex next xs) (omega arith) (λ next. lexemes_short next xs (omega arith))

  allowed_short : (b : Bool) (t : Token) (k : Place → List Token) (next : Place) → TokenShort t → TokensShort (k next) → TokensShort (if_allowed b t k next)
  allowed_short true t k next ht hk = (ht, hk)
  allowed_short false t k next ht hk = (tt, tt)

  placed_short : (p : Place) (t : Token) (before_colon : Bool) (k : Place → List Token) → TokenShort t
      → ((next : Place) → TokensShort (k next)) → TokensShort (place_token p t before_colon k)
  placed_short p of_token.begin_object c k ht hk = allowed_short (may_begin p) of_token.begin_object k fresh tt (hk fresh)
  placed_short p of_token.end_object c k ht hk = allowed_short (may_close p) of_token.end_object k after_value tt (hk after_value)
  placed_short p of_token.begin_array c k ht hk = allowed_short (may_begin p) of_token.begin_array k fresh tt (hk fresh)
  placed_short p of_token.end_array c k ht hk = allowed_short (may_close p) of_token.end_array k after_value tt (hk after_value)
  placed_short p (of_token.key s) c k ht hk = (tt, tt)
  placed_short p (of_token.string s) true k ht hk = allowed_short (may_begin p) (of_token.key s) k after_key tt (hk after_key)
  placed_short p (of_token.string s) false k ht hk = allowed_short (may_begin p) (of_token.string s) k after_value ht (hk after_value)
  placed_short p (of_token.number s) c k ht hk = allowed_short (may_begin p) (of_token.number s) k after_value tt (hk after_value)
  placed_short p (of_token.boolean b) c k ht hk = allowed_short (may_begin p) (of_token.boolean b) k after_value tt (hk after_value)
  placed_short p of_token.null c k ht hk = allowed_short (may_begin p) of_token.null k after_value tt (hk after_value)
  placed_short p of_token.bad c k ht hk = (tt, tt)

  punctuated_short : (p : Place) (ls : List Lexeme) → LexemesShort ls → TokensShort (punctuate p ls)
  unfolding punctuate
  punctuated_short fresh [] h = tt
  punctuated_short after_value [] h = tt
  punctuated_short after_comma [] h = (tt, tt)
  punctuated_short after_key [] h = (tt, tt)
  punctuated_short fresh (token t ∷ ls) h = placed_short fresh t (begins_colon ls) (λ next. punctuate next ls) h.0 (λ next. punctuated_short next ls h.1)
  punctuated_short after_value (token t ∷ ls) h = placed_short after_value t (begins_colon ls) (λ next. punctuate next ls) h.0 (λ next. punctuated_short next ls h.1)
  punctuated_short after_comma (token t ∷ ls) h = placed_short after_comma t (begins_colon ls) (λ next. punctuate next ls) h.0 (λ next. punctuated_short next ls h.1)
  punctuated_short after_key (token t ∷ ls) h = placed_short after_key t (begins_colon ls) (λ next. punctuate next ls) h.0 (λ next. punctuated_short next ls h.1)
  punctuated_short fresh (comma ∷ ls) h = (tt, tt)
  punctuated_short after_value (comma ∷ ls) h = punctuated_short after_comma ls h.1
  punctuated_short after_comma (comma ∷ ls) h = (tt, tt)
  punctuated_short after_key (comma ∷ ls) h = (tt, tt)
  punctuated_short fresh (colon ∷ ls) h = (tt, tt)
  punctuated_short after_value (colon ∷ ls) h = (tt, tt)
  punctuated_short after_comma (colon ∷ ls) h = (tt, tt)
  punctuated_short after_key (colon ∷ ls) h = punctuated_short fresh ls h.1

  -- ---- the tree: a text that stands by itself, or as a member of the outermost object

  abbrev StringShort : json.Json → Type 0
  StringShort (json.string s) = length s ≤ n
  StringShort _ = Unit {0}

  abbrev MembersShort : json.Members → Type 0
  MembersShort json.no_members = Unit {0}
  MembersShort (json.member k j ms) = StringShort j × MembersShort ms

  abbrev JsonShort : json.Json → Type 0
  JsonShort (json.string s) = length s ≤ n
  JsonShort (json.object ms) = MembersShort ms
  JsonShort _ = Unit {0}

  string_of_json : (j : json.Json) → JsonShort j → StringShort j
  string_of_json json.null h = tt
  string_of_json (json.boolean b) h = tt
  string_of_json (json.number s) h = tt
  string_of_json (json.string s) h = h
  string_of_json (json.array js) h = tt
  string_of_json (json.object ms) h = tt

  -- what a parser gives, and what it leaves
  abbrev Gives : {A : Type 0} → (A → Type 0) → Option (A × List Token) → Type 0
  Gives P None = Unit {0}
  Gives P (Some read) = P read.0 × TokensShort read.1

  abbrev Parses : {A : Type 0} → (A → Type 0) → json.Parse A → Type 0
  Parses P parse = (ts : List Token) → TokensShort ts → Gives P (parse ts)

  gives_then : {A B : Type 0} (P : A → Type 0) (Q : B → Type 0) (f : A × List Token → Option (B × List Token)) (o : Option (A × List Token))
      → Gives P o → ((read : A × List Token) → P read.0 → TokensShort read.1 → Gives Q (f read)) → Gives Q (option_and_then f o)
  gives_then P Q f None h more = tt
  gives_then P Q f (Some read) h more = more read h.0 h.1

  gives_map : {A B : Type 0} (P : A → Type 0) (Q : B → Type 0) (f : A → B) (o : Option (A × List Token))
      → Gives P o → ((a : A) → P a → Q (f a)) → Gives Q (json.parse_map f o)
  gives_map P Q f None h more = tt
  gives_map P Q f (Some read) h more = (more read.0 h.0, h.1)

  abbrev Any : {A : Type 0} → A → Type 0
  Any a = Unit {0}

  after_short : (ts : List Token) (rest : List Token) → TokensShort ts → json.after_end_array ts ≡ Some rest → TokensShort rest
  after_short [] rest h e = absurd (cc e)
  after_short (of_token.begin_object ∷ ts) rest h e = absurd (cc e)
  after_short (of_token.end_object ∷ ts) rest h e = absurd (cc e)
  after_short (of_token.begin_array ∷ ts) rest h e = absurd (cc e)
  after_short (of_token.end_array ∷ ts) rest h e = let same : ts ≡ rest = cc e in subst TokensShort same h.1
  after_short (of_token.key s ∷ ts) rest h e = absurd (cc e)
  after_short (of_token.string s ∷ ts) rest h e = absurd (cc e)
  after_short (of_token.number s ∷ ts) rest h e = absurd (cc e)
  after_short (of_token.boolean b ∷ ts) rest h e = absurd (cc e)
  after_short (of_token.null ∷ ts) rest h e = absurd (cc e)
  after_short (of_token.bad ∷ ts) rest h e = absurd (cc e)

  items_step_short : (value : json.Parse json.Json) (more : json.Parse json.Items) → Parses JsonShort value → Parses Any more
      → (ts : List Token) → TokensShort ts → (found : Option (List Token)) → ((rest : List Token) → found ≡ Some rest → TokensShort rest)
      → Gives Any (json.items_step value more ts found)
  items_step_short value more pv pm ts h (Some rest) after = (tt, after rest refl)
  items_step_short value more pv pm ts h None after =
      gives_then JsonShort Any _ (value ts) (pv ts h) (λ read hj hr. gives_map Any Any _ (more read.1) (pm read.1 hr) (λ a ha. tt))

  items_short : (value : json.Parse json.Json) → Parses JsonShort value → (count : ℕ) → Parses Any (json.items value count)
  unfolding json.items
  items_short value pv zero ts h = tt
  items_short value pv (suc count) ts h =
      items_step_short value (json.items value count) pv (items_short value pv count) ts h (json.after_end_array ts) (λ rest e. after_short ts rest h e)

  key_short : (ts : List Token) → TokensShort ts → Gives Any (json.read_key ts)
  key_short [] h = tt
  key_short (of_token.begin_object ∷ ts) h = tt
  key_short (of_token.end_object ∷ ts) h = (tt, h.1)
  key_short (of_token.begin_array ∷ ts) h = tt
  key_short (of_token.end_array ∷ ts) h = tt
  key_short (of_token.key s ∷ ts) h = (tt, h.1)
  key_short (of_token.string s ∷ ts) h = tt
  key_short (of_token.number s ∷ ts) h = tt
  key_short (of_token.boolean b ∷ ts) h = tt
  key_short (of_token.null ∷ ts) h = tt
  key_short (of_token.bad ∷ ts) h = tt

  members_step_short : (value : json.Parse json.Json) (more : json.Parse json.Members) → Parses JsonShort value → Parses MembersShort more
      → (k : Option (List ℕ)) (ts : List Token) → TokensShort ts → Gives MembersShort (json.members_step value more k ts)
  members_step_short value more pv pm None ts h = (tt, h)
  members_step_short value more pv pm (Some k) ts h =
      gives_then JsonShort MembersShort _ (value ts) (pv ts h)
      (λ read hj hr. gives_map MembersShort MembersShort (json.member k read.0) (more read.1) (pm read.1 hr) (λ ms hms. (string_of_json read.0 hj, hms)))

  members_short : (value : json.Parse json.Json) → Parses JsonShort value → (count : ℕ) → Parses MembersShort (json.members value count)
  unfolding json.members
  members_short value pv zero ts h = tt
  members_short value pv (suc count) ts h =
      gives_then Any MembersShort _ (json.read_key ts) (key_short ts h)
      (λ read hk hr. members_step_short value (json.members value count) pv (members_short value pv count) read.0 read.1 hr)

  with_short : (a : json.Parse json.Items) (o : json.Parse json.Members) → Parses Any a → Parses MembersShort o → Parses JsonShort (json.value_with a o)
  with_short a o pa po [] h = tt
  with_short a o pa po (of_token.begin_object ∷ ts) h = gives_map MembersShort JsonShort json.object (o ts) (po ts h.1) (λ ms hms. hms)
  with_short a o pa po (of_token.end_object ∷ ts) h = tt
  with_short a o pa po (of_token.begin_array ∷ ts) h = gives_map Any JsonShort json.array (a ts) (pa ts h.1) (λ js hjs. tt)
  with_short a o pa po (of_token.end_array ∷ ts) h = tt
  with_short a o pa po (of_token.key s ∷ ts) h = tt
  with_short a o pa po (of_token.string s ∷ ts) h = (h.0, h.1)
  with_short a o pa po (of_token.number s ∷ ts) h = (tt, h.1)
  with_short a o pa po (of_token.boolean b ∷ ts) h = (tt, h.1)
  with_short a o pa po (of_token.null ∷ ts) h = (tt, h.1)
  with_short a o pa po (of_token.bad ∷ ts) h = tt

  value_short : (depth : ℕ) → Parses JsonShort (json.value depth)
  unfolding json.value
  value_short zero ts h = with_short (λ ts. None) (λ ts. None) (λ ts h. tt) (λ ts h. tt) ts h
  value_short (suc depth) ts h =
      with_short (λ ts. json.items (json.value depth) (length ts) ts) (λ ts. json.members (json.value depth) (length ts) ts)
      (λ ts h. items_short (json.value depth) (value_short depth) (length ts) ts h)
      (λ ts h. members_short (json.value depth) (value_short depth) (length ts) ts h) ts h

  -- ---- the value

  abbrev DataShort : Data → Type 0
  DataShort (data_of.string s) = length s ≤ n
  DataShort _ = Unit {0}

  abbrev FoundShort : data_of.Members → Type 0
  FoundShort data_of.no_members = Unit {0}
  FoundShort (data_of.member k d ms) = DataShort d × FoundShort ms

  abbrev OptionShort : Option Data → Type 0
  OptionShort None = Unit {0}
  OptionShort (Some d) = DataShort d

  same_some : {A : Type 0} (x y : A) → Some x ≡ Some y → x ≡ y
  same_some x y e = cc e

  then_some : {A B : Type 0} (f : A → Option B) (o : Option A) (y : B) → option_and_then f o ≡ Some y → (x : A) × (o ≡ Some x) × (f x ≡ Some y)
  then_some f (Some x) y e = (x, refl, e)
  then_some f None y e = absurd (cc e)

  map_some : {A B : Type 0} (f : A → B) (o : Option A) (y : B) → option_map f o ≡ Some y → (x : A) × (o ≡ Some x) × (f x ≡ y)
  map_some f (Some x) y e = (x, refl, same_some (f x) y e)
  map_some f None y e = absurd (cc e)

  data_short : (j : json.Json) (d : Data) → StringShort j → of_json j ≡ Some d → DataShort d
  data_short json.null d h e = subst DataShort (same_some data_of.null d e) tt
  data_short (json.boolean b) d h e = subst DataShort (same_some (data_of.boolean b) d e) tt
  data_short (json.number s) d h e = let m = map_some data_of.number _ d e in subst DataShort m.2 tt
  data_short (json.string s) d h e = subst DataShort (same_some (data_of.string s) d e) h
  data_short (json.array js) d h e = let m = map_some data_of.array (of_items js) d e in subst DataShort m.2 tt
  data_short (json.object ms) d h e = let m = map_some data_of.object (of_members ms data_of.no_members) d e in subst DataShort m.2 tt

  ordered_found : (o : Ordering) (x y z : data_of.Members) → FoundShort x → FoundShort y → FoundShort z → FoundShort (match_ordering o x y z)
  ordered_found Less x y z hx hy hz = hx
  ordered_found Equal x y z hx hy hz = hy
  ordered_found Greater x y z hx hy hz = hz

  ordered_option : (o : Ordering) (x y z : Option Data) → OptionShort x → OptionShort y → OptionShort z → OptionShort (match_ordering o x y z)
  ordered_option Less x y z hx hy hz = hx
  ordered_option Equal x y z hx hy hz = hy
  ordered_option Greater x y z hx hy hz = hz

  put_short : (k : List ℕ) (d : Data) (ms : data_of.Members) → DataShort d → FoundShort ms → FoundShort (put k d ms)
  put_short k d data_of.no_members hd h = (hd, tt)
  put_short k d (data_of.member l e ms) hd h =
      ordered_found (slice_cmp nat_cmp k l) (data_of.member k d (data_of.member l e ms)) (data_of.member l d ms) (data_of.member l e (put k d ms))
      (hd, h) (hd, h.1) (h.0, put_short k d ms hd h.1)

  found_short : (ms : json.Members) (found out : data_of.Members) → MembersShort ms → FoundShort found → of_members ms found ≡ Some out → FoundShort out
  found_short json.no_members found out h hf e = subst FoundShort (same_some found out e) hf
  found_short (json.member k j ms) found out h hf e =
      let d = then_some (λ d. of_members ms (put k d found)) (of_json j) out e in
      found_short ms (put k d.0 found) out h.1 (put_short k d.0 found (data_short j d.0 h.0 d.1) hf) d.2

  got_short : (name : List ℕ) (ms : data_of.Members) → FoundShort ms → OptionShort (get_member name ms)
  got_short name data_of.no_members h = tt
  got_short name (data_of.member l e ms) h =
      ordered_option (slice_cmp nat_cmp name l) (get_member name ms) (Some e) (get_member name ms) (got_short name ms h.1) h.0 (got_short name ms h.1)

  str_short : (d : Data) (s : List ℕ) → DataShort d → as_str d ≡ Some s → length s ≤ n
  str_short data_of.null s h e = absurd (cc e)
  str_short (data_of.boolean b) s h e = absurd (cc e)
  str_short (data_of.number x) s h e = absurd (cc e)
  str_short (data_of.string t) s h e = subst (λ u. length u ≤ n) (same_some t s e) h
  str_short (data_of.array ds) s h e = absurd (cc e)
  str_short (data_of.object ms) s h e = absurd (cc e)

  -- no member stands in what is no object
  no_text : (name s : List ℕ) (d value : Data) → d ≡ value → get name d ≡ None → text_member name value ≡ Some s → ⊥
  no_text name s d value same none e =
      let found : None ≡ Some s = sym (ap (option_and_then as_str) none) ∙ ap (text_member name) same ∙ e in cc found

  text_short : (name s : List ℕ) (j : json.Json) (value : Data) → JsonShort j → of_json j ≡ Some value → text_member name value ≡ Some s → length s ≤ n
  text_short name s json.null value h e t = absurd (no_text name s data_of.null value (same_some data_of.null value e) refl t)
  text_short name s (json.boolean b) value h e t = absurd (no_text name s (data_of.boolean b) value (same_some (data_of.boolean b) value e) refl t)
  text_short name s (json.number x) value h e t = let m = map_some data_of.number _ value e in absurd (no_text name s (data_of.number m.0) value m.2 refl t)
  text_short name s (json.string x) value h e t = absurd (no_text name s (data_of.string x) value (same_some (data_of.string x) value e) refl t)
  text_short name s (json.array js) value h e t = let m = map_some data_of.array (of_items js) value e in absurd (no_text name s (data_of.array m.0) value m.2 refl t)
  text_short name s (json.object ms) value h e t =
      let m = map_some data_of.object (of_members ms data_of.no_members) value e in
      let short = found_short ms data_of.no_members m.0 h tt m.1 in
      let d = then_some as_str (get_member name m.0) s (ap (text_member name) m.2 ∙ t) in
      str_short d.0 s (subst OptionShort d.1 (got_short name m.0 short)) d.2

  last_json : (j : json.Json) (ts : List Token) (out : json.Json) → json.if_last j ts ≡ Some out → j ≡ out
  last_json j [] out e = same_some j out e
  last_json j (t ∷ ts) out e = absurd (cc e)

-- a text in a JSON text is no longer than it
pub member_short : (text name s : List ℕ) (value : Data) → read text ≡ Some value → text_member name value ≡ Some s → length s ≤ length text
member_short text name s value e t =
    let n = length text in
    let tree = then_some n of_json (option_and_then (λ p. json.if_last p.0 p.1) (json.value max_depth (tokens text))) value e in
    let parsed = then_some n (λ p. json.if_last p.0 p.1) (json.value max_depth (tokens text)) tree.0 tree.1 in
    let lexed = lexemes_short n between text (omega arith) in
    let short = value_short n max_depth (tokens text) (punctuated_short n fresh (lex between text) lexed) in
    let here = subst (Gives n (JsonShort n)) parsed.1 short in
    text_short n name s parsed.0.0 value here.0 (ap of_json (last_json n parsed.0.0 parsed.0.1 tree.0 parsed.2) ∙ tree.2) t
