-- What a payload of limited length spells is within the limits of a call.
use Rattle.std.proofs.Common.{◌≡◌, ℕ, ◌+◌, ◌*◌, ◌<◌, ◌≤◌, pos, List, [], ◌∷◌, ◌++◌, length, Some, None, refl, sym, ap, subst, ◌∙◌, length-append, arith, inl, inr, ◌⊎◌}
use Rattle.definitions.specs.Spelling.{SpellsInteger, SpellsArray, TextForm, fixstr, str_8, str_16, str_32, text_limit, text_head, SpellsText}
use Rattle.definitions.specs.Calls.{Argument, a_text, an_integer, Kind, end_kinds, SpellsArgument, SpellsArguments}
use Rattle.definitions.specs.Reading.{integer_at, array_at}
use Rattle.definitions.proofs.Spelling.{integers_read, arrays_read}
use Rattle.view_rules.specs.Answers.{Scope, of_all, of_hostname, of_session, of_cwd}
use Rattle.step_rules.specs.Calls.{Call, start_call, end_call, delete_call, search_call, kv_set_call, kv_delete_call, kv_get_call, kv_list_call, alias_set_call, alias_delete_call, alias_list_call, status_call, scope_bytes, call_bytes, NumbersFit}
use Rattle.request_rules.specs.Requests.{request_number, authored_kinds, search_kinds, kv_list_kinds, alias_list_kinds, IsScopeText, a_number, an_id, search_arguments, HasArguments, SpellsRequest}
use Rattle.request_rules.specs.Laws.{SpelledCallFits}
use Rattle.request_rules.proofs.Arguments.{some_kinds, same_kinds, most_kinds}

-- ---- numbers

as_spelled : (kinds all : List Kind) (good other : List Argument) (rest : List ℕ) → some_kinds kinds ≡ Some all → good ≡ other → SpellsArguments all good rest → SpellsArguments kinds other rest
as_spelled kinds all good other rest k e s =
    subst (λ (g : List Argument). SpellsArguments kinds g rest) e (subst (λ (ks : List Kind). SpellsArguments ks good rest) (sym (same_kinds kinds all k)) s)

numbers_fit : (call : Call) (payload : List ℕ) → SpellsRequest call payload → NumbersFit call
numbers_fit (start_call command cwd session hostname) payload s = tt
numbers_fit (end_call id duration exit (Some author)) payload s =
    let k = as_spelled authored_kinds s.numbered.all_kinds s.arguments (an_id id ∷ an_integer duration ∷ an_integer exit ∷ a_text author ∷ []) s.numbered.rest s.numbered.kinds_are s.has.1 s.numbered.are_arguments in
    (s.has.0, k.4.2, k.4.4.2)
numbers_fit (end_call id duration exit None) payload s =
    let k = as_spelled end_kinds s.numbered.all_kinds s.arguments (an_id id ∷ an_integer duration ∷ an_integer exit ∷ []) s.numbered.rest s.numbered.kinds_are s.has.1 s.numbered.are_arguments in
    (s.has.0, k.4.2, k.4.4.2)
numbers_fit (delete_call id) payload s = s.has.0
numbers_fit (search_call asked) payload s =
    let k = as_spelled search_kinds s.numbered.all_kinds s.arguments (search_arguments asked s.has.0) s.numbered.rest s.numbered.kinds_are s.has.2 s.numbered.are_arguments in
    let most = k.4.4.4.4.4.2.1 in
    (omega (arith, most), k.4.4.4.4.4.4.2)
numbers_fit (kv_set_call namespace key value) payload s = tt
numbers_fit (kv_delete_call namespace key) payload s = tt
numbers_fit (kv_get_call namespace key) payload s = tt
numbers_fit (kv_list_call namespace after limit) payload s =
    let k = as_spelled kv_list_kinds s.numbered.all_kinds s.arguments (a_text namespace ∷ a_text after ∷ a_number limit ∷ []) s.numbered.rest s.numbered.kinds_are s.has s.numbered.are_arguments in
    k.4.4.2
numbers_fit (alias_set_call name value) payload s = tt
numbers_fit (alias_delete_call name) payload s = tt
numbers_fit (alias_list_call after limit) payload s =
    let k = as_spelled alias_list_kinds s.numbered.all_kinds s.arguments (a_text after ∷ a_number limit ∷ []) s.numbered.rest s.numbered.kinds_are s.has s.numbered.are_arguments in
    k.4.2
numbers_fit status_call payload s = tt

-- ---- texts

abbrev text_bytes : Argument → ℕ
text_bytes (a_text text) = length text
text_bytes (an_integer z) = 0

abbrev texts_bytes : List Argument → ℕ
texts_bytes [] = 0
texts_bytes (argument ∷ more) = text_bytes argument + texts_bytes more

-- n arguments with texts of so many bytes are spelled in this size: where the texts are long, at least one head has five bytes
abbrev Weighs : ℕ → ℕ → ℕ → Type 0
Weighs n total size = (total ≤ size) × ((total ≤ 65535 * n) ⊎ (total + 5 ≤ size))

head_of_five : (n : ℕ) → length (text_head str_32 n) ≡ 5
head_of_five n = refl

text_weighs : (text bytes : List ℕ) → SpellsText text bytes → Weighs 1 (length text) (length bytes)
text_weighs text bytes s = by_form s.form s.fits (ap (λ (x : List ℕ). length x) s.are ∙ length-append (text_head s.form (length text)) text)
  where
    by_form : (form : TextForm) → length text < text_limit form → length bytes ≡ length (text_head form (length text)) + length text → Weighs 1 (length text) (length bytes)
    by_form fixstr lt l = (omega (arith, l), inl (omega (arith, lt)))
    by_form str_8 lt l = (omega (arith, l), inl (omega (arith, lt)))
    by_form str_16 lt l = (omega (arith, l), inl (omega (arith, lt)))
    by_form str_32 lt l = (omega (arith, l), inr (omega (arith, l, head_of_five (length text))))

argument_weighs : (argument : Argument) (bytes : List ℕ) → SpellsArgument argument bytes → Weighs 1 (text_bytes argument) (length bytes)
argument_weighs (a_text text) bytes s = text_weighs text bytes s
argument_weighs (an_integer z) bytes s = (omega arith, inl (omega arith))

weigh_more : (n m a b x y : ℕ) → m ≡ n + 1 → Weighs 1 a x → Weighs n b y → Weighs m (a + b) (x + y)
weigh_more n m a b x y e one more = (
  omega (arith, one.0, more.0),
  elim one.1 [
    | inl s ↦ elim more.1 [
      | inl t ↦ inl (omega (arith, e, s, t))
      | inr t ↦ inr (omega (arith, t, one.0))
    ]
    | inr s ↦ inr (omega (arith, s, more.0))
  ],
)

arguments_weigh : (kinds : List Kind) (good : List Argument) (bytes : List ℕ) → SpellsArguments kinds good bytes → Weighs (length kinds) (texts_bytes good) (length bytes)
arguments_weigh [] [] bytes s = (omega arith, inl (omega arith))
arguments_weigh (kind ∷ others) (argument ∷ more) bytes s =
    let w = weigh_more (length others) (length (kind ∷ others)) (text_bytes argument) (texts_bytes more) (length s.0) (length s.1) (omega arith) (argument_weighs argument s.0 s.3) (arguments_weigh others more s.1 s.4) in
    let l : length bytes ≡ length s.0 + length s.1 = ap (λ (x : List ℕ). length x) s.5 ∙ length-append s.0 s.1 in
    subst (λ (size : ℕ). Weighs (length (kind ∷ others)) (text_bytes argument + texts_bytes more) size) (sym l) w
arguments_weigh [] (argument ∷ more) bytes s = elim s [ ]
arguments_weigh (kind ∷ others) [] bytes s = elim s [ ]

scope_text : (scope : Scope) (text : List ℕ) → IsScopeText scope text → scope_bytes scope ≤ length text
scope_text of_all text i = omega arith
scope_text (of_hostname hostname) text i = let l = ap (λ (x : List ℕ). length x) i in omega (arith, l)
scope_text (of_session session) text i = let l = ap (λ (x : List ℕ). length x) i in omega (arith, l)
scope_text (of_cwd cwd) text i = let l = ap (λ (x : List ℕ). length x) i in omega (arith, l)

all_texts : (call : Call) (good : List Argument) → HasArguments call good → call_bytes call ≤ texts_bytes good
all_texts (start_call command cwd session hostname) good h = let l = ap texts_bytes h in omega (arith, l)
all_texts (end_call id duration exit None) good h = omega arith
all_texts (end_call id duration exit (Some author)) good h = let l = ap texts_bytes h.1 in omega (arith, l)
all_texts (delete_call id) good h = omega arith
all_texts (search_call asked) good h = let l = ap texts_bytes h.2 in let scope = scope_text asked.scope h.0 h.1 in omega (arith, l, scope)
all_texts (kv_set_call namespace key value) good h = let l = ap texts_bytes h in omega (arith, l)
all_texts (kv_delete_call namespace key) good h = let l = ap texts_bytes h in omega (arith, l)
all_texts (kv_get_call namespace key) good h = let l = ap texts_bytes h in omega (arith, l)
all_texts (kv_list_call namespace after limit) good h = let l = ap texts_bytes h in omega (arith, l)
all_texts (alias_set_call name value) good h = let l = ap texts_bytes h in omega (arith, l)
all_texts (alias_delete_call name) good h = let l = ap texts_bytes h in omega (arith, l)
all_texts (alias_list_call after limit) good h = let l = ap texts_bytes h in omega (arith, l)
all_texts status_call good h = omega arith

-- ---- a header and a number have a byte at least

some_integer : (n : ℕ) (bytes : List ℕ) → SpellsInteger (pos n) bytes → 1 ≤ length bytes
unfolding integer_at
some_integer n [] s = absurd (let read = integers_read.again (pos n) [] [] s in cc)
some_integer n (b ∷ bytes) s = omega arith

some_array : (n : ℕ) (bytes : List ℕ) → SpellsArray n bytes → 1 ≤ length bytes
unfolding array_at
some_array n [] s = absurd (let read = arrays_read.again n [] [] s in cc)
some_array n (b ∷ bytes) s = omega arith

within : (total n header number rest payload : ℕ) → n ≤ 7 → 1 ≤ header → 1 ≤ number → payload ≡ header + (number + rest) → payload ≤ 1048576 → Weighs n total rest → total ≤ 1048569
within total n header number rest payload few h i l short w =
    elim w.1 [
      | inl s ↦ omega (arith, few, s)
      | inr s ↦ omega (arith, h, i, l, short, s)
    ]

pub spelled_fits : SpelledCallFits
spelled_fits payload call short s =
    let few = most_kinds (request_number call) s.numbered.all_kinds s.numbered.kinds_are in
    let l : length payload ≡ length s.numbered.header + (length s.numbered.number + length s.numbered.rest) = ap (λ (x : List ℕ). length x) s.numbered.are ∙ length-append s.numbered.header (s.numbered.number ++ s.numbered.rest) ∙ ap (λ (n : ℕ). length s.numbered.header + n) (length-append s.numbered.number s.numbered.rest) in
    let weigh = arguments_weigh s.numbered.all_kinds s.arguments s.numbered.rest s.numbered.are_arguments in
    let most = within (texts_bytes s.arguments) (length s.numbered.all_kinds) (length s.numbered.header) (length s.numbered.number) (length s.numbered.rest) (length payload) few (some_array (1 + length s.numbered.all_kinds) s.numbered.header s.numbered.is_header) (some_integer (request_number call) s.numbered.number s.numbered.is_number) l short weigh in
    let all = all_texts call s.arguments s.has in
    record { numbers = numbers_fit call payload s; texts = omega (arith, most, all) }
