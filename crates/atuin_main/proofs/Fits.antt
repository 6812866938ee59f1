-- A search that is read from words can be asked of a store.
use Rattle.std.proofs.Common.{◌≡◌, ℕ, ◌^◌, ◌-◌, ◌≤◌, ◌<◌, Bool, true, false, cond, ◌&&◌, nat_le, List, [], ◌∷◌, length, Option, Some, None, option_map, unwrap_or, codes, eqb, refl, sym, ap, subst, arith}
use Rattle.std.specs.List.{starts_with}
use Rattle.std.specs.Str.{bytes_eq}
use Rattle.std.specs.Str.Parse.{digits_value}
use Rattle.std.proofs.lemmas.Bool.{and_parts, leb-true}
use Rattle.definitions.specs.Limits.{most_value_bytes, most_listed}
use Rattle.definitions.proofs.Bytes.{when_true}
use Rattle.step_rules.specs.Calls.{CallFits, search_call, scope_bytes}
use Rattle.record_model.specs.declared.asking.Filter.{Filter}
use Rattle.record_model.specs.declared.asking.Filter.TheVariants as filters
use Rattle.record_model.specs.declared.asking.Query.{Query}
use Rattle.model_words.specs.Seen.{query_seen, scope_seen}
use Rattle.search_words.specs.Words.{Text, Said, said_of, read_words, ◌>>=◌}
use Rattle.search_words.specs.Queries.{short_text, mode_called, behind, filter_called, are_digits, number_in, query_by, query_found, query_of}
use Rattle.command_words.specs.declared.Command.{Command}
use Rattle.command_words.specs.declared.Command.TheVariants as commands
use Rattle.command_words.specs.Commands.{lone_command, without_words, command_of}
use Rattle.atuin_main.specs.Running.{CommandFits}

-- ---- steps that found something

bound : {A B : Type 0} (o : Option A) (f : A → Option B) (y : B) → (o >>= f) ≡ Some y → (x : A) × (o ≡ Some x) × (f x ≡ Some y)
bound (Some x) f y e = (x, refl, e)
bound None f y e = absurd cc

some_is : {A : Type 0} (x y : A) → Some x ≡ Some y → x ≡ y
some_is x y e = ap (λ o. unwrap_or o x) e

mapped : {A B : Type 0} (f : A → B) (o : Option A) (y : B) → option_map f o ≡ Some y → (x : A) × (o ≡ Some x) × (f x ≡ y)
mapped f (Some x) y e = (x, refl, some_is (f x) y e)
mapped f None y e = absurd cc

-- what is chosen by a test
branch : {A : Type 0} (b : Bool) (x y : Option A) (z : A) (P : Type 0) → cond b x y ≡ Some z → (x ≡ Some z → P) → (y ≡ Some z → P) → P
branch true x y z P e then_so else_so = then_so e
branch false x y z P e then_so else_so = else_so e

-- ---- values

short : (t u : Text) → short_text t ≡ Some u → length u ≤ most_value_bytes
short t u e =
    let at = when_true (nat_le (length t) most_value_bytes) u (Some t) e in
    subst (λ (v : Text). length v ≤ most_value_bytes) (some_is t u at.1) (leb-true (length t) most_value_bytes at.0)

within : (least most n : ℕ) (t : Text) → number_in least most t ≡ Some n → (least ≤ n) × (n ≤ most)
within least most n t e =
    let number = digits_value 10 t in
    let at = when_true (are_digits t && nat_le least number && nat_le number most) n (Some number) e in
    let parts = and_parts (are_digits t && nat_le least number) (nat_le number most) at.0 in
    let low = leb-true least number (and_parts (are_digits t) (nat_le least number) parts.0).1 in
    let high = leb-true number most parts.1 in
    subst (λ (v : ℕ). (least ≤ v) × (v ≤ most)) (some_is number n at.1) (low, high)

-- ---- filters

abbrev IsShort : Filter → Type 0
IsShort f = scope_bytes (scope_seen f) ≤ most_value_bytes

named : (wrap : Text → Filter) → ((t : Text) → scope_bytes (scope_seen (wrap t)) ≡ length t) → (t : Text) (f : Filter) → option_map wrap (short_text t) ≡ Some f → IsShort f
named wrap same t f e =
    let m = mapped wrap (short_text t) f e in
    subst IsShort m.2 (subst (λ (n : ℕ). n ≤ most_value_bytes) (sym (same m.0)) (short t m.0 m.1))

filter_short : (value : Text) (f : Filter) → filter_called value ≡ Some f → IsShort f
filter_short value f e =
    branch (bytes_eq value (codes "global")) _ _ f (IsShort f) e (λ is. subst IsShort (some_is filters.Global f is) (omega arith))
    (λ of_host. branch (starts_with eqb value (codes "host:")) _ _ f (IsShort f) of_host (named filters.Host (λ t. refl) (behind (codes "host:") value) f)
    (λ of_session. branch (starts_with eqb value (codes "session:")) _ _ f (IsShort f) of_session (named filters.Session (λ t. refl) (behind (codes "session:") value) f)
    (λ of_cwd. branch (starts_with eqb value (codes "directory:")) _ _ f (IsShort f) of_cwd (named filters.Directory (λ t. refl) (behind (codes "directory:") value) f) (λ none. absurd cc))))

-- ---- searches

abbrev QueryFits : Query → Type 0
QueryFits query = CallFits (search_call (query_seen query))

query_fits : (m f u o l t : Text) (query : Query) → query_by m f u o l t ≡ Some query → QueryFits query
query_fits m f u o l t query e =
    let mode = bound (mode_called m) _ query e in
    let filter = bound (filter_called f) _ query mode.2 in
    let offset = bound (number_in 0 (2 ^ 32 - 1) o) _ query filter.2 in
    let limit = bound (number_in 1 most_listed l) _ query offset.2 in
    let text = bound (short_text t) _ query limit.2 in
    let at_most = (within 0 (2 ^ 32 - 1) offset.0 o offset.1).1 in
    let scope = filter_short f filter.0 filter.1 in
    let looked_for = short t text.0 text.1 in
    let below : offset.0 < 2 ^ 32 = omega (arith, at_most) in
    subst QueryFits (some_is _ query text.2) (record { numbers = (below, within 1 most_listed limit.0 l limit.1); texts = omega (arith, scope, looked_for) })

found_fits : (found : Text → Option Text) (query : Query) → query_found found ≡ Some query → QueryFits query
found_fits found query e =
    query_fits (unwrap_or (found (codes "mode")) (codes "prefix")) (unwrap_or (found (codes "filter")) (codes "global")) (unwrap_or (found (codes "unique")) (codes "false"))
    (unwrap_or (found (codes "offset")) (codes "0")) (unwrap_or (found (codes "limit")) (codes "100")) (unwrap_or (found (codes "text")) []) query e

search_fits : (words : List Text) (query : Query) → query_of words ≡ Some query → QueryFits query
search_fits words query e =
    let said = bound (read_words words None []) (λ (s : Said). query_found (λ (name : Text). said_of name s)) query e in
    found_fits (λ (name : Text). said_of name said.0) query said.2

-- ---- commands

lone_fits : (name : Text) (c : Command) → lone_command name ≡ Some c → CommandFits c
lone_fits name c e =
    branch (bytes_eq name (codes "init")) _ _ c (CommandFits c) e (λ is. subst CommandFits (some_is commands.Init c is) tt)
    (λ not_init. branch (bytes_eq name (codes "pipe")) _ _ c (CommandFits c) not_init (λ is. subst CommandFits (some_is commands.Pipe c is) tt)
    (λ not_pipe. branch (bytes_eq name (codes "status")) _ _ c (CommandFits c) not_pipe (λ is. subst CommandFits (some_is commands.Status c is) tt)
    (λ not_status. branch (bytes_eq name (codes "migrate")) _ _ c (CommandFits c) not_status (λ is. subst CommandFits (some_is commands.Migrate c is) tt) (λ none. absurd cc))))

alone : (rest : List Text) (found : Option Command) (c : Command) → without_words rest found ≡ Some c → found ≡ Some c
alone [] found c e = e
alone (word ∷ rest) found c e = absurd cc

pub command_fits : (words : List Text) (c : Command) → command_of words ≡ Some c → CommandFits c
command_fits [] c e = absurd cc
command_fits (folder ∷ []) c e = absurd cc
command_fits (folder ∷ name ∷ rest) c e =
    branch (bytes_eq name (codes "search")) _ _ c (CommandFits c) e
    (λ found. let m = mapped commands.Search (query_of rest) c found in subst CommandFits m.2 (search_fits rest m.0 m.1))
    (λ other. lone_fits name c (alone rest (lone_command name) c other))
