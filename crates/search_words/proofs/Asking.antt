-- The search by what the parser found is that of what was said.
use Rattle.std.proofs.Common.{◌≡◌, List, [], Option, Some, None, unwrap_or, codes, ap, ◌∙◌, subst, Result, IfOk}
use Rattle.std.proofs.lemmas.Result.{IfOk-weaker}
use Rattle.clap.specs.Matches.{first_value, found_of}
use Rattle.clap.specs.declared.parser.matches.ArgMatches.{ArgMatches}
use Rattle.record_model.specs.declared.asking.Query.{Query}
use Rattle.search_words.specs.Parsing.{Finds, Shows}
use Rattle.search_words.specs.Queries.{query_by, query_found, query_of}
use Rattle.search_words.specs.Words.{Text, Said, read_words, said_of, ◌>>=◌}

abbrev found_in : ArgMatches → Text → Option Text
found_in m name = first_value (found_of m) name

same_query : (said : Said) (m : ArgMatches) → Shows said m → query_found (found_in m) ≡ query_found (λ (name : Text). said_of name said)
same_query said m h =
    let f : Text → Option Text = found_in m in
    let g : Text → Option Text = λ name. said_of name said in
    ap (λ (o : Option Text). query_by (unwrap_or o (codes "prefix")) (unwrap_or (f (codes "filter")) (codes "global")) (unwrap_or (f (codes "unique")) (codes "false")) (unwrap_or (f (codes "offset")) (codes "0")) (unwrap_or (f (codes "limit")) (codes "100")) (unwrap_or (f (codes "text")) [])) h.mode
    ∙ ap (λ (o : Option Text). query_by (unwrap_or (g (codes "mode")) (codes "prefix")) (unwrap_or o (codes "global")) (unwrap_or (f (codes "unique")) (codes "false")) (unwrap_or (f (codes "offset")) (codes "0")) (unwrap_or (f (codes "limit")) (codes "100")) (unwrap_or (f (codes "text")) [])) h.filter
    ∙ ap (λ (t : Text). query_by (unwrap_or (g (codes "mode")) (codes "prefix")) (unwrap_or (g (codes "filter")) (codes "global")) t (unwrap_or (f (codes "offset")) (codes "0")) (unwrap_or (f (codes "limit")) (codes "100")) (unwrap_or (f (codes "text")) [])) h.unique
    ∙ ap (λ (o : Option Text). query_by (unwrap_or (g (codes "mode")) (codes "prefix")) (unwrap_or (g (codes "filter")) (codes "global")) (unwrap_or (g (codes "unique")) (codes "false")) (unwrap_or o (codes "0")) (unwrap_or (f (codes "limit")) (codes "100")) (unwrap_or (f (codes "text")) [])) h.offset
    ∙ ap (λ (o : Option Text). query_by (unwrap_or (g (codes "mode")) (codes "prefix")) (unwrap_or (g (codes "filter")) (codes "global")) (unwrap_or (g (codes "unique")) (codes "false")) (unwrap_or (g (codes "offset")) (codes "0")) (unwrap_or o (codes "100")) (unwrap_or (f (codes "text")) [])) h.limit
    ∙ ap (λ (o : Option Text). query_by (unwrap_or (g (codes "mode")) (codes "prefix")) (unwrap_or (g (codes "filter")) (codes "global")) (unwrap_or (g (codes "unique")) (codes "false")) (unwrap_or (g (codes "offset")) (codes "0")) (unwrap_or (g (codes "limit")) (codes "100")) (unwrap_or o [])) h.text

by_said : (r : Option Said) (m : ArgMatches) → Finds r (Some m) → query_found (found_in m) ≡ (r >>= λ (said : Said). query_found (λ (name : Text). said_of name said))
by_said None m h = absurd h
by_said (Some said) m h = same_query said m h

pub asked : {E : Type 0} (words : List Text) (o : Option ArgMatches) (m : ArgMatches) (r : Result (Option Query) E) → o ≡ Some m → Finds (read_words words None []) o
    → IfOk r (λ q. q ≡ query_found (found_in m)) → IfOk r (λ q. q ≡ query_of words)
asked words o m r is h answered =
    let found : Finds (read_words words None []) (Some m) = let P : Option ArgMatches → Type 0 = Finds (read_words words None []) in subst P is h in
    IfOk-weaker r _ _ (λ q e. e ∙ by_said (read_words words None []) m found) answered
