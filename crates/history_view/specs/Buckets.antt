-- Which of the commands that are shown a filter lets through.
use Rattle.std.specs.Prelude.{◌≡◌, ℕ, List, Bool, true, false, ◌==◌}
use Rattle.std.specs.List.{filter}
use Rattle.record_model.specs.declared.asking.Filter.{Filter}
use Rattle.record_model.specs.declared.asking.Filter.TheVariants.{Global, Host, Directory}
use Rattle.record_model.specs.declared.asking.Filter.TheVariants as filters
use Rattle.view_rules.specs.Answers.{Scope, of_all, of_hostname, of_session, of_cwd, in_scope}
use Rattle.history_view.specs.declared.bucket.Bucket.{Bucket}
use Rattle.history_view.specs.declared.bucket.ScopeNumber.{ScopeNumber}
use Rattle.history_view.specs.declared.bucket.ScopeNumber.TheVariants.{All, Hostname, Session, Cwd, Nothing}
use Rattle.history_view.specs.declared.rows.Creation.{Creation}
use Rattle.history_view.specs.declared.rows.TextNumbers.{TextNumbers}
use Rattle.history_view.specs.declared.walk.Walked.{Walked}
use Rattle.history_view.specs.Rows.{command_of, numbers_of, HasTexts}
use Rattle.history_view.specs.Walk.{walked_in}

abbrev pub scope_seen : Filter → Scope
scope_seen Global = of_all
scope_seen (Host text) = of_hostname text
scope_seen (filters.Session text) = of_session text
scope_seen (Directory text) = of_cwd text

abbrev pub has_scope : ScopeNumber → TextNumbers → Bool
has_scope All numbers = true
has_scope (Hostname n) numbers = numbers.hostname == n
has_scope (Session n) numbers = numbers.session == n
has_scope (Cwd n) numbers = numbers.cwd == n
has_scope Nothing numbers = false

-- by the numbers the same commands are let through as by the texts
abbrev pub Selects : List (List ℕ) → Scope → ScopeNumber → Type 0
Selects texts scope by = (id : ℕ) (c : Creation) → HasTexts texts c → has_scope by (numbers_of c) ≡ in_scope scope (command_of texts id c)

-- what is left of a walk over those that are let through
abbrev pub bucket_in : Bucket → List Walked
bucket_in b = filter (λ (w : Walked). has_scope b.scope w.numbers) (walked_in b.newest.inner)
