-- The call that a payload spells, computed from what reading from left to right finds. Nothing rests on these words alone:
-- a law says that they find exactly the call that is spelled.
use Rattle.std.specs.Prelude.{ℕ, zero, suc, ℤ, pos, negsuc, List, [], ◌∷◌, Bool, true, false, Option, Some, None, Result, Ok, Err, ◌==◌, if◌then◌else◌}
use Rattle.definitions.specs.Calls.{SearchMode, by_prefix, by_substring, Argument, a_text, an_integer}
use Rattle.definitions.specs.Reading.{id_value, call_at}
use Rattle.view_rules.specs.Answers.{Scope, of_all, of_hostname, of_session, of_cwd}
use Rattle.step_rules.specs.Calls.{Call, start_call, end_call, delete_call, search_call, kv_set_call, kv_delete_call, kv_get_call, kv_list_call, alias_set_call, alias_delete_call, alias_list_call, status_call}
use Rattle.request_rules.specs.Requests.{call_kinds}

-- the argument behind so many others, and what it says; where there is none, or one of another kind, nothing of meaning
abbrev pub argument_of : ℕ → List Argument → Argument
argument_of n [] = a_text []
argument_of zero (a ∷ more) = a
argument_of (suc n) (a ∷ more) = argument_of n more

abbrev pub text_in : Argument → List ℕ
text_in (a_text text) = text
text_in (an_integer z) = []

abbrev pub integer_in : Argument → ℤ
integer_in (a_text text) = pos 0
integer_in (an_integer z) = z

abbrev pub magnitude : ℤ → ℕ
magnitude (pos n) = n
magnitude (negsuc n) = n

abbrev pub text_of : ℕ → List Argument → List ℕ
text_of n good = text_in (argument_of n good)

abbrev pub integer_of : ℕ → List Argument → ℤ
integer_of n good = integer_in (argument_of n good)

abbrev pub natural_of : ℕ → List Argument → ℕ
natural_of n good = magnitude (integer_of n good)

abbrev pub mode_of : ℕ → SearchMode
mode_of zero = by_prefix
mode_of (suc n) = by_substring

abbrev pub scope_of : ℕ → List ℕ → Scope
scope_of zero text = of_all
scope_of (suc zero) text = of_hostname text
scope_of (suc (suc zero)) text = of_session text
scope_of (suc (suc (suc n))) text = of_cwd text

abbrev pub unique_of : ℕ → Bool
unique_of zero = false
unique_of (suc n) = true

abbrev pub search_of : SearchMode → Scope → List ℕ → Bool → ℕ → ℕ → Call
search_of mode scope text unique offset limit = search_call (record { scope = scope; unique = unique; query = record { mode = mode; text = text; offset = offset; limit = limit } })

-- the call of this number with these arguments
abbrev pub call_from : ℕ → List Argument → Call
call_from n good =
    if n == 1 then start_call (text_of 0 good) (text_of 1 good) (text_of 2 good) (text_of 3 good) else (if n == 2 then end_call (id_value (text_of 0 good)) (integer_of 1 good) (integer_of 2 good) None else (if n == 3 then delete_call (id_value (text_of 0 good)) else (if n == 4 then search_of (mode_of (natural_of 0 good)) (scope_of (natural_of 1 good) (text_of 2 good)) (text_of 3 good) (unique_of (natural_of 4 good)) (natural_of 5 good) (natural_of 6 good) else (if n == 5 then kv_set_call (text_of 0 good) (text_of 1 good) (text_of 2 good) else (if n == 6 then kv_get_call (text_of 0 good) (text_of 1 good) else (if n == 7 then kv_list_call (text_of 0 good) (text_of 1 good) (natural_of 2 good) else (if n == 8 then alias_set_call (text_of 0 good) (text_of 1 good) else (if n == 9 then alias_delete_call (text_of 0 good) else (if n == 10 then alias_list_call (text_of 0 good) (natural_of 1 good) else (if n == 12 then end_call (id_value (text_of 0 good)) (integer_of 1 good) (integer_of 2 good) (Some (text_of 3 good)) else (if n == 13 then kv_delete_call (text_of 0 good) (text_of 1 good) else status_call)))))))))))

abbrev pub call_read : Result (ℤ × List Argument) ℕ → Option Call
call_read (Ok (pos n, good)) = Some (call_from n good)
call_read (Ok (negsuc n, good)) = None
call_read (Err left) = None

-- the call that the payload spells, if it spells one
abbrev pub request_at : List ℕ → Option Call
request_at payload = call_read (call_at call_kinds payload)
