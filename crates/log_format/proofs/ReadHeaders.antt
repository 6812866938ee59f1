-- The host of a header that can be read.
use Rattle.std.proofs.Common.{◌≡◌, ℕ, ◌<◌, ◌-◌, ◌≤◌, Bool, true, false, cond, List, take, drop, length, Option, Some, None, refl, sym, ◌∙◌, ap, subst, arith}
use Rattle.std.specs.Prelude.{nat_lt, bytes_eq, replicate}
use Rattle.std.proofs.lemmas.List.{length-drop, take_all}
use Rattle.std.proofs.lemmas.Bool.Decides.{nat_tests}
use Rattle.byteorder.specs.Endian.{big_number}
use Rattle.definitions.specs.Spelling.{IsBytes}
use Rattle.log_rules.specs.Log.{Form, magic_bytes, header_fault, HasHeader}
use Rattle.log_rules.proofs.Headers.{read_header}

pub header_there : (form : Form) (bytes : List ℕ) (host : ℕ) → IsBytes bytes → None ≡ header_fault form bytes → host ≡ big_number 16 (take 16 (drop 8 bytes)) → HasHeader form bytes host
header_there form bytes host are none is = subst (HasHeader form bytes) (sym is) (read_header form bytes are (sym none))

-- ---- the places

below : (a b : ℕ) → a < b → nat_lt a b ≡ true
below a b lt = grind (arith, nat_tests)

not_below : (a b : ℕ) → b ≤ a → nat_lt a b ≡ false
not_below a b le = grind (arith, nat_tests)

fault_by : (form : Form) (bytes : List ℕ) (magic short zeros cut : Bool) → bytes_eq (take 8 bytes) (magic_bytes form) ≡ magic → nat_lt (length bytes) 24 ≡ short → bytes_eq (take 8 (drop 24 bytes)) (replicate 8 0) ≡ zeros → nat_lt (length bytes) 33 ≡ cut
    → cond {A = Option ℕ} magic (cond short (Some 8) (cond zeros (cond cut (Some 32) None) (Some 24))) (Some 0) ≡ header_fault form bytes
fault_by form bytes magic short zeros cut m s z g = λ i. cond {A = Option ℕ} (sym m i) (cond (sym s i) (Some 8) (cond (sym z i) (cond (sym g i) (Some 32) None) (Some 24))) (Some 0)

-- the zeros of the bytes behind the host, as a slice of them is seen
pub zeros_behind : (bytes : List ℕ) (zeros value : Bool) → 24 ≤ length bytes → zeros ≡ bytes_eq (take 8 (take (length bytes - 24) (drop 24 bytes))) (replicate 8 0) → zeros ≡ value → bytes_eq (take 8 (drop 24 bytes)) (replicate 8 0) ≡ value
zeros_behind bytes zeros value long tested is = ap (λ (l : List ℕ). bytes_eq (take 8 l) (replicate 8 0)) (sym (take_all (length bytes - 24) (drop 24 bytes) (omega (arith, length-drop 24 bytes)))) ∙ sym tested ∙ is

pub fault_0 : (form : Form) (bytes : List ℕ) (magic : Bool) → magic ≡ bytes_eq (take 8 bytes) (magic_bytes form) → magic ≡ false → Some 0 ≡ header_fault form bytes
fault_0 form bytes magic tested is = fault_by form bytes false _ _ _ (sym tested ∙ is) refl refl refl

pub fault_8 : (form : Form) (bytes : List ℕ) (magic : Bool) → magic ≡ bytes_eq (take 8 bytes) (magic_bytes form) → magic ≡ true → length bytes < 24 → Some 8 ≡ header_fault form bytes
fault_8 form bytes magic tested is short = fault_by form bytes true true _ _ (sym tested ∙ is) (below (length bytes) 24 short) refl refl

pub fault_24 : (form : Form) (bytes : List ℕ) (magic : Bool) → magic ≡ bytes_eq (take 8 bytes) (magic_bytes form) → magic ≡ true → 24 ≤ length bytes → bytes_eq (take 8 (drop 24 bytes)) (replicate 8 0) ≡ false → Some 24 ≡ header_fault form bytes
fault_24 form bytes magic tested is long zeros = fault_by form bytes true false false _ (sym tested ∙ is) (not_below (length bytes) 24 long) zeros refl

pub fault_32 : (form : Form) (bytes : List ℕ) (magic : Bool) → magic ≡ bytes_eq (take 8 bytes) (magic_bytes form) → magic ≡ true → 24 ≤ length bytes → bytes_eq (take 8 (drop 24 bytes)) (replicate 8 0) ≡ true → length bytes < 33 → Some 32 ≡ header_fault form bytes
fault_32 form bytes magic tested is long zeros short = fault_by form bytes true false true true (sym tested ∙ is) (not_below (length bytes) 24 long) zeros (below (length bytes) 33 short)

pub no_fault : (form : Form) (bytes : List ℕ) (magic : Bool) → magic ≡ bytes_eq (take 8 bytes) (magic_bytes form) → magic ≡ true → 24 ≤ length bytes → bytes_eq (take 8 (drop 24 bytes)) (replicate 8 0) ≡ true → 33 ≤ length bytes → None ≡ header_fault form bytes
no_fault form bytes magic tested is long zeros whole = fault_by form bytes true false true false (sym tested ∙ is) (not_below (length bytes) 24 long) zeros (not_below (length bytes) 33 whole)
