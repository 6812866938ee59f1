-- The nodes of a rehearsal: each has its own number as its host.
use Rattle.std.proofs.Common.{◌≡◌, ℕ, zero, suc, ◌+◌, ◌<◌, ◌≤◌, Some, sym, ◌∙◌, ap, arith}
use Rattle.std.specs.Prelude.{slice_get}
use Rattle.std.specs.List.{range_with_len, AllByRecursion}
use Rattle.std.proofs.lemmas.Option.{none-some, same_Some}
use Rattle.record_rules.proofs.Members.{Has, Has-from_place, place_of_Has}
use Rattle.world_rules.specs.World.{host_at}
use Rattle.rehearsal_rules.specs.Rehearsal.{hosts_of}
use Rattle.rehearsal_rules.specs.Laws.{HostsOfDiffer}

-- what stands in a run of numbers, and where
stands_in_run : (a n k x : ℕ) → slice_get (range_with_len a n) k ≡ Some x → (k < n) × (x ≡ a + k)
stands_in_run a zero k x at = absurd (none-some x at)
stands_in_run a (suc n) zero x at = (omega arith, sym (same_Some a x at) ∙ omega arith)
stands_in_run a (suc n) (suc k) x at = let rest = stands_in_run (a + 1) n k x at in let below : k < n = rest.0 in (omega (arith, below), rest.1 ∙ omega arith)

run_at : (a n k : ℕ) → k < n → slice_get (range_with_len a n) k ≡ Some (a + k)
run_at a zero k below = absurd (omega (arith, below))
run_at a (suc n) zero below = ap Some (omega arith)
run_at a (suc n) (suc k) below = run_at (a + 1) n k (omega (arith, below)) ∙ ap Some (omega arith)

pub all_in_run : (P : ℕ → Type 0) (a n : ℕ) → ((x : ℕ) → a ≤ x → x < a + n → P x) → AllByRecursion P (range_with_len a n)
all_in_run P a zero each = tt
all_in_run P a (suc n) each = (each a (omega arith) (omega arith), all_in_run P (a + 1) n (λ x low high. let l : a + 1 ≤ x = low in let h : x < a + 1 + n = high in each x (omega (arith, l)) (omega (arith, h))))

-- ---- hosts

pub node_is_host : (hosts node host : ℕ) → host_at (hosts_of hosts) node ≡ Some host → (node ≤ hosts) × (host ≡ node)
node_is_host hosts node host at = let found = stands_in_run 0 (suc hosts) node host at in let below : node < suc hosts = found.0 in (omega (arith, below), found.1 ∙ omega arith)

pub node_has_host : (hosts node : ℕ) → node ≤ hosts → host_at (hosts_of hosts) node ≡ Some node
node_has_host hosts node within = run_at 0 (suc hosts) node (omega (arith, within)) ∙ ap Some (omega arith)

pub is_a_host : (hosts node : ℕ) → 1 ≤ node → node ≤ hosts → Has (hosts_of hosts) node
is_a_host hosts (suc k) low high = Has-from_place (hosts_of hosts) k (suc k) (run_at 1 hosts k (omega (arith, high)) ∙ ap Some (omega arith))
is_a_host hosts zero low high = absurd (omega (arith, low))

pub host_is_in : (hosts node : ℕ) → Has (hosts_of hosts) node → (1 ≤ node) × (node ≤ hosts)
host_is_in hosts node has =
    let place = place_of_Has (hosts_of hosts) node has in
    let found = stands_in_run 1 hosts place.0 node place.1 in
    let below : place.0 < hosts = found.0 in
    let is : node ≡ 1 + place.0 = found.1 in
    (omega (arith, is), omega (arith, is, below))

pub hosts_differ : HostsOfDiffer
hosts_differ hosts node other host at at_other = sym (node_is_host hosts node host at).1 ∙ (node_is_host hosts other host at_other).1
