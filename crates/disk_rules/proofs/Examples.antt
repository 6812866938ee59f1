-- The examples, computed.
use Rattle.std.proofs.Common.{◌≡◌, ℕ, zero, suc, ◌<◌, ◌≤◌, ◌⊎◌, inl, inr, List, [], ◌∷◌, length, get_or, refl, sym, ap, subst, arith}
use Rattle.disk_rules.specs.Disk.{Range, Disk, IsWithin, IsWritten, KeepsSynced, Leaves}
use Rattle.disk_rules.specs.Calls.{Torn}
use Rattle.disk_rules.specs.Examples.{unsynced, written_twice, WorkedDisk, WorkedCalls, WorkedAppend}

-- three bytes, of which the second was written and is any, and any behind them
keeps_two : (written : List Range) → IsWritten 1 written → (second : ℕ) (behind : List ℕ) → KeepsSynced (1 ∷ 2 ∷ 3 ∷ []) written (1 ∷ second ∷ 3 ∷ behind)
keeps_two written second_written second behind = record { no_shorter = omega arith; elsewhere = same }
  where
    same : (offset : ℕ) → offset < 3 → (IsWritten offset written → ⊥) → ◌≡◌ {A = ℕ} (get_or (1 ∷ second ∷ 3 ∷ behind) offset 0) (get_or (1 ∷ 2 ∷ 3 ∷ []) offset 0)
    same zero below outside = refl
    same (suc zero) below outside = absurd (outside second_written)
    same (suc (suc zero)) below outside = refl
    same (suc (suc (suc k))) below outside = absurd (omega arith)

kept_by : (second : ℕ) (behind : List ℕ) → Leaves unsynced (1 ∷ second ∷ 3 ∷ behind)
kept_by second behind = keeps_two unsynced.written (inl (omega arith, omega arith)) second behind

kept_twice : (second : ℕ) (behind : List ℕ) → Leaves written_twice (1 ∷ second ∷ 3 ∷ behind)
kept_twice second behind = keeps_two written_twice.written (inr (inl (omega arith, omega arith))) second behind

not_written : (offset : ℕ) → (IsWithin offset (record { at = 1; count = 1 }) → ⊥) → IsWritten offset unsynced.written → ⊥
not_written offset outside (inl inside) = outside inside
not_written offset outside (inr nothing) = nothing

not_first : IsWithin 0 (record { at = 1; count = 1 }) → ⊥
not_first inside = let low = inside.0 in omega arith

not_third : IsWithin 2 (record { at = 1; count = 1 }) → ⊥
not_third inside = let high = inside.1 in omega arith

torn_elsewhere : (offset : ℕ) → offset < 3 → (IsWithin offset (record { at = 1; count = 1 }) → ⊥) → ◌≡◌ {A = ℕ} (get_or (1 ∷ 255 ∷ 3 ∷ []) offset 0) (get_or (1 ∷ 2 ∷ 3 ∷ []) offset 0)
torn_elsewhere zero below outside = refl
torn_elsewhere (suc zero) below outside = absurd (outside (omega arith, omega arith))
torn_elsewhere (suc (suc zero)) below outside = refl
torn_elsewhere (suc (suc (suc k))) below outside = absurd (omega arith)

pub disk : WorkedDisk
disk = record {
  over = refl;
  over_the_end = refl;
  write_done = refl;
  write_failed = inr (record { synced = refl; written = refl; shows = record { no_shorter = omega arith; no_longer = omega arith; elsewhere = torn_elsewhere } });
  write_undone = inl refl;
  not_outside = λ broken. elim broken [
    | inl same ↦ let h : ◌≡◌ {A = ℕ} 255 3 = ap (λ (d : Disk). get_or d.shows 2 0) same in omega arith
    | inr w ↦ let h : ◌≡◌ {A = ℕ} 255 3 = w.shows.elsewhere 2 (omega arith) not_third in omega arith
  ];
  not_longer = λ broken. elim broken [
    | inl same ↦ let h : ◌≡◌ {A = ℕ} 4 3 = ap (λ (d : Disk). length d.shows) same in omega arith
    | inr w ↦ let h : 4 ≤ 3 = w.shows.no_longer in omega arith
  ];
  sync_done = refl;
  kept = kept_by 9 [];
  lost = kept_by 2 [];
  torn = kept_by 255 [];
  longer = kept_by 2 (7 ∷ []);
  other_before = λ left. let h : ◌≡◌ {A = ℕ} 0 1 = left.elsewhere 0 (omega arith) (not_written 0 not_first) in omega arith;
  other_behind = λ left. let h : ◌≡◌ {A = ℕ} 0 3 = left.elsewhere 2 (omega arith) (not_written 2 not_third) in omega arith;
  shorter = λ left. let h : 3 ≤ 2 = left.no_shorter in omega arith;
  lost_still = λ now same. subst (λ (d : Disk). Leaves d (1 ∷ 2 ∷ 3 ∷ [])) (sym same) (kept_by 2 []);
  lost_no_more = λ left is. is;
  since_first = inr (inl (omega arith, kept_by 2 []));
  since_write = inr (inl (omega arith, kept_by 2 []));
  since_sync = since_the_sync;
  appended = (_, refl, (_, refl, (_, refl, (_, refl, refl))));
}
  where
    since_the_sync : ((2 ≤ 2) × ◌≡◌ {A = List ℕ} (1 ∷ 2 ∷ 3 ∷ []) (1 ∷ 9 ∷ 3 ∷ [])) ⊎ (((2 ≤ 1) × Leaves unsynced (1 ∷ 2 ∷ 3 ∷ [])) ⊎ (((2 ≤ 0) × ◌≡◌ {A = List ℕ} (1 ∷ 2 ∷ 3 ∷ []) (1 ∷ 2 ∷ 3 ∷ [])) ⊎ ⊥)) → ⊥
    since_the_sync (inl now) = let h : ◌≡◌ {A = ℕ} 2 9 = ap (λ (l : List ℕ). get_or l 1 0) now.1 in absurd (omega arith)
    since_the_sync (inr (inl before)) = let h = before.0 in absurd (omega arith)
    since_the_sync (inr (inr (inl first))) = let h = first.0 in absurd (omega arith)
    since_the_sync (inr (inr (inr nothing))) = nothing

pub calls : WorkedCalls
calls = record {
  rests = record { still = λ none. refl; keeps = record { no_shorter = omega arith; elsewhere = λ offset below outside. refl } };
  writes = record { still = λ none. let h : ◌≡◌ {A = ℕ} 1 0 = ap (λ (l : List Range). length l) none in absurd (omega arith); keeps = kept_by 9 [] };
  writes_twice = record { still = λ none. let h : ◌≡◌ {A = ℕ} 2 0 = ap (λ (l : List Range). length l) none in absurd (omega arith); keeps = kept_twice 9 (7 ∷ []) };
  grown_unwritten = λ is. let h : ◌≡◌ {A = ℕ} 4 3 = ap (λ (l : List ℕ). length l) (is.still refl) in omega arith;
  changed_elsewhere = λ is. let h : ◌≡◌ {A = ℕ} 9 3 = is.keeps.elsewhere 2 (omega arith) (not_written 2 not_third) in omega arith;
  at_the_end = omega arith;
  past_the_end = λ may. let h : 4 ≤ 3 = may in omega arith;
  misplaced = refl;
  behind_shown = omega arith;
  sync_unsynced = tt;
  first_lost = kept_twice 2 (7 ∷ []);
  second_lost = kept_twice 9 [];
  not_alone = λ only. let h : ◌≡◌ {A = ℕ} 2 9 = ap (λ (l : List ℕ). get_or l 1 0) (only (1 ∷ 2 ∷ 3 ∷ []) (kept_by 2 [])) in omega arith;
  went_through = refl;
}

-- a batch of which one byte of two was written
batch_is_torn : Torn (record { at = 2; count = 2 }) (5 ∷ 0 ∷ []) (5 ∷ 0 ∷ 255 ∷ [])
batch_is_torn = record { no_shorter = omega arith; no_longer = omega arith; elsewhere = same }
  where
    same : (offset : ℕ) → offset < 2 → (IsWithin offset (record { at = 2; count = 2 }) → ⊥) → ◌≡◌ {A = ℕ} (get_or (5 ∷ 0 ∷ 255 ∷ []) offset 0) (get_or (5 ∷ 0 ∷ []) offset 0)
    same zero below outside = refl
    same (suc zero) below outside = refl
    same (suc (suc k)) below outside = absurd (omega arith)

-- a gate that is any byte
gate_is_torn : (gate : ℕ) → Torn (record { at = 1; count = 1 }) (5 ∷ 0 ∷ 6 ∷ 0 ∷ []) (5 ∷ gate ∷ 6 ∷ 0 ∷ [])
gate_is_torn gate = record { no_shorter = omega arith; no_longer = omega arith; elsewhere = same }
  where
    same : (offset : ℕ) → offset < 4 → (IsWithin offset (record { at = 1; count = 1 }) → ⊥) → ◌≡◌ {A = ℕ} (get_or (5 ∷ gate ∷ 6 ∷ 0 ∷ []) offset 0) (get_or (5 ∷ 0 ∷ 6 ∷ 0 ∷ []) offset 0)
    same zero below outside = refl
    same (suc zero) below outside = absurd (outside (omega arith, omega arith))
    same (suc (suc zero)) below outside = refl
    same (suc (suc (suc zero))) below outside = refl
    same (suc (suc (suc (suc k)))) below outside = absurd (omega arith)

pub append : WorkedAppend
append = record {
  at_first = inl refl;
  in_batch = inr (inl (inr (record { synced = refl; written = refl; shows = batch_is_torn })));
  between = inr (inr (_, refl, inr (inr (_, refl, inl refl))));
  in_gate = inr (inr (_, refl, inr (inr (_, refl, inr (inl (inr (record { synced = refl; written = refl; shows = gate_is_torn 255 })))))));
  unkept = inr (inr (_, refl, inr (inr (_, refl, inr (inr (_, refl, inl refl))))));
  at_last = inr (inr (_, refl, inr (inr (_, refl, inr (inr (_, refl, inr (inr (_, refl, refl))))))));
  stages = (_, refl, (_, refl, refl));
  gate_fails = inl (inr (record { synced = refl; written = refl; shows = gate_is_torn 255 }));
  sync_fails = inr (_, refl, refl);
  settles = (_, refl, (_, refl, refl));
  before = (255 ∷ [], refl);
  opened = λ begins. let h : ◌≡◌ {A = ℕ} 1 0 = ap (λ (l : List ℕ). get_or l 1 9) begins.1 in omega arith;
  no_gate = λ begins. let h : ◌≡◌ {A = ℕ} 9 0 = ap (λ (l : List ℕ). get_or l 1 9) begins.1 in omega arith;
  with_batch = (255, (λ e. absurd (omega arith)), (9 ∷ [], refl));
  gate_closed = λ is. absurd (is.1 (sym (ap (λ (l : List ℕ). get_or l 1 9) is.2.1)));
  next_gate_open = λ is. let h : ◌≡◌ {A = ℕ} 1 0 = ap (λ (l : List ℕ). get_or l 3 9) is.2.1 in omega arith;
}
