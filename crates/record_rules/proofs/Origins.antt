-- Pages that are cut from one numbered chain: no two of its records are forked, and a chain that is a prefix of it stays one.
use Rattle.std.proofs.Common.{◌≡◌, ◌≢◌, ℕ, zero, suc, Bool, true, false, not, ◌&&◌, ◌||◌, ◌+◌, cond, ◌⊎◌, inl, inr, List, [], ◌∷◌, ◌++◌, length, map, filter, take, drop, Option, Some, None, Ok, Err, refl, sym, ◌∙◌, ap, subst, arith}
use Rattle.std.specs.Prelude.{slice_get, option_map, ◌==◌}
use Rattle.std.specs.Option.{option_or}
use Rattle.std.proofs.lemmas.Bool.{true≢false, false_from_ne_true, and_parts, eqb-true, eq-eqb}
use Rattle.std.proofs.lemmas.List.{append-nil}
use Rattle.std.proofs.lemmas.Option.{none-some, same_Some}
use Rattle.record_rules.specs.Records.{SealedRecord, Caller, Entry, Event, record_weight, page_weight}
use Rattle.record_rules.specs.Journal.{PassedLimit, limit_passed, own_events, records_of, in_place, chain, IsNumbered, Sound}
use Rattle.definitions.specs.Prefixes.{IsPrefix}
use Rattle.record_rules.specs.Growth.{PageRefusal, PageTooLong, PageForked, PageGap, PageFull, GoOn, passes_page, has_long_text, wanted_idx, owned_with, same_place, holder, is_fresh, fresh_of, forked_by, forked_at, too_long_at, gap_at, full_at, refusal_at, first_refusal, taken_entry, batch_or, grow, grown}
use Rattle.record_rules.proofs.Members.{Has, Has-from_place, place_of_Has, Has-append, Has-filter, Has-kept, Has-take, Has-drop, find_has}
use Rattle.record_rules.proofs.Spots.{in_place-true, in_place-from}
use Rattle.record_rules.proofs.Repeats.{chain_extended}
use Rattle.record_rules.proofs.Growth.{growth_stays_sound}

-- two records of a numbered list with one idx are one record
numbered_once : (origin : List SealedRecord) (r x : SealedRecord) → IsNumbered origin → Has origin r → Has origin x → x.idx ≡ r.idx → x ≡ r
numbered_once origin r x numbered has_r has_x same =
    let at_r = place_of_Has origin r has_r in
    let at_x = place_of_Has origin x has_x in
    let places : at_x.0 ≡ at_r.0 = sym (numbered at_x.0 x at_x.1) ∙ same ∙ numbered at_r.0 r at_r.1 in
    same_Some x r (sym at_x.1 ∙ ap (slice_get origin) places ∙ at_r.1)

prefix_from_places : (xs ys : List SealedRecord) → ((k : ℕ) (x : SealedRecord) → slice_get xs k ≡ Some x → slice_get ys k ≡ Some x) → IsPrefix xs ys
prefix_from_places [] ys same = refl
prefix_from_places (x ∷ xs) [] same = absurd (none-some x (same 0 x refl))
prefix_from_places (x ∷ xs) (y ∷ ys) same =
    let first : x ≡ y = sym (same_Some y x (same 0 x refl)) in
    let rest = prefix_from_places xs ys (λ k z at. same (suc k) z at) in
    λ i. first i ∷ rest i

-- a numbered list of records of a numbered one is a prefix of it
numbered_prefix : (xs ys : List SealedRecord) → IsNumbered xs → IsNumbered ys → ((x : SealedRecord) → Has xs x → Has ys x) → IsPrefix xs ys
numbered_prefix xs ys numbered numbered_too inside = prefix_from_places xs ys (λ k x at.
    let found = place_of_Has ys x (inside x (Has-from_place xs k x at)) in
    let same : found.0 ≡ k = sym (numbered_too found.0 x found.1) ∙ numbered k x at in
    ap (slice_get ys) (sym same) ∙ found.1)

-- the fresh records of a page are the page's
fresh_has : (records page : List SealedRecord) (x : SealedRecord) → Has (fresh_of records page) x → Has page x
fresh_has records [] x has = has
fresh_has records (r ∷ page) x has =
    let rest = fresh_has (records ++ r ∷ []) page x in
    elim (is_fresh records r) as (λ b. Has (cond b (r ∷ fresh_of (records ++ r ∷ []) page) (fresh_of (records ++ r ∷ []) page)) x → (r ≡ x) ⊎ Has page x) [
      | true ↦ λ kept. first_or_rest rest kept
      | false ↦ λ later. inr (rest later)
    ] has
  where
    first_or_rest : (Has (fresh_of (records ++ r ∷ []) page) x → Has page x) → (r ≡ x) ⊎ Has (fresh_of (records ++ r ∷ []) page) x → (r ≡ x) ⊎ Has page x
    first_or_rest rest (inl here) = inl here
    first_or_rest rest (inr later) = inr (rest later)

-- ---- a page of one origin

-- the owner's chain of a place and the page come from one numbered chain
pub record FromOrigin (journal : List Entry) (owner host : ℕ) (tag : List ℕ) (origin page : List SealedRecord) : Type 0 where
  pub numbered : IsNumbered origin
  pub chained : (x : SealedRecord) → Has (chain journal owner host tag) x → Has origin x
  pub paged : (x : SealedRecord) → Has page x → Has origin x
  pub placed : (x : SealedRecord) → Has page x → in_place host tag x ≡ true

-- after a page is taken the chain is still a prefix
pub stays_prefix : (journal : List Entry) (of_host : ℕ) (caller : Caller) (owner host : ℕ) (tag : List ℕ) (origin page : List SealedRecord) (batch : List Entry) → Sound journal of_host → FromOrigin journal owner host tag origin page → grow journal caller owner page ≡ Ok batch → IsPrefix (chain (journal ++ batch) owner host tag) origin
stays_prefix journal of_host caller owner host tag origin page batch sound from taken =
    let after : Sound (journal ++ batch) of_host = subst (λ result. Sound (grown journal result) of_host) taken (growth_stays_sound journal of_host caller owner page sound) in
    let fresh = fresh_of (records_of (own_events journal owner)) page in
    numbered_prefix (chain (journal ++ batch) owner host tag) origin (after.numbered owner host tag) from.numbered (λ x has.
    elim (Has-append (chain journal owner host tag) (filter (in_place host tag) (fresh_of (records_of (own_events journal owner)) page)) x (subst (λ xs. Has xs x) (chain_extended journal caller owner host tag page batch taken) has)) [
      | inl old ↦ from.chained x old
      | inr new ↦ from.paged x (fresh_has (records_of (own_events journal owner)) page x (Has-filter (in_place host tag) fresh x new))
    ])

-- ---- no forks

abbrev is_fork : PageRefusal → Bool
is_fork (PageTooLong position length) = false
is_fork (PageForked position held) = true
is_fork (PageGap position wanted) = false
is_fork (PageFull passed) = false

-- an answer that is no fork
abbrev NoFork : Option PageRefusal → Type 0
NoFork None = Unit {0}
NoFork (Some refusal) = is_fork refusal ≡ false

or_no_fork : (o p : Option PageRefusal) → NoFork o → NoFork p → NoFork (option_or o p)
or_no_fork None p h g = g
or_no_fork (Some refusal) p h g = h

too_long_is_no_fork : (earlier : List SealedRecord) (r : SealedRecord) → NoFork (too_long_at earlier r)
too_long_is_no_fork earlier r = elim (passes_page earlier r || has_long_text r) as (λ b. NoFork (cond b (Some (PageTooLong (length earlier) (page_weight (earlier ++ r ∷ [])))) None)) [ true ↦ refl | false ↦ tt ]

gap_is_no_fork : (owned : List Event) (earlier : List SealedRecord) (r : SealedRecord) → NoFork (gap_at owned earlier r)
gap_is_no_fork owned earlier r = elim (is_fresh (records_of owned ++ earlier) r && not (r.idx == wanted_idx owned earlier r)) as (λ b. NoFork (cond b (Some (PageGap (length earlier) (wanted_idx owned earlier r))) None)) [ true ↦ refl | false ↦ tt ]

passed_is_no_fork : (o : Option PassedLimit) → NoFork (option_map PageFull o)
passed_is_no_fork None = tt
passed_is_no_fork (Some passed) = refl

full_is_no_fork : (owner : ℕ) (owned : List Event) (earlier : List SealedRecord) (r : SealedRecord) → NoFork (full_at owner owned earlier r)
full_is_no_fork owner owned earlier r =
    let passed = limit_passed (owned_with owner owned earlier) (record_weight r) (Some (record { host = r.host; tag = r.tag })) in
    elim (is_fresh (records_of owned ++ earlier) r) as (λ b. NoFork (cond b (option_map PageFull passed) None)) [ true ↦ passed_is_no_fork passed | false ↦ tt ]

fork_refused : (batch : List Entry) (refusal : Option PageRefusal) (position held : ℕ) → NoFork refusal → batch_or batch refusal ≡ Err (PageForked position held) → ⊥
fork_refused batch None position held none refused = cc
fork_refused batch (Some refusal) position held none refused =
    let same : refusal ≡ PageForked position held = cc in
    true≢false (sym (ap is_fork same) ∙ none)

module _ (journal : List Entry) (owner host : ℕ) (tag : List ℕ) (origin page : List SealedRecord) (from : FromOrigin journal owner host tag origin page) where
  -- whoever holds the spot of a record of the page is that record
  same_holder : (earlier : List SealedRecord) (r : SealedRecord) (o : Option SealedRecord) → Has page r → ((x : SealedRecord) → Has earlier x → Has page x) → holder (records_of (own_events journal owner) ++ earlier) r ≡ o → forked_by (length earlier) r o ≡ None
  same_holder earlier r None in_page before found = refl
  same_holder earlier r (Some other) in_page before found =
      let records = records_of (own_events journal owner) in
      let there = find_has (same_place r) (records_of (own_events journal owner) ++ earlier) other found in
      let spot = and_parts (in_place r.host r.tag other) (other.idx == r.idx) there.0 in
      let at = in_place-true host tag r (from.placed r in_page) in
      let placed : in_place host tag other ≡ true = (λ i. in_place (sym at.host_is i) (sym at.tag_is i) other) ∙ spot.0 in
      let in_origin : Has origin other = elim (Has-append records earlier other there.1) [
        | inl held ↦ from.chained other (Has-kept (in_place host tag) records other held placed)
        | inr early ↦ from.paged other (before other early)
      ] in
      let same : other ≡ r = numbered_once origin r other from.numbered (from.paged r in_page) in_origin (eqb-true other.idx r.idx spot.1) in
      ap (λ b. cond b None (Some (PageForked (length earlier) other.id))) (eq-eqb other.id r.id (ap (λ (x : SealedRecord). x.id) same))

  unforked : (earlier : List SealedRecord) (r : SealedRecord) → Has page r → ((x : SealedRecord) → Has earlier x → Has page x) → forked_at (own_events journal owner) earlier r ≡ None
  unforked earlier r in_page before = same_holder earlier r (holder (records_of (own_events journal owner) ++ earlier) r) in_page before refl

  position_is_no_fork : (earlier : List SealedRecord) (r : SealedRecord) → Has page r → ((x : SealedRecord) → Has earlier x → Has page x) → NoFork (refusal_at owner (own_events journal owner) earlier r)
  position_is_no_fork earlier r in_page before =
      let owned = own_events journal owner in
      or_no_fork (too_long_at earlier r) (option_or (forked_at owned earlier r) (option_or (gap_at owned earlier r) (full_at owner owned earlier r))) (too_long_is_no_fork earlier r) (or_no_fork (forked_at owned earlier r) (option_or (gap_at owned earlier r) (full_at owner owned earlier r)) (subst NoFork (sym (unforked earlier r in_page before)) tt) (or_no_fork (gap_at owned earlier r) (full_at owner owned earlier r) (gap_is_no_fork owned earlier r) (full_is_no_fork owner owned earlier r)))

  first_is_no_fork : (earlier records : List SealedRecord) → ((x : SealedRecord) → Has earlier x → Has page x) → ((x : SealedRecord) → Has records x → Has page x) → NoFork (first_refusal owner (own_events journal owner) earlier records)
  first_is_no_fork earlier [] before inside = tt
  first_is_no_fork earlier (r ∷ records) before inside =
      or_no_fork (refusal_at owner (own_events journal owner) earlier r) (first_refusal owner (own_events journal owner) (earlier ++ r ∷ []) records) (position_is_no_fork earlier r (inside r (inl refl)) before) (first_is_no_fork (earlier ++ r ∷ []) records (λ x has. elim (Has-append earlier (r ∷ []) x has) [
        | inl early ↦ before x early
        | inr here ↦ inside x (elim here [
          | inl same ↦ inl same
          | inr none ↦ absurd none
        ])
      ]) (λ x has. inside x (inr has)))

  pub never_forked : (caller : Caller) (position held : ℕ) → grow journal caller owner page ≡ Err (PageForked position held) → ⊥
  never_forked caller position held refused = fork_refused (map (taken_entry caller owner) (fresh_of (records_of (own_events journal owner)) page)) (first_refusal owner (own_events journal owner) [] page) position held (first_is_no_fork [] page (λ x has. absurd has) (λ x has. has)) refused

-- ---- a slice of a chain

go_on_idx : (host : ℕ) (tag : List ℕ) (idx : ℕ) (records : List SealedRecord) → GoOn host tag idx records → (k : ℕ) (x : SealedRecord) → slice_get records k ≡ Some x → x.idx ≡ idx + k
go_on_idx host tag idx [] go_on k x at = absurd (none-some x at)
go_on_idx host tag idx (r ∷ records) go_on zero x at = ap (λ (y : SealedRecord). y.idx) (sym (same_Some r x at)) ∙ go_on.2 ∙ omega arith
go_on_idx host tag idx (r ∷ records) go_on (suc k) x at = go_on_idx host tag (idx + 1) records go_on.3 k x at ∙ omega arith

go_on_placed : (host : ℕ) (tag : List ℕ) (idx : ℕ) (records : List SealedRecord) → GoOn host tag idx records → (x : SealedRecord) → Has records x → in_place host tag x ≡ true
go_on_placed host tag idx [] go_on x has = absurd has
go_on_placed host tag idx (r ∷ records) go_on x (inl here) = ap (in_place host tag) (sym here) ∙ in_place-from host tag r (record { host_is = go_on.0; tag_is = go_on.1 })
go_on_placed host tag idx (r ∷ records) go_on x (inr later) = go_on_placed host tag (idx + 1) records go_on.3 x later

slice_from_origin : (journal : List Entry) (owner host : ℕ) (tag : List ℕ) (origin : List SealedRecord) (start count : ℕ) → GoOn host tag 0 origin → IsPrefix (chain journal owner host tag) origin → FromOrigin journal owner host tag origin (take count (drop start origin))
slice_from_origin journal owner host tag origin start count go_on prefix = record {
  numbered = λ k r at. go_on_idx host tag 0 origin go_on k r at ∙ omega arith;
  chained = λ x has. Has-take (length (chain journal owner host tag)) origin x (subst (λ xs. Has xs x) prefix has);
  paged = λ x has. Has-drop start origin x (Has-take count (drop start origin) x has);
  placed = λ x has. go_on_placed host tag 0 origin go_on x (Has-drop start origin x (Has-take count (drop start origin) x has));
}

pub slice_never_forks : (journal : List Entry) (caller : Caller) (owner host : ℕ) (tag : List ℕ) (origin : List SealedRecord) (start count position held : ℕ) → GoOn host tag 0 origin → IsPrefix (chain journal owner host tag) origin → grow journal caller owner (take count (drop start origin)) ≡ Err (PageForked position held) → ⊥
slice_never_forks journal caller owner host tag origin start count position held go_on prefix = never_forked journal owner host tag origin (take count (drop start origin)) (slice_from_origin journal owner host tag origin start count go_on prefix) caller position held

pub slice_keeps_prefix : (journal : List Entry) (of_host : ℕ) (caller : Caller) (owner host : ℕ) (tag : List ℕ) (origin : List SealedRecord) (start count : ℕ) (batch : List Entry) → Sound journal of_host → GoOn host tag 0 origin → IsPrefix (chain journal owner host tag) origin → grow journal caller owner (take count (drop start origin)) ≡ Ok batch → IsPrefix (chain (journal ++ batch) owner host tag) origin
slice_keeps_prefix journal of_host caller owner host tag origin start count batch sound go_on prefix taken = stays_prefix journal of_host caller owner host tag origin (take count (drop start origin)) batch sound (slice_from_origin journal owner host tag origin start count go_on prefix) taken

-- ---- the other chains

none_kept : (p : SealedRecord → Bool) (records : List SealedRecord) → ((x : SealedRecord) → Has records x → p x ≡ false) → filter p records ≡ []
none_kept p [] none = refl
none_kept p (r ∷ records) none = ap (λ b. cond b (r ∷ filter p records) (filter p records)) (none r (inl refl)) ∙ none_kept p records (λ x has. none x (inr has))

other_place : (host other_host : ℕ) (tag other_tag : List ℕ) (x : SealedRecord) → (host ≢ other_host) ⊎ (tag ≢ other_tag) → in_place host tag x ≡ true → in_place other_host other_tag x ≡ false
other_place host other_host tag other_tag x differ here = false_from_ne_true (in_place other_host other_tag x) (λ there.
    let at = in_place-true host tag x here in
    let other = in_place-true other_host other_tag x there in
    apart (sym at.host_is ∙ other.host_is) (sym at.tag_is ∙ other.tag_is) differ)
  where
    apart : host ≡ other_host → tag ≡ other_tag → (host ≢ other_host) ⊎ (tag ≢ other_tag) → ⊥
    apart hosts tags (inl not_hosts) = not_hosts hosts
    apart hosts tags (inr not_tags) = not_tags tags

pub slice_leaves_other_chains : (journal : List Entry) (caller : Caller) (owner host : ℕ) (tag : List ℕ) (origin : List SealedRecord) (start count other_host : ℕ) (other_tag : List ℕ) (batch : List Entry) → GoOn host tag 0 origin → (host ≢ other_host) ⊎ (tag ≢ other_tag) → grow journal caller owner (take count (drop start origin)) ≡ Ok batch → chain (journal ++ batch) owner other_host other_tag ≡ chain journal owner other_host other_tag
slice_leaves_other_chains journal caller owner host tag origin start count other_host other_tag batch go_on differ taken =
    let records = records_of (own_events journal owner) in
    let cut = take count (drop start origin) in
    let fresh = fresh_of records cut in
    let nothing : filter (in_place other_host other_tag) fresh ≡ [] = none_kept (in_place other_host other_tag) fresh (λ x has. other_place host other_host tag other_tag x differ (go_on_placed host tag 0 origin go_on x (Has-drop start origin x (Has-take count (drop start origin) x (fresh_has records cut x has))))) in
    chain_extended journal caller owner other_host other_tag cut batch taken ∙ ap (λ rest. chain journal owner other_host other_tag ++ rest) nothing ∙ append-nil (chain journal owner other_host other_tag)
