-- Pieces cut from a chain, as the chain grows.
use Rattle.std.proofs.Common.{◌≡◌, ℕ, suc, ◌+◌, Bool, true, false, cond, inl, inr, List, [], ◌∷◌, ◌++◌, length, filter, take, drop, min, Some, refl, sym, ◌∙◌, ap, arith, append_assoc}
use Rattle.std.specs.Prelude.{slice_get}
use Rattle.std.proofs.lemmas.List.{take-append-drop}
use Rattle.std.proofs.Math.Seq.{take-append_seam, drop-append_seam}
use Rattle.definitions.specs.Limits.{most_page_records}
use Rattle.record_rules.specs.Records.{SealedRecord, Entry}
use Rattle.record_rules.specs.Journal.{own_events, records_of, in_place, chain, IsNumbered}
use Rattle.definitions.specs.Prefixes.{IsPrefix}
use Rattle.definitions.proofs.Prefixes.{prefix-rest, prefix-of, prefix-then}
use Rattle.record_rules.specs.Growth.{GoOn}
use Rattle.record_rules.specs.Answers.{page}
use Rattle.record_rules.proofs.Members.{Has}
use Rattle.record_rules.proofs.Pages.{page_is_longest}
use Rattle.record_rules.proofs.Spots.{in_place-true}

-- ---- pieces

-- the records stand side by side in the chain
pub record IsCut (records origin : List SealedRecord) : Type 0 where
  pub before : List SealedRecord
  pub rest : List SealedRecord
  pub is : before ++ (records ++ rest) ≡ origin

pub cut_grows : (records origin more : List SealedRecord) → IsCut records origin → IsCut records (origin ++ more)
cut_grows records origin more cut = record {
  before = cut.before;
  rest = cut.rest ++ more;
  is = ap (λ zs. cut.before ++ zs) (sym (append_assoc records cut.rest more)) ∙ sym (append_assoc cut.before (records ++ cut.rest) more) ∙ ap (λ zs. zs ++ more) cut.is;
}

-- such a piece is a slice
pub cut_is_slice : (records origin : List SealedRecord) → (cut : IsCut records origin) → take (length records) (drop (length cut.before) origin) ≡ records
cut_is_slice records origin cut =
    ap (λ o. take (length records) (drop (length cut.before) o)) (sym cut.is) ∙ ap (take (length records)) (drop-append_seam cut.before (records ++ cut.rest)) ∙ take-append_seam records cut.rest

-- a prefix of what is left of a prefix
cut_in : (prefix origin records : List SealedRecord) (start : ℕ) → IsPrefix prefix origin → IsPrefix records (drop start prefix) → IsCut records origin
cut_in prefix origin records start is_prefix from_start =
    let behind = drop (length records) (drop start prefix) in
    let beyond = drop (length prefix) origin in
    record {
      before = take start prefix;
      rest = behind ++ beyond;
      is = ap (λ zs. take start prefix ++ zs) (sym (append_assoc records behind beyond) ∙ ap (λ zs. zs ++ beyond) (prefix-rest records (drop start prefix) from_start)) ∙ sym (append_assoc (take start prefix) (drop start prefix) beyond) ∙ ap (λ zs. zs ++ beyond) (take-append-drop start prefix) ∙ prefix-rest prefix origin is_prefix;
    }

-- a page of a chain that is a prefix of an origin is cut from the origin
pub page_is_cut : (journal : List Entry) (owner host : ℕ) (tag : List ℕ) (start count : ℕ) (origin : List SealedRecord) → IsPrefix (chain journal owner host tag) origin → IsCut (page journal owner host tag start count) origin
page_is_cut journal owner host tag start count origin prefix =
    let left = drop start (chain journal owner host tag) in
    let next = take (min count most_page_records) left in
    let given = page journal owner host tag start count in
    let first : IsPrefix given next = (page_is_longest journal owner host tag start count).is_prefix in
    let within : IsPrefix next left = prefix-of next (drop (min count most_page_records) left) left (take-append-drop (min count most_page_records) left) in
    cut_in (chain journal owner host tag) origin given start prefix (prefix-then given next left first within)

-- ---- numbered chains

kept_pass : (p : SealedRecord → Bool) (records : List SealedRecord) (x : SealedRecord) → Has (filter p records) x → p x ≡ true
kept_pass p [] x has = absurd has
kept_pass p (r ∷ records) x has = by_test (kept_pass p records x) (p r) refl has
  where
    by_test : (Has (filter p records) x → p x ≡ true) → (b : Bool) → p r ≡ b → Has (cond b (r ∷ filter p records) (filter p records)) x → p x ≡ true
    by_test rest true is (inl here) = ap p (sym here) ∙ is
    by_test rest true is (inr later) = rest later
    by_test rest false is later = rest later

goes_on_from : (host : ℕ) (tag : List ℕ) (idx : ℕ) (records : List SealedRecord) → ((x : SealedRecord) → Has records x → in_place host tag x ≡ true) → ((k : ℕ) (x : SealedRecord) → slice_get records k ≡ Some x → x.idx ≡ idx + k) → GoOn host tag idx records
goes_on_from host tag idx [] placed numbered = tt
goes_on_from host tag idx (r ∷ records) placed numbered =
    let at = in_place-true host tag r (placed r (inl refl)) in
    let first : r.idx ≡ idx + 0 = numbered 0 r refl in
    (at.host_is, at.tag_is, first ∙ omega arith, goes_on_from host tag (idx + 1) records (λ x has. placed x (inr has)) (λ k x found. numbered (suc k) x found ∙ omega arith))

pub chain_goes_on : (journal : List Entry) (owner host : ℕ) (tag : List ℕ) → IsNumbered (chain journal owner host tag) → GoOn host tag 0 (chain journal owner host tag)
chain_goes_on journal owner host tag numbered = goes_on_from host tag 0 (chain journal owner host tag) (λ x has. kept_pass (in_place host tag) (records_of (own_events journal owner)) x has) (λ k x found. numbered k x found ∙ omega arith)
