-- A status, member by member.
use Rattle.std.proofs.Common.{◌≡◌, ℕ, Bool, true, false, List, [], ◌∷◌, ◌++◌, Option, Some, None, option_map, String, BTreeMap, Global, string_bytes, Bor, refl, sym, ap, ◌∙◌, append_assoc, append-nil}
use Rattle.definitions.specs.Reading.{◌>>=◌}
use Rattle.record_rules.specs.Journal.{ChainCount}
use Rattle.serde_json.specs.Data.{Members}
use Rattle.serde_json.specs.View.{view, members_view}
use Rattle.serde_json.specs.declared.value.Value.{Value}
use Rattle.record_json.specs.Json.{number_of}
use Rattle.record_json.specs.Statuses.{counted, host_added, hosts_in, chains_under, chains_of_all}
use Rattle.record_json.specs.StatusReading.{if_taken, hosts_seen}

abbrev pub Entry : Type 0
Entry = String Global × Value

abbrev pub Tags : Type 0
Tags = Bor (BTreeMap (String Global) Value)

-- ---- hosts

module _ (name : String Global) (value : Value) (rest its all : List Entry) (before after : List (ℕ × Members)) (text : List ℕ) (taken : Bool)
    (said : text ≡ string_bytes name) (steps : its ≡ (name, value) ∷ rest) (so_far : hosts_in (members_view its) before ≡ hosts_in (members_view all) []) (adds : if_taken taken after ≡ host_added text (view value) before) where
  goes : (host_added (string_bytes name) (view value) before >>= λ more. hosts_in (members_view rest) more) ≡ hosts_in (members_view all) []
  goes = ap (λ (es : List Entry). hosts_in (members_view es) before) (sym steps) ∙ so_far

  is_added : if_taken taken after ≡ host_added (string_bytes name) (view value) before
  is_added = adds ∙ ap (λ (t : List ℕ). host_added t (view value) before) said

  pub host_refused : taken ≡ false → None ≡ hosts_in (members_view all) []
  host_refused refused =
      ap (λ (o : Option (List (ℕ × Members))). o >>= λ more. hosts_in (members_view rest) more) (ap (λ (b : Bool). if_taken b after) (sym refused) ∙ is_added) ∙ goes

  pub host_taken : taken ≡ true → hosts_in (members_view rest) after ≡ hosts_in (members_view all) []
  host_taken accepted =
      ap (λ (o : Option (List (ℕ × Members))). o >>= λ more. hosts_in (members_view rest) more) (ap (λ (b : Bool). if_taken b after) (sym accepted) ∙ is_added) ∙ goes

pub hosts_end : (its all : List Entry) (found : List (ℕ × Members)) → its ≡ [] → hosts_in (members_view its) found ≡ hosts_in (members_view all) [] → Some found ≡ hosts_in (members_view all) []
hosts_end its all found none so_far = ap (λ (es : List Entry). hosts_in (members_view es) found) (sym none) ∙ so_far

-- ---- the chains of a host

-- these chains, with more of them
abbrev pub with_more : List ChainCount → Option (List ChainCount) → Option (List ChainCount)
with_more chains more = option_map (λ later. chains ++ later) more

module _ (host : ℕ) (tag : String Global) (value : Value) (rest its all : List Entry) (first before after : List ChainCount) (text : List ℕ) (taken : Bool)
    (said : text ≡ string_bytes tag) (steps : its ≡ (tag, value) ∷ rest) (so_far : with_more before (chains_under host (members_view its)) ≡ with_more first (chains_under host (members_view all)))
    (adds : if_taken taken after ≡ option_map (λ last. before ++ counted host text last ∷ []) (number_of (view value))) where
  tag_goes : with_more before (number_of (view value) >>= λ last. (chains_under host (members_view rest) >>= λ more. Some (counted host (string_bytes tag) last ∷ more))) ≡ with_more first (chains_under host (members_view all))
  tag_goes = ap (λ (es : List Entry). with_more before (chains_under host (members_view es))) (sym steps) ∙ so_far

  tag_added : if_taken taken after ≡ option_map (λ last. before ++ counted host (string_bytes tag) last ∷ []) (number_of (view value))
  tag_added = adds ∙ ap (λ (t : List ℕ). option_map (λ last. before ++ counted host t last ∷ []) (number_of (view value))) said

  pub chain_refused : taken ≡ false → None ≡ with_more first (chains_under host (members_view all))
  chain_refused refused = by (number_of (view value)) (ap (λ (b : Bool). if_taken b after) (sym refused) ∙ tag_added) tag_goes
    where
      by : (o : Option ℕ) → None ≡ option_map (λ last. before ++ counted host (string_bytes tag) last ∷ []) o
          → with_more before (o >>= λ last. (chains_under host (members_view rest) >>= λ more. Some (counted host (string_bytes tag) last ∷ more))) ≡ with_more first (chains_under host (members_view all))
          → None ≡ with_more first (chains_under host (members_view all))
      by None e g = g
      by (Some last) e g = cc

  pub chain_taken : taken ≡ true → with_more after (chains_under host (members_view rest)) ≡ with_more first (chains_under host (members_view all))
  chain_taken accepted = by (number_of (view value)) (ap (λ (b : Bool). if_taken b after) (sym accepted) ∙ tag_added) tag_goes
    where
      more_of : (last : ℕ) (o : Option (List ChainCount)) → with_more (before ++ counted host (string_bytes tag) last ∷ []) o ≡ with_more before (o >>= λ more. Some (counted host (string_bytes tag) last ∷ more))
      more_of last None = refl
      more_of last (Some more) = ap Some (append_assoc before (counted host (string_bytes tag) last ∷ []) more)

      by : (o : Option ℕ) → Some after ≡ option_map (λ last. before ++ counted host (string_bytes tag) last ∷ []) o
          → with_more before (o >>= λ last. (chains_under host (members_view rest) >>= λ more. Some (counted host (string_bytes tag) last ∷ more))) ≡ with_more first (chains_under host (members_view all))
          → with_more after (chains_under host (members_view rest)) ≡ with_more first (chains_under host (members_view all))
      by None e g = cc
      by (Some last) e g =
          let same : after ≡ before ++ counted host (string_bytes tag) last ∷ [] = cc in
          ap (λ (l : List ChainCount). with_more l (chains_under host (members_view rest))) same ∙ more_of last (chains_under host (members_view rest)) ∙ g

pub chains_end : (host : ℕ) (its all : List Entry) (first found : List ChainCount) → its ≡ [] → with_more found (chains_under host (members_view its)) ≡ with_more first (chains_under host (members_view all)) → Some found ≡ with_more first (chains_under host (members_view all))
chains_end host its all first found none so_far =
    ap Some (sym (append-nil found)) ∙ ap (λ (es : List Entry). with_more found (chains_under host (members_view es))) (sym none) ∙ so_far

-- ---- the chains of all hosts

module _ (host : ℕ) (tags : Tags) (rest its all : List (ℕ × Tags)) (before after : List ChainCount) (taken : Bool)
    (steps : its ≡ (host, tags) ∷ rest) (so_far : with_more before (chains_of_all (hosts_seen its)) ≡ chains_of_all (hosts_seen all))
    (adds : if_taken taken after ≡ with_more before (chains_under host (members_view tags.now.entries))) where
  host_goes : with_more before (chains_under host (members_view tags.now.entries) >>= λ chains. (chains_of_all (hosts_seen rest) >>= λ more. Some (chains ++ more))) ≡ chains_of_all (hosts_seen all)
  host_goes = ap (λ (es : List (ℕ × Tags)). with_more before (chains_of_all (hosts_seen es))) (sym steps) ∙ so_far

  pub all_refused : taken ≡ false → None ≡ chains_of_all (hosts_seen all)
  all_refused refused = by (chains_under host (members_view tags.now.entries)) (ap (λ (b : Bool). if_taken b after) (sym refused) ∙ adds) host_goes
    where
      by : (o : Option (List ChainCount)) → None ≡ with_more before o
          → with_more before (o >>= λ chains. (chains_of_all (hosts_seen rest) >>= λ more. Some (chains ++ more))) ≡ chains_of_all (hosts_seen all)
          → None ≡ chains_of_all (hosts_seen all)
      by None e g = g
      by (Some chains) e g = cc

  pub all_taken : taken ≡ true → with_more after (chains_of_all (hosts_seen rest)) ≡ chains_of_all (hosts_seen all)
  all_taken accepted = by (chains_under host (members_view tags.now.entries)) (ap (λ (b : Bool). if_taken b after) (sym accepted) ∙ adds) host_goes
    where
      more_of : (chains : List ChainCount) (o : Option (List ChainCount)) → with_more (before ++ chains) o ≡ with_more before (o >>= λ more. Some (chains ++ more))
      more_of chains None = refl
      more_of chains (Some more) = ap Some (append_assoc before chains more)

      by : (o : Option (List ChainCount)) → Some after ≡ with_more before o
          → with_more before (o >>= λ chains. (chains_of_all (hosts_seen rest) >>= λ more. Some (chains ++ more))) ≡ chains_of_all (hosts_seen all)
          → with_more after (chains_of_all (hosts_seen rest)) ≡ chains_of_all (hosts_seen all)
      by None e g = cc
      by (Some chains) e g =
          let same : after ≡ before ++ chains = cc in
          ap (λ (l : List ChainCount). with_more l (chains_of_all (hosts_seen rest))) same ∙ more_of chains (chains_of_all (hosts_seen rest)) ∙ g

pub all_end : (its all : List (ℕ × Tags)) (found : List ChainCount) → its ≡ [] → with_more found (chains_of_all (hosts_seen its)) ≡ chains_of_all (hosts_seen all) → Some found ≡ chains_of_all (hosts_seen all)
all_end its all found none so_far =
    ap Some (sym (append-nil found)) ∙ ap (λ (es : List (ℕ × Tags)). with_more found (chains_of_all (hosts_seen es))) (sym none) ∙ so_far

pub with_none : (o : Option (List ChainCount)) → with_more [] o ≡ o
with_none None = refl
with_none (Some chains) = refl
