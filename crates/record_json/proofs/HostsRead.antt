-- Hosts in an ordered map, as the list of them with their members.
use Rattle.std.proofs.Common.{◌≡◌, ℕ, Bool, true, false, cond, List, [], ◌∷◌, Option, Some, None, option_map, String, BTreeMap, Global, Ordering, Less, Equal, Greater, nat_cmp, Bor, refl, sym, ap, ◌∙◌}
use Rattle.std.specs.Prelude.{is_some}
use Rattle.std.specs.Map.{lookup}
use Rattle.std.specs.Ordering.{match_ordering}
use Rattle.std.specs.BTreeMap.{insert_entry, is_at}
use Rattle.serde_json.specs.Data.{Data, Members}
use Rattle.serde_json.specs.Find.{as_object}
use Rattle.serde_json.specs.View.{members_view}
use Rattle.serde_json.specs.declared.value.Value.{Value}
use Rattle.record_json.specs.Json.{id_of}
use Rattle.record_json.specs.Statuses.{host_added}
use Rattle.record_json.specs.StatusReading.{hosts_seen}

abbrev Tags : Type 0
Tags = Bor (BTreeMap (String Global) Value)

abbrev tags_seen : Tags → Members
tags_seen tags = members_view tags.now.entries

lookup_seen : (p : ℕ → Bool) (es : List (ℕ × Tags)) → lookup p (hosts_seen es) ≡ option_map tags_seen (lookup p es)
lookup_seen p [] = refl
lookup_seen p (e ∷ es) = by (p e.0) (lookup_seen p es)
  where
    by : (b : Bool) → lookup p (hosts_seen es) ≡ option_map tags_seen (lookup p es) → cond b (Some (tags_seen e.1)) (lookup p (hosts_seen es)) ≡ option_map tags_seen (cond b (Some e.1) (lookup p es))
    by true rest = refl
    by false rest = rest

insert_seen : (es : List (ℕ × Tags)) (host : ℕ) (tags : Tags) → hosts_seen (insert_entry nat_cmp es host tags) ≡ insert_entry nat_cmp (hosts_seen es) host (tags_seen tags)
insert_seen [] host tags = refl
insert_seen (e ∷ es) host tags = by (nat_cmp host e.0) (insert_seen es host tags)
  where
    by : (o : Ordering) → hosts_seen (insert_entry nat_cmp es host tags) ≡ insert_entry nat_cmp (hosts_seen es) host (tags_seen tags)
        → hosts_seen (match_ordering o ((host, tags) ∷ e ∷ es) ((e.0, tags) ∷ es) (e ∷ insert_entry nat_cmp es host tags))
        ≡ match_ordering o ((host, tags_seen tags) ∷ hosts_seen (e ∷ es)) ((e.0, tags_seen tags) ∷ hosts_seen es) ((e.0, tags_seen e.1) ∷ insert_entry nat_cmp (hosts_seen es) host (tags_seen tags))
    by Less rest = refl
    by Equal rest = refl
    by Greater rest = ap (λ (l : List (ℕ × Members)). (e.0, tags_seen e.1) ∷ l) rest

module _ (es : List (ℕ × Tags)) (host : ℕ) (tags : Tags) (name : List ℕ) (value : Data) (id : id_of name ≡ Some host) (object : as_object value ≡ Some (tags_seen tags)) where
  added : host_added name value (hosts_seen es) ≡ cond (is_some (option_map tags_seen (lookup (is_at (nat_cmp host)) es))) None (Some (hosts_seen (insert_entry nat_cmp es host tags)))
  added = rw (id, object, lookup_seen (is_at (nat_cmp host)) es, ← insert_seen es host tags) refl

  pub host_new : (new : List (ℕ × Tags)) → lookup (is_at (nat_cmp host)) es ≡ None → new ≡ insert_entry nat_cmp es host tags → Some (hosts_seen new) ≡ host_added name value (hosts_seen es)
  host_new new before is =
      ap (λ (l : List (ℕ × Tags)). Some (hosts_seen l)) is
      ∙ sym (added ∙ ap (λ (o : Option Tags). cond (is_some (option_map tags_seen o)) None (Some (hosts_seen (insert_entry nat_cmp es host tags)))) before)

  pub host_again : (old : Tags) → lookup (is_at (nat_cmp host)) es ≡ Some old → None ≡ host_added name value (hosts_seen es)
  host_again old before =
      sym (added ∙ ap (λ (o : Option Tags). cond (is_some (option_map tags_seen o)) None (Some (hosts_seen (insert_entry nat_cmp es host tags)))) before)
