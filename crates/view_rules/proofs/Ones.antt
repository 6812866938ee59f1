-- An id has one command, a key and a name one value; and what was set is shown.
use Rattle.std.proofs.Common.{◌≡◌, ℕ, List, Option, Some, None, sym, ap, ◌∙◌, ◌⊎◌}
use Rattle.std.proofs.lemmas.Option.{same_Some}
use Rattle.definitions.specs.Journal.{HistoryRecord}
use Rattle.payload_rules.specs.Payloads.{kv_tag, alias_tag}
use Rattle.view_rules.specs.Changes.{Change, HaveDistinctPlaces}
use Rattle.view_rules.specs.Views.{ShowsHistory, of_key, of_name, Says, SaysLast, ShowsKv, ShowsAlias}
use Rattle.view_rules.specs.Standing.{Created, standing, shown_of, last_said, value_of}
use Rattle.view_rules.proofs.Standings.{shown_both}
use Rattle.view_rules.proofs.Settings.{shown_to, last_there, kv_tagged, alias_tagged}

module _ (changes : List Change) where
  module _ (own : HaveDistinctPlaces changes) where
    pub one_command : (a b : HistoryRecord) → ShowsHistory changes a → ShowsHistory changes b → a.id ≡ b.id → a ≡ b
    one_command a b p q ids =
        let first = (shown_both changes a own).0 p in
        let second = (shown_both changes b own).0 q in
        let same : first.0 ≡ second.0 = same_Some first.0 second.0 (sym first.1 ∙ ap (λ (id : ℕ). shown_of (standing changes id)) ids ∙ second.1) in
        sym first.2 ∙ ap (λ (c : Created). c.command) same ∙ second.2

    pub key_shown : (namespace key value : List ℕ) → ShowsKv changes namespace key value → value_of (last_said (of_key namespace key) changes) ≡ Some value
    key_shown namespace key value = shown_to (of_key namespace key) kv_tag (kv_tagged namespace key) changes value own

    pub name_shown : (name value : List ℕ) → ShowsAlias changes name value → value_of (last_said (of_name name) changes) ≡ Some value
    name_shown name value = shown_to (of_name name) alias_tag (alias_tagged name) changes value own

    pub one_value : (namespace key a b : List ℕ) → ShowsKv changes namespace key a → ShowsKv changes namespace key b → a ≡ b
    one_value namespace key a b p q = same_Some a b (sym (key_shown namespace key a p) ∙ key_shown namespace key b q)

    pub one_alias : (name a b : List ℕ) → ShowsAlias changes name a → ShowsAlias changes name b → a ≡ b
    one_alias name a b p q = same_Some a b (sym (name_shown name a p) ∙ name_shown name b q)

  pub set_key_shown : (namespace key : List ℕ) (c : Change) (said : Option (List ℕ)) → Says (of_key namespace key) changes c said → ((value : List ℕ) × ShowsKv changes namespace key value) ⊎ ((d : Change) × SaysLast (of_key namespace key) changes d None)
  set_key_shown namespace key = last_there (of_key namespace key) changes

  pub set_name_shown : (name : List ℕ) (c : Change) (said : Option (List ℕ)) → Says (of_name name) changes c said → ((value : List ℕ) × ShowsAlias changes name value) ⊎ ((d : Change) × SaysLast (of_name name) changes d None)
  set_name_shown name = last_there (of_name name) changes
