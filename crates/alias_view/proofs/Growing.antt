-- What a view of aliases means, with one change more, and what it shows.
use Rattle.std.proofs.Common.{◌≡◌, ℕ, List, Option, Some, None, cond, refl, sym, ap, ◌∙◌}
use Rattle.std.specs.Prelude.{bytes_eq, ◌↔◌}
use Rattle.view_rules.specs.Changes.{Change, HaveDistinctPlaces}
use Rattle.view_rules.specs.Views.{of_name, ShowsAlias}
use Rattle.view_rules.specs.Standing.{later, setting_of, after_saying, last_said, value_of}
use Rattle.view_rules.specs.Standing as standing
use Rattle.view_rules.proofs.Settings.{shown_from}
use Rattle.view_rules.proofs.Ones.{name_shown}
use Rattle.latest_values.specs.Settings.{Places, said_of}
use Rattle.latest_values.proofs.Placed.{said_grows}
use Rattle.view_rules.specs.Answers.{Named, IsListOf, AliasListAnswer}
use Rattle.latest_values.specs.declared.listing.Showing.TheVariants.{NamesWithValues}
use Rattle.latest_values.specs.Lists.{IsThere}
use Rattle.latest_values.proofs.Rising.{list_along}
use Rattle.alias_view.specs.Aliases.{Means, payload_for}

says : (name q : List ℕ) (said : Option (List ℕ)) → of_name q (payload_for name said) ≡ cond (bytes_eq name q) (Some said) None
says name q None = refl
says name q (Some value) = refl

pub grows : (old new : Places) (name : List ℕ) (said : Option (List ℕ)) (c : Change) (changes : List Change) → c.payload ≡ payload_for name said
    → ((q : List ℕ) → said_of new q ≡ cond (bytes_eq name q) (Some (later (setting_of c said) (said_of old name))) (said_of old q)) → Means old changes → (q : List ℕ) → said_of new q ≡ after_saying (of_name q c.payload) c (last_said (of_name q) changes)
grows old new name said c changes holds put means q =
    said_grows name q said c (said_of old) (of_name q c.payload) (said_of new q) (ap (of_name q) holds ∙ says name q said) (put q)
    ∙ ap (λ (held : Option standing.Setting). after_saying (of_name q c.payload) c held) (means q)

pub shows : (places : Places) (changes : List Change) (name value : List ℕ) (o : Option (List ℕ)) → o ≡ value_of (said_of places name) → Means places changes → HaveDistinctPlaces changes → (o ≡ Some value) ↔ ShowsAlias changes name value
shows places changes name value o is means own =
    let said = is ∙ ap value_of (means name) in (
      λ e. shown_from (of_name name) changes value (sym said ∙ e),
      λ shown. said ∙ name_shown changes own name value shown,
    )

-- ---- lists of names

names_there : (places : Places) (changes : List Change) → Means places changes → HaveDistinctPlaces changes → (item : Named) → IsThere NamesWithValues places item ↔ ShowsAlias changes item.name item.value
names_there places changes means own item = (
  λ there. (shows places changes item.name item.value (value_of (said_of places item.name)) refl means own).0 (there.1 ∙ ap (λ (i : Named). Some i.value) (sym there.2)),
  λ shown. (item.value, (shows places changes item.name item.value (value_of (said_of places item.name)) refl means own).1 shown, refl),
)

pub lists : (places : Places) (after : List ℕ) (limit : ℕ) (page : List Named) → IsListOf (IsThere NamesWithValues places) after limit page → (changes : List Change) → Means places changes → HaveDistinctPlaces changes → AliasListAnswer changes after limit page
lists places after limit page listed changes means own = list_along after limit page (names_there places changes means own) listed
