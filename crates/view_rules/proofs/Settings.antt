-- What was last said of a key or a name is what the whole list says of it.
use Rattle.std.proofs.Common.{◌≡◌, ℕ, List, [], ◌∷◌, Option, Some, None, Bool, true, false, cond, ◌&&◌, refl, sym, ap, subst, ◌∙◌, arith, inl, inr, ◌⊎◌}
use Rattle.std.specs.Prelude.{bytes_eq}
use Rattle.std.specs.List.{Contains}
use Rattle.std.specs.Cmp.{IsTotalOrder}
use Rattle.std.specs.declared.cmp.Ordering.{Ordering}
use Rattle.std.specs.declared.cmp.Ordering.TheVariants.{Less, Equal, Greater}
use Rattle.std.specs.Ordering.{nat_cmp, ordering_then, ordering_reverse, is_lt}
use Rattle.std.proofs.lemmas.Bool.{and_parts}
use Rattle.std.proofs.lemmas.Bool.Decides.{nat_tests}
use Rattle.std.proofs.lemmas.Cmp.{then_total, on_total, nat_cmp_total, ranked, tied_itself}
use Rattle.std.proofs.lemmas.Slice.Eq.{bytes_eq-Decides}
use Rattle.definitions.proofs.Among.{Among, Among-from_place, Contains-from_Among}
use Rattle.payload_rules.specs.Payloads.{Payload, KvSet, KvDelete, AliasSet, AliasDelete, tag_of, kv_tag, alias_tag}
use Rattle.view_rules.specs.Changes.{Change, origin_cmp, time_cmp, HaveDistinctPlaces}
use Rattle.view_rules.specs.Views.{Saying, of_key, of_name, Says, SaysLast}
use Rattle.view_rules.specs.Standing.{Setting, setting_cmp, later, setting_of, after_saying, last_said, value_of}

-- ---- the orders

pub origin_total : IsTotalOrder origin_cmp
origin_total = then_total (on_total (λ (c : Change). c.host) nat_cmp_total) (on_total (λ (c : Change). c.idx) nat_cmp_total)

pub time_total : IsTotalOrder time_cmp
time_total = then_total (on_total (λ (c : Change). c.timestamp) nat_cmp_total) origin_total

both_equal : (a b : Ordering) → ordering_then a b ≡ Equal → (a ≡ Equal) × (b ≡ Equal)
both_equal Less b h = cc
both_equal Equal b h = (refl, h)
both_equal Greater b h = cc

-- of two none is less
tied : {K : Type 0} (R : K → K → Ordering) → IsTotalOrder R → (x y : K) → (R x y ≡ Less → ⊥) → (R y x ≡ Less → ⊥) → R x y ≡ Equal
tied R total x y not_less not_greater = by (R x y) refl
  where
    by : (o : Ordering) → R x y ≡ o → R x y ≡ Equal
    by Less e = absurd (not_less e)
    by Equal e = e
    by Greater e = absurd (not_greater (total.antisymm y x ∙ ap ordering_reverse e))

record SameOrigin (c d : Change) : Type 0 where
  host_is : c.host ≡ d.host
  idx_is : c.idx ≡ d.idx

same_time : (c d : Change) → time_cmp c d ≡ Equal → SameOrigin c d
same_time c d e =
    let origins = (both_equal (nat_cmp c.timestamp d.timestamp) (origin_cmp c d) e).1 in
    let both = both_equal (nat_cmp c.host d.host) (nat_cmp c.idx d.idx) origins in
    record { host_is = ranked c.host d.host Equal (sym both.0); idx_is = ranked c.idx d.idx Equal (sym both.1) }

less_true : (o : Ordering) → is_lt o ≡ true → o ≡ Less
less_true o e = grind (arith, nat_tests)

less_false : (o : Ordering) → is_lt o ≡ false → o ≡ Less → ⊥
less_false o e less = grind (arith, nat_tests)

-- ---- the last

module _ (saying : Saying) where
  record IsHeld (changes : List Change) (s : Setting) : Type 0 where
    change : Change
    among : Among change changes
    says : saying change.payload ≡ Some s.said
    is : setting_of change s.said ≡ s
    last : (d : Change) (other : Option (List ℕ)) → Among d changes → saying d.payload ≡ Some other → time_cmp change d ≡ Less → ⊥

  abbrev HeldIs : List Change → Option Setting → Type 0
  HeldIs changes None = (d : Change) (other : Option (List ℕ)) → Among d changes → saying d.payload ≡ Some other → ⊥
  HeldIs changes (Some s) = IsHeld changes s

  -- one more change that says nothing
  passed_over : (changes : List Change) (c : Change) (held : Option Setting) → saying c.payload ≡ None → HeldIs changes held → HeldIs (c ∷ changes) held
  passed_over changes c None silent none = by
    where
      by : HeldIs (c ∷ changes) None
      by d other (inl same) says = let both : None ≡ Some other = sym silent ∙ ap (λ (c : Change). saying c.payload) (sym same) ∙ says in cc
      by d other (inr among) says = none d other among says
  passed_over changes c (Some s) silent held = record { change = held.change; among = inr held.among; says = held.says; is = held.is; last = by }
    where
      by : (d : Change) (other : Option (List ℕ)) → Among d (c ∷ changes) → saying d.payload ≡ Some other → time_cmp held.change d ≡ Less → ⊥
      by d other (inl same) says less = let both : None ≡ Some other = sym silent ∙ ap (λ (c : Change). saying c.payload) (sym same) ∙ says in cc
      by d other (inr among) says less = held.last d other among says less

  -- one more that is later than all others
  taken : (changes : List Change) (c : Change) (said : Option (List ℕ)) → saying c.payload ≡ Some said → ((d : Change) (other : Option (List ℕ)) → Among d changes → saying d.payload ≡ Some other → time_cmp c d ≡ Less → ⊥) → IsHeld (c ∷ changes) (setting_of c said)
  taken changes c said says last = record { change = c; among = inl refl; says = says; is = refl; last = by }
    where
      by : (d : Change) (other : Option (List ℕ)) → Among d (c ∷ changes) → saying d.payload ≡ Some other → time_cmp c d ≡ Less → ⊥
      by d other (inl same) more less = let both : Less ≡ Equal = sym less ∙ ap (time_cmp c) same ∙ tied_itself time_total c in cc
      by d other (inr among) more less = last d other among more less

  -- one more that isn't later than the last so far
  kept : (changes : List Change) (c : Change) (s : Setting) → (held : IsHeld changes s) → (time_cmp held.change c ≡ Less → ⊥) → IsHeld (c ∷ changes) s
  kept changes c s held not_less = record { change = held.change; among = inr held.among; says = held.says; is = held.is; last = by }
    where
      by : (d : Change) (other : Option (List ℕ)) → Among d (c ∷ changes) → saying d.payload ≡ Some other → time_cmp held.change d ≡ Less → ⊥
      by d other (inl same) more less = not_less (sym (ap (time_cmp held.change) same) ∙ less)
      by d other (inr among) more less = held.last d other among more less

  chosen : (changes : List Change) (c : Change) (said : Option (List ℕ)) (held : Option Setting) → saying c.payload ≡ Some said → HeldIs changes held → IsHeld (c ∷ changes) (later (setting_of c said) held)
  chosen changes c said None says none = taken changes c said says (λ d other among more less. none d other among more)
  chosen changes c said (Some s) says held = by (is_lt (setting_cmp s (setting_of c said))) refl
    where
      compared : setting_cmp s (setting_of c said) ≡ time_cmp held.change c
      compared = ap (λ (t : Setting). setting_cmp t (setting_of c said)) (sym held.is)

      by : (t : Bool) → is_lt (setting_cmp s (setting_of c said)) ≡ t → IsHeld (c ∷ changes) (cond t (setting_of c said) s)
      by true t = taken changes c said says (λ d other among more less. held.last d other among more (time_total.trans held.change c d (sym compared ∙ less_true _ t) less))
      by false t = kept changes c s held (λ less. less_false _ t (compared ∙ less))

  held_after : (changes : List Change) (c : Change) (held : Option Setting) (o : Option (Option (List ℕ))) → saying c.payload ≡ o → HeldIs changes held → HeldIs (c ∷ changes) (after_saying o c held)
  held_after changes c held None e is = passed_over changes c held e is
  held_after changes c held (Some said) e is = chosen changes c said held e is

  held_is : (changes : List Change) → HeldIs changes (last_said saying changes)
  held_is [] = λ d other among says. among
  held_is (c ∷ changes) = held_after changes c (last_said saying changes) (saying c.payload) refl (held_is changes)

  -- ---- what is shown

  among_of : (changes : List Change) (c : Change) → Contains changes c → Among c changes
  among_of changes c in_c = Among-from_place Change changes c in_c.0 in_c.1 in_c.2

  says_last : (changes : List Change) (s : Setting) → IsHeld changes s → (c : Change) × SaysLast saying changes c s.said
  says_last changes s held = (
    held.change,
    record {
      here = record { among = Contains-from_Among Change changes held.change held.among; says = held.says };
      last = λ d other more less. held.last d other (among_of changes d more.among) more.says less;
    },
  )

  pub shown_from : (changes : List Change) (value : List ℕ) → value_of (last_said saying changes) ≡ Some value → (c : Change) × SaysLast saying changes c (Some value)
  shown_from changes value e = by (last_said saying changes) e (held_is changes)
    where
      by : (held : Option Setting) → value_of held ≡ Some value → HeldIs changes held → (c : Change) × SaysLast saying changes c (Some value)
      by None none is = absurd cc
      by (Some s) said held = let found = says_last changes s held in (found.0, subst (λ (o : Option (List ℕ)). SaysLast saying changes found.0 o) said found.1)

  -- where something was said, something is the last
  pub last_there : (changes : List Change) (c : Change) (said : Option (List ℕ)) → Says saying changes c said → ((value : List ℕ) × ((d : Change) × SaysLast saying changes d (Some value))) ⊎ ((d : Change) × SaysLast saying changes d None)
  last_there changes c said says = by (last_said saying changes) (held_is changes)
    where
      told : (d : Change) (o : Option (List ℕ)) → SaysLast saying changes d o → ((value : List ℕ) × ((d : Change) × SaysLast saying changes d (Some value))) ⊎ ((d : Change) × SaysLast saying changes d None)
      told d None last = inr (d, last)
      told d (Some value) last = inl (value, (d, last))

      by : (held : Option Setting) → HeldIs changes held → ((value : List ℕ) × ((d : Change) × SaysLast saying changes d (Some value))) ⊎ ((d : Change) × SaysLast saying changes d None)
      by None none = absurd (none c said (among_of changes c says.among) says.says)
      by (Some s) held = let found = says_last changes s held in told found.0 s.said found.1

  module _ (tag : List ℕ) (of_tag : (p : Payload) (said : Option (List ℕ)) → saying p ≡ Some said → tag_of p ≡ tag) where
    pub shown_to : (changes : List Change) (value : List ℕ) → HaveDistinctPlaces changes → (c : Change) × SaysLast saying changes c (Some value) → value_of (last_said saying changes) ≡ Some value
    shown_to changes value own shown = by (last_said saying changes) refl (held_is changes)
      where
        by : (held : Option Setting) → last_said saying changes ≡ held → HeldIs changes held → value_of (last_said saying changes) ≡ Some value
        by None e none = absurd (none shown.0 (Some value) (among_of changes shown.0 shown.1.here.among) shown.1.here.says)
        by (Some s) e held =
            let in_held = Contains-from_Among Change changes held.change held.among in
            let even = tied time_cmp time_total held.change shown.0
            (λ less. held.last shown.0 (Some value) (among_of changes shown.0 shown.1.here.among) shown.1.here.says less)
            (λ less. shown.1.last held.change s.said (record { among = in_held; says = held.says }) less) in
            let origin = same_time held.change shown.0 even in
            let tags = of_tag held.change.payload s.said held.says ∙ sym (of_tag shown.0.payload (Some value) shown.1.here.says) in
            let same : held.change ≡ shown.0 = own held.change shown.0 in_held shown.1.here.among origin.host_is tags origin.idx_is in
            let told : Some s.said ≡ Some (Some value) = sym held.says ∙ ap (λ (c : Change). saying c.payload) same ∙ shown.1.here.says in
            ap value_of e ∙ same_some s.said (Some value) told
          where
            same_some : (a b : Option (List ℕ)) → Some a ≡ Some b → a ≡ b
            same_some a b both = cc

-- ---- keys and names

pub kv_tagged : (namespace key : List ℕ) (p : Payload) (said : Option (List ℕ)) → of_key namespace key p ≡ Some said → tag_of p ≡ kv_tag
kv_tagged namespace key (KvSet n k value) said e = refl
kv_tagged namespace key (KvDelete n k) said e = refl
kv_tagged namespace key _ said e = absurd cc

pub alias_tagged : (name : List ℕ) (p : Payload) (said : Option (List ℕ)) → of_name name p ≡ Some said → tag_of p ≡ alias_tag
alias_tagged name (AliasSet n value) said e = refl
alias_tagged name (AliasDelete n) said e = refl
alias_tagged name _ said e = absurd cc

-- what is said where a test passes
chosen_is : (t : Bool) (a b : Option (List ℕ)) → cond t (Some a) None ≡ Some b → (t ≡ true) × (a ≡ b)
chosen_is true a b e = (refl, cc)
chosen_is false a b e = absurd cc

-- what a setting says, and of what
pub of_key_set : (namespace key n k value : List ℕ) (said : Option (List ℕ)) → of_key namespace key (KvSet n k value) ≡ Some said → (n ≡ namespace) × (k ≡ key) × (Some value ≡ said)
of_key_set namespace key n k value said e =
    let chosen = chosen_is (bytes_eq n namespace && bytes_eq k key) (Some value) said e in
    let parts = and_parts (bytes_eq n namespace) (bytes_eq k key) chosen.0 in
    ((bytes_eq-Decides n namespace).0 parts.0, (bytes_eq-Decides k key).0 parts.1, chosen.1)

pub of_name_set : (name n value : List ℕ) (said : Option (List ℕ)) → of_name name (AliasSet n value) ≡ Some said → (n ≡ name) × (Some value ≡ said)
of_name_set name n value said e =
    let chosen = chosen_is (bytes_eq n name) (Some value) said e in
    ((bytes_eq-Decides n name).0 chosen.0, chosen.1)

pub of_name_ended : (name n : List ℕ) (said : Option (List ℕ)) → of_name name (AliasDelete n) ≡ Some said → (n ≡ name) × (None ≡ said)
of_name_ended name n said e =
    let chosen = chosen_is (bytes_eq n name) None said e in
    ((bytes_eq-Decides n name).0 chosen.0, chosen.1)
