-- How an id stands after a list of changes is what the whole list says of it.
use Rattle.std.proofs.Common.{◌≡◌, ℕ, List, [], ◌∷◌, Option, Some, None, Bool, true, false, cond, ◌||◌, ◌&&◌, eqb, refl, sym, ap, subst, ◌∙◌, arith, inl, inr}
use Rattle.std.specs.List.{Contains, list_any}
use Rattle.std.specs.Option.{is_some}
use Rattle.std.specs.declared.cmp.Ordering.{Ordering}
use Rattle.std.specs.declared.cmp.Ordering.TheVariants.{Less}
use Rattle.std.specs.Ordering.{nat_cmp, ordering_then, is_lt}
use Rattle.std.proofs.lemmas.Bool.{eqb-true, eq-eqb, true≢false}
use Rattle.std.proofs.lemmas.Bool.Decides.{nat_tests}
use Rattle.definitions.specs.Journal.{HistoryRecord}
use Rattle.definitions.proofs.Among.{Among, Among-from_place, Contains-from_Among, some_passes, one_passes}
use Rattle.payload_rules.specs.Payloads.{Payload, tag_of, HistoryCreate, HistoryDelete, KvSet, KvDelete, AliasSet, AliasDelete}
use Rattle.view_rules.specs.Changes.{Change, HaveDistinctPlaces}
use Rattle.view_rules.specs.Views.{Creates, Dead, ShowsHistory}
use Rattle.view_rules.specs.Views.Dead.{by_deletion, by_creation}
use Rattle.view_rules.specs.Standing.{Created, Standing, earlier, after_payload, standing, shown_of}

-- ---- dead ids

-- the payload ends the id
abbrev ends : Payload → ℕ → Bool
ends (HistoryCreate h) id = eqb h.id id && is_some h.deleted_at
ends (HistoryDelete gone) id = eqb gone id
ends (KvSet namespace key value) id = false
ends (KvDelete namespace key) id = false
ends (AliasSet name value) id = false
ends (AliasDelete name) id = false

either_swapped : (a b t : Bool) → (cond t (b || a) b) ≡ ((t && a) || b)
either_swapped true true true = refl
either_swapped true true false = refl
either_swapped true false true = refl
either_swapped true false false = refl
either_swapped false true true = refl
either_swapped false true false = refl
either_swapped false false true = refl
either_swapped false false false = refl

dead_of : (t : Bool) (p q : Standing) → (cond t p q).dead ≡ cond t p.dead q.dead
dead_of true p q = refl
dead_of false p q = refl

true_or : (t b : Bool) → cond t true b ≡ (t || b)
true_or true b = refl
true_or false b = refl

dead_after : (host idx : ℕ) (p : Payload) (id : ℕ) (s : Standing) → (after_payload host idx p id s).dead ≡ (ends p id || s.dead)
dead_after host idx (HistoryCreate h) id s = dead_of (eqb h.id id) _ s ∙ either_swapped (is_some h.deleted_at) s.dead (eqb h.id id)
dead_after host idx (HistoryDelete gone) id s = dead_of (eqb gone id) _ s ∙ true_or (eqb gone id) s.dead
dead_after host idx (KvSet namespace key value) id s = refl
dead_after host idx (KvDelete namespace key) id s = refl
dead_after host idx (AliasSet name value) id s = refl
dead_after host idx (AliasDelete name) id s = refl

dead_is_any : (changes : List Change) (id : ℕ) → (standing changes id).dead ≡ list_any (λ (c : Change). ends c.payload id) changes
dead_is_any [] id = refl
dead_is_any (c ∷ changes) id = dead_after c.host c.idx c.payload id (standing changes id) ∙ ap (λ (b : Bool). ends c.payload id || b) (dead_is_any changes id)

both_true : (a b : Bool) → (a && b) ≡ true → (a ≡ true) × (b ≡ true)
both_true true b e = (refl, e)
both_true false b e = absurd cc

some_value : (o : Option ℕ) → is_some o ≡ true → (n : ℕ) × (o ≡ Some n)
some_value (Some n) e = (n, refl)
some_value None e = absurd cc

module _ (changes : List Change) (id : ℕ) where
  ended_by : (c : Change) → Contains changes c → (p : Payload) → c.payload ≡ p → ends p id ≡ true → Dead changes id
  ended_by c among (HistoryCreate h) is e =
      let parts = both_true (eqb h.id id) (is_some h.deleted_at) e in
      let time = some_value h.deleted_at parts.1 in
      by_creation c h time.0 (record { among = among; creates = is }) (eqb-true h.id id parts.0) time.1
  ended_by c among (HistoryDelete gone) is e = by_deletion c among (is ∙ ap HistoryDelete (eqb-true gone id e))
  ended_by c among (KvSet namespace key value) is e = absurd cc
  ended_by c among (KvDelete namespace key) is e = absurd cc
  ended_by c among (AliasSet name value) is e = absurd cc
  ended_by c among (AliasDelete name) is e = absurd cc

  pub dead_from : (standing changes id).dead ≡ true → Dead changes id
  dead_from e =
      let found = some_passes Change (λ (c : Change). ends c.payload id) changes (sym (dead_is_any changes id) ∙ e) in
      ended_by found.0 (Contains-from_Among Change changes found.0 found.1) found.0.payload refl found.2

  passes_here : (c : Change) → Contains changes c → ends c.payload id ≡ true → (standing changes id).dead ≡ true
  passes_here c among e = dead_is_any changes id ∙ one_passes Change (λ (c : Change). ends c.payload id) changes c (Among-from_place Change changes c among.0 among.1 among.2) e

  pub dead_to : Dead changes id → (standing changes id).dead ≡ true
  dead_to (by_deletion c among gone) = passes_here c among (ap (λ (p : Payload). ends p id) gone ∙ eq-eqb id id refl)
  dead_to (by_creation c h time made same at) =
      passes_here c made.among (ap (λ (p : Payload). ends p id) made.creates ∙ ap (λ (b : Bool). b && is_some h.deleted_at) (eq-eqb h.id id same) ∙ ap is_some at)

-- ---- the first creation

abbrev pub place_cmp : (host idx other_host other_idx : ℕ) → Ordering
place_cmp host idx other_host other_idx = ordering_then (nat_cmp host other_host) (nat_cmp idx other_idx)

pub record IsFirst (changes : List Change) (id : ℕ) (c : Created) : Type 0 where
  pub change : Change
  pub among : Among change changes
  pub creates : change.payload ≡ HistoryCreate c.command
  pub host : change.host ≡ c.host
  pub idx : change.idx ≡ c.idx
  pub named : c.command.id ≡ id
  pub least : (d : Change) (h : HistoryRecord) → Among d changes → d.payload ≡ HistoryCreate h → h.id ≡ id → place_cmp d.host d.idx c.host c.idx ≡ Less → ⊥

abbrev pub FirstIs : List Change → ℕ → Option Created → Type 0
FirstIs changes id None = (d : Change) (h : HistoryRecord) → Among d changes → d.payload ≡ HistoryCreate h → h.id ≡ id → ⊥
FirstIs changes id (Some c) = IsFirst changes id c

never_less_itself : (a b c d : ℕ) → a ≡ c → b ≡ d → place_cmp a b c d ≡ Less → ⊥
never_less_itself a b c d e f less = grind (arith, nat_tests)

less_through : (a b c d e f : ℕ) → place_cmp a b c d ≡ Less → place_cmp c d e f ≡ Less → place_cmp a b e f ≡ Less
less_through a b c d e f h k = grind (arith, nat_tests)

less_at : (a b c d e f : ℕ) → c ≡ e → d ≡ f → place_cmp a b c d ≡ Less → place_cmp a b e f ≡ Less
less_at a b c d e f g h less = rw (← g, ← h) less

-- not less either way: at one place
tied : (a b c d : ℕ) → (place_cmp a b c d ≡ Less → ⊥) → (place_cmp c d a b ≡ Less → ⊥) → (a ≡ c) × (b ≡ d)
tied a b c d h k = (grind (arith, nat_tests), grind (arith, nat_tests))

same_created : (h k : HistoryRecord) → HistoryCreate h ≡ HistoryCreate k → h ≡ k
same_created h k e = cc

-- one more change that doesn't create the id
passed_over : (changes : List Change) (id : ℕ) (e : Change) (o : Option Created) → ((h : HistoryRecord) → e.payload ≡ HistoryCreate h → h.id ≡ id → ⊥) → FirstIs changes id o → FirstIs (e ∷ changes) id o
passed_over changes id e None other none = by
  where
    by : FirstIs (e ∷ changes) id None
    by d h (inl same) made named = other h (ap (λ (c : Change). c.payload) (sym same) ∙ made) named
    by d h (inr among) made named = none d h among made named
passed_over changes id e (Some c) other first = record { change = first.change; among = inr first.among; creates = first.creates; host = first.host; idx = first.idx; named = first.named; least = by }
  where
    by : (d : Change) (h : HistoryRecord) → Among d (e ∷ changes) → d.payload ≡ HistoryCreate h → h.id ≡ id → place_cmp d.host d.idx c.host c.idx ≡ Less → ⊥
    by d h (inl same) made named less = other h (ap (λ (c : Change). c.payload) (sym same) ∙ made) named
    by d h (inr among) made named less = first.least d h among made named less

-- one more change that creates it, before all others
taken : (changes : List Change) (id : ℕ) (e : Change) (h : HistoryRecord) → e.payload ≡ HistoryCreate h → h.id ≡ id
    → ((d : Change) (g : HistoryRecord) → Among d changes → d.payload ≡ HistoryCreate g → g.id ≡ id → place_cmp d.host d.idx e.host e.idx ≡ Less → ⊥)
    → IsFirst (e ∷ changes) id (record { host = e.host; idx = e.idx; command = h })
taken changes id e h made named below = record { change = e; among = inl refl; creates = made; host = refl; idx = refl; named = named; least = by }
  where
    by : (d : Change) (g : HistoryRecord) → Among d (e ∷ changes) → d.payload ≡ HistoryCreate g → g.id ≡ id → place_cmp d.host d.idx e.host e.idx ≡ Less → ⊥
    by d g (inl same) other at less = never_less_itself d.host d.idx e.host e.idx (ap (λ (c : Change). c.host) same) (ap (λ (c : Change). c.idx) same) less
    by d g (inr among) other at less = below d g among other at less

-- one more change that creates it, not before the first so far
kept : (changes : List Change) (id : ℕ) (e : Change) (c : Created) → IsFirst changes id c → (place_cmp e.host e.idx c.host c.idx ≡ Less → ⊥) → IsFirst (e ∷ changes) id c
kept changes id e c first not_less = record { change = first.change; among = inr first.among; creates = first.creates; host = first.host; idx = first.idx; named = first.named; least = by }
  where
    by : (d : Change) (h : HistoryRecord) → Among d (e ∷ changes) → d.payload ≡ HistoryCreate h → h.id ≡ id → place_cmp d.host d.idx c.host c.idx ≡ Less → ⊥
    by d h (inl same) made named less = not_less (rw (ap (λ (c : Change). c.host) (sym same), ap (λ (c : Change). c.idx) (sym same)) less)
    by d h (inr among) made named less = first.least d h among made named less

less_true : (o : Ordering) → is_lt o ≡ true → o ≡ Less
less_true o e = grind (arith, nat_tests)

less_false : (o : Ordering) → is_lt o ≡ false → o ≡ Less → ⊥
less_false o e less = grind (arith, nat_tests)

chosen : (changes : List Change) (id : ℕ) (e : Change) (h : HistoryRecord) (o : Option Created) → e.payload ≡ HistoryCreate h → h.id ≡ id → FirstIs changes id o
    → IsFirst (e ∷ changes) id (earlier (record { host = e.host; idx = e.idx; command = h }) o)
chosen changes id e h None made named none = taken changes id e h made named (λ d g among other at less. none d g among other at)
chosen changes id e h (Some c) made named first = by (is_lt (place_cmp e.host e.idx c.host c.idx)) refl
  where
    by : (t : Bool) → is_lt (place_cmp e.host e.idx c.host c.idx) ≡ t → IsFirst (e ∷ changes) id (cond t (record { host = e.host; idx = e.idx; command = h }) c)
    by true t = taken changes id e h made named (λ d g among other at less. first.least d g among other at (less_through d.host d.idx e.host e.idx c.host c.idx less (less_true _ t)))
    by false t = kept changes id e c first (less_false _ t)

first_after : (changes : List Change) (id : ℕ) (e : Change) (p : Payload) (s : Standing) → e.payload ≡ p → FirstIs changes id s.first → FirstIs (e ∷ changes) id (after_payload e.host e.idx p id s).first
first_after changes id e (HistoryCreate h) s is first = by (eqb h.id id) refl
  where
    by : (t : Bool) → eqb h.id id ≡ t → FirstIs (e ∷ changes) id (cond t (record { dead = s.dead || is_some h.deleted_at; first = Some (earlier (record { host = e.host; idx = e.idx; command = h }) s.first) }) s).first
    by true t = chosen changes id e h s.first is (eqb-true h.id id t) first
    by false t = passed_over changes id e s.first (λ k made named. true≢false (sym (eq-eqb h.id id (ap (λ (r : HistoryRecord). r.id) (same_created h k (sym is ∙ made)) ∙ named)) ∙ t)) first
first_after changes id e (HistoryDelete gone) s is first = by (eqb gone id)
  where
    by : (t : Bool) → FirstIs (e ∷ changes) id (cond t (record { dead = true; first = s.first }) s).first
    by true = passed_over changes id e s.first (λ k made named. let both : HistoryDelete gone ≡ HistoryCreate k = sym is ∙ made in cc) first
    by false = passed_over changes id e s.first (λ k made named. let both : HistoryDelete gone ≡ HistoryCreate k = sym is ∙ made in cc) first
first_after changes id e (KvSet namespace key value) s is first = passed_over changes id e s.first (λ k made named. let both : KvSet namespace key value ≡ HistoryCreate k = sym is ∙ made in cc) first
first_after changes id e (KvDelete namespace key) s is first = passed_over changes id e s.first (λ k made named. let both : KvDelete namespace key ≡ HistoryCreate k = sym is ∙ made in cc) first
first_after changes id e (AliasSet name value) s is first = passed_over changes id e s.first (λ k made named. let both : AliasSet name value ≡ HistoryCreate k = sym is ∙ made in cc) first
first_after changes id e (AliasDelete name) s is first = passed_over changes id e s.first (λ k made named. let both : AliasDelete name ≡ HistoryCreate k = sym is ∙ made in cc) first

pub first_is : (changes : List Change) (id : ℕ) → FirstIs changes id (standing changes id).first
first_is [] id = λ d h among made named. among
first_is (e ∷ changes) id = first_after changes id e e.payload (standing changes id) refl (first_is changes id)

-- ---- what is shown

alive_stands : (changes : List Change) (id : ℕ) → (Dead changes id → ⊥) → (standing changes id).dead ≡ false
alive_stands changes id alive = by (standing changes id).dead refl
  where
    by : (t : Bool) → (standing changes id).dead ≡ t → (standing changes id).dead ≡ false
    by true t = absurd (alive (dead_from changes id t))
    by false t = t

among_of : (changes : List Change) (c : Change) → Contains changes c → Among c changes
among_of changes c in_c = Among-from_place Change changes c in_c.0 in_c.1 in_c.2

abbrev Shown : List Change → HistoryRecord → Type 0
Shown changes h = (c : Created) × (shown_of (standing changes h.id) ≡ Some c) × (c.command ≡ h)

pub shown_to : (changes : List Change) (h : HistoryRecord) → HaveDistinctPlaces changes → ShowsHistory changes h → Shown changes h
shown_to changes h own shown = by (standing changes h.id).first refl (first_is changes h.id)
  where
    alive : shown_of (standing changes h.id) ≡ (standing changes h.id).first
    alive = ap (λ (b : Bool). cond b None (standing changes h.id).first) (alive_stands changes h.id shown.1.alive)

    by : (o : Option Created) → (standing changes h.id).first ≡ o → FirstIs changes h.id o → Shown changes h
    by None e none = absurd (none shown.0 h (among_of changes shown.0 shown.1.created.among) shown.1.created.creates refl)
    by (Some c) e first =
        let in_first = Contains-from_Among Change changes first.change first.among in
        let places = tied shown.0.host shown.0.idx first.change.host first.change.idx
        (λ less. first.least shown.0 h (among_of changes shown.0 shown.1.created.among) shown.1.created.creates refl (rw (first.host, first.idx) at less))
        (λ less. shown.1.first first.change c.command (record { among = in_first; creates = first.creates }) first.named less) in
        let same : first.change ≡ shown.0 = own first.change shown.0 in_first shown.1.created.among (sym places.0) (ap tag_of first.creates ∙ sym (ap tag_of shown.1.created.creates)) (sym places.1) in
        (c, alive ∙ e, same_created c.command h (sym first.creates ∙ ap (λ (d : Change). d.payload) same ∙ shown.1.created.creates))

some_shown : (s : Standing) (c : Created) → shown_of s ≡ Some c → (s.dead ≡ false) × (s.first ≡ Some c)
some_shown s c e = by s.dead refl
  where
    by : (t : Bool) → s.dead ≡ t → (s.dead ≡ false) × (s.first ≡ Some c)
    by true t = let none : None ≡ Some c = sym (ap (λ (b : Bool). cond b None s.first) t) ∙ e in absurd cc
    by false t = (t, sym (ap (λ (b : Bool). cond b None s.first) t) ∙ e)

pub shown_from : (changes : List Change) (h : HistoryRecord) → Shown changes h → ShowsHistory changes h
shown_from changes h shown =
    let parts = some_shown (standing changes h.id) shown.0 shown.1 in
    let first : IsFirst changes h.id shown.0 = subst (λ (o : Option Created). FirstIs changes h.id o) parts.1 (first_is changes h.id) in (
      first.change,
      record {
        created = record { among = Contains-from_Among Change changes first.change first.among; creates = first.creates ∙ ap HistoryCreate shown.2 };
        alive = λ dead. true≢false (sym (dead_to changes h.id dead) ∙ parts.0);
        first = λ d other made same less. first.least d other (among_of changes d made.among) made.creates same (less_at d.host d.idx first.change.host first.change.idx shown.0.host shown.0.idx first.host first.idx less);
      },
    )

pub shown_both : (changes : List Change) (h : HistoryRecord) → HaveDistinctPlaces changes → (ShowsHistory changes h → Shown changes h) × (Shown changes h → ShowsHistory changes h)
shown_both changes h own = (shown_to changes h own, shown_from changes h)

-- a creation whose id isn't dead has a first one beside it
pub living : (changes : List Change) (c : Change) (h : HistoryRecord) → Creates changes c h → (Dead changes h.id → ⊥) → (shown : HistoryRecord) × ShowsHistory changes shown × (shown.id ≡ h.id)
living changes c h made alive = by (standing changes h.id).first refl (first_is changes h.id)
  where
    shown_first : shown_of (standing changes h.id) ≡ (standing changes h.id).first
    shown_first = ap (λ (b : Bool). cond b None (standing changes h.id).first) (alive_stands changes h.id alive)

    by : (o : Option Created) → (standing changes h.id).first ≡ o → FirstIs changes h.id o → (shown : HistoryRecord) × ShowsHistory changes shown × (shown.id ≡ h.id)
    by None e none = absurd (none c h (among_of changes c made.among) made.creates refl)
    by (Some d) e first =
        let stands : shown_of (standing changes d.command.id) ≡ Some d = ap (λ (id : ℕ). shown_of (standing changes id)) first.named ∙ shown_first ∙ e in
        (d.command, shown_from changes d.command (d, stands, refl), first.named)
