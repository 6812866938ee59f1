-- What a view means stays as texts are numbered and places made, and grows by one change as a room is placed.
use Rattle.std.proofs.Common.{◌≡◌, ℕ, List, [], Option, Some, None, Bool, true, false, cond, refl, sym, ap, subst, ◌∙◌, slice_get, IsSome}
use Rattle.std.specs.Prelude.{nat_eq}
use Rattle.std.specs.Option.{unwrap_or, option_map}
use Rattle.std.specs.Ordering.{nat_cmp, ordering_then, is_lt}
use Rattle.definitions.specs.Journal.{HistoryRecord}
use Rattle.payload_rules.specs.Payloads.{Payload, HistoryCreate, HistoryDelete}
use Rattle.view_rules.specs.Standing.{Created}
use Rattle.history_view.specs.declared.rows.Creation.{Creation}
use Rattle.history_view.specs.declared.rows.Held.{Held}
use Rattle.history_view.specs.declared.room.Room.TheVariants.{Creates, Deletes}
use Rattle.history_view.specs.Texts.{KeepsTexts}
use Rattle.history_view.specs.Rows.{text_at, author_of, HasAuthor, command_of, created_of, standing_of, HasTexts, held_after, earlier_row, shown_row}
use Rattle.history_view.specs.Places.{IsOrderOf, KeepsIds, KeepsKeys, held_in, numbers_for}
use Rattle.history_view.specs.Counts.{AreCounted, has_number, is_shown}
use Rattle.std.specs.Prelude.{sum_by}
use Rattle.std.specs.Map.{values_of}
use Rattle.view_rules.specs.Standing.{after_creation, after_deletion, after_payload, earlier, standing}
use Rattle.view_rules.specs.Changes.{Change}
use Rattle.std.proofs.lemmas.Bool.{eqb-true}
use Rattle.std.proofs.Common.{eqb, ◌||◌}
use Rattle.std.specs.Option.{is_some}
use Rattle.history_view.specs.ViewState.{Means, ViewState, IsSound, standing_in, Steady}
use Rattle.history_view.specs.Rooms.{KeepsRooms}
use Rattle.history_view.proofs.Counting.{every, at_part}

-- ---- texts

module _ (old new : List (List ℕ)) (keeps : KeepsTexts old new) where
  number_kept : (n : ℕ) → IsSome (slice_get old n) → slice_get new n ≡ slice_get old n
  number_kept n has = by (slice_get old n) refl has
    where
      by : (o : Option (List ℕ)) → slice_get old n ≡ o → IsSome o → slice_get new n ≡ slice_get old n
      by None e h = absurd cc
      by (Some text) e h = keeps n text e ∙ sym e

  some_kept : (n : ℕ) → IsSome (slice_get old n) → IsSome (slice_get new n)
  some_kept n has = subst (λ (o : Option (List ℕ)). IsSome o) (sym (number_kept n has)) has

  text_kept : (n : ℕ) → IsSome (slice_get old n) → text_at new n ≡ text_at old n
  text_kept n has = ap (λ (o : Option (List ℕ)). unwrap_or o []) (number_kept n has)

  has_author_kept : (author : Option ℕ) → HasAuthor old author → HasAuthor new author
  has_author_kept None has = tt
  has_author_kept (Some n) has = some_kept n has

  author_kept : (author : Option ℕ) → HasAuthor old author → author_of new author ≡ author_of old author
  author_kept None has = refl
  author_kept (Some n) has = ap (λ (text : List ℕ). Some text) (text_kept n has)

  texts_kept : (c : Creation) → HasTexts old c → HasTexts new c
  texts_kept c has = record { command = some_kept c.command has.command; cwd = some_kept c.cwd has.cwd; session = some_kept c.session has.session; hostname = some_kept c.hostname has.hostname; author = has_author_kept c.author has.author }

  command_kept : (id : ℕ) (c : Creation) → HasTexts old c → command_of new id c ≡ command_of old id c
  command_kept id c has = λ i.
      record {
        id = id;
        timestamp = c.timestamp;
        duration = c.duration;
        exit = c.exit;
        command = text_kept c.command has.command i;
        cwd = text_kept c.cwd has.cwd i;
        session = text_kept c.session has.session i;
        hostname = text_kept c.hostname has.hostname i;
        deleted_at = c.deleted_at;
        author = author_kept c.author has.author i;
      }

  created_kept : (id : ℕ) (o : Option Creation) → ((c : Creation) → o ≡ Some c → HasTexts old c) → option_map (created_of new id) o ≡ option_map (created_of old id) o
  created_kept id None has = refl
  created_kept id (Some c) has = ap (λ (h : HistoryRecord). Some (record { host = c.host; idx = c.idx; command = h })) (command_kept id c (has c refl))

-- ---- nothing but texts and places

module _ (old new : ViewState) (s : Steady old new) where
  pub sound_kept : IsSound old → IsSound new
  sound_kept sound = record {
    texts = λ id c at. texts_kept old.texts new.texts s.texts c (sound.texts id c (ap (λ (h : Held). h.first) (sym (s.ids id)) ∙ at));
    order = λ key. s.order key ∙ sound.order key ∙ ap (λ (h : Held). numbers_for key.0.0 (shown_row h)) (sym (s.ids key.1));
    counted = every (λ part n. at_part s.counts part n ∙ at_part sound.counted part n ∙ sym (s.sums (has_number part n) refl));
    shown = s.shown ∙ sound.shown ∙ sym (s.sums is_shown refl);
  }

  pub standing_kept : IsSound old → (id : ℕ) → standing_in new id ≡ standing_in old id
  standing_kept sound id =
      ap (standing_of new.texts id) (s.ids id)
      ∙ ap (λ (o : Option Created). record { dead = (held_in old.ids id).dead; first = o }) (created_kept old.texts new.texts s.texts id (held_in old.ids id).first (sound.texts id))

  pub rooms_kept : KeepsRooms old new
  rooms_kept (Creates id c) payload ready = record {
    texts = texts_kept old.texts new.texts s.texts c ready.texts;
    has_id = s.has_ids id ready.has_id;
    has_key = s.has_keys (record { 0 = c.timestamp }, id) ready.has_key;
    holds = ready.holds ∙ ap HistoryCreate (sym (command_kept old.texts new.texts s.texts id c ready.texts));
  }
  rooms_kept (Deletes id) payload ready = record { has_id = s.has_ids id ready.has_id; holds = ready.holds }

-- ---- one change more

grown_texts : (texts : List (List ℕ)) (c : Creation) (o : Option Creation) → HasTexts texts c → ((d : Creation) → o ≡ Some d → HasTexts texts d) → HasTexts texts (earlier_row c o)
grown_texts texts c None has more = has
grown_texts texts c (Some d) has more = by (is_lt (ordering_then (nat_cmp c.host d.host) (nat_cmp c.idx d.idx)))
  where
    by : (t : Bool) → HasTexts texts (cond t c d)
    by true = has
    by false = more d refl

same_some : (c d : Creation) → Some c ≡ Some d → c ≡ d
same_some c d e = cc

module _ (old : ViewState) (sound : IsSound old) (id : ℕ) where
  pub created_texts : (c : Creation) → HasTexts old.texts c → (d : Creation) → (held_after c (held_in old.ids id)).first ≡ Some d → HasTexts old.texts d
  created_texts c has d e =
      subst (λ (x : Creation). HasTexts old.texts x) (same_some (earlier_row c (held_in old.ids id).first) d e) (grown_texts old.texts c (held_in old.ids id).first has (sound.texts id))

  pub sound_grown : (now : ViewState) (new : Held) → now.texts ≡ old.texts → ((d : Creation) → new.first ≡ Some d → HasTexts old.texts d)
      → ((q : ℕ) → held_in now.ids q ≡ cond (nat_eq id q) new (held_in old.ids q)) → IsOrderOf now.ids now.order → AreCounted now.counts now.order → now.shown ≡ sum_by is_shown (values_of now.order) → IsSound now
  sound_grown now new same has held in_order counted shown = record {
    texts = λ q d e. subst (λ (ts : List (List ℕ)). HasTexts ts d) (sym same) (by q d (nat_eq id q) (sym (ap (λ (h : Held). h.first) (held q)) ∙ e));
    order = in_order;
    counted = counted;
    shown = shown;
  }
    where
      by : (q : ℕ) (d : Creation) (t : Bool) → (cond t new (held_in old.ids q)).first ≡ Some d → HasTexts old.texts d
      by q d true e = has d e
      by q d false e = sound.texts q d e

-- rooms stay ready where texts are the same and nothing made is lost
pub rooms_grown : (old new : ViewState) → new.texts ≡ old.texts → KeepsIds old.ids new.ids → KeepsKeys old.order new.order → KeepsRooms old new
rooms_grown old new same ids keys (Creates id c) payload ready = record {
  texts = subst (λ (ts : List (List ℕ)). HasTexts ts c) (sym same) ready.texts;
  has_id = ids id ready.has_id;
  has_key = keys (record { 0 = c.timestamp }, id) ready.has_key;
  holds = ready.holds ∙ ap (λ (ts : List (List ℕ)). HistoryCreate (command_of ts id c)) (sym same);
}
rooms_grown old new same ids keys (Deletes id) payload ready = record { has_id = ids id ready.has_id; holds = ready.holds }

first_grows : (texts : List (List ℕ)) (id : ℕ) (c : Creation) (o : Option Creation) → option_map (created_of texts id) (Some (earlier_row c o)) ≡ Some (earlier (created_of texts id c) (option_map (created_of texts id) o))
first_grows texts id c None = refl
first_grows texts id c (Some d) = by (is_lt (ordering_then (nat_cmp c.host d.host) (nat_cmp c.idx d.idx)))
  where
    by : (t : Bool) → Some (created_of texts id (cond t c d)) ≡ Some (cond t (created_of texts id c) (created_of texts id d))
    by true = refl
    by false = refl

created_grows : (texts : List (List ℕ)) (id : ℕ) (c : Creation) (held : Held) → standing_of texts id (held_after c held) ≡ after_creation (created_of texts id c) (standing_of texts id held)
created_grows texts id c held = ap (λ (o : Option Created). record { dead = held.dead || is_some c.deleted_at; first = o }) (first_grows texts id c held.first)

-- a creation that is placed
pub means_created : (s : ViewState) (texts : List (List ℕ)) → texts ≡ s.texts → (id : ℕ) (placed : Creation) (new : Held) (ids : List (ℕ × Held)) (payload : Payload) (changes : List Change) → new ≡ held_after placed (held_in s.ids id) → ((q : ℕ) → held_in ids q ≡ cond (nat_eq id q) new (held_in s.ids q))
    → payload ≡ HistoryCreate (command_of s.texts id placed) → Means s changes → (q : ℕ) → standing_of texts q (held_in ids q) ≡ after_payload placed.host placed.idx payload q (standing changes q)
means_created s texts same id placed new ids payload changes new_is held holds means q =
    ap (λ (ts : List (List ℕ)). standing_of ts q (held_in ids q)) same ∙ ap (standing_of s.texts q) (held q) ∙ by (eqb id q) refl ∙ sym (ap (λ (p : Payload). after_payload placed.host placed.idx p q (standing changes q)) holds)
  where
    by : (t : Bool) → eqb id q ≡ t → standing_of s.texts q (cond t new (held_in s.ids q)) ≡ cond t (after_creation (created_of s.texts id placed) (standing changes q)) (standing changes q)
    by true t =
        subst (λ (k : ℕ). standing_of s.texts k new ≡ after_creation (created_of s.texts id placed) (standing changes k)) (eqb-true id q t)
        (ap (standing_of s.texts id) new_is ∙ created_grows s.texts id placed (held_in s.ids id) ∙ ap (after_creation (created_of s.texts id placed)) (means id))
    by false t = means q

-- a deletion that is placed
pub means_deleted : (s : ViewState) (texts : List (List ℕ)) → texts ≡ s.texts → (host idx id : ℕ) (new : Held) (ids : List (ℕ × Held)) (payload : Payload) (changes : List Change) → new ≡ record { dead = true; first = (held_in s.ids id).first } → ((q : ℕ) → held_in ids q ≡ cond (nat_eq id q) new (held_in s.ids q))
    → payload ≡ HistoryDelete id → Means s changes → (q : ℕ) → standing_of texts q (held_in ids q) ≡ after_payload host idx payload q (standing changes q)
means_deleted s texts same host idx id new ids payload changes new_is held holds means q =
    ap (λ (ts : List (List ℕ)). standing_of ts q (held_in ids q)) same ∙ ap (standing_of s.texts q) (held q) ∙ by (eqb id q) refl ∙ sym (ap (λ (p : Payload). after_payload host idx p q (standing changes q)) holds)
  where
    by : (t : Bool) → eqb id q ≡ t → standing_of s.texts q (cond t new (held_in s.ids q)) ≡ cond t (after_deletion (standing changes q)) (standing changes q)
    by true t =
        subst (λ (k : ℕ). standing_of s.texts k new ≡ after_deletion (standing changes k)) (eqb-true id q t)
        (ap (standing_of s.texts id) new_is ∙ ap after_deletion (means id))
    by false t = means q
