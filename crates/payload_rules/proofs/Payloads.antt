-- At most one payload is spelled at the front of bytes.
use Rattle.std.proofs.Common.{◌≡◌, ℕ, ◌<◌, ◌^◌, pos, List, [], ◌∷◌, ◌++◌, length, Option, Some, None, refl, sym, ap, subst, ◌∙◌, arith}
use Rattle.std.specs.Prelude.{codes}
use Rattle.definitions.specs.Journal.{HistoryRecord}
use Rattle.definitions.specs.Ids.{id_text}
use Rattle.definitions.proofs.Ids.{id_text-one}
use Rattle.payload_rules.specs.Items.{Item, an_integer, a_text, an_array, a_bin, SpellsItems}
use Rattle.payload_rules.specs.Payloads.{Payload, HistoryCreate, HistoryDelete, KvSet, KvDelete, AliasSet, AliasDelete, Version, version_0, version_1, version_text, tag_of, HistoryFits, PayloadFits, time_item, author_item, told_items, history_items, MayHaveAuthor, SpellsCreation, SpellsPayload, PayloadOf}
use Rattle.payload_rules.proofs.Items.{first_items, all_items}

-- ---- equal items are of equal payloads

one_time : (a b : Option ℕ) → time_item a ≡ time_item b → a ≡ b
one_time None None e = refl
one_time None (Some t) e = absurd cc
one_time (Some t) None e = absurd cc
one_time (Some s) (Some t) e = cc

one_author : (a b : Option (List ℕ)) → author_item a ≡ author_item b → a ≡ b
one_author None None e = refl
one_author None (Some t) e = absurd cc
one_author (Some t) None e = absurd cc
one_author (Some s) (Some t) e = cc

same_author : (version : Version) (h k : HistoryRecord) → MayHaveAuthor version h.author → MayHaveAuthor version k.author → history_items version h ≡ history_items version k → h.author ≡ k.author
same_author version_0 h k p q e = p ∙ sym q
same_author version_1 h k p q e = let items : author_item h.author ≡ author_item k.author = cc in one_author h.author k.author items

same_told : (version : Version) (h k : HistoryRecord) → history_items version h ≡ history_items version k → told_items h ≡ told_items k
same_told version_0 h k e = cc
same_told version_1 h k e = cc

one_history : (version : Version) (h k : HistoryRecord) → HistoryFits h → HistoryFits k → MayHaveAuthor version h.author → MayHaveAuthor version k.author → history_items version h ≡ history_items version k → h ≡ k
one_history version h k p q of_h of_k all =
    let author : h.author ≡ k.author = same_author version h k of_h of_k all in
    let e : told_items h ≡ told_items k = same_told version h k all in
    let id : h.id ≡ k.id = id_text-one h.id k.id p.id q.id cc in
    let timestamp : h.timestamp ≡ k.timestamp = cc in
    let duration : h.duration ≡ k.duration = cc in
    let exit : h.exit ≡ k.exit = cc in
    let command : h.command ≡ k.command = cc in
    let cwd : h.cwd ≡ k.cwd = cc in
    let session : h.session ≡ k.session = cc in
    let hostname : h.hostname ≡ k.hostname = cc in
    let times : time_item h.deleted_at ≡ time_item k.deleted_at = cc in
    let deleted_at : h.deleted_at ≡ k.deleted_at = one_time h.deleted_at k.deleted_at times in
    λ i. record { id = id i; timestamp = timestamp i; duration = duration i; exit = exit i; command = command i; cwd = cwd i; session = session i; hostname = hostname i; deleted_at = deleted_at i; author = author i }

as_many : (version : Version) (h k : HistoryRecord) → length (history_items version h) ≡ length (history_items version k)
as_many version_0 h k = refl
as_many version_1 h k = refl

-- ---- payloads of one tag

abbrev Same : (a b : List ℕ) (p q : Payload) → Type 0
Same a b p q = (a ≡ b) × (p ≡ q)

same_key : (n k v o l w : List ℕ) → n ≡ o → k ≡ l → v ≡ w → KvSet n k v ≡ KvSet o l w
same_key n k v o l w first second third i = KvSet (first i) (second i) (third i)

module _ (a b x y : List ℕ) (e : a ++ x ≡ b ++ y) where
  both_creations : (version : Version) (h k : HistoryRecord) → HistoryFits h → HistoryFits k → SpellsCreation version h a → SpellsCreation version k b → Same a b (HistoryCreate h) (HistoryCreate k)
  both_creations version h k p q s t =
      let outer = all_items (an_integer (pos 0) ∷ a_bin s.held ∷ []) (an_integer (pos 0) ∷ a_bin t.held ∷ []) a b x y refl s.bin t.bin e in
      let items : an_integer (pos 0) ∷ a_bin s.held ∷ [] ≡ an_integer (pos 0) ∷ a_bin t.held ∷ [] = outer.1 in
      let held : s.held ≡ t.held = cc in
      let inner = all_items (history_items version h) (history_items version k) s.held t.held [] [] (as_many version h k) s.items t.items (ap (λ (l : List ℕ). l ++ []) held) in
      (outer.0, ap HistoryCreate (one_history version h k p q s.author t.author inner.1))

  both_deletions : (m n : ℕ) → m < 2 ^ 128 → n < 2 ^ 128 → SpellsItems (an_integer (pos 1) ∷ a_text (id_text m) ∷ []) a → SpellsItems (an_integer (pos 1) ∷ a_text (id_text n) ∷ []) b → Same a b (HistoryDelete m) (HistoryDelete n)
  both_deletions m n p q s t =
      let outer = all_items (an_integer (pos 1) ∷ a_text (id_text m) ∷ []) (an_integer (pos 1) ∷ a_text (id_text n) ∷ []) a b x y refl s t e in
      let items : an_integer (pos 1) ∷ a_text (id_text m) ∷ [] ≡ an_integer (pos 1) ∷ a_text (id_text n) ∷ [] = outer.1 in
      (outer.0, ap HistoryDelete (id_text-one m n p q cc))

  both_keys : (version : Version) (n k v o l w : List ℕ) → SpellsPayload (KvSet n k v) version a → SpellsPayload (KvSet o l w) version b → Same a b (KvSet n k v) (KvSet o l w)
  both_keys version_0 n k v o l w s t =
      let outer = all_items (an_array 3 ∷ a_text n ∷ a_text k ∷ a_text v ∷ []) (an_array 3 ∷ a_text o ∷ a_text l ∷ a_text w ∷ []) a b x y refl s t e in
      let items : an_array 3 ∷ a_text n ∷ a_text k ∷ a_text v ∷ [] ≡ an_array 3 ∷ a_text o ∷ a_text l ∷ a_text w ∷ [] = outer.1 in
      let first : n ≡ o = cc in
      let second : k ≡ l = cc in
      let third : v ≡ w = cc in
      (outer.0, same_key n k v o l w first second third)
  both_keys version_1 n k v o l w s t =
      let outer = all_items (an_integer (pos 0) ∷ an_array 3 ∷ a_text n ∷ a_text k ∷ a_text v ∷ []) (an_integer (pos 0) ∷ an_array 3 ∷ a_text o ∷ a_text l ∷ a_text w ∷ []) a b x y refl s t e in
      let items : an_integer (pos 0) ∷ an_array 3 ∷ a_text n ∷ a_text k ∷ a_text v ∷ [] ≡ an_integer (pos 0) ∷ an_array 3 ∷ a_text o ∷ a_text l ∷ a_text w ∷ [] = outer.1 in
      let first : n ≡ o = cc in
      let second : k ≡ l = cc in
      let third : v ≡ w = cc in
      (outer.0, same_key n k v o l w first second third)

  both_lost_keys : (version : Version) (n k o l : List ℕ) → SpellsPayload (KvDelete n k) version a → SpellsPayload (KvDelete o l) version b → Same a b (KvDelete n k) (KvDelete o l)
  both_lost_keys version_0 n k o l s t = absurd s
  both_lost_keys version_1 n k o l s t =
      let outer = all_items (an_integer (pos 1) ∷ an_array 2 ∷ a_text n ∷ a_text k ∷ []) (an_integer (pos 1) ∷ an_array 2 ∷ a_text o ∷ a_text l ∷ []) a b x y refl s t e in
      let items : an_integer (pos 1) ∷ an_array 2 ∷ a_text n ∷ a_text k ∷ [] ≡ an_integer (pos 1) ∷ an_array 2 ∷ a_text o ∷ a_text l ∷ [] = outer.1 in
      let first : n ≡ o = cc in
      let second : k ≡ l = cc in
      (outer.0, λ i. KvDelete (first i) (second i))

  both_aliases : (version : Version) (n v o w : List ℕ) → SpellsPayload (AliasSet n v) version a → SpellsPayload (AliasSet o w) version b → Same a b (AliasSet n v) (AliasSet o w)
  both_aliases version_0 n v o w s t =
      let outer = all_items (an_integer (pos 0) ∷ an_array 2 ∷ a_text n ∷ a_text v ∷ []) (an_integer (pos 0) ∷ an_array 2 ∷ a_text o ∷ a_text w ∷ []) a b x y refl s t e in
      let items : an_integer (pos 0) ∷ an_array 2 ∷ a_text n ∷ a_text v ∷ [] ≡ an_integer (pos 0) ∷ an_array 2 ∷ a_text o ∷ a_text w ∷ [] = outer.1 in
      let first : n ≡ o = cc in
      let second : v ≡ w = cc in
      (outer.0, λ i. AliasSet (first i) (second i))
  both_aliases version_1 n v o w s t = absurd s

  both_ended_aliases : (version : Version) (n o : List ℕ) → SpellsPayload (AliasDelete n) version a → SpellsPayload (AliasDelete o) version b → Same a b (AliasDelete n) (AliasDelete o)
  both_ended_aliases version_0 n o s t =
      let outer = all_items (an_integer (pos 1) ∷ an_array 1 ∷ a_text n ∷ []) (an_integer (pos 1) ∷ an_array 1 ∷ a_text o ∷ []) a b x y refl s t e in
      let items : an_integer (pos 1) ∷ an_array 1 ∷ a_text n ∷ [] ≡ an_integer (pos 1) ∷ an_array 1 ∷ a_text o ∷ [] = outer.1 in
      let first : n ≡ o = cc in
      (outer.0, ap AliasDelete first)
  both_ended_aliases version_1 n o s t = absurd s

  -- a 0 is no 1
  zero_is_not_one : (is js : List Item) → SpellsItems (an_integer (pos 0) ∷ is) a → SpellsItems (an_integer (pos 1) ∷ js) b → ⊥
  zero_is_not_one is js s t = let one = first_items (an_integer (pos 0)) (an_integer (pos 1)) is js a b x y s t e in cc

  one_is_not_zero : (is js : List Item) → SpellsItems (an_integer (pos 1) ∷ is) a → SpellsItems (an_integer (pos 0) ∷ js) b → ⊥
  one_is_not_zero is js s t = let one = first_items (an_integer (pos 1)) (an_integer (pos 0)) is js a b x y s t e in cc

  set_is_not_delete : (version : Version) (n k v o l : List ℕ) → SpellsPayload (KvSet n k v) version a → SpellsPayload (KvDelete o l) version b → ⊥
  set_is_not_delete version_0 n k v o l s t = t
  set_is_not_delete version_1 n k v o l s t = zero_is_not_one (an_array 3 ∷ a_text n ∷ a_text k ∷ a_text v ∷ []) (an_array 2 ∷ a_text o ∷ a_text l ∷ []) s t

  delete_is_not_set : (version : Version) (n k o l w : List ℕ) → SpellsPayload (KvDelete n k) version a → SpellsPayload (KvSet o l w) version b → ⊥
  delete_is_not_set version_0 n k o l w s t = s
  delete_is_not_set version_1 n k o l w s t = one_is_not_zero (an_array 2 ∷ a_text n ∷ a_text k ∷ []) (an_array 3 ∷ a_text o ∷ a_text l ∷ a_text w ∷ []) s t

  alias_is_not_ended : (version : Version) (n v o : List ℕ) → SpellsPayload (AliasSet n v) version a → SpellsPayload (AliasDelete o) version b → ⊥
  alias_is_not_ended version_0 n v o s t = zero_is_not_one (an_array 2 ∷ a_text n ∷ a_text v ∷ []) (an_array 1 ∷ a_text o ∷ []) s t
  alias_is_not_ended version_1 n v o s t = s

  ended_is_no_alias : (version : Version) (n o w : List ℕ) → SpellsPayload (AliasDelete n) version a → SpellsPayload (AliasSet o w) version b → ⊥
  ended_is_no_alias version_0 n o w s t = one_is_not_zero (an_array 1 ∷ a_text n ∷ []) (an_array 2 ∷ a_text o ∷ a_text w ∷ []) s t
  ended_is_no_alias version_1 n o w s t = s

  one_payload : (version : Version) (p q : Payload) → tag_of p ≡ tag_of q → PayloadFits p → PayloadFits q → SpellsPayload p version a → SpellsPayload q version b → Same a b p q
  one_payload version (HistoryCreate h) (HistoryCreate k) tag p q s t = both_creations version h k p q s t
  one_payload version (HistoryDelete m) (HistoryDelete n) tag p q s t = both_deletions m n p q s t
  one_payload version (KvSet n k v) (KvSet o l w) tag p q s t = both_keys version n k v o l w s t
  one_payload version (KvDelete n k) (KvDelete o l) tag p q s t = both_lost_keys version n k o l s t
  one_payload version (AliasSet n v) (AliasSet o w) tag p q s t = both_aliases version n v o w s t
  one_payload version (AliasDelete n) (AliasDelete o) tag p q s t = both_ended_aliases version n o s t
  one_payload version (HistoryCreate h) (HistoryDelete n) tag p q s t = absurd (zero_is_not_one (a_bin s.held ∷ []) (a_text (id_text n) ∷ []) s.bin t)
  one_payload version (HistoryDelete m) (HistoryCreate k) tag p q s t = absurd (one_is_not_zero (a_text (id_text m) ∷ []) (a_bin t.held ∷ []) s t.bin)
  one_payload version (KvSet n k v) (KvDelete o l) tag p q s t = absurd (set_is_not_delete version n k v o l s t)
  one_payload version (KvDelete n k) (KvSet o l w) tag p q s t = absurd (delete_is_not_set version n k o l w s t)
  one_payload version (AliasSet n v) (AliasDelete o) tag p q s t = absurd (alias_is_not_ended version n v o s t)
  one_payload version (AliasDelete n) (AliasSet o w) tag p q s t = absurd (ended_is_no_alias version n o w s t)
  one_payload version _ _ tag p q s t = absurd cc

-- the two versions have two names
abbrev pub digit : List ℕ → ℕ
digit (letter ∷ n ∷ text) = n
digit _ = 0

pub versions_differ : codes "v0" ≡ codes "v1" → ⊥
versions_differ e = let digits : ◌≡◌ {A = ℕ} 0x30 0x31 = ap digit e in omega arith

one_version : (v w : Version) → version_text v ≡ version_text w → v ≡ w
one_version version_0 version_0 e = refl
one_version version_0 version_1 e = absurd (versions_differ e)
one_version version_1 version_0 e = absurd (versions_differ (sym e))
one_version version_1 version_1 e = refl

pub payloads_apart : (tag version a b x y : List ℕ) (p q : Payload) → PayloadOf tag version a p → PayloadOf tag version b q → a ++ x ≡ b ++ y → (a ≡ b) × (p ≡ q)
payloads_apart tag version a b x y p q s t e =
    let version_is : s.written_in ≡ t.written_in = one_version s.written_in t.written_in (sym s.version_is ∙ t.version_is) in
    one_payload a b x y e t.written_in p q (sym s.tag_is ∙ t.tag_is) s.fits t.fits (subst (λ (v : Version). SpellsPayload p v a) version_is s.spelled) t.spelled

pub payloads_one : (tag version bytes : List ℕ) (p q : Payload) → PayloadOf tag version bytes p → PayloadOf tag version bytes q → p ≡ q
payloads_one tag version bytes p q s t = (payloads_apart tag version bytes bytes [] [] p q s t refl).1
