-- What the bin of a command holds is read exactly where it is spelled.
use Rattle.std.proofs.Common.{◌≡◌, ℕ, ℤ, pos, ◌<◌, ◌^◌, FitsSigned, true, eqb, List, [], ◌∷◌, ◌++◌, Option, Some, None, refl, sym, ap, ap₂, subst, ◌∙◌, append_assoc, append-nil}
use Rattle.std.specs.Int.{w64}
use Rattle.std.proofs.lemmas.Bool.{eqb-true, eq-eqb}
use Rattle.std.proofs.lemmas.Option.{same_Some}
use Rattle.definitions.specs.Ids.{id_text}
use Rattle.definitions.specs.Journal.{HistoryRecord}
use Rattle.definitions.specs.Reading.{◌>>=◌, text_at}
use Rattle.definitions.specs.Spelling.{SpellsText, SpellsArray}
use Rattle.definitions.proofs.Bytes.{IsBytes, Takes, bind_some, ReadsSpellings}
use Rattle.definitions.proofs.Items.{fits_64-fits, fits-fits_64}
use Rattle.definitions.proofs.Spelling.{texts_read, spelled_integer_fits}
use Rattle.msgpack_fields.specs.Reading.{SpellsNilOr, SpellsNumber, number_at, nil_or_at}
use Rattle.msgpack_fields.proofs.Nils.{numbers_read, nil_or_numbers_read, nil_or_texts_read}
use Rattle.payload_rules.specs.Items.{Item, an_integer, a_text, an_array, SpellsItem, SpellsItems}
use Rattle.payload_rules.specs.Payloads.{Version, version_0, version_1, TimeFits, HistoryFits, time_item, author_item, history_items, MayHaveAuthor}
use Rattle.payload_forms.specs.Reading.{both_at, whole, this_number_at, this_array_at, signed_at, id_at, Numbers, numbers_at, author_at, layout_number, layout_items, Texts, history_of, texts_at, history_at}
use Rattle.payload_forms.proofs.ItemLaws.{SpellsBoth, both_read, this_number_read, this_array_read, SpellsSigned, signed_read, SpellsId, id_read, whole_takes, whole_again}

-- ---- items one behind the other

-- a last item
pub last_item : (item : Item) (bytes : List ℕ) → SpellsItem item bytes → SpellsItems (item ∷ []) bytes
last_item item bytes s = (bytes, [], s, refl, sym (append-nil bytes))

pub last_spelled : (item : Item) (bytes : List ℕ) → SpellsItems (item ∷ []) bytes → SpellsItem item bytes
last_spelled item bytes (first, rest, s, none, are) =
    subst (SpellsItem item) (sym (are ∙ ap (λ (l : List ℕ). first ++ l) none ∙ append-nil first)) s

pub items_append : (is js : List Item) (a b : List ℕ) → SpellsItems is a → SpellsItems js b → SpellsItems (is ++ js) (a ++ b)
items_append [] js a b s t = subst (λ (l : List ℕ). SpellsItems js (l ++ b)) (sym s) t
items_append (i ∷ is) js a b (first, rest, item, items, are) t =
    (first, rest ++ b, item, items_append is js rest b items t, ap (λ (l : List ℕ). l ++ b) are ∙ append_assoc first rest b)

record Split (is js : List Item) (bytes : List ℕ) : Type 0 where
  front : List ℕ
  back : List ℕ
  first : SpellsItems is front
  behind : SpellsItems js back
  parts : bytes ≡ front ++ back

items_split : (is js : List Item) (bytes : List ℕ) → SpellsItems (is ++ js) bytes → Split is js bytes
items_split [] js bytes s = record { front = []; back = bytes; first = refl; behind = s; parts = refl }
items_split (i ∷ is) js bytes (first, rest, item, items, are) =
    let more = items_split is js rest items in
    record {
      front = first ++ more.front;
      back = more.back;
      first = (first, more.front, item, more.first, refl);
      behind = more.behind;
      parts = are ∙ ap (λ (l : List ℕ). first ++ l) more.parts ∙ sym (append_assoc first more.front more.back);
    }

-- ---- numbers

abbrev numbers_items : Numbers → List Item
numbers_items (id, (timestamp, (duration, exit))) = a_text (id_text id) ∷ an_integer (pos timestamp) ∷ an_integer duration ∷ an_integer exit ∷ []

record NumbersFit (n : Numbers) : Type 0 where
  id : n.0 < 2 ^ 128
  timestamp : n.1.0 < 2 ^ 64
  duration : FitsSigned w64 n.1.1.0
  exit : FitsSigned w64 n.1.1.1

abbrev SpellsNumbers : Numbers → List ℕ → Type 0
SpellsNumbers = SpellsBoth SpellsId (SpellsBoth SpellsNumber (SpellsBoth SpellsSigned SpellsSigned))

numbers_at_read : ReadsSpellings numbers_at SpellsNumbers
unfolding numbers_at
numbers_at_read =
    both_read ℕ (ℕ × (ℤ × ℤ)) id_at (both_at number_at (both_at signed_at signed_at)) SpellsId (SpellsBoth SpellsNumber (SpellsBoth SpellsSigned SpellsSigned)) id_read
    (both_read ℕ (ℤ × ℤ) number_at (both_at signed_at signed_at) SpellsNumber (SpellsBoth SpellsSigned SpellsSigned) numbers_read (both_read ℤ ℤ signed_at signed_at SpellsSigned SpellsSigned signed_read signed_read))

numbers_spelled : (n : Numbers) (bytes : List ℕ) → SpellsNumbers n bytes → SpellsItems (numbers_items n) bytes × NumbersFit n
numbers_spelled (id, (timestamp, (duration, exit))) bytes (a, b, s, (c, d, t, (e, f, u, v, efs), cds), abs) =
    ((a, b, s.1, (c, d, t, (e, f, u.1, last_item (an_integer exit) f v.1, efs), cds), abs), record { id = s.0; timestamp = spelled_integer_fits (pos timestamp) c t; duration = fits_64-fits duration u.0; exit = fits_64-fits exit v.0 })

numbers_from : (n : Numbers) (bytes : List ℕ) → SpellsItems (numbers_items n) bytes → NumbersFit n → SpellsNumbers n bytes
numbers_from (id, (timestamp, (duration, exit))) bytes (a, b, s, (c, d, t, (e, f, u, v, efs), cds), abs) fit =
    (a, b, (fit.id, s), (c, d, t, (e, f, (fits-fits_64 duration fit.duration, u), (fits-fits_64 exit fit.exit, last_spelled (an_integer exit) f v), efs), cds), abs)

-- ---- texts

abbrev texts_items : Version → Texts → List Item
texts_items version_0 (command, (cwd, (session, (hostname, (deleted_at, author))))) = a_text command ∷ a_text cwd ∷ a_text session ∷ a_text hostname ∷ time_item deleted_at ∷ []
texts_items version_1 (command, (cwd, (session, (hostname, (deleted_at, author))))) = a_text command ∷ a_text cwd ∷ a_text session ∷ a_text hostname ∷ time_item deleted_at ∷ author_item author ∷ []

abbrev SpellsAuthor : Version → Option (List ℕ) → List ℕ → Type 0
SpellsAuthor version_0 author bytes = (author ≡ None) × (bytes ≡ [])
SpellsAuthor version_1 author bytes = SpellsNilOr SpellsText author bytes

author_takes : (bytes : List ℕ) (author : Option (List ℕ)) (rest : List ℕ) → IsBytes bytes → ◌≡◌ {A = Option (Option (List ℕ) × List ℕ)} (Some (None, bytes)) (Some (author, rest)) → (spelled : List ℕ) × SpellsAuthor version_0 author spelled × Takes bytes spelled rest
author_takes bytes author rest are e =
    let same = same_Some {A = Option (List ℕ) × List ℕ} (None, bytes) (author, rest) e in
    let left : bytes ≡ rest = ap (λ (p : Option (List ℕ) × List ℕ). p.1) same in
    ([], (sym (ap (λ (p : Option (List ℕ) × List ℕ). p.0) same), refl), record { parts = left; rest_is_bytes = subst IsBytes left are })

no_author_again : (author : Option (List ℕ)) (spelled rest : List ℕ) → SpellsAuthor version_0 author spelled → ◌≡◌ {A = Option (Option (List ℕ) × List ℕ)} (Some (None, spelled ++ rest)) (Some (author, rest))
no_author_again author spelled rest s = ap₂ (λ (a : Option (List ℕ)) (l : List ℕ). Some (a, l ++ rest)) (sym s.0) s.1

author_read : (version : Version) → ReadsSpellings (author_at version) (SpellsAuthor version)
unfolding author_at
author_read version_0 = record { takes = author_takes; again = no_author_again }
author_read version_1 = nil_or_texts_read

abbrev SpellsTexts : Version → Texts → List ℕ → Type 0
SpellsTexts version = SpellsBoth SpellsText (SpellsBoth SpellsText (SpellsBoth SpellsText (SpellsBoth SpellsText (SpellsBoth (SpellsNilOr SpellsNumber) (SpellsAuthor version)))))

abbrev Behind3 : Type 0
Behind3 = Option ℕ × Option (List ℕ)

abbrev all_texts_at : Version → List ℕ → Option (Texts × List ℕ)
all_texts_at version = both_at text_at (both_at text_at (both_at text_at (both_at text_at (both_at (nil_or_at number_at) (author_at version)))))

texts_parts_read : (version : Version) → ReadsSpellings (all_texts_at version) (SpellsTexts version)
texts_parts_read version =
    let times = both_read (Option ℕ) (Option (List ℕ)) (nil_or_at number_at) (author_at version) (SpellsNilOr SpellsNumber) (SpellsAuthor version) nil_or_numbers_read (author_read version) in
    let hosts = both_read (List ℕ) Behind3 text_at (both_at (nil_or_at number_at) (author_at version)) SpellsText (SpellsBoth (SpellsNilOr SpellsNumber) (SpellsAuthor version)) texts_read times in
    let sessions = both_read (List ℕ) (List ℕ × Behind3) text_at (both_at text_at (both_at (nil_or_at number_at) (author_at version))) SpellsText (SpellsBoth SpellsText (SpellsBoth (SpellsNilOr SpellsNumber) (SpellsAuthor version))) texts_read hosts in
    let cwds = both_read (List ℕ) (List ℕ × (List ℕ × Behind3)) text_at (both_at text_at (both_at text_at (both_at (nil_or_at number_at) (author_at version)))) SpellsText (SpellsBoth SpellsText (SpellsBoth SpellsText (SpellsBoth (SpellsNilOr SpellsNumber) (SpellsAuthor version)))) texts_read sessions in
    both_read (List ℕ) (List ℕ × (List ℕ × (List ℕ × Behind3))) text_at (both_at text_at (both_at text_at (both_at text_at (both_at (nil_or_at number_at) (author_at version))))) SpellsText
    (SpellsBoth SpellsText (SpellsBoth SpellsText (SpellsBoth SpellsText (SpellsBoth (SpellsNilOr SpellsNumber) (SpellsAuthor version))))) texts_read cwds

time_spelled : (o : Option ℕ) (bytes : List ℕ) → SpellsNilOr SpellsNumber o bytes → SpellsItem (time_item o) bytes × TimeFits o
time_spelled None bytes s = (s, tt)
time_spelled (Some n) bytes s = (s, spelled_integer_fits (pos n) bytes s)

time_from : (o : Option ℕ) (bytes : List ℕ) → SpellsItem (time_item o) bytes → SpellsNilOr SpellsNumber o bytes
time_from None bytes s = s
time_from (Some n) bytes s = s

author_spelled : (o : Option (List ℕ)) (bytes : List ℕ) → SpellsNilOr SpellsText o bytes → SpellsItem (author_item o) bytes
author_spelled None bytes s = s
author_spelled (Some text) bytes s = s

author_from : (o : Option (List ℕ)) (bytes : List ℕ) → SpellsItem (author_item o) bytes → SpellsNilOr SpellsText o bytes
author_from None bytes s = s
author_from (Some text) bytes s = s

record TextsFit (version : Version) (t : Texts) : Type 0 where
  time : TimeFits t.1.1.1.1.0
  author : MayHaveAuthor version t.1.1.1.1.1

texts_spelled : (version : Version) (t : Texts) (bytes : List ℕ) → SpellsTexts version t bytes → SpellsItems (texts_items version t) bytes × TextsFit version t
texts_spelled version_0 (command, (cwd, (session, (hostname, (deleted_at, author))))) bytes (a, b, s, (c, d, t, (e, f, u, (g, h, v, (k, l, w, (none, over), kls), ghs), efs), cds), abs) =
    let time = time_spelled deleted_at k w in
    ((a, b, s, (c, d, t, (e, f, u, (g, h, v, (k, l, time.0, over, kls), ghs), efs), cds), abs), record { time = time.1; author = none })
texts_spelled version_1 (command, (cwd, (session, (hostname, (deleted_at, author))))) bytes (a, b, s, (c, d, t, (e, f, u, (g, h, v, (k, l, w, x, kls), ghs), efs), cds), abs) =
    let time = time_spelled deleted_at k w in
    ((a, b, s, (c, d, t, (e, f, u, (g, h, v, (k, l, time.0, last_item (author_item author) l (author_spelled author l x), kls), ghs), efs), cds), abs), record { time = time.1; author = tt })

texts_from : (version : Version) (t : Texts) (bytes : List ℕ) → SpellsItems (texts_items version t) bytes → MayHaveAuthor version t.1.1.1.1.1 → SpellsTexts version t bytes
texts_from version_0 (command, (cwd, (session, (hostname, (deleted_at, author))))) bytes (a, b, s, (c, d, t, (e, f, u, (g, h, v, (k, l, w, over, kls), ghs), efs), cds), abs) none =
    (a, b, s, (c, d, t, (e, f, u, (g, h, v, (k, l, time_from deleted_at k w, (none, over), kls), ghs), efs), cds), abs)
texts_from version_1 (command, (cwd, (session, (hostname, (deleted_at, author))))) bytes (a, b, s, (c, d, t, (e, f, u, (g, h, v, (k, l, w, x, kls), ghs), efs), cds), abs) may =
    (a, b, s, (c, d, t, (e, f, u, (g, h, v, (k, l, time_from deleted_at k w, author_from author l (last_spelled (author_item author) l x), kls), ghs), efs), cds), abs)

-- ---- a command

abbrev leading_items : Version → List Item
leading_items version = an_integer (pos (layout_number version)) ∷ an_array (layout_items version) ∷ []

items_are : (version : Version) (n : Numbers) (t : Texts) → leading_items version ++ (numbers_items n ++ texts_items version t) ≡ history_items version (history_of n t)
items_are version_0 n t = refl
items_are version_1 n t = refl

pub record SpellsHistory (version : Version) (h : HistoryRecord) (held : List ℕ) : Type 0 where
  pub fits : HistoryFits h
  pub author : MayHaveAuthor version h.author
  pub items : SpellsItems (history_items version h) held

-- what is read of the bin, piece by piece
record ReadPieces (version : Version) (held : List ℕ) (h : HistoryRecord) : Type 0 where
  layout : ℕ × List ℕ
  layout_is : this_number_at (layout_number version) held ≡ Some layout
  items : ℕ × List ℕ
  items_is : this_array_at (layout_items version) layout.1 ≡ Some items
  numbers : Numbers × List ℕ
  numbers_is : numbers_at items.1 ≡ Some numbers
  texts : Texts
  texts_is : whole (all_texts_at version numbers.1) ≡ Some texts
  is : history_of numbers.0 texts ≡ h

abbrev behind_numbers : Version → Numbers × List ℕ → Option HistoryRecord
behind_numbers version numbers = texts_at version numbers.0 numbers.1

abbrev behind_items : Version → ℕ × List ℕ → Option HistoryRecord
behind_items version items = numbers_at items.1 >>= behind_numbers version

abbrev behind_layout : Version → ℕ × List ℕ → Option HistoryRecord
behind_layout version layout = this_array_at (layout_items version) layout.1 >>= behind_items version

pieces : (version : Version) (held : List ℕ) (h : HistoryRecord) → history_at version held ≡ Some h → ReadPieces version held h
unfolding history_at texts_at
pieces version held h e =
    let one = bind_some (this_number_at (layout_number version) held) (behind_layout version) h e in
    let two = bind_some (this_array_at (layout_items version) one.0.1) (behind_items version) h one.2 in
    let three = bind_some (numbers_at two.0.1) (behind_numbers version) h two.2 in
    let four = bind_some (whole (all_texts_at version three.0.1)) (λ (t : Texts). Some (history_of three.0.0 t)) h three.2 in
    record {
      layout = one.0;
      layout_is = one.1;
      items = two.0;
      items_is = two.1;
      numbers = three.0;
      numbers_is = three.1;
      texts = four.0;
      texts_is = four.1;
      is = same_Some (history_of three.0.0 four.0) h four.2;
    }

history_fits : (version : Version) (n : Numbers) (t : Texts) → NumbersFit n → TextsFit version t → HistoryFits (history_of n t)
history_fits version n t p q = record { id = p.id; timestamp = p.timestamp; duration = p.duration; exit = p.exit; deleted_at = q.time }

pub history_takes : (version : Version) (held : List ℕ) (h : HistoryRecord) → IsBytes held → history_at version held ≡ Some h → SpellsHistory version h held
history_takes version held h are e =
    let p = pieces version held h e in
    let a = (this_number_read (layout_number version)).takes held p.layout.0 p.layout.1 are p.layout_is in
    let b = (this_array_read (layout_items version)).takes p.layout.1 p.items.0 p.items.1 a.2.rest_is_bytes p.items_is in
    let c = numbers_at_read.takes p.items.1 p.numbers.0 p.numbers.1 b.2.rest_is_bytes p.numbers_is in
    let d = whole_takes Texts (all_texts_at version) (SpellsTexts version) (texts_parts_read version) p.numbers.1 p.texts c.2.rest_is_bytes p.texts_is in
    let number : SpellsItem (an_integer (pos (layout_number version))) a.0 = subst (λ (n : ℕ). SpellsNumber n a.0) (eqb-true p.layout.0 (layout_number version) a.1.0) a.1.1 in
    let array : SpellsItem (an_array (layout_items version)) b.0 = subst (λ (n : ℕ). SpellsArray n b.0) (eqb-true p.items.0 (layout_items version) b.1.0) b.1.1 in
    let numbers = numbers_spelled p.numbers.0 c.0 c.1 in
    let texts = texts_spelled version p.texts p.numbers.1 d in
    let front : SpellsItems (leading_items version) (a.0 ++ b.0) = (a.0, b.0, number, last_item (an_array (layout_items version)) b.0 array, refl) in
    let items : SpellsItems (history_items version (history_of p.numbers.0 p.texts)) ((a.0 ++ b.0) ++ (c.0 ++ p.numbers.1)) =
    subst (λ (is : List Item). SpellsItems is ((a.0 ++ b.0) ++ (c.0 ++ p.numbers.1))) (items_are version p.numbers.0 p.texts)
    (items_append (leading_items version) (numbers_items p.numbers.0 ++ texts_items version p.texts) (a.0 ++ b.0) (c.0 ++ p.numbers.1) front (items_append (numbers_items p.numbers.0) (texts_items version p.texts) c.0 p.numbers.1 numbers.0 texts.0)) in
    let parts : held ≡ (a.0 ++ b.0) ++ (c.0 ++ p.numbers.1) =
    a.2.parts ∙ ap (λ (l : List ℕ). a.0 ++ l) (b.2.parts ∙ ap (λ (l : List ℕ). b.0 ++ l) c.2.parts) ∙ sym (append_assoc a.0 b.0 (c.0 ++ p.numbers.1)) in
    subst (λ (k : HistoryRecord). SpellsHistory version k held) p.is (record {
      fits = history_fits version p.numbers.0 p.texts numbers.1 texts.1;
      author = texts.1.author;
      items = subst (SpellsItems (history_items version (history_of p.numbers.0 p.texts))) (sym parts) items;
    })

-- the parts of a command
abbrev numbers_in : HistoryRecord → Numbers
numbers_in h = (h.id, (h.timestamp, (h.duration, h.exit)))

abbrev texts_in : HistoryRecord → Texts
texts_in h = (h.command, (h.cwd, (h.session, (h.hostname, (h.deleted_at, h.author)))))

pub itself : (n : ℕ) → eqb n n ≡ true
itself n = eq-eqb n n refl

pub history_again : (version : Version) (held : List ℕ) (h : HistoryRecord) → SpellsHistory version h held → history_at version held ≡ Some h
unfolding history_at texts_at
history_again version held h s =
    let listed : SpellsItems (leading_items version ++ (numbers_items (numbers_in h) ++ texts_items version (texts_in h))) held = subst (λ (is : List Item). SpellsItems is held) (sym (items_are version (numbers_in h) (texts_in h))) s.items in
    let one = items_split (leading_items version) (numbers_items (numbers_in h) ++ texts_items version (texts_in h)) held listed in
    let two = items_split (numbers_items (numbers_in h)) (texts_items version (texts_in h)) one.back one.behind in
    let array : SpellsItem (an_array (layout_items version)) one.first.1 = last_spelled (an_array (layout_items version)) one.first.1 one.first.3 in
    let numbers : SpellsNumbers (numbers_in h) two.front = numbers_from (numbers_in h) two.front two.first (record { id = s.fits.id; timestamp = s.fits.timestamp; duration = s.fits.duration; exit = s.fits.exit }) in
    let texts : SpellsTexts version (texts_in h) two.back = texts_from version (texts_in h) two.back two.behind s.author in
    let parts : held ≡ one.first.0 ++ (one.first.1 ++ (two.front ++ two.back)) =
    one.parts ∙ ap (λ (l : List ℕ). l ++ one.back) one.first.4 ∙ append_assoc one.first.0 one.first.1 one.back ∙ ap (λ (l : List ℕ). one.first.0 ++ (one.first.1 ++ l)) two.parts in
    ap (history_at version) parts ∙ rw (
      (this_number_read (layout_number version)).again (layout_number version) one.first.0 (one.first.1 ++ (two.front ++ two.back)) (itself (layout_number version), one.first.2),
      (this_array_read (layout_items version)).again (layout_items version) one.first.1 (two.front ++ two.back) (itself (layout_items version), array),
      numbers_at_read.again (numbers_in h) two.front two.back numbers,
      whole_again Texts (all_texts_at version) (SpellsTexts version) (texts_parts_read version) (texts_in h) two.back texts,
    ) refl
