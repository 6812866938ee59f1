use Rattle.std.proofs.Common.{◌≡◌, ℕ, List, Vec, Global, Option, Some, sym, ap, subst, ◌∙◌}
use Rattle.std.specs.Map.{lookup}
use Rattle.std.specs.BTreeMap.{is_at}
use Rattle.std.specs.Cmp.Lexicographic.{slice_cmp}
use Rattle.std.specs.Ordering.{nat_cmp}
use Rattle.std.specs.List.{filter, AllByRecursion}
use Rattle.definitions.specs.Search.{IsPage}
use Rattle.record_model.specs.declared.names.NamedText.{NamedText}
use Rattle.view_rules.specs.Answers.{named_bytes, IsListOf}
use Rattle.latest_values.specs.declared.setting.Setting.{Setting}
use Rattle.latest_values.specs.Lists.{IsText, IsThere, item_of, items_seen, is_above, IsOnWay}
use Rattle.latest_values.proofs.Placed.{seen}
use Rattle.latest_values.proofs.Rising.{begins, takes, ends, breaks, is_list, listed, texts_among}
use Rattle.latest_values.proofs.listing.list.Goals as goal
use Rattle.latest_values.proofs.listing.list.Goals.{in-None, in-Some+in-Some-value_at+in_ok-item+in_ok-take+then-not-branch}

abbrev Place : Type 0
Place = Vec ℕ Global × Option Setting

abbrev items : Vec ℕ Global → List ℕ
items v = v.items

abbrev all : List Place → List ℕ → List Place
all es after = filter (λ (e : Place). is_above after e.0.items) es

abbrev IsFound : List Place → Place → Type 0
IsFound es e = lookup (is_at (λ (k : Vec ℕ Global). slice_cmp nat_cmp e.0.items k.items)) es ≡ Some e.1

pub loop-name-init : goal.loop-name-init
loop-name-init c =
    let es = c.args.names.now.entries in
    let same : c.above-name-items.result ≡ all es c.args.after.now = c.above-name-items.ensures.above ∙ ap (all es) c.in_ok-own.ensures.items in
    begins items c.args.showing c.args.limit (all es c.args.after.now) c.requires.limit c.into_iter-name-iterator.result c.new-items.result.items (c.into_iter-name-iterator.ensures.into_iter_gives ∙ same)
    (subst (λ (fs : List Place). AllByRecursion (λ (e : Place). IsText e.0.items) fs) same (texts_among items c.args.showing es c.above-name-items.result c.requires.texts c.above-name-items.ensures.found)) c.new-items.ensures.items

pub loop-name-preserved-else-not-branch : goal.loop-name-preserved-else-not-branch
loop-name-preserved-else-not-branch c =
    let way = subst (λ (es : List Place). IsOnWay items c.args.showing c.args.limit (all c.args.names.now.entries c.args.after.now) es c.loop-name.items.items c.loop-name.bytes) c.in-Some.ensures.steps c.loop-name.invariant in
    takes items c.args.showing c.args.limit (all c.args.names.now.entries c.args.after.now) (c.in-Some.name.now, c.in-Some.place.now) c.in-Some-value_at.value.now c.next.new.self c.in_ok-item.item c.loop-name.items.items c.take.new.items.items c.loop-name.bytes c.take.new.bytes
    way (sym c.in-Some-value_at.ensures) (c.in_ok-item.ensures ∙ ap (λ (n : List ℕ). item_of c.args.showing n c.in-Some-value_at.value.now) c.as_slice.ensures.value) (c.in_ok-take.ensures.taken c.if-not-branch.false) c.in_ok-take.ensures.bytes c.in_ok-take.ensures.fits

pub returns : goal.returns
returns c =
    let es = c.args.names.now.entries in
    let same : c.above-name-items.result ≡ all es c.args.after.now = c.above-name-items.ensures.above ∙ ap (all es) c.in_ok-own.ensures.items in
    let found = subst (λ (fs : List Place). AllByRecursion (IsFound es) fs) same c.above-name-items.ensures.found in
    let whole = λ (page : List NamedText) (cut : IsPage named_bytes c.args.limit (listed items c.args.showing c.args.after.now es) (items_seen page)). is_list items c.args.showing c.args.after.now c.args.limit es (items_seen page) c.above-name-items.ensures.rising found cut in
    elim c.match-next.branch [
      | in-None w ↦
          let way = subst (λ (fs : List Place). IsOnWay items c.args.showing c.args.limit (all es c.args.after.now) fs c.loop-name.items.items c.loop-name.bytes) w.in-None.ensures.steps.0 c.loop-name.invariant in
          let page = whole c.loop-name.items.items (ends items c.args.showing c.args.limit (all es c.args.after.now) c.loop-name.items.items c.loop-name.bytes way) in
          subst (λ (v : Vec NamedText Global). IsListOf (IsThere c.args.showing (seen items es)) c.args.after.now c.args.limit (items_seen v.items)) (sym w.items-is) page
      | in-Some+in-Some-value_at+in_ok-item+in_ok-take+then-not-branch w ↦
          let way = subst (λ (fs : List Place). IsOnWay items c.args.showing c.args.limit (all es c.args.after.now) fs c.loop-name.items.items c.loop-name.bytes) w.in-Some.ensures.steps c.loop-name.invariant in
          let full = w.in_ok-take.ensures.full w.if-not-branch.true in
          let page = whole c.loop-name.items.items (breaks items c.args.showing c.args.limit (all es c.args.after.now) (w.in-Some.name.now, w.in-Some.place.now) w.in-Some-value_at.value.now c.next.new.self w.in_ok-item.item c.loop-name.items.items c.loop-name.bytes
          way (sym w.in-Some-value_at.ensures) (w.in_ok-item.ensures ∙ ap (λ (n : List ℕ). item_of c.args.showing n w.in-Some-value_at.value.now) w.as_slice.ensures.value) full.1) in
          subst (λ (ts : List NamedText). IsListOf (IsThere c.args.showing (seen items es)) c.args.after.now c.args.limit (items_seen ts)) (sym (ap (λ (v : Vec NamedText Global). v.items) w.items-is ∙ full.0)) page
    ]
