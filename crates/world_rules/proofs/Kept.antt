-- What every event keeps: each journal is sound, each chain is a prefix of that chain at its own host's node, and each page that was
-- ever sent is cut from such a chain.
use Rattle.std.proofs.Common.{◌≡◌, ◌≢◌, ℕ, zero, suc, cond, ◌⊎◌, inl, inr, List, [], ◌∷◌, ◌++◌, length, take, drop, Some, Result, Ok, Err, refl, sym, ◌∙◌, ap, subst}
use Rattle.std.specs.Prelude.{slice_get, bytes_eq}
use Rattle.std.proofs.lemmas.Bool.{cases_Bool, cases_eq, eq-eqb, ne_eqb, true≢false}
use Rattle.std.proofs.lemmas.List.{append-nil}
use Rattle.std.proofs.lemmas.Option.{none-some, same_Some}
use Rattle.std.proofs.lemmas.Slice.Eq.{bytes_eq-Decides}
use Rattle.record_rules.specs.Records.{SealedRecord, Caller, Entry}
use Rattle.record_rules.specs.Journal.{chain, count_at, Sound}
use Rattle.definitions.specs.Prefixes.{IsPrefix}
use Rattle.record_rules.specs.Growth.{PageRefusal, PageForked, GoOn, grow, grown}
use Rattle.record_rules.specs.Answers.{page}
use Rattle.record_rules.proofs.Growth.{growth_stays_sound}
use Rattle.record_rules.proofs.Options.{slice_get_push}
use Rattle.record_rules.proofs.Origins.{slice_never_forks, slice_keeps_prefix, slice_leaves_other_chains}
use Rattle.record_rules.proofs.Soundness.{empty_sound}
use Rattle.record_rules.proofs.Status.{status_counts}
use Rattle.view_rules.proofs.Sets.{chains_make_views}
use Rattle.world_rules.specs.World.{host_at, HostsDiffer, IsNoHost, World, empty_world, with_journal, with_page, WorldEvent, Append, Send, Deliver, Crash, Cut, Appends, Sends, Delivers, Happens, Leads, Reach, AppendsOwn, MakesOwn}
use Rattle.world_rules.specs.Laws.{NodesAreSound, ChainsArePrefixes, NoStrangeChains, NoForks, StatusTellsChains, StatusTellsViews}
use Rattle.world_rules.proofs.Cuts.{IsCut, cut_grows, cut_is_slice, page_is_cut, chain_goes_on}
use Rattle.definitions.proofs.Prefixes.{prefix-itself, prefix-grows, prefixes-alike}
use Rattle.world_rules.proofs.Batches.{chain_append, own_leaves_others}

-- the records were cut from a chain at its own host's node
pub record WasCut (hosts : List ℕ) (w : World) (records : List SealedRecord) : Type 0 where
  pub origin : ℕ
  pub host : ℕ
  pub tag : List ℕ
  pub at_host : host_at hosts origin ≡ Some host
  pub cut : IsCut records (chain (w.journal origin) 0 host tag)

pub record Holds (hosts : List ℕ) (w : World) : Type 0 where
  pub sound : NodesAreSound hosts w
  pub prefixes : ChainsArePrefixes hosts w
  pub strangers : NoStrangeChains hosts w
  pub cuts : (number : ℕ) (records : List SealedRecord) → slice_get w.sent number ≡ Some records → WasCut hosts w records

pub empty_holds : (hosts : List ℕ) → Holds hosts empty_world
empty_holds hosts = record {
  sound = λ node host at. empty_sound host;
  prefixes = λ node origin host tag at. refl;
  strangers = λ node host tag no. refl;
  cuts = λ number records at. absurd (none-some records at);
}

-- ---- a batch behind one journal

pub at_each : (w : World) (n : ℕ) (journal : List Entry) (P : ℕ → List Entry → Type 0) → P n journal → ((m : ℕ) → m ≢ n → P m (w.journal m)) → (m : ℕ) → P m ((with_journal w n journal).journal m)
at_each w n journal P here there m =
    elim (cases_eq m n) [
      | inl same ↦ subst (P m) (ap (λ b. cond b journal (w.journal m)) (sym (eq-eqb m n same))) (subst (λ k. P k journal) (sym same) here)
      | inr differ ↦ subst (P m) (ap (λ b. cond b journal (w.journal m)) (sym (ne_eqb m n differ))) (there m differ)
    ]

module _ (hosts : List ℕ) (w : World) (holds : Holds hosts w) (n : ℕ) (batch : List Entry) where
  -- each chain goes on, or stays
  goes_on_by : (o host : ℕ) (tag : List ℕ) → (more : List SealedRecord) × (chain ((with_journal w n (w.journal n ++ batch)).journal o) 0 host tag ≡ chain (w.journal o) 0 host tag ++ more)
  goes_on_by o host tag =
      at_each w n (w.journal n ++ batch) (λ m journal. (more : List SealedRecord) × (chain journal 0 host tag ≡ chain (w.journal m) 0 host tag ++ more)) (chain batch 0 host tag, chain_append (w.journal n) batch 0 host tag) (λ m differ. ([], sym (append-nil (chain (w.journal m) 0 host tag)))) o

  still_prefix : (xs : List SealedRecord) (o host : ℕ) (tag : List ℕ) → IsPrefix xs (chain (w.journal o) 0 host tag) → IsPrefix xs (chain ((with_journal w n (w.journal n ++ batch)).journal o) 0 host tag)
  still_prefix xs o host tag prefix =
      let more = goes_on_by o host tag in
      subst (IsPrefix xs) (sym more.1) (prefix-grows xs (chain (w.journal o) 0 host tag) more.0 prefix)

  pub batch_holds : ((host : ℕ) → host_at hosts n ≡ Some host → Sound (w.journal n ++ batch) host) → ((o host : ℕ) (tag : List ℕ) → host_at hosts o ≡ Some host → o ≢ n → IsPrefix (chain (w.journal n ++ batch) 0 host tag) (chain (w.journal o) 0 host tag)) → ((host : ℕ) (tag : List ℕ) → IsNoHost hosts host → chain (w.journal n ++ batch) 0 host tag ≡ []) → Holds hosts (with_journal w n (w.journal n ++ batch))
  batch_holds sound prefixes strangers =
      let new = with_journal w n (w.journal n ++ batch) in
      record {
        sound = at_each w n (w.journal n ++ batch) (λ m journal. (host : ℕ) → host_at hosts m ≡ Some host → Sound journal host) sound (λ m differ. holds.sound m);
        prefixes = λ node o host tag at.
            at_each w n (w.journal n ++ batch) (λ m journal. IsPrefix (chain journal 0 host tag) (chain (new.journal o) 0 host tag))
            (at_each w n (w.journal n ++ batch) (λ m journal. host_at hosts m ≡ Some host → IsPrefix (chain (w.journal n ++ batch) 0 host tag) (chain journal 0 host tag))
            (λ here. prefix-itself (chain (w.journal n ++ batch) 0 host tag))
            (λ m differ here. prefixes m host tag here differ)
            o at)
            (λ m differ. still_prefix (chain (w.journal m) 0 host tag) o host tag (holds.prefixes m o host tag at))
            node;
        strangers = λ node host tag no. at_each w n (w.journal n ++ batch) (λ m journal. chain journal 0 host tag ≡ []) (strangers host tag no) (λ m differ. holds.strangers m host tag no) node;
        cuts = λ number records at.
            let old = holds.cuts number records at in
            let more = goes_on_by old.origin old.host old.tag in
            record {
              origin = old.origin;
              host = old.host;
              tag = old.tag;
              at_host = old.at_host;
              cut = subst (IsCut records) (sym more.1) (cut_grows records (chain (w.journal old.origin) 0 old.host old.tag) more.0 old.cut);
            };
      }

-- the journal as it was
same_holds : (hosts : List ℕ) (w : World) → Holds hosts w → (n : ℕ) → Holds hosts (with_journal w n (w.journal n))
same_holds hosts w holds n =
    let nothing : w.journal n ++ [] ≡ w.journal n = append-nil (w.journal n) in
    subst (λ journal. Holds hosts (with_journal w n journal)) nothing (batch_holds hosts w holds n []
    (λ host at. subst (λ journal. Sound journal host) (sym nothing) (holds.sound n host at))
    (λ o host tag at differ. subst (λ journal. IsPrefix (chain journal 0 host tag) (chain (w.journal o) 0 host tag)) (sym nothing) (holds.prefixes n o host tag at))
    (λ host tag no. ap (λ journal. chain journal 0 host tag) nothing ∙ holds.strangers n host tag no))

-- ---- a step

append_holds : {Asked : Type 0} (step : ℕ → List Entry → Asked → List Entry → Type 0) → MakesOwn step → (hosts : List ℕ) (w : World) (node : ℕ) (asked : Asked) (new : World) → HostsDiffer hosts → Holds hosts w → Appends step hosts w node asked new → Holds hosts new
append_holds step makes hosts w node asked new apart holds appends =
    let host = appends.host in
    let made = makes host (w.journal node) asked appends.after (holds.sound node host appends.at_host) appends.stepped in
    let batch = made.0 in
    let own : AppendsOwn host (w.journal node) batch appends.after = made.1 in
    let others : (other : ℕ) (tag : List ℕ) → host ≢ other → chain (w.journal node ++ batch) 0 other tag ≡ chain (w.journal node) 0 other tag = own_leaves_others host (w.journal node) batch appends.after own in
    subst (Holds hosts) (sym (appends.becomes ∙ ap (with_journal w node) own.behind)) (batch_holds hosts w holds node batch
    (λ other at. subst (λ journal. Sound journal other) own.behind (subst (Sound appends.after) (same_Some host other (sym appends.at_host ∙ at)) own.sound))
    (λ o other tag at differ. subst (λ xs. IsPrefix xs (chain (w.journal o) 0 other tag)) (sym (others other tag (λ same. differ (apart o node other at (appends.at_host ∙ ap Some same))))) (holds.prefixes node o other tag at))
    (λ other tag no. others other tag (λ same. no node (appends.at_host ∙ ap Some same)) ∙ holds.strangers node other tag no))

-- ---- a page that comes

pub same_or_other : (host other : ℕ) (tag other_tag : List ℕ) → ((host ≡ other) × (tag ≡ other_tag)) ⊎ ((host ≢ other) ⊎ (tag ≢ other_tag))
same_or_other host other tag other_tag =
    elim (cases_eq host other) [
      | inl same ↦ elim (cases_Bool (bytes_eq tag other_tag)) [
        | inl tags ↦ inl (same, (bytes_eq-Decides tag other_tag).0 tags)
        | inr not_tags ↦ inr (inr (λ tags. true≢false (sym ((bytes_eq-Decides tag other_tag).1 tags) ∙ not_tags)))
      ]
      | inr differ ↦ inr (inl differ)
    ]

module _ (hosts : List ℕ) (w : World) (holds : Holds hosts w) (node : ℕ) (caller : Caller) (records : List SealedRecord) (from : WasCut hosts w records) where
  from_goes_on : GoOn from.host from.tag 0 (chain (w.journal from.origin) 0 from.host from.tag)
  from_goes_on = chain_goes_on (w.journal from.origin) 0 from.host from.tag ((holds.sound from.origin from.host from.at_host).numbered 0 from.host from.tag)

  grows_as_slice : grow (w.journal node) caller 0 (take (length records) (drop (length from.cut.before) (chain (w.journal from.origin) 0 from.host from.tag))) ≡ grow (w.journal node) caller 0 records
  grows_as_slice = ap (grow (w.journal node) caller 0) (cut_is_slice records (chain (w.journal from.origin) 0 from.host from.tag) from.cut)

  no_fork : (position id : ℕ) → grow (w.journal node) caller 0 records ≡ Err (PageForked position id) → ⊥
  no_fork position id refused = slice_never_forks (w.journal node) caller 0 from.host from.tag (chain (w.journal from.origin) 0 from.host from.tag) (length from.cut.before) (length records) position id from_goes_on (holds.prefixes node from.origin from.host from.tag from.at_host) (grows_as_slice ∙ refused)

  module _ (apart : HostsDiffer hosts) (of_host : ℕ) (at_node : host_at hosts node ≡ Some of_host) (batch : List Entry) (taken : grow (w.journal node) caller 0 records ≡ Ok batch) where
    pub other_chain : (host : ℕ) (tag : List ℕ) → (from.host ≢ host) ⊎ (from.tag ≢ tag) → chain (w.journal node ++ batch) 0 host tag ≡ chain (w.journal node) 0 host tag
    other_chain host tag differ = slice_leaves_other_chains (w.journal node) caller 0 from.host from.tag (chain (w.journal from.origin) 0 from.host from.tag) (length from.cut.before) (length records) host tag batch from_goes_on differ (grows_as_slice ∙ taken)

    pub own_chain : IsPrefix (chain (w.journal node ++ batch) 0 from.host from.tag) (chain (w.journal from.origin) 0 from.host from.tag)
    own_chain = slice_keeps_prefix (w.journal node) of_host caller 0 from.host from.tag (chain (w.journal from.origin) 0 from.host from.tag) (length from.cut.before) (length records) batch (holds.sound node of_host at_node) from_goes_on (holds.prefixes node from.origin from.host from.tag from.at_host) (grows_as_slice ∙ taken)

    prefix_after : (o host : ℕ) (tag : List ℕ) → host_at hosts o ≡ Some host → IsPrefix (chain (w.journal node ++ batch) 0 host tag) (chain (w.journal o) 0 host tag)
    prefix_after o host tag at =
        elim (same_or_other from.host host from.tag tag) [
          | inl same ↦
              let origin : from.origin ≡ o = apart from.origin o host (from.at_host ∙ ap Some same.0) at in
              subst (λ k. IsPrefix (chain (w.journal node ++ batch) 0 host tag) (chain (w.journal k) 0 host tag)) origin (subst (λ t. IsPrefix (chain (w.journal node ++ batch) 0 host t) (chain (w.journal from.origin) 0 host t)) same.1 (subst (λ h. IsPrefix (chain (w.journal node ++ batch) 0 h from.tag) (chain (w.journal from.origin) 0 h from.tag)) same.0 own_chain))
          | inr differ ↦ subst (λ xs. IsPrefix xs (chain (w.journal o) 0 host tag)) (sym (other_chain host tag differ)) (holds.prefixes node o host tag at)
        ]

    taken_holds : Holds hosts (with_journal w node (w.journal node ++ batch))
    taken_holds = batch_holds hosts w holds node batch
        (λ host at. subst (λ result. Sound (grown (w.journal node) result) host) taken (growth_stays_sound (w.journal node) host caller 0 records (holds.sound node host at)))
        (λ o host tag at differ. prefix_after o host tag at)
        (λ host tag no. other_chain host tag (inl (λ same. no from.origin (from.at_host ∙ ap Some same))) ∙ holds.strangers node host tag no)

  grown_holds : HostsDiffer hosts → (of_host : ℕ) → host_at hosts node ≡ Some of_host → (result : Result (List Entry) PageRefusal) → grow (w.journal node) caller 0 records ≡ result → Holds hosts (with_journal w node (grown (w.journal node) result))
  grown_holds apart of_host at_node (Ok batch) taken = taken_holds apart of_host at_node batch taken
  grown_holds apart of_host at_node (Err refusal) refused = same_holds hosts w holds node

deliver_holds : (hosts : List ℕ) (w : World) (number node : ℕ) (caller : Caller) (new : World) → HostsDiffer hosts → Holds hosts w → Delivers hosts w number node caller new → Holds hosts new
deliver_holds hosts w number node caller new apart holds delivers =
    subst (Holds hosts) (sym delivers.becomes) (grown_holds hosts w holds node caller delivers.records (holds.cuts number delivers.records delivers.was_sent) apart delivers.of_host delivers.at_node (grow (w.journal node) caller 0 delivers.records) refl)

-- ---- a page that is sent

pub find_place : (xs : List ℕ) (x : ℕ) → ((k : ℕ) × (slice_get xs k ≡ Some x)) ⊎ ((k : ℕ) → slice_get xs k ≡ Some x → ⊥)
find_place [] x = inr (λ k at. none-some x at)
find_place (y ∷ xs) x =
    elim (cases_eq y x) [
      | inl same ↦ inl (0, ap Some same)
      | inr differ ↦ elim (find_place xs x) [
        | inl found ↦ inl (suc found.0, found.1)
        | inr none ↦ inr (nowhere differ none)
      ]
    ]
  where
    nowhere : y ≢ x → ((k : ℕ) → slice_get xs k ≡ Some x → ⊥) → (k : ℕ) → slice_get (y ∷ xs) k ≡ Some x → ⊥
    nowhere differ none zero at = differ (same_Some y x at)
    nowhere differ none (suc k) at = none k at

page_was_cut : (hosts : List ℕ) (w : World) → Holds hosts w → (node host : ℕ) (tag : List ℕ) (start count : ℕ) → WasCut hosts w (page (w.journal node) 0 host tag start count)
page_was_cut hosts w holds node host tag start count =
    elim (find_place (0 ∷ hosts) host) [
      | inl found ↦ record {
        origin = found.0;
        host = host;
        tag = tag;
        at_host = found.1;
        cut = page_is_cut (w.journal node) 0 host tag start count (chain (w.journal found.0) 0 host tag) (holds.prefixes node found.0 host tag found.1);
      }
      | inr none ↦ record {
        origin = 0;
        host = 0;
        tag = tag;
        at_host = refl;
        cut = cut_grows (page (w.journal node) 0 host tag start count) [] (chain (w.journal 0) 0 0 tag) (page_is_cut (w.journal node) 0 host tag start count [] (subst (λ xs. IsPrefix xs []) (sym (holds.strangers node host tag none)) refl));
      }
    ]

send_holds : (hosts : List ℕ) (w : World) (node host : ℕ) (tag : List ℕ) (start count : ℕ) (new : World) → Holds hosts w → Sends hosts w node host tag start count new → Holds hosts new
send_holds hosts w node host tag start count new holds sends =
    let given = page (w.journal node) 0 host tag start count in
    subst (Holds hosts) (sym sends.becomes) (record {
      sound = holds.sound;
      prefixes = holds.prefixes;
      strangers = holds.strangers;
      cuts = λ number records at. elim (slice_get_push w.sent given records number at) [
        | inl old ↦ from_old (holds.cuts number records old.1)
        | inr new ↦ subst (WasCut hosts (with_page w given)) new.1 (from_old (page_was_cut hosts w holds node host tag start count))
      ];
    })
  where
    from_old : {records : List SealedRecord} → WasCut hosts w records → WasCut hosts (with_page w (page (w.journal node) 0 host tag start count)) records
    from_old old = record { origin = old.origin; host = old.host; tag = old.tag; at_host = old.at_host; cut = old.cut }

-- ---- whole runs

module _ {Asked : Type 0} (step : ℕ → List Entry → Asked → List Entry → Type 0) (makes : MakesOwn step) (hosts : List ℕ) (apart : HostsDiffer hosts) where
  pub happens_holds : (event : WorldEvent Asked) (w new : World) → Holds hosts w → Happens step hosts w event new → Holds hosts new
  happens_holds (Append node asked) w new holds happens = append_holds step makes hosts w node asked new apart holds happens
  happens_holds (Send node host tag start count) w new holds happens = send_holds hosts w node host tag start count new holds happens
  happens_holds (Deliver number node caller) w new holds happens = deliver_holds hosts w number node caller new apart holds happens
  happens_holds (Crash node) w new holds happens = subst (Holds hosts) (sym happens) holds
  happens_holds (Cut event) w new holds (inl whole) = happens_holds event w new holds whole
  happens_holds (Cut event) w new holds (inr lost) = subst (Holds hosts) (sym lost) holds

  pub leads_holds : (events : List (WorldEvent Asked)) (w new : World) → Holds hosts w → Leads step hosts w events new → Holds hosts new
  leads_holds [] w new holds leads = subst (Holds hosts) (sym leads) holds
  leads_holds (event ∷ events) w new holds leads = leads_holds events leads.0 new (happens_holds event w leads.0 holds leads.1) leads.2

  -- for whatever step of the kind
  pub reached_holds : (events : List (WorldEvent Asked)) (w : World) → Reach step hosts events w → Holds hosts w
  reached_holds events w reach = leads_holds events empty_world w (empty_holds hosts) reach

-- ---- what follows

-- the loosest step is of the kind
pub own_makes : MakesOwn AppendsOwn
own_makes host journal batch after sound own = (batch, own)

pub world_holds : (hosts : List ℕ) (events : List (WorldEvent (List Entry))) (w : World) → HostsDiffer hosts → Reach AppendsOwn hosts events w → Holds hosts w
world_holds hosts events w apart reach = reached_holds AppendsOwn own_makes hosts apart events w reach

pub no_forks : (hosts : List ℕ) (w : World) → Holds hosts w → NoForks hosts w
no_forks hosts w holds number node position id caller records was_sent refused = no_fork hosts w holds node caller records (holds.cuts number records was_sent) position id refused

pub status_tells_chains : (hosts : List ℕ) (w : World) → Holds hosts w → StatusTellsChains hosts w
status_tells_chains hosts w holds node other same host tag =
    let lengths : length (chain (w.journal node) 0 host tag) ≡ length (chain (w.journal other) 0 host tag) = sym (status_counts (w.journal node) 0 host tag) ∙ ap (λ counts. count_at counts host tag) same ∙ status_counts (w.journal other) 0 host tag in
    elim (find_place (0 ∷ hosts) host) [
      | inl found ↦ prefixes-alike (chain (w.journal node) 0 host tag) (chain (w.journal other) 0 host tag) (chain (w.journal found.0) 0 host tag) (holds.prefixes node found.0 host tag found.1) (holds.prefixes other found.0 host tag found.1) lengths
      | inr none ↦ holds.strangers node host tag none ∙ sym (holds.strangers other host tag none)
    ]

pub status_tells_views : (hosts : List ℕ) (w : World) → Holds hosts w → StatusTellsViews hosts w
status_tells_views hosts w holds opens node other same = chains_make_views opens (w.journal node) (w.journal other) (status_tells_chains hosts w holds node other same)
