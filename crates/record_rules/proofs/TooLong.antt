-- What it says of a position that it is not too long.
use Rattle.std.proofs.Common.{◌≡◌, ◌<◌, ◌≤◌, ◌||◌, List, [], ◌∷◌, ◌++◌, length, None}
use Rattle.std.specs.Prelude.{nat_le, nat_lt}
use Rattle.std.proofs.lemmas.Bool.{ltb-false, leb-false, or_parts}
use Rattle.definitions.specs.Limits.{most_name_bytes, most_tag_bytes, most_page_weight, most_page_records}
use Rattle.record_rules.specs.Records.{SealedRecord, page_weight}
use Rattle.record_rules.specs.Growth.{PageRefusal, PageTooLong, too_long_at}
use Rattle.record_rules.proofs.Options.{cond_none}

pub record WithinPage (earlier : List SealedRecord) (r : SealedRecord) : Type 0 where
  pub count : length earlier < most_page_records
  pub together : page_weight (earlier ++ r ∷ []) ≤ most_page_weight
  pub tag : length r.tag ≤ most_tag_bytes
  pub version : length r.version ≤ most_tag_bytes
  pub host_name : length r.host_name ≤ most_name_bytes

pub within_page : (earlier : List SealedRecord) (r : SealedRecord) → too_long_at earlier r ≡ None → WithinPage earlier r
within_page earlier r short =
    let refusal : PageRefusal = PageTooLong (length earlier) (page_weight (earlier ++ r ∷ [])) in
    let many = nat_le most_page_records (length earlier) in
    let heavy = nat_lt most_page_weight (page_weight (earlier ++ r ∷ [])) in
    let tag = nat_lt most_tag_bytes (length r.tag) in
    let version = nat_lt most_tag_bytes (length r.version) in
    let name = nat_lt most_name_bytes (length r.host_name) in
    let all = cond_none {A = PageRefusal} ((many || heavy) || ((tag || version) || name)) refusal None short in
    let parts = or_parts (many || heavy) ((tag || version) || name) all.0 in
    let page = or_parts many heavy parts.0 in
    let texts = or_parts (tag || version) name parts.1 in
    let prefix = or_parts tag version texts.0 in
    record {
      count = leb-false most_page_records (length earlier) page.0;
      together = ltb-false most_page_weight (page_weight (earlier ++ r ∷ [])) page.1;
      tag = ltb-false most_tag_bytes (length r.tag) prefix.0;
      version = ltb-false most_tag_bytes (length r.version) prefix.1;
      host_name = ltb-false most_name_bytes (length r.host_name) texts.1;
    }
