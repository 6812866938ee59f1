-- The examples, computed.
use Rattle.std.proofs.Common.{◌≡◌, ℕ, zero, suc, ◌<◌, ◌≤◌, ltb, pos, negsuc, Bool, true, false, List, [], ◌∷◌, ◌++◌, length, Option, Some, None, append-nil, refl, sym, ap, subst, ◌∙◌, arith, inl, inr}
use Rattle.std.specs.Prelude.{codes, replicate}
use Rattle.std.specs.Str.{IsUtf8, is_utf8, chars}
use Rattle.std.specs.List.{All, list_all, IsDistinct}
use Rattle.std.specs.List.Sorted.{IsPermutation, IsSortedBy}
use Rattle.std.proofs.lemmas.Bool.{ltb-true}
use Rattle.std.proofs.lemmas.List.Elements.{All-nil, All-cons, All-head}
use Rattle.std.proofs.lemmas.Option.{some_pair_parts}
use Rattle.std.proofs.lemmas.Str.{IsUtf8-from_is_utf8}
use Rattle.definitions.specs.Spelling.{IsBytes, positive_fixint, negative_fixint, uint_8, uint_16, uint_32, int_8, int_16, int_32, int_64, fixstr, str_8, str_16, str_32, fixarray, array_16, array_32}
use Rattle.definitions.specs.Limits.{most_payload_bytes}
use Rattle.definitions.specs.Frames.{frame, CutFrame, LongFrame}
use Rattle.definitions.specs.Ids.{id_text}
use Rattle.definitions.specs.Reading.{array_at, integer_at, text_head_at, text_at}
use Rattle.definitions.specs.Journal.{HistoryRecord}
use Rattle.definitions.specs.Search.{is_shown_before, hit_bytes}
use Rattle.definitions.specs.Examples.{WorkedIntegers, WorkedTexts, WorkedArrays, WorkedNoItems, WorkedFrames, WorkedStreams, WorkedIds, first_id, ls_ended, pwd_ended, WorkedCommands, hit_at, three_ended, WorkedMatches, WorkedSearches, WorkedReplies, WorkedUses}
use Rattle.definitions.proofs.Search.{whole_page}
use Rattle.definitions.proofs.Items.{both_true}
use Rattle.definitions.proofs.Spelling.{integer_again, text_again, array_again}

-- ---- items

abbrev all_bytes : List ℕ → Bool
all_bytes bytes = list_all (λ (b : ℕ). ltb b 256) bytes

are_bytes : (bytes : List ℕ) → all_bytes bytes ≡ true → IsBytes bytes
are_bytes [] e i = omega arith
are_bytes (b ∷ bytes) e zero = ltb-true b 256 (both_true (ltb b 256) (all_bytes bytes) e).0
are_bytes (b ∷ bytes) e (suc i) = are_bytes bytes (both_true (ltb b 256) (all_bytes bytes) e).1 i

pub integers : WorkedIntegers
integers = record {
  unsigned = refl;
  negative = refl;
  in_32_bits = (uint_32, omega arith, refl);
  in_64_bits = (int_64, omega arith, refl);
  five = (positive_fixint, omega arith, refl);
  five_in_16_bits = (uint_16, omega arith, refl);
  five_signed = (int_8, omega arith, refl);
  minus_five = (negative_fixint, omega arith, refl);
  minus_five_in_32_bits = (int_32, omega arith, refl);
  most_of_fixint = (positive_fixint, omega arith, refl);
  least_of_fixint = (negative_fixint, omega arith, refl);
  most_of_8_bits = (uint_8, omega arith, refl);
  least_of_64_bits = (int_64, omega arith, refl);
  least_of_16_bits = (int_16, omega arith, refl);
  some_integer = (pos 5, (int_8, omega arith, refl));
  most = omega arith;
  above = λ h. omega (arith, h);
  least = omega arith;
  below = λ h. omega (arith, h);
  bytes = are_bytes (0 ∷ 255 ∷ []) refl;
  no_bytes = λ h. let second : 256 < 256 = h 1 in omega (arith, second);
}

ls_is_utf8 : IsUtf8 (codes "ls")
unfolding is_utf8 chars lib.Utf8.encode
ls_is_utf8 = IsUtf8-from_is_utf8 (codes "ls") refl

pub texts : WorkedTexts
texts = record {
  heads = refl;
  written = refl;
  counts_bytes = refl;
  short = record { form = fixstr; fits = omega arith; utf8 = ls_is_utf8; are = refl };
  in_8_bits = record { form = str_8; fits = omega arith; utf8 = ls_is_utf8; are = refl };
  in_16_bits = record { form = str_16; fits = omega arith; utf8 = ls_is_utf8; are = refl };
  in_32_bits = record { form = str_32; fits = omega arith; utf8 = ls_is_utf8; are = refl };
  some_text = (codes "ls", record { form = fixstr; fits = omega arith; utf8 = ls_is_utf8; are = refl });
}

pub arrays : WorkedArrays
arrays = record { headers = refl; short = (fixarray, omega arith, refl); in_16_bits = (array_16, omega arith, refl); in_32_bits = (array_32, omega arith, refl); some_array = (3, (array_16, omega arith, refl)) }

-- a value that is read from the front of bytes is one value
one_value : {A : Type 0} (x y : A) (rest : List ℕ) → ◌≡◌ {A = Option (A × List ℕ)} (Some (x, rest)) (Some (y, [])) → (x ≡ y) × (rest ≡ [])
one_value x y rest e = some_pair_parts x y rest [] e

-- what is spelled is read, and these bytes are read otherwise or not at all
pub no_items : WorkedNoItems
unfolding array_at integer_at text_at text_head_at is_utf8 chars lib.Utf8.encode
no_items = record {
  fixint_passed = λ s. let e : integer_at (0x80 ∷ []) ≡ Some (pos 128, []) = integer_again (pos 128) (0x80 ∷ []) [] s in absurd cc;
  negative_fixint_passed = λ s. let e : integer_at (0xdf ∷ []) ≡ Some (negsuc 32, []) = integer_again (negsuc 32) (0xdf ∷ []) [] s in absurd cc;
  unsigned_passed = λ s. let e : pos 0 ≡ pos 256 = (one_value (pos 0) (pos 256) [] (integer_again (pos 256) (0xcc ∷ 0x00 ∷ []) [] s)).0 in let n : ◌≡◌ {A = ℕ} 0 256 = cc in omega (arith, n);
  unsigned_16_passed = λ s. let e : pos 0 ≡ pos 65536 = (one_value (pos 0) (pos 65536) [] (integer_again (pos 65536) (0xcd ∷ 0x00 ∷ 0x00 ∷ []) [] s)).0 in let n : ◌≡◌ {A = ℕ} 0 65536 = cc in omega (arith, n);
  below_zero = λ s. let e : pos 255 ≡ negsuc 0 = (one_value (pos 255) (negsuc 0) [] (integer_again (negsuc 0) (0xcc ∷ 0xff ∷ []) [] s)).0 in absurd cc;
  signed_passed = λ s. let e : negsuc 127 ≡ pos 128 = (one_value (negsuc 127) (pos 128) [] (integer_again (pos 128) (0xd0 ∷ 0x80 ∷ []) [] s)).0 in absurd cc;
  nil = λ s. let e : None ≡ Some (s.0, []) = integer_again s.0 (0xc0 ∷ []) [] s.1 in absurd cc;
  cut_integer = λ s. let e : None ≡ Some (s.0, []) = integer_again s.0 (0xcd ∷ 0x05 ∷ []) [] s.1 in absurd cc;
  longer_integer = λ s. let e : 0x00 ∷ [] ≡ [] = (one_value (pos 5) s.0 (0x00 ∷ []) (integer_again s.0 (0x05 ∷ 0x00 ∷ []) [] s.1)).1 in absurd cc;
  not_utf8 = λ s. let e : None ≡ Some (s.0, []) = text_again s.0 (0xa1 ∷ 0xc3 ∷ []) [] s.1 in absurd cc;
  cut_text = λ s. let e : None ≡ Some (s.0, []) = text_again s.0 (0xa2 ∷ 0x6c ∷ []) [] s.1 in absurd cc;
  longer_text = λ s. let e : 0x73 ∷ [] ≡ [] = (one_value (0x6c ∷ []) s.0 (0x73 ∷ []) (text_again s.0 (0xa1 ∷ 0x6c ∷ 0x73 ∷ []) [] s.1)).1 in absurd cc;
  fixstr_passed = λ s. let e : None ≡ Some (s.0, []) = text_again s.0 (0xc0 ∷ replicate 32 0x6c) [] s.1 in absurd cc;
  text = λ s. let e : None ≡ Some (s.0, []) = array_again s.0 (0xa0 ∷ []) [] s.1 in absurd cc;
  cut_array = λ s. let e : None ≡ Some (s.0, []) = array_again s.0 (0xdc ∷ 0x03 ∷ []) [] s.1 in absurd cc;
}

-- ---- frames

pub frames_worked : WorkedFrames
frames_worked = record {
  framed = refl;
  one_behind_the_other = refl;
  named = refl;
  within_length = inl (omega arith);
  within_payload = inr (omega arith);
  empty_payload = λ n. elim n [
    | inl h ↦ omega (arith, h)
    | inr h ↦ omega (arith, h)
  ];
  whole = λ n. elim n [
    | inl h ↦ omega (arith, h)
    | inr h ↦ omega (arith, h)
  ];
  more_than_whole = λ n. elim n [
    | inl h ↦ omega (arith, h)
    | inr h ↦ omega (arith, h)
  ];
  one_byte = record { some = λ e. cc; cut = inl (omega arith); short = λ h. absurd (omega (arith, h)) };
  longest = record { some = λ e. cc; cut = inr (omega arith); short = λ h. omega arith };
  no_part = λ c. c.some refl;
  no_cut_above = λ c. let h = c.short (omega arith) in omega (arith, h);
  no_cut_of_whole = λ c. elim c.cut [
    | inl h ↦ omega (arith, h)
    | inr h ↦ omega (arith, h)
  ];
  above = record { head = omega arith; long = omega arith };
  not_above = λ l. let h = l.long in omega (arith, h);
  three_bytes = λ l. let h = l.head in omega (arith, h);
}

abbrev IsReadLength : List ℕ → Type 0
IsReadLength payload = length payload ≤ most_payload_bytes

no_payloads : All IsReadLength []
no_payloads = All-nil IsReadLength

one_payload : (payload : List ℕ) → length payload ≤ most_payload_bytes → All IsReadLength (payload ∷ [])
one_payload payload le = All-cons IsReadLength payload [] le no_payloads

seven : All IsReadLength ((7 ∷ []) ∷ [])
seven = one_payload (7 ∷ []) (omega arith)

a_part : CutFrame (0 ∷ [])
a_part = record { some = λ e. cc; cut = inl (omega arith); short = λ h. absurd (omega (arith, h)) }

too_long : LongFrame (0x00 ∷ 0x10 ∷ 0x00 ∷ 0x01 ∷ [])
too_long = record { head = omega arith; long = omega arith }

pub streams : WorkedStreams
streams = record {
  nothing = record { rest = []; short = no_payloads; are = refl; ends = refl };
  one = record { rest = []; short = seven; are = refl; ends = refl };
  one_and_part = record { rest = 0 ∷ []; short = seven; are = refl; ends = a_part };
  one_and_long = record { rest = 0x00 ∷ 0x10 ∷ 0x00 ∷ 0x01 ∷ []; short = seven; are = refl; ends = too_long };
  not_whole = λ s. let e : 0 ∷ 0 ∷ 0 ∷ 1 ∷ 7 ∷ 0 ∷ [] ≡ 0 ∷ 0 ∷ 0 ∷ 1 ∷ 7 ∷ [] = s.are ∙ ap (λ (rest : List ℕ). 0 ∷ 0 ∷ 0 ∷ 1 ∷ 7 ∷ rest) s.ends in cc;
  not_cut = λ s. let c : CutFrame (0 ∷ 0 ∷ 0 ∷ 1 ∷ 7 ∷ []) = subst CutFrame (sym s.are) s.ends in elim c.cut [
    | inl h ↦ omega (arith, h)
    | inr h ↦ omega (arith, h)
  ];
  longest = λ payload is. record { rest = []; short = one_payload payload (omega (arith, is)); are = sym (append-nil (frame payload ++ []) ∙ append-nil (frame payload)); ends = refl };
  above = λ payload is s. let le : length payload ≤ most_payload_bytes = All-head IsReadLength payload [] s.short in omega (arith, is, le);
  as_many = record { short = seven; few = omega arith; ends = inl refl };
  fewer = record { short = seven; few = omega arith; ends = inr (inl refl) };
  fewer_and_part = record { short = seven; few = omega arith; ends = inr (inr (inl a_part)) };
  fewer_and_long = record { short = seven; few = omega arith; ends = inr (inr (inr too_long)) };
  one_left = λ c. elim c.ends [
    | inl h ↦ omega (arith, h)
    | inr (inl none) ↦ cc
    | inr (inr (inl part)) ↦ elim part.cut [
      | inl h ↦ omega (arith, h)
      | inr h ↦ omega (arith, h)
    ]
    | inr (inr (inr long)) ↦ let h = long.long in omega (arith, h)
  ];
  too_many = λ c. let h = c.few in omega (arith, h);
  too_long = λ payload is c. let le : length payload ≤ most_payload_bytes = All-head IsReadLength payload [] c.short in omega (arith, is, le);
}

-- ---- ids

pub ids : WorkedIds
unfolding id_text
ids = record { made = refl; of_ones = refl; early = refl; printed = refl; ten = refl }

-- ---- commands

pub journals : WorkedCommands
unfolding IsDistinct
journals = record { kept = refl; own_ids = ((refl, tt), (tt, tt)); one_id_twice = λ own. let e : true ≡ false = own.0.1.0 in absurd cc }

-- ---- searches

pub matches : WorkedMatches
matches = record {
  folded = refl;
  exact = refl;
  prefix = refl;
  capital = refl;
  not_at_front = refl;
  at_front = refl;
  within = refl;
  at_end = refl;
  apart = refl;
  folded_within = refl;
  longer = refl;
  nothing_asked = refl;
  of_nothing = refl;
  accent = refl;
  newer = refl;
  older = refl;
  lesser_id = refl;
  greater_id = refl;
  itself = refl;
  bytes = refl;
  authored_bytes = refl;
}

-- the three, newest first
abbrev newest_first : List HistoryRecord
newest_first = hit_at 1 30 (codes "ls -a") ∷ hit_at 2 30 (codes "LS -l") ∷ hit_at 4 10 (codes "ls") ∷ []

turned : IsPermutation three_ended newest_first
turned = record { moves = (0, 2) ∷ []; below = (omega arith, omega arith, tt); is = refl }

newest_sorted : IsSortedBy is_shown_before newest_first
newest_sorted zero d low high = refl
newest_sorted (suc zero) d low high = refl
newest_sorted (suc (suc k)) d low high = absurd (omega arith)

pub searches : WorkedSearches
searches = record {
  two = record { rest = pwd_ended ∷ []; begins = refl; fits = (omega arith, inr (omega arith)); most = λ next others e more. let many = more.0 in omega (arith, many) };
  not_one = λ p.
      let rest : ls_ended ∷ pwd_ended ∷ [] ≡ p.rest = let f = p.begins in cc in
      p.most ls_ended (pwd_ended ∷ []) (sym rest) (omega arith, inr (omega arith));
  not_three = λ p. let many = p.fits.0 in omega (arith, many);
  not_the_last = λ p. let f : pwd_ended ∷ ls_ended ∷ [] ≡ ls_ended ∷ p.rest = p.begins in let same : pwd_ended ≡ ls_ended = cc in let id : 7 ≡ first_id = ap (λ (h : HistoryRecord). h.id) same in omega (arith, id);
  just_fits = λ h is. (omega arith, inr (omega (arith, is)));
  too_heavy = λ h is fits. elim fits.1 [
    | inl one ↦ omega (arith, one)
    | inr light ↦ omega (arith, is, light)
  ];
  single = λ h is. record {
    rest = ls_ended ∷ [];
    begins = refl;
    fits = (omega arith, inl (omega arith));
    most = λ next others e more. elim more.1 [
      | inl one ↦ omega (arith, one)
      | inr light ↦ omega (arith, is, light)
    ];
  };
  none_allowed = λ fits. let h = fits.0 in omega (arith, h);
  answer = record { in_order = newest_first; all = turned; sorted = newest_sorted; cut = whole_page hit_bytes 10 newest_first (omega arith, inr (omega arith)) };
  without_first = record { in_order = newest_first; all = turned; sorted = newest_sorted; cut = whole_page hit_bytes 10 (hit_at 2 30 (codes "LS -l") ∷ hit_at 4 10 (codes "ls") ∷ []) (omega arith, inr (omega arith)) };
  first_alone = record { in_order = newest_first; all = turned; sorted = newest_sorted; cut = record { rest = hit_at 2 30 (codes "LS -l") ∷ hit_at 4 10 (codes "ls") ∷ []; begins = refl; fits = (omega arith, inl (omega arith)); most = λ next others e more. let many = more.0 in omega (arith, many) } };
  behind_the_last = record { in_order = newest_first; all = turned; sorted = newest_sorted; cut = whole_page hit_bytes 10 [] (omega arith, inl (omega arith)) };
}

-- ---- replies

pub replies_worked : WorkedReplies
unfolding id_text
replies_worked = record {
  of_start = refl;
  of_end = refl;
  of_later_end = refl;
  of_search = refl;
  of_authored = refl;
  of_no_hits = refl;
  of_unknown_id = refl;
  of_random_fault = refl;
  of_taken_id = refl;
  of_no_memory = refl;
  of_bad_request = refl;
}

-- ---- what is used

pub runs : WorkedUses
runs = record {
  together = refl;
  fits = (All-cons (λ (now : ℕ). now < 18446744073709551616) 18446744073709551615 [] (omega arith) (All-nil (λ (now : ℕ). now < 18446744073709551616)), are_bytes (255 ∷ []) refl);
  time_above = λ fits. let h : 18446744073709551616 < 18446744073709551616 = All-head (λ (now : ℕ). now < 18446744073709551616) 18446744073709551616 [] fits.0 in omega (arith, h);
  no_byte = λ fits. let h : 256 < 256 = fits.1 0 in omega (arith, h);
}
