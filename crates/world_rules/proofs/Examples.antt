-- The worked worlds, event by event.
use Rattle.std.proofs.Common.{◌≡◌, ℕ, zero, suc, ◌<◌, inl, inr, List, [], ◌∷◌, ◌++◌, length, Some, None, refl, sym, ◌∙◌, arith}
use Rattle.std.specs.Prelude.{codes}
use Rattle.std.proofs.lemmas.Bool.{true≢false}
use Rattle.std.proofs.lemmas.Option.{none-some, same_Some}
use Rattle.record_rules.specs.Records.{SealedRecord, Entry, Started}
use Rattle.record_rules.specs.Journal.{chain, first_limit_passed, Sound}
use Rattle.record_rules.specs.Growth.{grow, grown}
use Rattle.record_rules.specs.Answers.{page}
use Rattle.record_rules.specs.Examples.{caller, started_ls, entry_of}
use Rattle.record_rules.proofs.Soundness.{empty_sound, Sound-push, local_not_started}
use Rattle.world_rules.specs.World.{host_at, World, empty_world, with_journal, with_page}
use Rattle.world_rules.specs.Examples.{command_record, made_entry, WorkedWorld, WorkedTwins}

-- a record that was made here may follow where it is next and there is room
made_follows : (journal : List Entry) (host idx id : ℕ) → Sound journal host → idx ≡ length (chain journal 0 host (codes "history")) → first_limit_passed journal 0 137 (Some (record { host = host; tag = codes "history" })) ≡ None → Sound (journal ++ made_entry host idx id ∷ []) host
made_follows journal host idx id sound next room = Sound-push journal (made_entry host idx id) host sound (record {
  numbered = next;
  made_here = refl;
  closes_running = λ closed closes. absurd (true≢false (sym closes));
  started_apart = λ k s t at is. absurd (local_not_started None (command_record host idx id) t is);
  event_fits = record { host_name = omega arith; version = omega arith; tag = omega arith; weight = omega arith };
  held_fits = room;
})

first_of : (host id : ℕ) → Sound (made_entry host 0 id ∷ []) host
first_of host id = made_follows [] host 0 id (empty_sound host) refl refl

started : Sound (entry_of (Started (started_ls 7)) ∷ []) 2
started = Sound-push [] (entry_of (Started (started_ls 7))) 2 (empty_sound 2) (record {
  numbered = tt;
  made_here = tt;
  closes_running = λ closed closes. absurd (true≢false (sym closes));
  started_apart = λ k s t at is. absurd (none-some (Started s) at);
  event_fits = record { command = omega arith; cwd = omega arith; session = omega arith; hostname = omega arith };
  held_fits = refl;
})

-- the host of each of three nodes is its number
number_is_host : (node host : ℕ) → host_at (1 ∷ 2 ∷ []) node ≡ Some host → node ≡ host
number_is_host zero host at = same_Some 0 host at
number_is_host (suc zero) host at = same_Some 1 host at
number_is_host (suc (suc zero)) host at = same_Some 2 host at
number_is_host (suc (suc (suc node))) host at = absurd (none-some host at)

-- a world where a page came to a node
abbrev with_page_at : World → ℕ → List SealedRecord → World
with_page_at w node records = with_journal w node (grown (w.journal node) (grow (w.journal node) caller 0 records))

abbrev with_sent : World → (node start : ℕ) → World
with_sent w node start = with_page w (page (w.journal node) 0 1 (codes "history") start 10)

pub worked_world : WorkedWorld
worked_world =
    let first = command_record 1 0 11 in
    let second = command_record 1 1 12 in
    let made = with_journal empty_world 1 (made_entry 1 0 11 ∷ []) in
    let sent = with_sent made 1 0 in
    let made_two = with_journal sent 1 (made_entry 1 0 11 ∷ made_entry 1 1 12 ∷ []) in
    let sent_two = with_sent made_two 1 1 in
    let early = with_page_at sent_two 0 (second ∷ []) in
    let one = with_page_at early 0 (first ∷ []) in
    let two = with_page_at one 0 (second ∷ []) in
    let again = with_page_at two 0 (first ∷ []) in
    let began = with_journal again 2 (entry_of (Started (started_ls 7)) ∷ []) in
    let other = with_journal began 2 (entry_of (Started (started_ls 7)) ∷ made_entry 2 0 21 ∷ []) in
    let sent_both = with_sent other 0 0 in
    let both = with_page_at sent_both 2 (first ∷ second ∷ []) in
    record {
      hosts_differ = λ node other host at at_other. number_is_host node host at ∙ sym (number_is_host other host at_other);
      world = both;
      reached = (made, record { host = 1; after = made_entry 1 0 11 ∷ []; at_host = refl; at_no_server = omega arith; stepped = record { behind = refl; made = (tt, tt); sound = first_of 1 11 }; becomes = refl }, (sent, record { of_host = 1; at_node = refl; becomes = refl }, (made_two, inl (record { host = 1; after = made_entry 1 0 11 ∷ made_entry 1 1 12 ∷ []; at_host = refl; at_no_server = omega arith; stepped = record { behind = refl; made = (tt, tt); sound = made_follows (made_entry 1 0 11 ∷ []) 1 1 12 (first_of 1 11) refl refl }; becomes = refl }), (sent_two, record { of_host = 1; at_node = refl; becomes = refl }, (early, record { of_host = 0; records = second ∷ []; at_node = refl; was_sent = refl; becomes = refl }, (one, record { of_host = 0; records = first ∷ []; at_node = refl; was_sent = refl; becomes = refl }, (two, record { of_host = 0; records = second ∷ []; at_node = refl; was_sent = refl; becomes = refl }, (again, record { of_host = 0; records = first ∷ []; at_node = refl; was_sent = refl; becomes = refl }, (began, record { host = 2; after = entry_of (Started (started_ls 7)) ∷ []; at_host = refl; at_no_server = omega arith; stepped = record { behind = refl; made = (tt, tt); sound = started }; becomes = refl }, (other, record { host = 2; after = entry_of (Started (started_ls 7)) ∷ made_entry 2 0 21 ∷ []; at_host = refl; at_no_server = omega arith; stepped = record { behind = refl; made = (tt, tt); sound = made_follows (entry_of (Started (started_ls 7)) ∷ []) 2 0 21 started refl refl }; becomes = refl }, (other, inr refl, (other, refl, (sent_both, record { of_host = 0; at_node = refl; becomes = refl }, (both, record { of_host = 2; records = first ∷ second ∷ []; at_node = refl; was_sent = refl; becomes = refl }, refl))))))))))))));
      of_server = refl;
      of_first = refl;
      of_second = refl;
      were_sent = refl;
      status_of_server = refl;
      status_of_first = refl;
      lost = (empty_world, inr refl, refl);
      no_server_steps = λ other reach. let above : 0 < 0 = reach.1.at_no_server in absurd (omega (arith, above));
    }

pub worked_twins : WorkedTwins
worked_twins =
    let one = with_journal empty_world 1 (made_entry 1 0 11 ∷ []) in
    let two = with_journal one 2 (made_entry 1 0 12 ∷ []) in
    let sent = with_sent two 1 0 in
    record {
      world = sent;
      reached = (
        one,
        record { host = 1; after = made_entry 1 0 11 ∷ []; at_host = refl; at_no_server = omega arith; stepped = record { behind = refl; made = (tt, tt); sound = first_of 1 11 }; becomes = refl },
        (
          two,
          record { host = 1; after = made_entry 1 0 12 ∷ []; at_host = refl; at_no_server = omega arith; stepped = record { behind = refl; made = (tt, tt); sound = first_of 1 12 }; becomes = refl },
          (sent, record { of_host = 1; at_node = refl; becomes = refl }, refl),
        ),
      );
      was_sent = refl;
      forked = refl;
    }
