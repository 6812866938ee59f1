-- A session, turn by turn.
use Rattle.std.proofs.Common.{◌≡◌, ℕ, ◌+◌, ◌*◌, ◌<◌, ◌≤◌, true, List, [], ◌∷◌, ◌++◌, length, map, take, Result, Ok, Err, refl, sym, ap, subst, ◌∙◌, append-nil, arith}
use Rattle.std.specs.List.{All}
use Rattle.std.specs.Int.{w32, to_be_bytes}
use Rattle.std.proofs.lemmas.List.{length-append, map-append}
use Rattle.std.proofs.lemmas.List.Elements.{All-push, All-nil}
use Rattle.definitions.specs.Limits.{most_payload_bytes}
use Rattle.definitions.specs.Frames.{frame, frames}
use Rattle.definitions.specs.Uses.{Used, used_nothing, then_used}
use Rattle.definitions.proofs.Frames.{frames-more}
use Rattle.definitions.proofs.Counts.{Rose-later}
use Rattle.step_rules.specs.Answers.{Reply}
use Rattle.session_rules.specs.Sessions.{Asked, SessionRequest, SessionReply, numbered_from, call_reply, Session}
use Rattle.session_rules.specs.Reading.{ReadsEach}
use Rattle.session_rules.specs.Bytes.{reply_bytes}
use Rattle.session_rules.proofs.Sessions.{session_begins}
use Rattle.at_edge.specs.Taking.{Gave}
use Rattle.at_edge.specs.Writing.{SinkSeen, Holds, Stopped}
use Rattle.at_edge.specs.declared.ending.Served.{Served}
use Rattle.at_edge.specs.declared.ending.SessionFail.{SessionFail}
use Rattle.at_edge.specs.declared.ending.SessionFail.TheVariants as fails
use Rattle.at_edge.proofs.SourceLaws.{Gave-nothing, Gave-then}
use Rattle.at_edge.proofs.SinkLaws.{Holds-nothing, Holds-then}
use Rattle.session_seats.specs.Stores.{StoreFixed, StoreSeen, TurnsTold, RunsAlone}
use Rattle.call_supplies.specs.Supplies.{Supplies, Uses}
use Rattle.session_seats.specs.Sessions.{most_requests, reply_frame, reply_frames, Pipe, Stands, Ends, SeatServes}
use Rattle.session_seats.specs.Turns.{Answered, Unanswered, TakesTurn}
use Rattle.session_seats.specs.declared.session.Turn.TheVariants as turns
use Rattle.session_seats.proofs.SupplyLaws.{Uses-nothing, Uses-then}
use Rattle.session_seats.proofs.StoreLaws.{asked_more, reads_more, reads_many, replies_more, session_more, runs_nothing, runs_more, turns_nothing, turns_more}
use Rattle.session_seats.proofs.FrameParts.{long_head, named_of_head}

-- the requests that were read and answered so far
pub record Replied (requests at : ℕ) (first store : StoreSeen) (before now : Supplies) (old pipe : Pipe) : Type 0 where
  pub payloads : List (List ℕ)
  pub asked : List Asked
  pub used : Used
  pub replies : List Reply
  pub short : All (λ (payload : List ℕ). length payload ≤ most_payload_bytes) payloads
  pub reads : ReadsEach payloads asked
  pub session : Session first.fixed.keyed first.state.entries first.fixed.number (numbered_from 1 asked) used (map call_reply replies) store.state.entries
  pub alone : first.fixed.alone ≡ true → RunsAlone first store (numbered_from 1 asked) used (map call_reply replies)
  pub turns : TurnsTold first.turns (map call_reply replies) store.turns
  pub fixed : store.fixed ≡ first.fixed
  pub uses : Uses before now used
  pub taken : Gave old.source pipe.source (frames payloads)
  pub count : length payloads ≡ requests
  pub at_is : at ≡ length (frames payloads)
  pub bounded : at ≤ requests * (4 + most_payload_bytes)

-- their replies were written
pub record SoFar (requests at : ℕ) (first store : StoreSeen) (before now : Supplies) (old pipe : Pipe) : Type 0 where
  pub replied : Replied requests at first store before now old pipe
  pub written : Holds old.sink pipe.sink (reply_frames replied.replies)

frames_of_more : (replies : List Reply) (reply : Reply) → reply_frames (replies ++ reply ∷ []) ≡ reply_frames replies ++ reply_frame reply
frames_of_more replies reply = ap frames (map-append reply_bytes replies (reply ∷ [])) ∙ frames-more (map reply_bytes replies) (reply_bytes reply)

module _ (first : StoreSeen) (before : Supplies) (old : Pipe) where
  replied_nothing : Replied 0 0 first first before before old old
  replied_nothing = record {
    payloads = [];
    asked = [];
    used = used_nothing;
    replies = [];
    short = All-nil (λ (payload : List ℕ). length payload ≤ most_payload_bytes);
    reads = tt;
    session = session_begins first.fixed.keyed first.state.entries first.fixed.number;
    alone = λ _. runs_nothing first;
    turns = turns_nothing first.turns;
    fixed = refl;
    uses = Uses-nothing before;
    taken = Gave-nothing old.source;
    count = refl;
    at_is = refl;
    bounded = omega arith;
  }

  pub serves_nothing : SoFar 0 0 first first before before old old
  unfolding replied_nothing
  serves_nothing = record { replied = replied_nothing; written = Holds-nothing old.sink }

  -- a session that ends here
  ends_with : (requests at : ℕ) (store : StoreSeen) (now : Supplies) (pipe new : Pipe) (r : Replied requests at first store before now old pipe) (outcome : Result Served SessionFail)
      → Ends outcome r.payloads r.replies old new → SeatServes outcome first store before now old new
  ends_with requests at store now pipe new r outcome ends = record {
    payloads = r.payloads;
    asked = r.asked;
    used = r.used;
    replies = r.replies;
    short = r.short;
    reads = r.reads;
    session = r.session;
    alone = r.alone;
    turns = r.turns;
    fixed = r.fixed;
    uses = r.uses;
    ends = ends;
  }

  -- the session ends before it begins
  pub ends_short : SeatServes (Err fails.NoMemory) first first before before old old
  unfolding replied_nothing
  ends_short = ends_with 0 0 first before old old replied_nothing (Err fails.NoMemory) (record { taken = Gave-nothing old.source; written = Holds-nothing old.sink }, refl)

  module _ (requests at : ℕ) (store : StoreSeen) (now : Supplies) (pipe : Pipe) (so_far : SoFar requests at first store before now old pipe) where
    module _ (payload : List ℕ) (reply : Reply) (store_new : StoreSeen) (after : Supplies) (new : Pipe) (turn : Answered (requests + 1) payload reply store store_new now after pipe new) where
      -- one request more
      replied_more : (n : ℕ) → length payload ≡ n → Replied (requests + 1) (at + (4 + n)) first store_new before after old new
      replied_more n len =
          let r = so_far.replied in
          let a = turn.answer in
          let many : length r.asked ≡ requests = reads_many r.payloads r.asked r.reads ∙ r.count in
          let asked : numbered_from 1 r.asked ++ record { call = requests + 1; asked = a.asked } ∷ [] ≡ numbered_from 1 (r.asked ++ a.asked ∷ []) = asked_more r.asked a.asked requests many in
          let replies : map call_reply r.replies ++ call_reply reply ∷ [] ≡ map call_reply (r.replies ++ reply ∷ []) = replies_more r.replies reply in
          let session : Session store.fixed.keyed first.state.entries store.fixed.number (numbered_from 1 r.asked ++ record { call = requests + 1; asked = a.asked } ∷ []) (then_used r.used a.used) (map call_reply r.replies ++ call_reply reply ∷ []) store_new.state.entries =
          session_more first.state.entries (numbered_from 1 r.asked) r.used (map call_reply r.replies) store store_new (requests + 1) a.asked a.used reply
          (subst (λ (f : StoreFixed). Session f.keyed first.state.entries f.number (numbered_from 1 r.asked) r.used (map call_reply r.replies) store.state.entries) (sym r.fixed) r.session) a.turn in
          record {
            payloads = r.payloads ++ payload ∷ [];
            asked = r.asked ++ a.asked ∷ [];
            used = then_used r.used a.used;
            replies = r.replies ++ reply ∷ [];
            short = All-push (λ (payload : List ℕ). length payload ≤ most_payload_bytes) r.payloads payload r.short turn.short;
            reads = reads_more r.payloads r.asked payload a.asked r.reads a.reads;
            session = subst (λ (rs : List SessionReply). Session first.fixed.keyed first.state.entries first.fixed.number (numbered_from 1 (r.asked ++ a.asked ∷ [])) (then_used r.used a.used) rs store_new.state.entries) replies
                (subst (λ (qs : List SessionRequest). Session first.fixed.keyed first.state.entries first.fixed.number qs (then_used r.used a.used) (map call_reply r.replies ++ call_reply reply ∷ []) store_new.state.entries) asked
                (subst (λ (f : StoreFixed). Session f.keyed first.state.entries f.number (numbered_from 1 r.asked ++ record { call = requests + 1; asked = a.asked } ∷ []) (then_used r.used a.used) (map call_reply r.replies ++ call_reply reply ∷ []) store_new.state.entries) r.fixed session));
            alone = λ lone.
                subst (λ (rs : List SessionReply). RunsAlone first store_new (numbered_from 1 (r.asked ++ a.asked ∷ [])) (then_used r.used a.used) rs) replies
                (subst (λ (qs : List SessionRequest). RunsAlone first store_new qs (then_used r.used a.used) (map call_reply r.replies ++ call_reply reply ∷ [])) asked
                (runs_more first store store_new (numbered_from 1 r.asked) r.used (map call_reply r.replies) (requests + 1) a.asked a.used reply (sym r.fixed) (ap (λ (f : StoreFixed). f.alone) r.fixed ∙ lone) (r.alone lone) a.turn));
            turns = subst (λ (rs : List SessionReply). TurnsTold first.turns rs store_new.turns) replies (turns_more first.turns (map call_reply r.replies) store store_new (requests + 1) a.asked a.used reply r.turns a.turn);
            fixed = a.turn.turn.fixed ∙ r.fixed;
            uses = Uses-then before now after r.used a.used r.uses a.uses;
            taken = subst (λ (bytes : List ℕ). Gave old.source new.source bytes) (sym (frames-more r.payloads payload)) (Gave-then old.source pipe.source new.source (frames r.payloads) (frame payload) r.taken turn.taken);
            count = length-append r.payloads (payload ∷ []) ∙ omega (arith, r.count);
            at_is = omega (arith, r.at_is, ap (λ (bytes : List ℕ). length bytes) (frames-more r.payloads payload), length-append (frames r.payloads) (frame payload), len);
            bounded = omega (arith, r.bounded, turn.short, len);
          }

      pub serves_more : (n : ℕ) → length payload ≡ n → Holds pipe.sink new.sink (reply_frame reply) → SoFar (requests + 1) (at + (4 + n)) first store_new before after old new
      unfolding replied_more
      serves_more n len written = record {
        replied = replied_more n len;
        written = subst (λ (bytes : List ℕ). Holds old.sink new.sink bytes) (sym (frames_of_more so_far.replied.replies reply)) (Holds-then old.sink pipe.sink new.sink (reply_frames so_far.replied.replies) (reply_frame reply) so_far.written written);
      }

      -- the session ends at a turn whose reply the sink did not take
      stops_there : (count : ℕ) → Stopped pipe.sink new.sink (reply_frame reply) count → requests < most_requests → SeatServes (Err fails.SinkFault) first store_new before after old new
      unfolding replied_more
      stops_there count stopped few =
          let r = replied_more (length payload) refl in
          ends_with (requests + 1) (at + (4 + length payload)) store_new after new new r (Err fails.SinkFault) (
            record {
              earlier = so_far.replied.replies;
              last = reply;
              replies_are = refl;
              count = count;
              short = stopped.short;
              taken = r.taken;
              written = Holds-then old.sink pipe.sink new.sink (reply_frames so_far.replied.replies) (take count (reply_frame reply)) so_far.written stopped.taken;
              faults = Rose-later old.sink.faults pipe.sink.faults new.sink.faults so_far.written.faults stopped.faults;
            },
            omega (arith, r.count, few),
          )

    -- the session ends at a turn that answered nothing
    ends_there : (outcome : Result Served SessionFail) (part : List ℕ) (store_new : StoreSeen) (after : Supplies) (new : Pipe) → Unanswered part store store_new now after pipe new
        → (Stands so_far.replied.payloads so_far.replied.replies old new part → Ends outcome so_far.replied.payloads so_far.replied.replies old new) → SeatServes outcome first store_new before after old new
    ends_there outcome part store_new after new turn how =
        subst (λ (s : StoreSeen). SeatServes outcome first s before after old new) (sym turn.store)
        (subst (λ (u : Supplies). SeatServes outcome first store before u old new) (sym turn.supplies)
        (ends_with requests at store now pipe new so_far.replied outcome (how (record {
          taken = Gave-then old.source pipe.source new.source (frames so_far.replied.payloads) part so_far.replied.taken turn.taken;
          written = subst (λ (k : SinkSeen). Holds old.sink k (reply_frames so_far.replied.replies)) (sym turn.sink) so_far.written;
        }))))

    -- the session ends with the last turn that it may have
    pub ends_full : requests ≡ most_requests → SeatServes (Err fails.SessionLimit) first store before now old pipe
    ends_full all =
        ends_with requests at store now pipe pipe so_far.replied (Err fails.SessionLimit)
        (record { taken = subst (λ (bytes : List ℕ). Gave old.source pipe.source bytes) (sym (append-nil (frames so_far.replied.payloads))) so_far.replied.taken; written = so_far.written }, so_far.replied.count ∙ all)

    module _ (store_new : StoreSeen) (after : Supplies) (new : Pipe) (few : requests < most_requests) where
      pub ends_at_end : TakesTurn (requests + 1) turns.End store store_new now after pipe new → SeatServes (Ok (record { requests = requests })) first store_new before after old new
      ends_at_end turn = ends_there (Ok (record { requests = requests })) [] store_new after new turn.0 (λ stands. (stands, turn.1, omega (arith, so_far.replied.count, few), sym so_far.replied.count))

      pub ends_cut : TakesTurn (requests + 1) turns.Cut store store_new now after pipe new → SeatServes (Err (fails.CutFrame at)) first store_new before after old new
      ends_cut turn = ends_there (Err (fails.CutFrame at)) turn.0 store_new after new turn.2 (λ stands. (turn.0, turn.1, stands, turn.3, omega (arith, so_far.replied.count, few), so_far.replied.at_is))

      pub ends_long : (named : ℕ) → TakesTurn (requests + 1) (turns.TooLong named) store store_new now after pipe new → SeatServes (Err (fails.FrameTooLong named)) first store_new before after old new
      ends_long named turn =
          ends_there (Err (fails.FrameTooLong named)) (to_be_bytes w32 named) store_new after new turn.0
          (λ stands. (to_be_bytes w32 named, long_head named turn.2 turn.1, refl, named_of_head named turn.2, stands, omega (arith, so_far.replied.count, few)))

      pub ends_failed : TakesTurn (requests + 1) turns.SourceFailed store store_new now after pipe new → SeatServes (Err fails.SourceFault) first store_new before after old new
      ends_failed turn =
          ends_there (Err fails.SourceFault) turn.0 store_new after new turn.2
          (λ stands. (turn.0, turn.1, stands, omega (arith, so_far.replied.count, few), Rose-later old.source.faults pipe.source.faults new.source.faults so_far.replied.taken.faults turn.3))

      pub ends_stopped : TakesTurn (requests + 1) turns.SinkFailed store store_new now after pipe new → SeatServes (Err fails.SinkFault) first store_new before after old new
      ends_stopped turn = stops_there turn.0 turn.1 store_new after new turn.3 turn.2 turn.4 few
