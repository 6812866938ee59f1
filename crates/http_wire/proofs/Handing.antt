-- Writes that follow one another.
use Rattle.std.proofs.Common.{◌≡◌, ℕ, ◌+◌, List, [], ◌++◌, length, take, Result, Bool, true, false, Ok, Err, sym, ap, subst, ◌∙◌, arith, append_assoc, append-nil}
use Rattle.std.proofs.lemmas.List.{length-append, take-append-le}
use Rattle.std.proofs.Math.Seq.{take-append-add}
use Rattle.at_edge.specs.Writing.{SinkSeen, Holds, Stopped, WritesAll}
use Rattle.at_edge.proofs.SinkLaws.{Holds-nothing, Holds-then}
use Rattle.std.specs.Bool.{MatchBool}
use Rattle.http_wire.specs.Gathering.{Handed, Hands}
use Rattle.http_wire.specs.Pieces.{IsAt}
use Rattle.http_wire.specs.declared.pieces.Pieces.{Pieces}

stops_then : (a b c : SinkSeen) (xs ys : List ℕ) (n : ℕ) → Holds a b xs → Stopped b c ys n → Stopped a c (xs ++ ys) (length xs + n)
stops_then a b c xs ys n first stopped = record {
  short = let short = stopped.short in let both = length-append xs ys in omega (arith, short, both);
  taken = subst (λ (bytes : List ℕ). Holds a c bytes) (sym (take-append-add xs ys n)) (Holds-then a b c xs (take n ys) first stopped.taken);
  faults = let rose = stopped.faults in let before = first.faults in omega (arith, rose, before);
}

pub writes_then : {T E : Type 0} (a b c : SinkSeen) (r : Result T E) (xs ys : List ℕ) → Holds a b xs → WritesAll b c r ys → WritesAll a c r (xs ++ ys)
writes_then a b c (Ok x) xs ys first then = Holds-then a b c xs ys first then
writes_then a b c (Err e) xs ys first then = (length xs + then.0, stops_then a b c xs ys then.0 first then.1)

-- what was held back is written, and then the piece
pub hands_behind : {T E : Type 0} (a b c : SinkSeen) (r : Result T E) (kept held piece written : List ℕ) → written ≡ kept → Holds a b written → WritesAll b c r piece → held ≡ [] → Hands a c r kept held piece
hands_behind {T} {E} a b c r kept held piece written same first then none = by r (subst (λ (l : List ℕ). Holds a b l) same first) then
  where
    by : (r : Result T E) → Holds a b kept → WritesAll b c r piece → Hands a c r kept held piece
    by (Ok x) first then = record {
      taken = kept ++ piece;
      holds = Holds-then a b c kept piece first then;
      owed = subst (λ (l : List ℕ). (kept ++ piece) ++ l ≡ kept ++ piece) (sym none) (append-nil (kept ++ piece));
    }
    by (Err e) first then = (length kept + then.0, stops_then a b c kept piece then.0 first then.1)

-- and so all of it
pub hands_all : {T E : Type 0} (a b c : SinkSeen) (r : Result T E) (kept held piece written : List ℕ) → written ≡ held → Handed a b kept held piece → WritesAll b c r written → WritesAll a c r (kept ++ piece)
hands_all a b c r kept held piece written same handed then =
    subst (λ (bytes : List ℕ). WritesAll a c r bytes) handed.owed (writes_then a b c r handed.taken held handed.holds (subst (λ (bytes : List ℕ). WritesAll b c r bytes) same then))

-- ---- pieces

pub begins : (first : SinkSeen) (held : List ℕ) → held ≡ [] → Handed first first [] held []
begins first held none = record { taken = []; holds = Holds-nothing first; owed = none }

-- a piece behind a text of which all is taken or held back
pub hands_more : {T E : Type 0} (first a b : SinkSeen) (r : Result T E) (kept held text piece : List ℕ) → Handed first a [] kept text → Hands a b r kept held piece → Hands first b r [] held (text ++ piece)
hands_more first a b (Ok x) kept held text piece so_far then = record {
  taken = so_far.taken ++ then.taken;
  holds = Holds-then first a b so_far.taken then.taken so_far.holds then.holds;
  owed = append_assoc so_far.taken then.taken held ∙ ap (λ (l : List ℕ). so_far.taken ++ l) then.owed ∙ sym (append_assoc so_far.taken kept piece) ∙ ap (λ (l : List ℕ). l ++ piece) so_far.owed;
}
hands_more first a b (Err e) kept held text piece so_far then =
    let same : so_far.taken ++ (kept ++ piece) ≡ text ++ piece = sym (append_assoc so_far.taken kept piece) ∙ ap (λ (l : List ℕ). l ++ piece) so_far.owed in
    (length so_far.taken + then.0, subst (λ (l : List ℕ). Stopped first b l (length so_far.taken + then.0)) same (stops_then first a b so_far.taken (kept ++ piece) then.0 so_far.holds then.1))

-- and behind one that failed
pub stops_before : (first now : SinkSeen) (text piece : List ℕ) → (n : ℕ) × Stopped first now text n → (n : ℕ) × Stopped first now (text ++ piece) n
stops_before first now text piece failed = (
  failed.0,
  record {
    short = let short = failed.1.short in let both = length-append text piece in omega (arith, short, both);
    taken = subst (λ (l : List ℕ). Holds first now l) (sym (take-append-le failed.0 text piece (let short = failed.1.short in omega (arith, short)))) failed.1.taken;
    faults = failed.1.faults;
  },
)

-- ---- a text of pieces

-- no write has failed
handed_so_far : (first now : SinkSeen) (p : Pieces) (text : List ℕ) → p.failed ≡ false → IsAt first now p text → Handed first now [] p.held.items text
handed_so_far first now p text good at = by p.failed good at
  where
    by : (b : Bool) → b ≡ false → MatchBool b ((n : ℕ) × Stopped first now text n) (Handed first now [] p.held.items text) → Handed first now [] p.held.items text
    by true e at = cc
    by false e at = at

pub is_at : (first now : SinkSeen) (held text : List ℕ) (failed : Bool) → failed ≡ false → Handed first now [] held text → MatchBool failed ((n : ℕ) × Stopped first now text n) (Handed first now [] held text)
is_at first now held text true e handed = cc
is_at first now held text false e handed = handed

pub piece_taken : {T E : Type 0} (first a b : SinkSeen) (p : Pieces) (r : Result T E) (x : T) (held text piece : List ℕ) → p.failed ≡ false → IsAt first a p text → r ≡ Ok x → Hands a b r p.held.items held piece
    → MatchBool p.failed ((n : ℕ) × Stopped first b (text ++ piece) n) (Handed first b [] held (text ++ piece))
piece_taken {T} {E} first a b p r x held text piece good at is then =
    is_at first b held (text ++ piece) p.failed good
    (hands_more {E = E} first a b (Ok x) p.held.items held text piece (handed_so_far first a p text good at) (subst (λ (o : Result T E). Hands a b o p.held.items held piece) is then))

pub piece_stopped : {T E : Type 0} (first a b : SinkSeen) (p : Pieces) (r : Result T E) (x : E) (held text piece : List ℕ) → p.failed ≡ false → IsAt first a p text → r ≡ Err x → Hands a b r p.held.items held piece
    → (n : ℕ) × Stopped first b (text ++ piece) n
piece_stopped {T} {E} first a b p r x held text piece good at is then =
    hands_more {T = T} first a b (Err x) p.held.items held text piece (handed_so_far first a p text good at) (subst (λ (o : Result T E). Hands a b o p.held.items held piece) is then)

pub ends : {T E : Type 0} (first a b : SinkSeen) (p : Pieces) (r : Result T E) (text written : List ℕ) → p.failed ≡ false → IsAt first a p text → written ≡ p.held.items → WritesAll a b r written → WritesAll first b r text
ends first a b p r text written good at same then = hands_all first a b r [] p.held.items text written same (handed_so_far first a p text good at) then
