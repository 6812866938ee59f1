-- What the exchanges of a link in memory show of what was given and taken.
use Rattle.std.proofs.Common.{◌≡◌, ℕ, ◌+◌, ◌≤◌, Bool, true, false, List, [], ◌∷◌, length, map, reverse, take, drop, refl, sym, ◌∙◌, ap, subst, Some}
use Rattle.std.proofs.lemmas.List.{append-nil}
use Rattle.std.proofs.Math.Seq.{take-length}
use Rattle.at_edge.specs.Taking.{SourceSeen, Gave}
use Rattle.at_edge.specs.Writing.{SinkSeen, Holds}
use Rattle.at_edge.specs.Linking.{LinkSeen, both_ways, response_side, request_side}
use Rattle.at_edge.specs.Exchanging.{exchange_of, left_of, begun_of}
use Rattle.at_edge.specs.declared.exchanges.KeptExchange.{KeptExchange}
use Rattle.at_edge.proofs.SupplyLaws.{Gave-front}

abbrev pub kept_of : Bool → KeptExchange → List KeptExchange → ℕ → LinkSeen
kept_of under current earlier faults = record { left = Some (left_of under current); exchanges = Some (begun_of under current earlier); faults = faults }

-- the next bytes of the response were given
pub gave_on : (under : Bool) (current now : KeptExchange) (earlier : List KeptExchange) (into : List ℕ) (n before after : ℕ) → under ≡ true → now.request.items ≡ current.request.items
    → now.response.bytes.items ≡ current.response.bytes.items → now.response.at ≡ current.response.at + n → take n into ≡ take n (drop current.response.at current.response.bytes.items) → before ≤ after
    → Gave (response_side (kept_of under current earlier before)) (response_side (kept_of under now earlier after)) (take n into)
gave_on true current now earlier into n before after is same bytes at copied kept =
    let g = Gave-front current.response.bytes.items now.response.bytes.items into current.response.at now.response.at n before after bytes at copied kept in
    record { left = g.left; gave = g.gave; beside = ap (λ (r : List ℕ). (r ∷ both_ways (reverse (map exchange_of earlier)), 0)) same; faults = kept }
gave_on false current now earlier into n before after is same bytes at copied kept = absurd (no is)
  where
    no : ◌≡◌ {A = Bool} false true → ⊥
    no e = cc

-- nothing was taken
pub took_none : (under : Bool) (current now : KeptExchange) (earlier : List KeptExchange) (before after : ℕ) → now.request.items ≡ current.request.items
    → take now.response.at now.response.bytes.items ≡ take current.response.at current.response.bytes.items → before ≤ after
    → Holds (request_side (kept_of under current earlier before)) (request_side (kept_of under now earlier after)) []
took_none true current now earlier before after same response kept = record {
  held = same ∙ sym (append-nil current.request.items);
  beside = ap (λ (r : List ℕ). (r ∷ both_ways (reverse (map exchange_of earlier)), 0)) response;
  faults = kept;
}
took_none false current now earlier before after same response kept = record { held = refl; beside = refl; faults = kept }

pub took_all : (old new : SinkSeen) (bytes : List ℕ) → Holds old new bytes → Holds old new (take (length bytes) bytes)
took_all old new bytes holds = subst (λ (l : List ℕ). Holds old new l) (sym (take-length bytes)) holds

pub gave_none : (old new : SourceSeen) (into : List ℕ) (n : ℕ) → n ≡ 0 → Gave old new (take n into) → Gave old new []
gave_none old new into n none gave = subst (λ (k : ℕ). Gave old new (take k into)) none gave

pub none_left : (left : List ℕ) → Some left ≡ Some [] → left ≡ []
none_left left e = cc
