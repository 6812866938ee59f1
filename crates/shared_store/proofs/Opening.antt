-- By whose calls the entries of a store came.
use Rattle.std.proofs.Common.{◌≡◌, List, [], ◌∷◌, map, sym, ◌∙◌, ap, subst}
use Rattle.std.specs.Prelude.{All}
use Rattle.std.specs.List.{AllByRecursion}
use Rattle.std.proofs.lemmas.List.Elements.{All-from_recursion, recursion_from_All}
use Rattle.record_rules.specs.Records.{Entry}
use Rattle.chain_index.specs.Meaning.{Filed, journal_of}
use Rattle.store_tables.specs.Entries.{EntryPlace, place_of}
use Rattle.store_core.specs.Store.{StoreSeen, IsStoreOf}
use Rattle.told_store.specs.Told.{ToldSeen, IsTold}
use Rattle.shared_store.specs.Books.{IsOfNobody, book_of}

-- the entry came by nobody's call
abbrev ByNobody : Entry → Type 0
ByNobody entry = entry.caller.number ≡ 0

-- entries at the same places came by the same callers
same_callers : (one other : List Filed) → map place_of one ≡ map place_of other → AllByRecursion ByNobody (journal_of one) → AllByRecursion ByNobody (journal_of other)
same_callers [] [] places all = tt
same_callers (f ∷ one) (g ∷ other) places all =
    let here : place_of f ≡ place_of g = cc in
    let rest : map place_of one ≡ map place_of other = cc in
    (sym (ap (λ (p : EntryPlace). p.caller.number) here) ∙ all.0, same_callers one other rest all.1)
same_callers [] (g ∷ other) places all = absurd cc
same_callers (f ∷ one) [] places all = absurd cc

-- where each entry of one journal of a store came by nobody's call, each of any other one did
nobody_in : (store : StoreSeen) (journal doubt other others : List Entry) → IsStoreOf store journal doubt → IsStoreOf store other others → All ByNobody journal → All ByNobody other
nobody_in store journal doubt other others one two nobody =
    let places : map place_of one.filed ≡ map place_of two.filed = sym one.tables.entries.places ∙ two.tables.entries.places in
    subst (All ByNobody) (sym two.journal_is) (All-from_recursion ByNobody (journal_of two.filed) (same_callers one.filed two.filed places (recursion_from_All ByNobody (journal_of one.filed) (subst (All ByNobody) one.journal_is nobody))))

-- so the book of what is noted of it may be shared
pub of_nobody : (store : StoreSeen) (told : ToldSeen) → told.store ≡ store → IsOfNobody store → IsTold told.store told.note → All ByNobody (book_of told).entries
of_nobody store told same nobody is =
    nobody_in told.store nobody.journal nobody.doubt told.note.state.entries told.note.state.doubt (subst (λ (s : StoreSeen). IsStoreOf s nobody.journal nobody.doubt) (sym same) nobody.is) is.is nobody.nobody
