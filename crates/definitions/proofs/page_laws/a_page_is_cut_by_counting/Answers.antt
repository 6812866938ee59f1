use Rattle.definitions.proofs.Pages.{page_goes_on, page_stops, page_ends}
use Rattle.definitions.proofs.Search.{IsPage-one}
use Rattle.definitions.proofs.page_laws.a_page_is_cut_by_counting.Goals as goal

pub returns-clause-goes_on : goal.returns-clause-goes_on
returns-clause-goes_on g c = page_goes_on

pub returns-clause-stops : goal.returns-clause-stops
returns-clause-stops g c = page_stops

pub returns-clause-ends : goal.returns-clause-ends
returns-clause-ends g c = page_ends

pub returns-clause-one : goal.returns-clause-one
returns-clause-one g c = IsPage-one
