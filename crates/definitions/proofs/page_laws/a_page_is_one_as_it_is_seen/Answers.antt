use Rattle.definitions.proofs.Pages.{IsPage-seen}
use Rattle.definitions.proofs.page_laws.a_page_is_one_as_it_is_seen.Goals as goal

pub returns : goal.returns
returns g c = IsPage-seen
