use Rattle.definitions.proofs.Pages.{longest_within-longest}
use Rattle.definitions.proofs.page_laws.a_prefix_within_a_weight_is_the_longest.Goals as goal

pub returns : goal.returns
returns g c = longest_within-longest
