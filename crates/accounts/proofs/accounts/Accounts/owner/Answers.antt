use Rattle.std.proofs.Common.{List, ap, ◌∙◌}
use Rattle.accounts.specs.Accounts.{AccountSeen, owner_of}
use Rattle.accounts.proofs.Owners.{owner_in_slice}
use Rattle.accounts.proofs.accounts.Accounts.owner.Goals as goal

pub returns : goal.returns
returns c =
    c.owner_among.ensures ∙ owner_in_slice c.args.token.now c.as_slice.result.now c.self.inside.listed.items c.as_slice.ensures.value
    ∙ ap (λ (seen : List AccountSeen). owner_of seen c.args.token.now) c.self.view_is
