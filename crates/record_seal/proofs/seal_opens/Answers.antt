use Rattle.record_seal.proofs.SealedOpens as sealed_opens
use Rattle.record_seal.proofs.seal_opens.Goals as goal

pub returns : goal.returns
returns c = sealed_opens.seal_opens
