-- What a text that carries nothing is called, as a token and as a wrap.
use Rattle.paseto_seal.specs.declared.carried.CarryFail.{CarryFail}
use Rattle.paseto_seal.specs.declared.carried.CarryFail.TheVariants.{NotCarried, NoMemory}
use Rattle.paseto_seal.specs.declared.fail.TokenFail.{TokenFail}
use Rattle.paseto_seal.specs.declared.fail.TokenFail.TheVariants.{NotToken, NoMemory as TokenNoMemory}
use Rattle.paseto_seal.specs.declared.fail.WrapFail.{WrapFail}
use Rattle.paseto_seal.specs.declared.fail.WrapFail.TheVariants.{NotWrapped, NoMemory as WrapNoMemory}

abbrev pub token_fail : CarryFail → TokenFail
token_fail NotCarried = NotToken
token_fail NoMemory = TokenNoMemory

abbrev pub wrap_fail : CarryFail → WrapFail
wrap_fail NotCarried = NotWrapped
wrap_fail NoMemory = WrapNoMemory
