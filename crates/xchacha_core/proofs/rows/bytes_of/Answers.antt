use Rattle.std.proofs.Common.{w32}
use Rattle.std.proofs.lemmas.Simd.{below_from_Fits}
use Rattle.xchacha_core.proofs.Bytes.{row_bytes}
use Rattle.xchacha_core.proofs.rows.bytes_of.Goals as goal

pub returns : goal.returns
returns c = row_bytes c.args.row c.requires (below_from_Fits w32 c.args.row c.fits-row.1)
