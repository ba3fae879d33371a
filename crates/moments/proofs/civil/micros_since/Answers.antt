use Rattle.std.proofs.Common.{arith}
use Rattle.jiff_core.proofs.SignedLemmas.{signed_arith}
use Rattle.jiff_core.proofs.DateTimeLemmas.{civil_nanos_range}
use Rattle.moments.proofs.civil.micros_since.Goals as goal

pub overflow_cast-result : goal.overflow_cast-result
overflow_cast-result c = omega (arith, signed_arith, civil_nanos_range c.args.found)

pub returns : goal.returns
returns c z e = omega (arith, signed_arith, civil_nanos_range c.args.found)
