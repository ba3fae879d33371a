use Rattle.std.proofs.Common.{arith}
use Rattle.resp_wire.proofs.Standing.{pending_is}
use Rattle.resp_wire.proofs.decoder.Decoder.pending.Goals as goal

pub returns : goal.returns
returns c = λ before rest s. omega (arith, pending_is c.args.self.now before rest s, c.saturating_add.ensures, c.saturating_add-2.ensures, c.len.ensures)
