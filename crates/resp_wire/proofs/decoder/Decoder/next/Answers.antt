use Rattle.std.proofs.Common.{sym, ◌∙◌}
use Rattle.resp_wire.proofs.Standing.{again}
use Rattle.resp_wire.proofs.decoder.Decoder.next.Goals as goal

pub returns-in-Some-clause-next : goal.returns-in-Some-clause-next
returns-in-Some-clause-next c = rw c.bad.ensures (again c.args.self.now c.in-Some.fault (sym c.broken.ensures ∙ c.in-Some.is))
