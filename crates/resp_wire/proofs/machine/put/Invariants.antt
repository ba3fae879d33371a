use Rattle.std.proofs.Common.{◌≡◌, length}
use Rattle.resp_wire.specs.Steps.{settle}
use Rattle.resp_wire.proofs.machine.put.Given as goal

abbrev pub invariant-up : goal.invariant-up
invariant-up l = settle l.core.number l.core.bytes l.value l.core.opens.items ≡ settle l.initial.core.number l.initial.core.bytes l.initial.value l.initial.core.opens.items

abbrev pub decreases-up : goal.decreases-up
decreases-up l = length l.core.opens.items
