use Rattle.std.proofs.Common.{◌≡◌, drop}
use Rattle.std.specs.Prelude.{is_some}
use Rattle.sessions.specs.CommandValues.{contents}
use Rattle.sessions.proofs.received.are_bulks.Given as goal

abbrev pub invariant-loop-value : goal.invariant-loop-value
invariant-loop-value l = is_some (contents (drop l.value-index l.fn.values)) ≡ is_some (contents l.fn.values)
