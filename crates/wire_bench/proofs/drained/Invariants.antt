use Rattle.resp_wire.specs.Moves.{unread_of}
use Rattle.wire_bench.proofs.drained.Given as goal

abbrev pub decreases-values : goal.decreases-values
decreases-values l = unread_of l.decoder
