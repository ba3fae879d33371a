use Rattle.std.proofs.Common.{◌≡◌, ◌+◌, length}
use Rattle.std.specs.Prelude.{decimal}
use Rattle.wire_spelling.proofs.room.decimal_length.Given as goal

abbrev pub invariant-tens : goal.invariant-tens
invariant-tens l = length (decimal l.rest) + l.digits ≡ length (decimal l.fn.number) + 1

abbrev pub decreases-tens : goal.decreases-tens
decreases-tens l = l.rest
