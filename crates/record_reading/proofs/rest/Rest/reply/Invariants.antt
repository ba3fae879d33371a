use Rattle.std.proofs.Common.{◌≡◌, ◌++◌, true, length}
use Rattle.history_records.specs.Lines.{pushed_text}
use Rattle.record_model.specs.Said.{are_shallow}
use Rattle.record_reading.specs.Reads.{are_typed}
use Rattle.record_reading.proofs.rest.Rest.reply.Given as goal

-- the values so far stand before what is left
abbrev pub invariant-values : goal.invariant-values
invariant-values l = record {
  read : l.fn.self.bytes.now ≡ pushed_text l.pushed ++ l.self.bytes.now;
  typed : are_typed l.pushed ≡ true;
  shallow : are_shallow l.pushed ≡ true;
}

abbrev pub decreases-values : goal.decreases-values
decreases-values l = length l.self.bytes.now
