use Rattle.std.proofs.Common.{◌≡◌, ◌++◌, ◌∷◌, true, length}
use Rattle.std.specs.List.{flat_map}
use Rattle.line_text.specs.Forms.{escaped}
use Rattle.history_records.specs.Recordable.{are_bytes}
use Rattle.record_reading.proofs.rest.Rest.quoted.Given as goal

-- the bytes so far stand before what is left
abbrev pub invariant-bytes : goal.invariant-bytes
invariant-bytes l = record {
  read : l.fn.self.bytes.now ≡ 34 ∷ (flat_map escaped l.bytes.items ++ l.self.bytes.now);
  typed : are_bytes l.bytes.items ≡ true;
}

abbrev pub decreases-bytes : goal.decreases-bytes
decreases-bytes l = length l.self.bytes.now
