use Rattle.std.proofs.Common.{◌≡◌, ◌++◌, ◌+◌, ◌*◌, true, length, map}
use Rattle.line_text.specs.Forms.{commas, value_form}
use Rattle.record_reading.specs.Reads.{are_at_most, are_typed, gap_after}
use Rattle.record_reading.proofs.rest.Rest.+values.Given as goal

abbrev pub decreases-items : goal.decreases-items
decreases-items l = 2 * l.depth + 1

abbrev pub decreases-value : goal.decreases-value
decreases-value l = 2 * l.depth

-- the items so far stand before what is left, and the separator is that before the next one
abbrev pub invariant-items-items : goal.invariant-items-items
invariant-items-items l = record {
  read : l.fn.self.bytes.now ≡ commas (map value_form l.items) ++ l.self.bytes.now;
  gap : l.separator ≡ gap_after l.items;
  typed : are_typed l.items ≡ true;
  shallow : are_at_most l.depth l.items ≡ true;
}

abbrev pub decreases-items-items : goal.decreases-items-items
decreases-items-items l = length l.self.bytes.now
