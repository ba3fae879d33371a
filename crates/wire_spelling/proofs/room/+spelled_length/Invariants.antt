use Rattle.std.proofs.Common.{◌≡◌, ◌≤◌, ◌-◌, Some, drop, map}
use Rattle.wire_grammar.specs.Limits.{value_limit}
use Rattle.wire_spelling.specs.Lengths.{items_length, spelled_length}
use Rattle.wire_spelling.proofs.room.+spelled_length.Given as goal

-- the items that are left, behind so many bytes, make up the length
abbrev pub invariant-loop-item : goal.invariant-loop-item
invariant-loop-item l = record {
  within : l.length ≤ value_limit;
  left : items_length (l.fn.depth - 1) (Some l.length) (map spelled_length (drop l.item-index l.item-items)) ≡ spelled_length l.fn.value l.fn.depth;
}
