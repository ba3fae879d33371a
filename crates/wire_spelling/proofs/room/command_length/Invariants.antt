use Rattle.std.proofs.Common.{◌≡◌, ◌≤◌, ◌-◌, Some, drop, map}
use Rattle.wire_grammar.specs.Limits.{depth_limit, value_limit}
use Rattle.wire_values.specs.declared.value.Value.TheVariants.{Array, Bulk}
use Rattle.wire_spelling.specs.Lengths.{items_length, spelled_length}
use Rattle.wire_spelling.proofs.room.command_length.Given as goal

-- the words that are left, behind so many bytes, make up the length
abbrev pub invariant-words : goal.invariant-words
invariant-words l = record {
  within : l.length ≤ value_limit;
  left : items_length (depth_limit - 1) (Some l.length) (map spelled_length (map Bulk (drop l.word-index l.word-items))) ≡ spelled_length (Array (map Bulk l.fn.words)) depth_limit;
}
