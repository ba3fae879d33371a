use Rattle.std.proofs.Common.{map, take, ◌≡◌}
use Rattle.wire_values.specs.declared.value.Value.TheVariants.{Bulk}
use Rattle.link_desk.proofs.saying.command_value.Given as goal

abbrev pub invariant-loop-word : goal.invariant-loop-word
invariant-loop-word l = l.values ≡ map Bulk (take l.word-index l.word-items)
