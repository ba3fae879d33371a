use Rattle.std.proofs.Common.{◌≡◌, ◌++◌, take}
use Rattle.std.specs.Prelude.{codes}
use Rattle.std.specs.List.{flat_map}
use Rattle.line_text.specs.Short.{short_value}
use Rattle.replay.proofs.entry_text.pushed_values.Given as goal

abbrev pub invariant-loop-value : goal.invariant-loop-value
invariant-loop-value g l = l.out.items ≡ l.initial.out.items ++ flat_map (λ value. short_value (g.L.Legend.shape l.legend) value ++ codes " ; ") (take l.value-index l.values)
