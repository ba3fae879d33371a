use Rattle.std.proofs.Common.{◌≡◌, ◌++◌, take}
use Rattle.history_records.specs.Lines.{pushed_text}
use Rattle.history_records.proofs.entry_rows.pushed_forms.Given as goal

abbrev pub invariant-loop-value : goal.invariant-loop-value
invariant-loop-value l = l.out.items ≡ l.initial.out.items ++ pushed_text (take l.value-index l.values)
