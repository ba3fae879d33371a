use Rattle.std.proofs.Common.{◌≡◌, ◌++◌, ◌∷◌, [], take}
use Rattle.std.specs.List.{flat_map}
use Rattle.history_records.specs.Lines.{entry_line}
use Rattle.history_records.proofs.entry_rows.entry_rows.Given as goal

abbrev pub invariant-loop-entry : goal.invariant-loop-entry
invariant-loop-entry l = l.out.items ≡ l.initial.out.items ++ flat_map (λ e. entry_line e ++ 10 ∷ []) (take l.entry-index l.entries)
