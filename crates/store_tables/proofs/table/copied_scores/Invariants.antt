use Rattle.std.proofs.Common.{◌≡◌, ◌++◌}
use Rattle.store_tables.proofs.table.copied_scores.Given as goal

abbrev pub invariant-loop-name : goal.invariant-loop-name
invariant-loop-name l = l.pairs ++ l.name-iterator ≡ l.kept.entries
