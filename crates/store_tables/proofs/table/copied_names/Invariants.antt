use Rattle.std.proofs.Common.{◌≡◌, ◌++◌, map}
use Rattle.store_tables.proofs.table.copied_names.Given as goal

abbrev pub invariant-loop-name : goal.invariant-loop-name
invariant-loop-name g l = l.names ++ l.name-iterator ≡ map (λ e. e.0) l.kept.entries
