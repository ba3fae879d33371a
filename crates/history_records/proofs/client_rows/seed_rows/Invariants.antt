use Rattle.std.proofs.Common.{◌≡◌, ◌++◌, ◌∷◌, []}
use Rattle.std.specs.List.{flat_map}
use Rattle.history_records.specs.Lines.{client_line}
use Rattle.history_records.proofs.client_rows.seed_rows.Given as goal

-- what is written and the clients that are left are the text before and all clients
abbrev pub invariant-loop-connection : goal.invariant-loop-connection
invariant-loop-connection l = l.out.items ++ flat_map (λ c. client_line c ++ 10 ∷ []) l.connection-iterator ≡ l.fn.out.items ++ flat_map (λ c. client_line c ++ 10 ∷ []) l.seeds.entries
