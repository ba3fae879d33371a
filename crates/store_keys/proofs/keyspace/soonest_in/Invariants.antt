use Rattle.std.proofs.Common.{◌≤◌, ℕ}
use Rattle.store_keys.specs.Expiries.{AllEndFrom}
use Rattle.store_keys.proofs.keyspace.soonest_in.Given as goal

abbrev pub invariant-loop-held : goal.invariant-loop-held
invariant-loop-held l = (n : ℕ) → n ≤ l.soonest → AllEndFrom n l.held-iterator → AllEndFrom n l.kept.entries
