use Rattle.std.proofs.Common.{◌≡◌, ◌≤◌, drop, length}
use Rattle.std.specs.BTreeMap.{IsOrdered}
use Rattle.std.specs.FinMap.{from_entries}
use Rattle.std.specs.Ordering.{nat_cmp}
use Rattle.history_records.specs.Records.{seed_map}
use Rattle.history_records.proofs.client_rows.seeds_by_connection.Given as goal

-- the clients that were passed, from the last one on, are in the map
abbrev pub invariant-seeds : goal.invariant-seeds
invariant-seeds l = record {
  bound : l.left ≤ length l.clients;
  ordered : IsOrdered nat_cmp l.seeds;
  made : from_entries {R = nat_cmp} l.seeds.entries ≡ seed_map (drop l.left l.clients);
}

abbrev pub decreases-seeds : goal.decreases-seeds
decreases-seeds l = l.left
