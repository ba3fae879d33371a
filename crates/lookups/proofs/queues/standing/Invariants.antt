use Rattle.std.proofs.Common.{◌≡◌, drop}
use Rattle.lookups.specs.Standings.{standing_from}
use Rattle.lookups.proofs.queues.standing.Given as goal

abbrev pub invariant-loop-place : goal.invariant-loop-place
invariant-loop-place l = standing_from l.place (l.name) (drop l.place l.queues) ≡ standing_from 0 l.name l.queues
