use Rattle.std.proofs.Common.{◌≡◌, take}
use Rattle.client_plans.proofs.names.queue_names.Given as goal

-- the names so far
abbrev pub invariant-loop-name : goal.invariant-loop-name
invariant-loop-name l = l.made ≡ take l.name-index l.names
