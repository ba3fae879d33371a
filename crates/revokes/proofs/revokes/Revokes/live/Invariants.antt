use Rattle.std.proofs.Common.{◌≡◌, ◌++◌}
use Rattle.revokes.specs.Kept.{revokes_of}
use Rattle.revokes.specs.Revokes.{live_ids}
use Rattle.revokes.proofs.revokes.Revokes.live.Given as goal

-- the live ids so far and those that are left are all live ones
abbrev pub invariant-loop-id : goal.invariant-loop-id
invariant-loop-id l = l.ids ++ live_ids l.now (revokes_of l.id-iterator) ≡ live_ids l.now l.self
