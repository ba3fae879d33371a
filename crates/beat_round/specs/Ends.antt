-- How a round ends where a publication wasn't said to its end. Serves the proofs of code.
use Rattle.block_runs.specs.declared.fault.BlockFault.{BlockFault}
use Rattle.block_runs.specs.declared.fault.BlockFault.TheVariants as fault
use Rattle.beat_round.specs.declared.ended.BeatEnd.{BeatEnd}
use Rattle.beat_round.specs.declared.ended.BeatEnd.TheVariants.{Desk, Refused, Unsealed, Memory}

abbrev pub stop_end : BlockFault → BeatEnd
stop_end (fault.Begin f) = Unsealed
stop_end (fault.Desk f) = Desk f
stop_end (fault.Refused r) = Refused r
stop_end fault.Memory = Memory
