-- The spots of the machine that the code's spots are, and its asks.
use Rattle.std.specs.Prelude.{ℕ, List, [], ◌∷◌}
use Rattle.queue_keys.specs.Names.{Bytes}
use Rattle.command_blocks.specs.declared.side.Side.TheVariants.{Left, Right}
use Rattle.manner_laws.specs.Spots.{Ask, Job, Spot, pushing, routed}
use Rattle.manner_laws.specs.Spots as machine
use Rattle.client_spots.specs.declared.spot.ClientSpot.{ClientSpot}
use Rattle.client_spots.specs.declared.spot.Stand.{Stand}
use Rattle.client_spots.specs.declared.spot.Stand.TheVariants as stand
use Rattle.client_spots.specs.declared.spot.Tried.{Tried}
use Rattle.client_spots.specs.declared.spot.Tried.TheVariants as tried
use Rattle.client_spots.specs.declared.spot.Awaited.{Awaited}
use Rattle.client_spots.specs.declared.spot.Awaited.TheVariants as awaited

-- what tries of this tag are of, where a pass has these tags still to return
abbrev pub job_by : Tried → Bytes → List Bytes → Job
job_by tried.Open t ts = machine.Open t
job_by tried.Left t ts = machine.Alone Left t
job_by tried.Right t ts = machine.Alone Right t
job_by tried.OfPass t ts = machine.Of_pass t ts

abbrev pub job_of : ClientSpot → Job
job_of r = job_by r.tried r.tag r.tags

-- before ZREM of a return; without a key to push to, where no client comes, it leaves
abbrev pub return_begun : ℕ → ℕ → Job → ℕ → Bytes → List Bytes → Spot
return_begun n p j k v [] = machine.Leaving n p j
return_begun n p j k v (q ∷ qs) = machine.Begun n p j k v q qs

-- and before HDEL
abbrev pub return_removed : ℕ → ℕ → Job → ℕ → Bytes → List Bytes → Spot
return_removed n p j k v [] = machine.Leaving n p j
return_removed n p j k v (q ∷ qs) = machine.Removed n p j k v q qs

-- the spot of a stand
abbrev pub spot_at : Stand → ClientSpot → Spot
spot_at stand.Free r = machine.Free r.drawn r.passes
spot_at stand.Listed r = machine.Listed r.drawn r.passes r.exchange r.keys
spot_at stand.Pushing r = pushing r.drawn r.passes r.envelope r.keys
spot_at stand.Popped r = machine.Popped r.drawn r.passes r.envelope r.tag
spot_at stand.PopBegun r = machine.Pop_begun r.drawn r.passes r.envelope r.tag
spot_at stand.PopIndexed r = machine.Pop_indexed r.drawn r.passes r.envelope r.tag
spot_at stand.EndBegun r = machine.End_begun r.drawn r.passes
spot_at stand.EndRemoved r = machine.End_removed r.drawn r.passes r.tag
spot_at stand.Filled r = machine.Filled r.drawn r.passes
spot_at stand.Looking r = machine.Looking r.drawn r.passes
spot_at stand.Waiting r = machine.Waiting r.drawn r.passes (job_of r) r.tries
spot_at stand.Watched r = machine.Watched r.drawn r.passes (job_of r) r.tries
spot_at stand.Leaving r = machine.Leaving r.drawn r.passes (job_of r)
spot_at stand.Asking r = machine.Asking r.drawn r.passes (job_of r) r.tries r.entry r.envelope r.exchange
spot_at stand.Ready r = routed r.drawn r.passes (job_of r) r.tries r.envelope r.keys
spot_at stand.Begun r = return_begun r.drawn r.passes (job_of r) r.tries r.envelope r.keys
spot_at stand.Removed r = return_removed r.drawn r.passes (job_of r) r.tries r.envelope r.keys
spot_at stand.Putting r = machine.Putting r.drawn r.passes (job_of r) r.tries r.envelope r.keys
spot_at stand.Locked r = machine.Locked r.drawn r.passes
spot_at stand.Turning r = machine.Turning r.drawn r.passes r.tags
spot_at stand.Releasing r = machine.Release_watched r.drawn r.passes
spot_at stand.Own r = machine.Release_own r.drawn r.passes
spot_at stand.ReleaseBegun r = machine.Release_begun r.drawn r.passes
spot_at stand.ReleaseDeleted r = machine.Release_deleted r.drawn r.passes
spot_at stand.Foreign r = machine.Release_foreign r.drawn r.passes

-- the spot where a client is
abbrev pub spot_of : ClientSpot → Spot
spot_of r = spot_at r.stand r

-- what is asked; where an answer tells no more than that it is listed, the spot is already the next
abbrev pub ask_of : Awaited → ClientSpot → Ask
ask_of awaited.Count r = machine.Count (spot_of r)
ask_of awaited.Consent r = machine.Consent (spot_of r)
ask_of awaited.Queueing r = machine.Queueing (spot_of r)
ask_of awaited.Counts r = machine.Counts (spot_of r)
ask_of awaited.Anything r = machine.Anything (spot_of r)
ask_of awaited.Bindings r = machine.Bindings r.drawn r.passes r.exchange
ask_of awaited.Message r = machine.Message r.drawn r.passes
ask_of awaited.Entry r = machine.Entry r.drawn r.passes (job_of r) r.tries
ask_of awaited.Routes r = machine.Routes r.drawn r.passes (job_of r) r.tries r.entry r.envelope
ask_of awaited.Move r = machine.Move r.drawn r.passes (job_of r) r.tries
ask_of awaited.Lock r = machine.Lock r.drawn r.passes
ask_of awaited.Due r = machine.Due r.drawn r.passes
ask_of awaited.Holder r = machine.Holder r.drawn r.passes
ask_of awaited.Release r = machine.Release r.drawn r.passes
