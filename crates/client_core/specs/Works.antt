-- What a client is about: a block, or a command that concerns no message. Serves the proofs of code.
use Rattle.std.specs.Prelude.{◌≡◌, ℕ, Bool, true, false, List, ⊤, Option, None, Some, IsSome, Result, Ok, Err}
use Rattle.store_model.specs.Words.{Words}
use Rattle.store_model.specs.declared.reply.Reply.{Reply}
use Rattle.block_core.specs.declared.fault.ReplyFault.{ReplyFault}
use Rattle.block_core.specs.declared.fault.ReplyFault.TheVariants.{Refused, Memory}
use Rattle.command_blocks.specs.Scripts.{Script, Over, Off, next_words}
use Rattle.client_blocks.specs.Blocks.{script_left}
use Rattle.steps.specs.declared.counts.ClientCounts.{ClientCounts}
use Rattle.steps.specs.Errands.{Errand, Planned, Aside, IsLawfulErrand}
use Rattle.steps.specs.Goings.{HasHeardOn, script_after}
use Rattle.steps.specs.Trips.{RoundTrip, trip, trip_calls}
use Rattle.steps.specs.declared.ended.BlockEnd.{BlockEnd}
use Rattle.client_core.specs.Asides.{HasAside, aside_end, aside_left}
use Rattle.client_core.specs.Lefts.{LeftHad, left_end}
use Rattle.client_core.specs.declared.client.ClientCore.{ClientCore}
use Rattle.client_core.specs.declared.work.Work.{Work}
use Rattle.client_core.specs.declared.work.Work.TheVariants as work

-- what is left to say
abbrev pub work_left : Work → Script
work_left (work.Block left) = script_left left
work_left (work.Beside core) = aside_left core

-- its end, where that wasn't told yet
abbrev pub work_end : Work → Option BlockEnd
work_end (work.Block left) = left_end left
work_end (work.Beside core) = aside_end core

-- a client with these counters is about this errand, and made these round trips since it began it
abbrev pub WorkHad : ClientCounts → Errand → List RoundTrip → Work → Type 0
WorkHad c (Planned plan) trips (work.Block left) = LeftHad c.seed c.passes plan (trip_calls trips) left
WorkHad c (Planned plan) trips (work.Beside core) = ⊥
WorkHad c (Aside words) trips (work.Block left) = ⊥
WorkHad c (Aside words) trips (work.Beside core) = HasAside words trips core

-- what taking a reply left of it
abbrev pub WorkTaken : Work → Work → Reply → Result ⊤ ReplyFault → Type 0
WorkTaken old new r (Ok u) = (work_left new ≡ script_after (work_left old) r) × (work_left new ≡ Off → ⊥) × (work_left new ≡ Over → IsSome (work_end new))
WorkTaken old new r (Err (Refused given)) = (work_left new ≡ script_after (work_left old) r) × (work_left new ≡ Off) × (given ≡ r)
WorkTaken old new r (Err Memory) = Unit {0}

-- a reply was taken: what follows, and what it had then
pub record HeardWork (old new : Work) (at : ℕ) (r : Reply) (result : Result ⊤ ReplyFault) : Type 0 where
  pub taken : WorkTaken old new r result
  pub traced : (c : ClientCounts) (errand : Errand) (trips : List RoundTrip) (words : Words) → WorkHad c errand trips old → next_words (work_left old) at ≡ Some words → HasHeardOn (λ t. WorkHad c errand t new) trips (trip at words r) result

-- ---- the client

-- its counters
abbrev pub core_client : ClientCore → ClientCounts
core_client s = record { seed = s.seed; drawn = s.drawn; passes = s.passes }

-- what it has left to say; nothing where memory was wanting
abbrev pub live_left : Bool → Work → Script
live_left true w = Off
live_left false w = work_left w

abbrev pub client_left : ClientCore → Script
client_left s = live_left s.spent s.work

-- the end of its block
abbrev pub live_end : Bool → Work → Option BlockEnd
live_end true w = None
live_end false w = work_end w

abbrev pub client_ended : ClientCore → Option BlockEnd
client_ended s = live_end s.spent s.work

-- it began a lawful errand when its counters were so, and made these round trips since
pub record ClientHad (s : ClientCore) (c : ClientCounts) (errand : Errand) (trips : List RoundTrip) : Type 0 where
  pub live : s.spent ≡ false
  pub lawful : IsLawfulErrand c errand
  pub had : WorkHad c errand trips s.work

-- whether memory was wanting
abbrev pub lacked : Result ⊤ ReplyFault → Bool
lacked (Ok u) = false
lacked (Err (Refused given)) = false
lacked (Err Memory) = true

-- a client that isn't spent took a reply
pub record ClientHeard (old new : ClientCore) (at : ℕ) (r : Reply) (result : Result ⊤ ReplyFault) : Type 0 where
  pub client_same : core_client new ≡ core_client old
  pub spent_is : new.spent ≡ lacked result
  pub work_is : HeardWork old.work new.work at r result
