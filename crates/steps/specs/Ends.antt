-- What the end of a block tells of its round trips.
use Rattle.std.specs.Prelude.{◌≡◌, List, [], ◌∷◌}
use Rattle.store_model.specs.declared.reply.Reply.{Reply}
use Rattle.command_blocks.specs.Calls.{Call}
use Rattle.command_blocks.specs.Scripts.{Plan, Declare, Undeclare, Publish, Pop, End, Return, Pass}
use Rattle.passes.specs.Told.{TellsPass}
use Rattle.returns.specs.Returns.{TellsReturn}
use Rattle.routes.specs.Declares.{TellsDeclare}
use Rattle.routes.specs.Publishes.{TellsPublish}
use Rattle.unacked.specs.Ends.{TellsEnd}
use Rattle.unacked.specs.Pops.{TellsPop}
use Rattle.steps.specs.Errands.{Errand, Planned, Aside}
use Rattle.steps.specs.Trips.{RoundTrip, trip_calls}
use Rattle.steps.specs.declared.ended.BlockEnd.{BlockEnd}
use Rattle.steps.specs.declared.ended.BlockEnd.TheVariants as end

-- the kinds of blocks
pub data BlockKind : Type 0 where
  Declares : BlockKind
  Publishes : BlockKind
  Pops : BlockKind
  Acknowledges : BlockKind
  Returns : BlockKind
  Passes : BlockKind
  Concerns_none : BlockKind

-- of which kind the block of a plan is
abbrev pub plan_kind : Plan → BlockKind
plan_kind (Declare e r x q) = Declares
plan_kind (Undeclare e r x q) = Declares
plan_kind (Publish v) = Publishes
plan_kind (Pop names) = Pops
plan_kind (End t) = Acknowledges
plan_kind (Return side t) = Returns
plan_kind (Pass v) = Passes

-- of which kind that of an errand is
abbrev pub errand_kind : Errand → BlockKind
errand_kind (Planned plan) = plan_kind plan
errand_kind (Aside words) = Concerns_none

-- of which kind of block it is an end
abbrev pub end_kind : BlockEnd → BlockKind
end_kind (end.Declare e) = Declares
end_kind (end.Publish e) = Publishes
end_kind (end.Pop e) = Pops
end_kind (end.End e) = Acknowledges
end_kind (end.Return e) = Returns
end_kind (end.Pass e) = Passes
end_kind (end.Neutral e) = Concerns_none

-- the end of the block of a plan tells of its calls, by their answers
abbrev pub TellsPlan : Plan → List Call → BlockEnd → Type 0
TellsPlan plan calls (end.Declare e) = TellsDeclare calls e
TellsPlan plan calls (end.Publish e) = TellsPublish plan calls e
TellsPlan plan calls (end.Pop e) = TellsPop calls e
TellsPlan plan calls (end.End e) = TellsEnd calls e
TellsPlan plan calls (end.Return e) = TellsReturn plan calls e
TellsPlan plan calls (end.Pass e) = TellsPass calls e
TellsPlan plan calls (end.Neutral e) = ⊥

-- there was one round trip, with this reply
abbrev pub HasReplied : Reply → List RoundTrip → Type 0
HasReplied reply trips = (t : RoundTrip) × (trips ≡ t ∷ []) × (t.reply ≡ reply)

-- the end of a command that concerns no message is its whole reply
abbrev pub TellsAside : List RoundTrip → BlockEnd → Type 0
TellsAside trips (end.Neutral e) = HasReplied e.value trips
TellsAside trips other = ⊥

abbrev pub TellsErrand : Errand → List RoundTrip → BlockEnd → Type 0
TellsErrand (Planned plan) trips e = TellsPlan plan (trip_calls trips) e
TellsErrand (Aside words) trips e = TellsAside trips e

-- the end is one of the errand's kind, and tells of its round trips
abbrev pub TellsOfErrand : Errand → List RoundTrip → BlockEnd → Type 0
TellsOfErrand errand trips e = (errand_kind errand ≡ end_kind e) × TellsErrand errand trips e
