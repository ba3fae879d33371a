-- Errands: the plan of a block, or one command that concerns no message; what a client says of one, and what that makes of it.
use Rattle.std.specs.Prelude.{Bool, true, false, if◌then◌else◌, List}
use Rattle.wire_values.specs.declared.value.Value.{Value}
use Rattle.store_model.specs.Words.{Words}
use Rattle.command_blocks.specs.Answers.{is_error}
use Rattle.command_blocks.specs.Blocks.{CounterUse, Other, IsNeutral, IsNeutralBlock, drawn, passes_after}
use Rattle.command_blocks.specs.Calls.{Call}
use Rattle.command_blocks.specs.EnvelopeTexts.{plain_setting}
use Rattle.command_blocks.specs.Scripts.{Plan, Script, Over, Off, plainly, counter_use, script_of}
use Rattle.block_laws.specs.Rows.{IsLawfulPlan, IsPlanBlock}
use Rattle.block_laws.specs.Traces.{IsTrace}
use Rattle.steps.specs.declared.counts.ClientCounts.{ClientCounts}
use Rattle.steps.specs.Trips.{RoundTrip, trip_calls}

-- what a client goes about: the plan of a block, or a command that concerns no message
pub data Errand : Type 0 where
  Planned : Plan → Errand
  Aside : Words → Errand

-- anything but an error
abbrev pub on_no_error : Value → Script
on_no_error r = if is_error r then Off else Over

-- a command that concerns no message
abbrev pub aside_script : Words → Script
aside_script words = plainly words on_no_error

-- what a client with these counters says of an errand
abbrev pub errand_script : ClientCounts → Errand → Script
errand_script c (Planned plan) = script_of plain_setting c.seed c.passes plan
errand_script c (Aside words) = aside_script words

-- what an errand takes from the client's counters
abbrev pub errand_use : Errand → CounterUse
errand_use (Planned plan) = counter_use plan
errand_use (Aside words) = Other

-- the client after it began an errand
abbrev pub client_after : ClientCounts → Errand → ClientCounts
client_after c errand = record { seed = c.seed; drawn = drawn (errand_use errand) c.drawn; passes = passes_after (errand_use errand) c.passes }

-- the errand is lawful for a client with these counters
abbrev pub IsLawfulErrand : ClientCounts → Errand → Type 0
IsLawfulErrand c (Planned plan) = IsLawfulPlan plain_setting c.seed c.drawn plan
IsLawfulErrand c (Aside words) = IsNeutral plain_setting words

-- the calls are the whole block of an errand of a client with these counters
abbrev pub IsErrandBlock : ClientCounts → Errand → List Call → Type 0
IsErrandBlock c (Planned plan) calls = IsPlanBlock plain_setting c.seed c.drawn c.passes plan calls
IsErrandBlock c (Aside words) calls = IsNeutralBlock plain_setting words calls

-- the errand is lawful, its script said these round trips, and this is left of it
pub record HasSaidOf (c : ClientCounts) (errand : Errand) (trips : List RoundTrip) (left : Script) : Type 0 where
  pub lawful : IsLawfulErrand c errand
  pub trace : IsTrace (errand_script c errand) (trip_calls trips) left
