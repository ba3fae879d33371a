-- A command that concerns no message: what is left of it, its end, and what it had. Serves the proofs of code.
use Rattle.std.specs.Prelude.{◌≡◌, true, false, List, [], ⊤, Option, None, Some, option_map, Result, Ok, Err}
use Rattle.store_model.specs.Words.{Words}
use Rattle.store_model.specs.declared.reply.Reply.{Reply}
use Rattle.block_core.specs.declared.fault.ReplyFault.{ReplyFault}
use Rattle.block_core.specs.declared.fault.ReplyFault.TheVariants.{Refused, Memory}
use Rattle.block_laws.specs.Traces.{IsTrace}
use Rattle.command_blocks.specs.Answers.{is_error}
use Rattle.command_blocks.specs.Scripts.{Script, Over, Off}
use Rattle.steps.specs.Ends.{HasReplied}
use Rattle.steps.specs.Errands.{aside_script}
use Rattle.steps.specs.Trips.{RoundTrip, trip_calls}
use Rattle.steps.specs.declared.ended.BlockEnd.{BlockEnd}
use Rattle.steps.specs.declared.ended.BlockEnd.TheVariants.{Neutral}
use Rattle.client_core.specs.declared.aside.AsideCore.{AsideCore}
use Rattle.client_core.specs.declared.aside.AsideState.{AsideState}
use Rattle.client_core.specs.declared.aside.AsideState.TheVariants as state

-- what is left of it
abbrev pub state_left : AsideState → Script
state_left (state.Saying command) = aside_script command.words
state_left (state.Over told) = Over
state_left state.Off = Off

abbrev pub aside_left : AsideCore → Script
aside_left core = state_left core.state

-- its end, where that wasn't told yet
abbrev pub state_end : AsideState → Option BlockEnd
state_end (state.Saying command) = None
state_end (state.Over told) = option_map Neutral told
state_end state.Off = None

abbrev pub aside_end : AsideCore → Option BlockEnd
aside_end core = state_end core.state

-- what it holds tells of its round trips
abbrev pub StateTells : List RoundTrip → AsideState → Type 0
StateTells trips (state.Saying command) = trips ≡ []
StateTells trips (state.Over None) = Unit {0}
StateTells trips (state.Over (Some told)) = HasReplied told.value trips
StateTells trips state.Off = Unit {0}

-- the command of these words had these round trips
pub record HasAside (words : Words) (trips : List RoundTrip) (core : AsideCore) : Type 0 where
  pub trace : IsTrace (aside_script words) (trip_calls trips) (aside_left core)
  pub tells : StateTells trips core.state

-- a reply is kept until it is told
abbrev pub IsKept : Reply → AsideState → Type 0
IsKept r (state.Saying command) = ⊥
IsKept r (state.Over None) = ⊥
IsKept r (state.Over (Some told)) = told.value ≡ r
IsKept r state.Off = ⊥

abbrev pub HasKeptReply : AsideCore → Reply → Result ⊤ ReplyFault → Type 0
HasKeptReply new r (Ok u) = IsKept r new.state
HasKeptReply new r (Err (Refused given)) = ⊥
HasKeptReply new r (Err Memory) = Unit {0}

-- a reply was taken, or refused as an error
abbrev pub AsideHeard : AsideCore → Reply → Result ⊤ ReplyFault → Type 0
AsideHeard new r (Ok u) = (is_error r.answer ≡ false) × IsKept r new.state
AsideHeard new r (Err (Refused given)) = (is_error r.answer ≡ true) × (given ≡ r) × (new.state ≡ state.Off)
AsideHeard new r (Err Memory) = Unit {0}
