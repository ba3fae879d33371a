-- What a client and its desk did in a block.
use Rattle.std.specs.Prelude.{◌≡◌, ◌⊎◌, ℕ, Bool, true, false, List, [], ◌∷◌, ◌++◌, map, Option, None, Some, IsSome, ⊤, Result, Ok, Err, OnOk}
use Rattle.store_model.specs.Words.{Words}
use Rattle.store_model.specs.declared.reply.Reply.{Reply}
use Rattle.command_blocks.specs.Scripts.{Script, Over, Off, next_words}
use Rattle.block_laws.specs.Traces.{IsTrace}
use Rattle.desks.specs.Deeds.{Deed, DidAsk}
use Rattle.desks.specs.Faults.{IsFaultOf, IsNotEnded, IsOpen}
use Rattle.desks.specs.declared.desk.DeskFault.{DeskFault}
use Rattle.desks.specs.declared.desk.DeskFault.TheVariants as at_desk
use Rattle.sessions.specs.Talks.{IsClocked}
use Rattle.steps.specs.declared.counts.ClientCounts.{ClientCounts}
use Rattle.steps.specs.Ends.{TellsOfErrand}
use Rattle.steps.specs.Errands.{Errand, IsLawfulErrand, client_after, errand_script}
use Rattle.steps.specs.Goings.{script_after}
use Rattle.steps.specs.Trips.{RoundTrip, trip, trip_calls}
use Rattle.steps.specs.declared.begun.BeginFault.{BeginFault}
use Rattle.steps.specs.declared.ended.BlockEnd.{BlockEnd}
use Rattle.block_runs.specs.declared.fault.BlockFault.{BlockFault}
use Rattle.block_runs.specs.declared.fault.BlockFault.TheVariants.{Begin, Desk, Refused, Memory}

-- a round trip, as what the client did at its desk
abbrev pub trip_deed : RoundTrip → Deed
trip_deed t = DidAsk t.at t.words t.reply

abbrev pub trip_deeds : List RoundTrip → List Deed
trip_deeds trips = map trip_deed trips

-- each moment in seconds is one that the clock gives
abbrev pub AreClocked : (ℕ → Type 0) → List RoundTrip → Type 0
AreClocked gives [] = Unit {0}
AreClocked gives (t ∷ trips) = IsClocked gives t.at × AreClocked gives trips

-- the desk went on by these round trips, the one script said them, and the other is left of it
pub record HasSaid {D : Type 0} (goes : D → List Deed → D → Type 0) (gives : ℕ → Type 0) (desk desk2 : D) (script : Script) (trips : List RoundTrip) (rest : Script) : Type 0 where
  pub went : goes desk (trip_deeds trips) desk2
  pub trace : IsTrace script (trip_calls trips) rest
  pub given : AreClocked gives trips

-- the last of the round trips has this reply
abbrev pub EndsWith : List RoundTrip → Reply → Type 0
EndsWith trips reply = (before : List RoundTrip) × (t : RoundTrip) × (trips ≡ before ++ t ∷ []) × (t.reply ≡ reply)

-- a command was next, which the desk didn't take
abbrev pub IsCut : Script → Type 0
IsCut rest = (at : ℕ) × (words : Words) × (next_words rest at ≡ Some words)

-- a desk's fault isn't want of memory
abbrev pub IsNoLack : DeskFault → Type 0
IsNoLack at_desk.Link = Unit {0}
IsNoLack (at_desk.Wire kind place) = Unit {0}
IsNoLack at_desk.Flood = Unit {0}
IsNoLack (at_desk.Full entries bytes) = Unit {0}
IsNoLack at_desk.Closed = Unit {0}
IsNoLack at_desk.Ended = Unit {0}
IsNoLack at_desk.Memory = ⊥

-- a fault that a desk gave in a block came as each of its faults does, by what its link's counts were before the block and after it, and it is neither that the desk wasn't open nor want of memory
abbrev pub IsDeskFault : Bool → Bool → ℕ → ℕ → ℕ → ℕ → BlockFault → Type 0
IsDeskFault remote shared faults faults2 ends ends2 (Begin f) = Unit {0}
IsDeskFault remote shared faults faults2 ends ends2 (Desk f) = IsFaultOf remote shared faults faults2 ends ends2 f × IsNotEnded f × IsNoLack f
IsDeskFault remote shared faults faults2 ends ends2 (Refused given) = Unit {0}
IsDeskFault remote shared faults faults2 ends ends2 Memory = Unit {0}

-- whatever a client had before, it had these round trips more
abbrev pub HadMore : {T : Type 0} → (T → ClientCounts → Errand → List RoundTrip → Type 0) → T → T → List RoundTrip → Type 0
HadMore had steps steps2 trips = (c : ClientCounts) (errand : Errand) (before : List RoundTrip) → had steps c errand before → had steps2 c errand (before ++ trips)

-- ---- one command

-- the client said these words at a moment, and the desk answered this
pub record WasAsked {D : Type 0} (goes : D → List Deed → D → Type 0) (desk desk2 : D) (script : Script) (at : ℕ) (words : Words) (reply : Reply) : Type 0 where
  pub next : next_words script at ≡ Some words
  pub went : goes desk (DidAsk at words reply ∷ []) desk2

-- the block goes on after a reply, or is over with its end
pub record IsOn {T : Type 0} (left : T → Script) (had : T → ClientCounts → Errand → List RoundTrip → Type 0) (ended : T → Option BlockEnd) (steps steps2 : T) (t : RoundTrip) : Type 0 where
  pub left_is : left steps2 ≡ script_after (left steps) t.reply
  pub on : left steps2 ≡ Off → ⊥
  pub end : left steps2 ≡ Over → IsSome (ended steps2)
  pub more : HadMore had steps steps2 (t ∷ [])

-- the next command was said, or there was none
abbrev pub HasSaidNext : {D T : Type 0} → (D → List Deed → D → Type 0) → (D → Option DeskFault) → (D → Bool) → (T → Script) → (T → ClientCounts → Errand → List RoundTrip → Type 0) → (T → Option BlockEnd) → ℕ → D → D → T → T → Result Bool BlockFault → Type 0
HasSaidNext goes fault stopped left had ended at desk desk2 steps steps2 (Ok true) = (words : Words) × (reply : Reply) × WasAsked goes desk desk2 (left steps) at words reply × IsOpen (fault desk2) (stopped desk2) × IsOn left had ended steps steps2 (trip at words reply)
HasSaidNext goes fault stopped left had ended at desk desk2 steps steps2 (Ok false) = (next_words (left steps) at ≡ None) × (desk2 ≡ desk) × (steps2 ≡ steps)
HasSaidNext goes fault stopped left had ended at desk desk2 steps steps2 (Err (Begin f)) = ⊥
HasSaidNext goes fault stopped left had ended at desk desk2 steps steps2 (Err (Desk f)) = (words : Words) × (next_words (left steps) at ≡ Some words) × goes desk [] desk2 × (fault desk2 ≡ Some f) × (steps2 ≡ steps)
HasSaidNext goes fault stopped left had ended at desk desk2 steps steps2 (Err (Refused given)) = (words : Words) × WasAsked goes desk desk2 (left steps) at words given × IsOpen (fault desk2) (stopped desk2) × (script_after (left steps) given ≡ Off) × (left steps2 ≡ Off)
HasSaidNext goes fault stopped left had ended at desk desk2 steps steps2 (Err Memory) = (IsOpen (fault desk2) (stopped desk2) × (goes desk [] desk2 ⊎ ((words : Words) × (reply : Reply) × WasAsked goes desk desk2 (left steps) at words reply)))
    ⊎ ((words : Words) × (next_words (left steps) at ≡ Some words) × goes desk [] desk2 × (fault desk2 ≡ Some at_desk.Memory) × (steps2 ≡ steps))

-- the reply to the next command was taken, or refused
abbrev pub HasHeardNext : {T : Type 0} → (T → Script) → (T → ClientCounts → Errand → List RoundTrip → Type 0) → (T → Option BlockEnd) → ℕ → T → T → Reply → Result Bool BlockFault → Type 0
HasHeardNext left had ended at steps steps2 reply (Ok true) = (words : Words) → next_words (left steps) at ≡ Some words → IsOn left had ended steps steps2 (trip at words reply)
HasHeardNext left had ended at steps steps2 reply (Ok false) = ⊥
HasHeardNext left had ended at steps steps2 reply (Err (Begin f)) = ⊥
HasHeardNext left had ended at steps steps2 reply (Err (Desk f)) = ⊥
HasHeardNext left had ended at steps steps2 reply (Err (Refused given)) = (given ≡ reply) × (script_after (left steps) given ≡ Off) × (left steps2 ≡ Off)
HasHeardNext left had ended at steps steps2 reply (Err Memory) = Unit {0}

-- ---- the rest of a block

-- how far the rest came, of which the script is left
abbrev pub IsRestTo : {T : Type 0} → Option DeskFault → Bool → (T → Script) → (T → Option BlockEnd) → T → List RoundTrip → Script → Result ⊤ BlockFault → Type 0
IsRestTo fault stopped left ended steps2 trips rest (Ok u) = IsOpen fault stopped × (left steps2 ≡ Over) × (rest ≡ Over) × IsSome (ended steps2)
IsRestTo fault stopped left ended steps2 trips rest (Err (Begin f)) = ⊥
IsRestTo fault stopped left ended steps2 trips rest (Err (Desk f)) = (fault ≡ Some f) × (left steps2 ≡ rest) × IsCut rest
IsRestTo fault stopped left ended steps2 trips rest (Err (Refused given)) = IsOpen fault stopped × (left steps2 ≡ Off) × (rest ≡ Off) × EndsWith trips given
IsRestTo fault stopped left ended steps2 trips rest (Err Memory) = IsOpen fault stopped ⊎ ((fault ≡ Some at_desk.Memory) × (left steps2 ≡ rest) × IsCut rest)

-- what was left was said, whole or in front
pub record HasRest {D T : Type 0} (goes : D → List Deed → D → Type 0) (fault : D → Option DeskFault) (stopped : D → Bool) (left : T → Script) (had : T → ClientCounts → Errand → List RoundTrip → Type 0) (ended : T → Option BlockEnd) (gives : ℕ → Type 0) (desk desk2 : D) (steps steps2 : T) (result : Result ⊤ BlockFault) : Type 0 where
  pub trips : List RoundTrip
  pub rest : Script
  pub said : HasSaid goes gives desk desk2 (left steps) trips rest
  pub come : IsRestTo (fault desk2) (stopped desk2) left ended steps2 trips rest result
  pub more : OnOk result (HadMore had steps steps2 trips)

-- ---- a block

-- how far an errand came, of whose script this is left; the round trips are all of it
abbrev pub IsBlockTo : {T : Type 0} → Option DeskFault → Bool → (T → ClientCounts) → (T → Script) → T → ClientCounts → Errand → List RoundTrip → Script → Result BlockEnd BlockFault → Type 0
IsBlockTo fault stopped client left steps2 c errand trips rest (Ok end) = IsLawfulErrand c errand × IsOpen fault stopped × (client steps2 ≡ client_after c errand) × (left steps2 ≡ Over) × (rest ≡ Over) × TellsOfErrand errand trips end
IsBlockTo fault stopped client left steps2 c errand trips rest (Err (Begin f)) = ⊥
IsBlockTo fault stopped client left steps2 c errand trips rest (Err (Desk f)) = (client steps2 ≡ client_after c errand) × (fault ≡ Some f) × (left steps2 ≡ rest) × IsCut rest
IsBlockTo fault stopped client left steps2 c errand trips rest (Err (Refused given)) = (client steps2 ≡ client_after c errand) × IsOpen fault stopped × (left steps2 ≡ Off) × (rest ≡ Off) × EndsWith trips given
IsBlockTo fault stopped client left steps2 c errand trips rest (Err Memory) = IsOpen fault stopped ⊎ ((client steps2 ≡ client_after c errand) × (fault ≡ Some at_desk.Memory) × (left steps2 ≡ rest) × IsCut rest)

-- an errand was said at the desk, whole where it ended, else in front; it is lawful, where anything was asked
pub record HasRunErrand {D T : Type 0} (goes : D → List Deed → D → Type 0) (fault : D → Option DeskFault) (stopped : D → Bool) (client : T → ClientCounts) (left : T → Script) (gives : ℕ → Type 0) (desk desk2 : D) (steps steps2 : T) (errand : Errand) (result : Result BlockEnd BlockFault) : Type 0 where
  pub trips : List RoundTrip
  pub rest : Script
  pub lawful : (trips ≡ [] → ⊥) → IsLawfulErrand (client steps) errand
  pub said : HasSaid goes gives desk desk2 (errand_script (client steps) errand) trips rest
  pub come : IsBlockTo (fault desk2) (stopped desk2) client left steps2 (client steps) errand trips rest result

-- the client began no block, for this reason, and nothing was asked; or it lacked memory
abbrev pub HasNotBegun : {D T : Type 0} → (D → List Deed → D → Type 0) → D → D → T → T → BeginFault → Result BlockEnd BlockFault → Type 0
HasNotBegun goes desk desk2 steps steps2 f (Ok end) = ⊥
HasNotBegun goes desk desk2 steps steps2 f (Err (Begin given)) = (given ≡ f) × (desk2 ≡ desk) × (steps2 ≡ steps)
HasNotBegun goes desk desk2 steps steps2 f (Err (Desk g)) = ⊥
HasNotBegun goes desk desk2 steps steps2 f (Err (Refused given)) = ⊥
HasNotBegun goes desk desk2 steps steps2 f (Err Memory) = desk2 ≡ desk

-- the errand of a block was run, or its first reason stood against it
abbrev pub HasRunBlock : {D T : Type 0} → (D → List Deed → D → Type 0) → (D → Option DeskFault) → (D → Bool) → (T → ClientCounts) → (T → Script) → (ℕ → Type 0) → D → D → T → T → Result Errand BeginFault → Result BlockEnd BlockFault → Type 0
HasRunBlock goes fault stopped client left gives desk desk2 steps steps2 (Ok errand) result = HasRunErrand goes fault stopped client left gives desk desk2 steps steps2 errand result
HasRunBlock goes fault stopped client left gives desk desk2 steps steps2 (Err f) result = HasNotBegun goes desk desk2 steps steps2 f result
