-- How a block is said at a desk. Serves the proofs of code.
use Rattle.std.specs.Prelude.{◌≡◌, ◌≤◌, ◌++◌, ℕ, Bool, List, [], ◌∷◌, Option, Some, ⊤, Result, Ok, Err}
use Rattle.wire_values.specs.declared.value.Value.{Value}
use Rattle.store_model.specs.Words.{Words}
use Rattle.store_model.specs.declared.reply.Reply.{Reply}
use Rattle.command_blocks.specs.Calls.{Call, call}
use Rattle.command_blocks.specs.EnvelopeTexts.{plain_setting}
use Rattle.command_blocks.specs.Scripts.{Off, Over, Plan, Script, next_words, script_of}
use Rattle.block_laws.specs.Traces.{IsTrace}
use Rattle.block_core.specs.Cores.{HasHad, core_left}
use Rattle.block_core.specs.declared.block.BlockCore.{BlockCore}
use Rattle.desks.specs.Deeds.{Deed, DidAsk, DidNote, DidStop}
use Rattle.desks.specs.Faults.{IsFaultOf, IsNotEnded, IsOpen}
use Rattle.desks.specs.declared.desk.DeskFault.{DeskFault}
use Rattle.publish_run.specs.declared.saying.SayFault.{SayFault}
use Rattle.publish_run.specs.declared.saying.SayFault.TheVariants.{Desk, Memory, Refused}

-- the calls among deeds, in order
abbrev pub calls_said : List Deed → List Call
calls_said [] = []
calls_said (DidAsk at words reply ∷ l) = call at words reply.answer ∷ calls_said l
calls_said (DidNote heard ∷ l) = calls_said l
calls_said (DidStop ∷ l) = calls_said l

-- the last of these calls was answered this
abbrev pub EndsWith : List Call → Value → Type 0
EndsWith calls answer = (before : List Call) × (at : ℕ) × (words : Words) × (calls ≡ before ++ call at words answer ∷ [])

-- a desk by what it shows: the first fault that it answered, whether it was stopped, and how often its link failed and ended
pub record DeskShows : Type 0 where
  pub fault : Option DeskFault
  pub stopped : Bool
  pub faults : ℕ
  pub ends : ℕ

abbrev pub desk_shows : {D : Type 0} → (D → Option DeskFault) → (D → Bool) → (D → ℕ) → (D → ℕ) → D → DeskShows
desk_shows fault stopped faults ends d = record { fault = fault d; stopped = stopped d; faults = faults d; ends = ends d }

-- a desk is open
abbrev pub StandsOpen : DeskShows → Type 0
StandsOpen d = IsOpen d.fault d.stopped

-- a desk that was open has this fault, for which there was a cause in these calls
pub record HasFailed (remote shared : Bool) (old new : DeskShows) (f : DeskFault) : Type 0 where
  pub shown : new.fault ≡ Some f
  pub cause : IsFaultOf remote shared old.faults new.faults old.ends new.ends f
  pub timely : IsNotEnded f

-- later counts of a desk
pub record IsLater (old new : DeskShows) : Type 0 where
  pub faults : old.faults ≤ new.faults
  pub ends : old.ends ≤ new.ends

-- amid a block, a desk did these deeds, and the core has had their calls
pub record IsAmid {D S E : Type 0} (goes : D → List Deed → D → Type 0) (left : S → Script) (had : Plan → List Call → S → Type 0) (tell : Plan → List Call → E → Type 0) (s p : ℕ) (plan : Plan) (desk desk2 : D) (core : BlockCore S E) : Type 0 where
  pub deeds : List Deed
  pub went : goes desk deeds desk2
  pub had_so : HasHad left had tell s p plan (calls_said deeds) core

-- ---- one command

-- the next words of what is left were refused by this fault
abbrev pub IsCutAt : (Words → DeskFault → Type 0) → Script → DeskFault → Type 0
IsCutAt Cut left f = (words : Words) × (next_words left 0 ≡ Some words) × Cut words f

-- what is left after one command: something that goes on, or an answer that isn't listed
abbrev pub IsSaidOne : (Words → DeskFault → Type 0) → Bool → Bool → DeskShows → DeskShows → List Deed → Script → Result ⊤ SayFault → Type 0
IsSaidOne Cut remote shared old new deeds left (Ok u) = StandsOpen new × (left ≡ Off → ⊥)
IsSaidOne Cut remote shared old new deeds left (Err (Desk f)) = HasFailed remote shared old new f × (deeds ≡ []) × IsCutAt Cut left f
IsSaidOne Cut remote shared old new deeds left (Err (Refused answer)) = StandsOpen new × (left ≡ Off) × EndsWith (calls_said deeds) answer
IsSaidOne Cut remote shared old new deeds left (Err Memory) = StandsOpen new

-- what a core had before, and then these calls; after a fault nothing is told of it
abbrev pub HasHadMore : (List Call → Type 0) → List Call → Result ⊤ SayFault → Type 0
HasHadMore Had calls (Ok u) = Had calls
HasHadMore Had calls (Err f) = Unit {0}

-- a command of a block was said, whose script began so and of which this is left
pub record HasSaidOne {D S E : Type 0} (goes : D → List Deed → D → Type 0) (refuses : D → Words → DeskFault → D → Type 0) (remote shared : Bool) (left : S → Script) (had : Plan → List Call → S → Type 0) (tell : Plan → List Call → E → Type 0) (s p : ℕ) (plan : Plan) (calls : List Call) (desk desk2 : D) (shows shows2 : DeskShows) (core2 : BlockCore S E) (result : Result ⊤ SayFault) : Type 0 where
  pub deeds : List Deed
  pub rest : Script
  pub went : goes desk deeds desk2
  pub trace : IsTrace (script_of plain_setting s p plan) (calls ++ calls_said deeds) rest
  pub come : IsSaidOne (λ words f. refuses desk words f desk2) remote shared shows shows2 deeds rest result
  pub kept : HasHadMore (λ l. HasHad left had tell s p plan l core2) (calls ++ calls_said deeds) result

-- a reply was taken, and the block goes on or is over; or its answer isn't listed; of want of memory nothing is told
abbrev pub HasHeardReply : {S E : Type 0} → (S → Script) → (Plan → List Call → S → Type 0) → (Plan → List Call → E → Type 0) → ℕ → ℕ → Plan → List Call → Words → Reply → BlockCore S E → Result ⊤ SayFault → Type 0
HasHeardReply left had tell s p plan calls words reply core (Ok u) = HasHad left had tell s p plan (calls ++ call 0 words reply.answer ∷ []) core × (core_left left core ≡ Off → ⊥)
HasHeardReply left had tell s p plan calls words reply core (Err (Refused answer)) = (answer ≡ reply.answer) × HasHad left had tell s p plan (calls ++ call 0 words reply.answer ∷ []) core × (core_left left core ≡ Off)
HasHeardReply left had tell s p plan calls words reply core (Err Memory) = Unit {0}
HasHeardReply left had tell s p plan calls words reply core (Err (Desk f)) = ⊥

-- ---- a block

-- these deeds were done, and then these words refused
abbrev pub HasCutAfter : {D : Type 0} → (D → List Deed → D → Type 0) → (D → Words → DeskFault → D → Type 0) → D → List Deed → D → Words → DeskFault → Type 0
HasCutAfter {D} goes refuses desk deeds desk2 words f = (mid : D) × goes desk deeds mid × refuses mid words f desk2

-- how a block ends: whole, and the end tells of its calls; or a fault of the desk, or an answer that isn't listed, or for want of memory
abbrev pub IsSaidBlock : {E : Type 0} → (Words → DeskFault → Type 0) → Bool → Bool → (List Call → E → Type 0) → DeskShows → DeskShows → List Deed → Script → Result E SayFault → Type 0
IsSaidBlock Cut remote shared tell old new deeds left (Ok end) = StandsOpen new × (left ≡ Over) × tell (calls_said deeds) end
IsSaidBlock Cut remote shared tell old new deeds left (Err (Desk f)) = HasFailed remote shared old new f × IsCutAt Cut left f
IsSaidBlock Cut remote shared tell old new deeds left (Err (Refused answer)) = StandsOpen new × (left ≡ Off) × EndsWith (calls_said deeds) answer
IsSaidBlock Cut remote shared tell old new deeds left (Err Memory) = StandsOpen new

-- the block of a plan was said, as far as it came
pub record HasSaidBlock {D E : Type 0} (goes : D → List Deed → D → Type 0) (refuses : D → Words → DeskFault → D → Type 0) (remote shared : Bool) (tell : Plan → List Call → E → Type 0) (s p : ℕ) (plan : Plan) (desk desk2 : D) (shows shows2 : DeskShows) (result : Result E SayFault) : Type 0 where
  pub deeds : List Deed
  pub rest : Script
  pub went : goes desk deeds desk2
  pub trace : IsTrace (script_of plain_setting s p plan) (calls_said deeds) rest
  pub come : IsSaidBlock (HasCutAfter goes refuses desk deeds desk2) remote shared (tell plan) shows shows2 deeds rest result
