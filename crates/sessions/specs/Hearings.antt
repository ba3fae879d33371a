-- What was asked of the bytes that came, what is written of it, and why nothing more is.
use Rattle.std.specs.Prelude.{Bool, List, None, Option, Some, length, ℕ, ◌++◌, ◌<◌, ◌≡◌, ◌⊎◌}
use Rattle.wire_values.specs.declared.value.Value.{Value}
use Rattle.wire_grammar.specs.Spells.{Spells}
use Rattle.wire_grammar.specs.Streams.{Leads}
use Rattle.resp_wire.specs.Stands.{IsFault, held_to}
use Rattle.store_model.specs.Words.{Words}
use Rattle.desks.specs.Deeds.{Deed}
use Rattle.desks.specs.declared.desk.DeskFault.{DeskFault}
use Rattle.sessions.specs.Askings.{IsDeskWhy, IsShortOfMemory}
use Rattle.sessions.specs.Calls.{AreCalls, answers}
use Rattle.sessions.specs.CommandValues.{command_in}
use Rattle.sessions.specs.declared.ends.Why.{Why}
use Rattle.sessions.specs.declared.ends.Why.TheVariants.{Closed, Ended, Full, Link, Memory, NotWords, Turns, Wire}

-- a stream begins with values, and just these were asked, each once and in order; the commands are counted
pub record HasHeard {D : Type 0} (goes : D → List Deed → D → Type 0) (gives : ℕ → Type 0) (first now : D) (stream : List ℕ) (count : ℕ) : Type 0 where
  pub values : List Value
  pub deeds : List Deed
  pub from : ℕ
  pub rest : List ℕ
  pub leads : Leads 0 stream values from rest
  pub calls : AreCalls gives values deeds
  pub went : goes first deeds now
  pub counted : count ≡ held_to (length deeds)

-- all of the answers are written
abbrev pub WritesAll : List Deed → List ℕ → Type 0
WritesAll deeds written = written ≡ answers deeds

-- a front of the answers is written
abbrev pub WritesFront : List Deed → List ℕ → Type 0
WritesFront deeds written = (more : List ℕ) × (answers deeds ≡ written ++ more)

-- a front of the answers, and not all of them, is written
abbrev pub WritesPart : List Deed → List ℕ → Type 0
WritesPart deeds written = (more : List ℕ) × (answers deeds ≡ written ++ more) × (0 < length more)

-- the bytes begin with the spelling of this value
abbrev pub BeginsWith : Value → List ℕ → Type 0
BeginsWith v bytes = (front : List ℕ) × (more : List ℕ) × (bytes ≡ front ++ more) × Spells v front

-- the bytes begin with a value that spells no command
abbrev pub BeginsNoCommand : List ℕ → Type 0
BeginsNoCommand bytes = (v : Value) × BeginsWith v bytes × (command_in v ≡ None)

-- the bytes begin with a command
abbrev pub BeginsCommand : List ℕ → Type 0
BeginsCommand bytes = (v : Value) × (words : Words) × BeginsWith v bytes × (command_in v ≡ Some words)

-- memory was wanting: to read on, where something is left to be read; or to ask the command that follows; or to write an answer or send it
abbrev pub LacksMemory : Type 0 → Option DeskFault → List Deed → List ℕ → List ℕ → Type 0
LacksMemory reading fault deeds rest written =
    (WritesAll deeds written × ((reading × (0 < length rest) × (fault ≡ None)) ⊎ (BeginsCommand rest × IsShortOfMemory fault))) ⊎ WritesPart deeds written

-- why no further value is asked: what follows those that were is a fault, or no command, or a command that the desk refused; or memory was wanting, to read only where this holds
abbrev pub EndsTalk : {D : Type 0} → Type 0 → (D → List Deed → D → Type 0) → (ℕ → Type 0) → Bool → Option DeskFault → D → D → List ℕ → List ℕ → ℕ → Why → Type 0
EndsTalk reading goes gives shared fault first now stream written count (Wire kind place) = (h : HasHeard goes gives first now stream count) × WritesAll h.deeds written × IsFault h.from h.rest kind place
EndsTalk reading goes gives shared fault first now stream written count NotWords = (h : HasHeard goes gives first now stream count) × WritesAll h.deeds written × BeginsNoCommand h.rest
EndsTalk reading goes gives shared fault first now stream written count (Full entries bytes) = (h : HasHeard goes gives first now stream count) × WritesAll h.deeds written × BeginsCommand h.rest × IsDeskWhy shared fault (Full entries bytes)
EndsTalk reading goes gives shared fault first now stream written count Closed = (h : HasHeard goes gives first now stream count) × WritesAll h.deeds written × BeginsCommand h.rest × IsDeskWhy shared fault Closed
EndsTalk reading goes gives shared fault first now stream written count Memory = (h : HasHeard goes gives first now stream count) × LacksMemory reading fault h.deeds h.rest written
EndsTalk reading goes gives shared fault first now stream written count Ended = ⊥
EndsTalk reading goes gives shared fault first now stream written count Turns = ⊥
EndsTalk reading goes gives shared fault first now stream written count Link = ⊥
