-- Sessions over links that don't fail and give whole commands.
use Rattle.std.specs.Prelude.{List, Some, [], ℕ, ◌++◌, ◌<◌, ◌∷◌, ◌≡◌}
use Rattle.wire_values.specs.declared.value.Value.{Value}
use Rattle.links.specs.Causes.{Rose}
use Rattle.wire_grammar.specs.Streams.{Leads}
use Rattle.resp_wire.specs.Stands.{held_to}
use Rattle.store_model.specs.Words.{Words}
use Rattle.net_links.specs.LinkViews.{LinkView}
use Rattle.sessions.specs.CommandValues.{command_in}
use Rattle.sessions.specs.declared.ends.Why.{Why}
use Rattle.sessions.specs.declared.ends.Why.TheVariants.{Closed, Ended, Full, Link, Memory, NotWords, Turns, Wire}

-- each of the values spells a command
abbrev pub AreCommands : List Value → Type 0
AreCommands [] = Unit {0}
AreCommands (v ∷ vs) = ((words : Words) × (command_in v ≡ Some words)) × AreCommands vs

-- the bytes are these values, one after the other, and each is a command
pub record AreWholeCommands (bytes : List ℕ) (values : List Value) : Type 0 where
  pub until : ℕ
  pub leads : Leads 0 bytes values until []
  pub commands : AreCommands values

-- a link didn't fail, what came over it are the first of some bytes that are whole commands, all of them came where it ended, and it gave bytes less often than there are turns
pub record IsGivenWhole (old new : LinkView) (stream : List ℕ) (receives turns : ℕ) : Type 0 where
  pub more : List ℕ
  pub values : List Value
  pub whole : AreWholeCommands (stream ++ more) values
  pub all : Rose old.ends new.ends → more ≡ []
  pub sound : Rose old.faults new.faults → ⊥
  pub few : receives < turns

-- at the link's end, when as many commands were asked as came; or since the desk refused a command, or for want of memory
abbrev pub IsWholeEnd : ℕ → ℕ → Why → Type 0
IsWholeEnd came asked Ended = asked ≡ held_to came
IsWholeEnd came asked Turns = ⊥
IsWholeEnd came asked (Wire kind place) = ⊥
IsWholeEnd came asked NotWords = ⊥
IsWholeEnd came asked Link = ⊥
IsWholeEnd came asked (Full entries bytes) = Unit {0}
IsWholeEnd came asked Closed = Unit {0}
IsWholeEnd came asked Memory = Unit {0}
