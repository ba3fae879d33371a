-- What one value that was received leads to.
use Rattle.std.specs.Prelude.{Bool, Err, List, None, Ok, Option, Result, Some, [], true, ⊤, ℕ, ◌++◌, ◌∷◌, ◌≡◌, ◌⊎◌}
use Rattle.wire_values.specs.declared.value.Value.{Value}
use Rattle.links.specs.Counts.{raised}
use Rattle.store_model.specs.Words.{Words}
use Rattle.store_model.specs.declared.reply.Reply.{Reply}
use Rattle.desks.specs.Deeds.{Deed, DidAsk}
use Rattle.desks.specs.declared.desk.DeskFault.{DeskFault}
use Rattle.desks.specs.declared.desk.DeskFault.TheVariants as desk
use Rattle.sessions.specs.CommandValues.{command_in}
use Rattle.sessions.specs.Talks.{IsClocked, reply_bytes}
use Rattle.sessions.specs.declared.ends.Why.{Why}
use Rattle.sessions.specs.declared.ends.Why.TheVariants.{Closed, Ended, Full, Link, Memory, NotWords, Turns, Wire}

-- a desk that shows this first fault ends a session so: a full and a closed history, where it is shared, say so; want of memory does
abbrev pub IsDeskWhy : Bool → Option DeskFault → Why → Type 0
IsDeskWhy shared fault (Full entries bytes) = (shared ≡ true) × (fault ≡ Some (desk.Full entries bytes))
IsDeskWhy shared fault Closed = (shared ≡ true) × (fault ≡ Some desk.Closed)
IsDeskWhy shared fault Memory = fault ≡ Some desk.Memory
IsDeskWhy shared fault Ended = ⊥
IsDeskWhy shared fault Turns = ⊥
IsDeskWhy shared fault (Wire kind place) = ⊥
IsDeskWhy shared fault NotWords = ⊥
IsDeskWhy shared fault Link = ⊥

-- an open desk that isn't remote answers this fault: want of memory, or a full or closed history where it is shared
abbrev pub IsNearFault : Bool → DeskFault → Type 0
IsNearFault shared desk.Link = ⊥
IsNearFault shared (desk.Wire kind place) = ⊥
IsNearFault shared desk.Flood = ⊥
IsNearFault shared (desk.Full entries bytes) = shared ≡ true
IsNearFault shared desk.Closed = shared ≡ true
IsNearFault shared desk.Ended = ⊥
IsNearFault shared desk.Memory = Unit {0}

-- a desk that refused no command, or one for want of memory
abbrev pub IsShortOfMemory : Option DeskFault → Type 0
IsShortOfMemory fault = (fault ≡ None) ⊎ (fault ≡ Some desk.Memory)

-- nothing was asked, and nothing appended
pub record IsSame {D : Type 0} (goes : D → List Deed → D → Type 0) (old new : D) (out out2 : List ℕ) (count count2 : ℕ) : Type 0 where
  pub stays : goes old [] new
  pub unwritten : out2 ≡ out
  pub uncounted : count2 ≡ count

-- a command was asked at a moment of the clock
pub record HasDone {D : Type 0} (goes : D → List Deed → D → Type 0) (gives : ℕ → Type 0) (old new : D) (words : Words) (count count2 : ℕ) (reply : Reply) : Type 0 where
  pub at : ℕ
  pub clocked : IsClocked gives at
  pub did : goes old (DidAsk at words reply ∷ []) new
  pub counted : count2 ≡ raised count

-- a command was asked, and its reply's bytes appended; or the desk refused it; or memory was wanting, before it was asked or after, when no bytes are left and the desk refused nothing
abbrev pub HasAskedWords : {D : Type 0} → (D → List Deed → D → Type 0) → (ℕ → Type 0) → Bool → Option DeskFault → D → D → Words → List ℕ → List ℕ → ℕ → ℕ → Result ⊤ Why → Type 0
HasAskedWords goes gives shared fault old new words out out2 count count2 (Ok done) = (reply : Reply) × HasDone goes gives old new words count count2 reply × (out2 ≡ out ++ reply_bytes reply)
HasAskedWords goes gives shared fault old new words out out2 count count2 (Err (Full entries bytes)) = IsSame goes old new out out2 count count2 × IsDeskWhy shared fault (Full entries bytes)
HasAskedWords goes gives shared fault old new words out out2 count count2 (Err Closed) = IsSame goes old new out out2 count count2 × IsDeskWhy shared fault Closed
HasAskedWords goes gives shared fault old new words out out2 count count2 (Err Memory) = (IsSame goes old new out out2 count count2 × IsDeskWhy shared fault Memory) ⊎ ((reply : Reply) × HasDone goes gives old new words count count2 reply × (out2 ≡ []) × (fault ≡ None))
HasAskedWords goes gives shared fault old new words out out2 count count2 (Err Ended) = ⊥
HasAskedWords goes gives shared fault old new words out out2 count count2 (Err Turns) = ⊥
HasAskedWords goes gives shared fault old new words out out2 count count2 (Err (Wire kind place)) = ⊥
HasAskedWords goes gives shared fault old new words out out2 count count2 (Err NotWords) = ⊥
HasAskedWords goes gives shared fault old new words out out2 count count2 (Err Link) = ⊥

-- a value's words were asked so; NotWords comes exactly where it spells none, and want of memory only where it spells some: there was none to take them, and the desk refused nothing; or as they were asked
abbrev pub HasAnsweredValue : {D : Type 0} → (D → List Deed → D → Type 0) → (ℕ → Type 0) → Bool → Option DeskFault → D → D → Value → List ℕ → List ℕ → ℕ → ℕ → Result ⊤ Why → Type 0
HasAnsweredValue goes gives shared fault old new v out out2 count count2 (Err NotWords) = (command_in v ≡ None) × IsSame goes old new out out2 count count2
HasAnsweredValue goes gives shared fault old new v out out2 count count2 (Err Memory) = (words : Words) × (command_in v ≡ Some words) × ((IsSame goes old new out out2 count count2 × (fault ≡ None)) ⊎ HasAskedWords goes gives shared fault old new words out out2 count count2 (Err Memory))
HasAnsweredValue goes gives shared fault old new v out out2 count count2 result = (words : Words) × (command_in v ≡ Some words) × HasAskedWords goes gives shared fault old new words out out2 count count2 result
