-- How a publish script is said and told.
use Rattle.std.specs.Io.KnownBytes.{Appends}
use Rattle.std.specs.Prelude.{◌≡◌, ◌≤◌, ◌++◌, ◌⊎◌, ℕ, Bool, List, [], ◌∷◌, ⊤, Result, Ok, Err, false}
use Rattle.wire_values.specs.declared.value.Value.{Value}
use Rattle.links.specs.Causes.{AppendsFront, Rose}
use Rattle.links.specs.Views.{SinkView}
use Rattle.command_blocks.specs.Calls.{Call}
use Rattle.command_blocks.specs.Scripts.{Plan}
use Rattle.desks.specs.Deeds.{Deed}
use Rattle.desks.specs.declared.desk.DeskFault.{DeskFault}
use Rattle.desks.specs.declared.desk.DeskFault.TheVariants as fault
use Rattle.store_model.specs.Words.{Words}
use Rattle.publish_run.specs.Blocks.{AreBlocksTold, BeginsNext, IsBlockTold, IsNextCommand, IsNextTold, IsRefusedNext, drawn_after, end_line}
use Rattle.publish_run.specs.Saids.{DeskShows, HasCutAfter, HasFailed, StandsOpen, calls_said}
use Rattle.routes.specs.declared.publish.PublishEnd.{PublishEnd}
use Rattle.queue_keys.specs.Names.{Bytes}
use Rattle.publish_script.specs.Scripts.{Blocks, Noted, Says, ScriptReader, ScriptStep, lines_script}
use Rattle.publish_run.specs.declared.saying.SayFault.{SayFault}
use Rattle.publish_run.specs.declared.saying.SayFault.TheVariants as say
use Rattle.publish_run.specs.declared.ending.PublishingEnd.{PublishingEnd}
use Rattle.publish_run.specs.declared.ending.PublishingEnd.TheVariants.{BadLine, LinkFault, Memory, Published, ReadFault, Refused, WriteFault}

-- a fault that ends publishing as a fault of the link: any but want of memory, of a desk that was open
abbrev pub IsLinks : DeskFault → Type 0
IsLinks fault.Link = Unit {0}
IsLinks (fault.Wire kind place) = Unit {0}
IsLinks fault.Flood = Unit {0}
IsLinks (fault.Full entries bytes) = Unit {0}
IsLinks fault.Closed = Unit {0}
IsLinks fault.Ended = ⊥
IsLinks fault.Memory = ⊥

-- after these calls the desk was asked the next command of the next of these plans, and refused it by this fault
abbrev pub IsCutNext : (Words → DeskFault → Type 0) → Bool → Bool → ℕ → ℕ → List Plan → List Call → DeskShows → DeskShows → DeskFault → Type 0
IsCutNext Cut remote shared s n left calls shows shows2 f = (words : Words) × IsNextCommand s n left calls words × Cut words f × HasFailed remote shared shows shows2 f

-- there was no memory beside a desk that stays open: before a block, within it, or after an answer that isn't listed
abbrev pub IsWithoutMemory : ℕ → ℕ → List Plan → List Call → DeskShows → Type 0
IsWithoutMemory s n left calls shows2 = StandsOpen shows2 × ((calls ≡ []) ⊎ (BeginsNext s n left calls ⊎ ((answer : Value) × IsRefusedNext s n left calls answer)))

-- why saying a script ended, amid the block of the next of the plans that are left, of which these calls were said: nothing is left; or the desk refused the next command; or an answer isn't listed, this one; or the sink failed within the line of a whole block; or there was no memory
abbrev pub IsCause : (Words → DeskFault → Type 0) → Bool → Bool → ℕ → ℕ → List Plan → List Call → DeskShows → DeskShows → SinkView → SinkView → PublishingEnd → Type 0
IsCause Cut remote shared s n left calls shows shows2 old new Published = (left ≡ []) × (calls ≡ []) × StandsOpen shows2 × (new ≡ old)
IsCause Cut remote shared s n left calls shows shows2 old new LinkFault = ((f : DeskFault) × IsLinks f × IsCutNext Cut remote shared s n left calls shows shows2 f) × (new ≡ old)
IsCause Cut remote shared s n left calls shows shows2 old new (Refused answer) = IsRefusedNext s n left calls answer × StandsOpen shows2 × (new ≡ old)
IsCause Cut remote shared s n left calls shows shows2 old new WriteFault = ((line : List ℕ) × IsNextTold s n left calls line × AppendsFront old.taken new.taken line) × StandsOpen shows2 × (old.faults ≤ new.faults) × Rose old.faults new.faults
IsCause Cut remote shared s n left calls shows shows2 old new Memory = (IsCutNext Cut remote shared s n left calls shows shows2 fault.Memory ⊎ IsWithoutMemory s n left calls shows2) × (new ≡ old)
IsCause Cut remote shared s n left calls shows shows2 old new (BadLine bad) = ⊥
IsCause Cut remote shared s n left calls shows shows2 old new ReadFault = ⊥

-- the blocks of these plans were said at a desk, whole and in order, and what is to be written of each was written, up to where it ended so
pub record HasSaidScript {D : Type 0} (goes : D → List Deed → D → Type 0) (refuses : D → Words → DeskFault → D → Type 0) (remote shared : Bool) (s n : ℕ) (plans : List Plan) (desk desk2 : D) (shows shows2 : DeskShows) (old new : SinkView) (end : PublishingEnd) : Type 0 where
  pub done : List Plan
  pub left : List Plan
  pub all : plans ≡ done ++ left
  pub deeds : List Deed
  pub amid : List Deed
  pub went : goes desk (deeds ++ amid) desk2
  pub text : List ℕ
  pub told : AreBlocksTold s n done (calls_said deeds) text
  pub between : SinkView
  pub written : Appends old.taken between.taken text
  pub calm : between.faults ≡ old.faults
  pub cause : IsCause (HasCutAfter goes refuses desk (deeds ++ amid) desk2) remote shared s (drawn_after n done) left (calls_said amid) shows shows2 between new end

-- amid a script, the blocks of some of its plans were said and told, and the others are what the lines that are left say
pub record IsAmidScript {D : Type 0} (goes : D → List Deed → D → Type 0) (s : ℕ) (plans : List Plan) (desk desk2 : D) (old new : SinkView) (reader : ScriptReader) (lines : List (ℕ × Bytes)) : Type 0 where
  pub done : List Plan
  pub left : List Plan
  pub all : plans ≡ done ++ left
  pub leads : lines_script s false reader lines ≡ Blocks left
  pub counts : reader.drawn ≡ drawn_after 0 done
  pub deeds : List Deed
  pub went : goes desk deeds desk2
  pub text : List ℕ
  pub told : AreBlocksTold s 0 done (calls_said deeds) text
  pub written : Appends old.taken new.taken text
  pub calm : new.faults ≡ old.faults

-- ---- one line

-- the block of a plan was said and told; or saying ended amid it
abbrev pub HasToldBlock : (Words → DeskFault → Type 0) → Bool → Bool → ℕ → ℕ → Plan → List Call → DeskShows → DeskShows → SinkView → SinkView → Result ⊤ PublishingEnd → Type 0
HasToldBlock Cut remote shared s n p calls shows shows2 old new (Ok u) = ((line : List ℕ) × IsBlockTold s n p calls line × Appends old.taken new.taken line) × (new.faults ≡ old.faults) × StandsOpen shows2
HasToldBlock Cut remote shared s n p calls shows shows2 old new (Err end) = IsCause Cut remote shared s n (p ∷ []) calls shows shows2 old new end

pub record HasSaidPlan {D : Type 0} (goes : D → List Deed → D → Type 0) (refuses : D → Words → DeskFault → D → Type 0) (remote shared : Bool) (s n : ℕ) (p : Plan) (desk desk2 : D) (shows shows2 : DeskShows) (old new : SinkView) (result : Result ⊤ PublishingEnd) : Type 0 where
  pub deeds : List Deed
  pub went : goes desk deeds desk2
  pub taken : HasToldBlock (HasCutAfter goes refuses desk deeds desk2) remote shared s n p (calls_said deeds) shows shows2 old new result

-- a line was taken: nothing is said of it, or the block that it says was said and told
abbrev pub HasSaidLine : {D : Type 0} → (D → List Deed → D → Type 0) → (D → Words → DeskFault → D → Type 0) → Bool → Bool → ℕ → ℕ → ScriptStep → ScriptReader → D → D → DeskShows → DeskShows → SinkView → SinkView → Result ⊤ PublishingEnd → Type 0
HasSaidLine goes refuses remote shared s n step reader desk desk2 shows shows2 old new (Ok u) =
    ((step ≡ Noted reader) × (desk2 ≡ desk) × (new ≡ old))
    ⊎ ((p : Plan) × (step ≡ Says reader p) × HasSaidPlan goes refuses remote shared s n p desk desk2 shows shows2 old new (Ok u))
HasSaidLine goes refuses remote shared s n step reader desk desk2 shows shows2 old new (Err end) =
    ((end ≡ Memory) × (desk2 ≡ desk) × StandsOpen shows2 × (new ≡ old))
    ⊎ ((r : ScriptReader) × (p : Plan) × (step ≡ Says r p) × HasSaidPlan goes refuses remote shared s n p desk desk2 shows shows2 old new (Err end))

-- ---- ends of blocks

-- the end of publishing at a fault of a block: that of its desk, or an answer that isn't listed
abbrev pub IsEndAt : SayFault → PublishingEnd → Type 0
IsEndAt (say.Desk fault.Memory) end = end ≡ Memory
IsEndAt (say.Desk other) end = end ≡ LinkFault
IsEndAt (say.Refused answer) end = end ≡ Refused answer
IsEndAt say.Memory end = end ≡ Memory

-- a line was written; or the sink failed within it, or there was no memory for it
abbrev pub HasWritten : List ℕ → SinkView → SinkView → Result ⊤ PublishingEnd → Type 0
HasWritten line old new (Ok u) = Appends old.taken new.taken line × (new.faults ≡ old.faults)
HasWritten line old new (Err WriteFault) = AppendsFront old.taken new.taken line × (old.faults ≤ new.faults) × Rose old.faults new.faults
HasWritten line old new (Err Memory) = new ≡ old
HasWritten line old new (Err other) = ⊥

-- the end of a publication was told, or its fault is the end of publishing
abbrev pub HasToldEnd : ℕ → ℕ → Result PublishEnd SayFault → SinkView → SinkView → Result ⊤ PublishingEnd → Type 0
HasToldEnd s n (Ok end) old new result = HasWritten (end_line s n end) old new result
HasToldEnd s n (Err f) old new (Ok u) = ⊥
HasToldEnd s n (Err f) old new (Err end) = IsEndAt f end × (new ≡ old)
