-- What a round sends, and how it ends.
use Rattle.std.specs.Prelude.{◌≡◌, ◌⊎◌, ℕ, pos, Bool, false, ◌&&◌, List, [], ◌∷◌, ◌++◌, slice_get, Option, None, Some, Result, Ok, Err}
use Rattle.std.specs.Str.{is_utf8}
use Rattle.serde_json.specs.Data.{Data}
use Rattle.serde_json.specs.View.{view as data_of}
use Rattle.delivery_tags.specs.Tags.{tag_text}
use Rattle.delivery_tags.specs.declared.tag.Tag.{Tag}
use Rattle.command_blocks.specs.Scripts.{Script, Over}
use Rattle.sealed_drafts.specs.Sealed.{seal_of}
use Rattle.sealed_drafts.specs.declared.sealing.Draft.{Draft}
use Rattle.task_message.specs.Drafted.{IsDrafted, can_draft}
use Rattle.task_message.specs.Tasks.{TaskParts}
use Rattle.client_plans.specs.Tasks.{published_task}
use Rattle.desks.specs.Deeds.{Deed}
use Rattle.desks.specs.Faults.{IsFaultOf, IsNotEnded, IsOpen}
use Rattle.desks.specs.declared.desk.DeskFault.{DeskFault}
use Rattle.steps.specs.Begins.{AreTexts, drafted_errand, publish_errand}
use Rattle.steps.specs.Clients.{next_tag_of}
use Rattle.steps.specs.declared.counts.ClientCounts.{ClientCounts}
use Rattle.steps.specs.Errands.{IsErrandBlock, client_after}
use Rattle.steps.specs.Trips.{RoundTrip, trip_calls}
use Rattle.steps.specs.declared.begun.BeginFault.{BeginFault}
use Rattle.block_runs.specs.Runs.{AreClocked, HasRunErrand, trip_deeds}
use Rattle.block_runs.specs.declared.fault.BlockFault.{BlockFault}
use Rattle.block_runs.specs.declared.fault.BlockFault.TheVariants as halt
use Rattle.beat_times.specs.Due.{AreDue, AreTicked}
use Rattle.beat_files.specs.Readings.{tasks_in, times_in}
use Rattle.beat_files.specs.declared.entry.BeatTask.{BeatTask}
use Rattle.beat_files.specs.declared.schedule.Schedule.{Schedule}
use Rattle.beat_round.specs.declared.ended.BeatEnd.{BeatEnd}
use Rattle.beat_round.specs.declared.ended.BeatEnd.TheVariants.{Sent, Desk, Refused, NoTag, Unsealed, Memory}

-- ---- what an entry sends

-- the task of an entry under a tag: of version 2, without keywords, never retried, at no moment, and its id is the tag's text
abbrev pub entry_task : BeatTask → ℕ → TaskParts
entry_task t n = published_task (tag_text n) t.task (data_of t.args)

-- its draft: it goes to the entry's queue directly, with priority 0
abbrev pub IsEntryDraft : BeatTask → ℕ → Draft → Type 0
IsEntryDraft t n d = IsDrafted (entry_task t n) [] t.queue (pos 0) d

-- whether it can be drafted
abbrev pub can_send : BeatTask → ℕ → Bool
can_send t n = is_utf8 t.queue && can_draft (entry_task t n)

-- a draft was made, or none can be
abbrev pub IsDrafting : BeatTask → ℕ → Option Draft → Type 0
IsDrafting t n (Some d) = IsEntryDraft t n d × AreTexts d
IsDrafting t n None = can_send t n ≡ false

-- ---- one entry

-- a client with these counters said the whole Publish block of an entry at its desk, under its next tag, and of no other
pub record WasSent {D : Type 0} (goes : D → List Deed → D → Type 0) (gives : ℕ → Type 0) (c c2 : ClientCounts) (desk desk2 : D) (t : BeatTask) (n : ℕ) : Type 0 where
  pub next : next_tag_of c ≡ Some n
  pub draft : Draft
  pub drafted : IsEntryDraft t n draft
  pub tree : Data
  pub sealed_so : seal_of draft n ≡ Ok tree
  pub trips : List RoundTrip
  pub went : goes desk (trip_deeds trips) desk2
  pub block : IsErrandBlock c (publish_errand tree) (trip_calls trips)
  pub given : AreClocked gives trips
  pub counted : c2 ≡ client_after c (publish_errand tree)

-- an entry's block was begun, and stopped at a fault
pub record HasCut {D T : Type 0} (goes : D → List Deed → D → Type 0) (fault : D → Option DeskFault) (stopped : D → Bool) (client : T → ClientCounts) (left : T → Script) (gives : ℕ → Type 0) (desk desk2 : D) (steps steps2 : T) (t : BeatTask) (f : BlockFault) : Type 0 where
  pub n : ℕ
  pub next : next_tag_of (client steps) ≡ Some n
  pub draft : Draft
  pub drafted : IsEntryDraft t n draft
  pub tree : Data
  pub sealed_so : seal_of draft n ≡ Ok tree
  pub run : HasRunErrand goes fault stopped client left gives desk desk2 steps steps2 (publish_errand tree) (Err f)

-- no lawful envelope can be made of an entry: it can't be drafted, or the draft is refused
abbrev pub IsUnsendable : ClientCounts → BeatTask → Type 0
IsUnsendable c t = (n : ℕ) × (next_tag_of c ≡ Some n) × ((can_send t n ≡ false) ⊎ ((d : Draft) × IsEntryDraft t n d × (f : BeginFault) × (drafted_errand d (Some n) ≡ Err f)))

-- an entry wasn't sent, and the round ended so
abbrev pub HasNotSent : {D T : Type 0} → (D → List Deed → D → Type 0) → (D → Option DeskFault) → (D → Bool) → (T → ClientCounts) → (T → Script) → (ℕ → Type 0) → D → D → T → T → BeatTask → BeatEnd → Type 0
HasNotSent goes fault stopped client left gives desk desk2 steps steps2 t (Sent l) = ⊥
HasNotSent goes fault stopped client left gives desk desk2 steps steps2 t (Desk f) = HasCut goes fault stopped client left gives desk desk2 steps steps2 t (halt.Desk f)
HasNotSent goes fault stopped client left gives desk desk2 steps steps2 t (Refused r) = HasCut goes fault stopped client left gives desk desk2 steps steps2 t (halt.Refused r)
HasNotSent goes fault stopped client left gives desk desk2 steps steps2 t NoTag = (next_tag_of (client steps) ≡ None) × (desk2 ≡ desk) × (steps2 ≡ steps)
HasNotSent goes fault stopped client left gives desk desk2 steps steps2 t Unsealed = IsUnsendable (client steps) t × (desk2 ≡ desk) × (steps2 ≡ steps)
HasNotSent goes fault stopped client left gives desk desk2 steps steps2 t Memory = Unit {0}

-- an entry was sent under a tag, or it wasn't
abbrev pub HasSentEntry : {D T : Type 0} → (D → List Deed → D → Type 0) → (D → Option DeskFault) → (D → Bool) → (T → ClientCounts) → (T → Script) → (ℕ → Type 0) → D → D → T → T → BeatTask → Result Tag BeatEnd → Type 0
HasSentEntry goes fault stopped client left gives desk desk2 steps steps2 t (Ok tag) = WasSent goes gives (client steps) (client steps2) desk desk2 t tag.0
HasSentEntry goes fault stopped client left gives desk desk2 steps steps2 t (Err end) = HasNotSent goes fault stopped client left gives desk desk2 steps steps2 t end

-- ---- the entries of a round

-- the entries of these indices were sent, whole and in their order, under these tags, and nothing else was said at the desk
abbrev pub AreSent : {D : Type 0} → (D → List Deed → D → Type 0) → (ℕ → Type 0) → List BeatTask → ClientCounts → ClientCounts → D → D → List ℕ → List (ℕ × Tag) → Type 0
AreSent goes gives tasks c c2 desk desk2 [] sent = (sent ≡ []) × (c2 ≡ c) × goes desk [] desk2
AreSent {D} goes gives tasks c c2 desk desk2 (i ∷ is) sent = (t : BeatTask) × (tag : Tag) × (more : List (ℕ × Tag)) × (mid : D) × (c1 : ClientCounts)
    × (slice_get tasks i ≡ Some t) × (sent ≡ (i, tag) ∷ more) × WasSent goes gives c c1 desk mid t tag.0 × AreSent goes gives tasks c1 c2 mid desk2 is more

-- some of the entries were sent, and the next of them wasn't
pub record HasStopped {D T : Type 0} (goes : D → List Deed → D → Type 0) (fault : D → Option DeskFault) (stopped : D → Bool) (client : T → ClientCounts) (left : T → Script) (gives : ℕ → Type 0) (tasks : List BeatTask) (desk desk2 : D) (steps steps2 : T) (indices : List ℕ) (end : BeatEnd) : Type 0 where
  pub before : List ℕ
  pub index : ℕ
  pub after : List ℕ
  pub indices_are : indices ≡ before ++ index ∷ after
  pub sent : List (ℕ × Tag)
  pub mid : D
  pub midst : T
  pub were_sent : AreSent goes gives tasks (client steps) (client midst) desk mid before sent
  pub task : BeatTask
  pub task_is : slice_get tasks index ≡ Some task
  pub not_sent : HasNotSent goes fault stopped client left gives mid desk2 midst steps2 task end

-- how sending the entries of these indices ends; of want of memory nothing is told
abbrev pub HasEnded : {D T : Type 0} → (D → List Deed → D → Type 0) → (D → Option DeskFault) → (D → Bool) → (T → ClientCounts) → (T → Script) → (ℕ → Type 0) → List BeatTask → D → D → T → T → List ℕ → BeatEnd → Type 0
HasEnded goes fault stopped client left gives tasks desk desk2 steps steps2 indices (Sent l) = AreSent goes gives tasks (client steps) (client steps2) desk desk2 indices l
HasEnded goes fault stopped client left gives tasks desk desk2 steps steps2 indices (Desk f) = HasStopped goes fault stopped client left gives tasks desk desk2 steps steps2 indices (Desk f)
HasEnded goes fault stopped client left gives tasks desk desk2 steps steps2 indices (Refused r) = HasStopped goes fault stopped client left gives tasks desk desk2 steps steps2 indices (Refused r)
HasEnded goes fault stopped client left gives tasks desk desk2 steps steps2 indices NoTag = HasStopped goes fault stopped client left gives tasks desk desk2 steps steps2 indices NoTag
HasEnded goes fault stopped client left gives tasks desk desk2 steps steps2 indices Unsealed = HasStopped goes fault stopped client left gives tasks desk desk2 steps steps2 indices Unsealed
HasEnded goes fault stopped client left gives tasks desk desk2 steps steps2 indices Memory = Unit {0}

-- an end of sending that isn't Sent
abbrev pub IsFault : BeatEnd → Type 0
IsFault (Sent l) = ⊥
IsFault other = Unit {0}

abbrev pub HasSentAll : {D T : Type 0} → (D → List Deed → D → Type 0) → (D → Option DeskFault) → (D → Bool) → (T → ClientCounts) → (T → Script) → (ℕ → Type 0) → D → D → T → T → List BeatTask → List ℕ → Result (List (ℕ × Tag)) BeatEnd → Type 0
HasSentAll goes fault stopped client left gives desk desk2 steps steps2 tasks indices (Ok sent) = AreSent goes gives tasks (client steps) (client steps2) desk desk2 indices sent
HasSentAll goes fault stopped client left gives desk desk2 steps steps2 tasks indices (Err end) = IsFault end × HasEnded goes fault stopped client left gives tasks desk desk2 steps steps2 indices end

-- ---- a round

-- the schedule ticked where all was sent, and else it is as it was
abbrev pub HasTickedAt : ℕ → Schedule → Schedule → BeatEnd → Type 0
HasTickedAt now old new (Sent l) = AreTicked now (times_in old) (times_in new) × (tasks_in new ≡ tasks_in old)
HasTickedAt now old new other = new ≡ old

-- the entries that are due, and no others, were sent in the file's order as far as it came, and then the schedule ticked
pub record HasSentDue {D T : Type 0} (goes : D → List Deed → D → Type 0) (fault : D → Option DeskFault) (stopped : D → Bool) (client : T → ClientCounts) (left : T → Script) (gives : ℕ → Type 0) (desk desk2 : D) (steps steps2 : T) (now : ℕ) (old new : Schedule) (end : BeatEnd) : Type 0 where
  pub indices : List ℕ
  pub due : AreDue now 0 (times_in old) indices
  pub came : HasEnded goes fault stopped client left gives (tasks_in old) desk desk2 steps steps2 indices end
  pub ticked : HasTickedAt now old new end

-- a round; of want of memory only that the schedule hasn't ticked is told
abbrev pub HasMadeRound : {D T : Type 0} → (D → List Deed → D → Type 0) → (D → Option DeskFault) → (D → Bool) → (T → ClientCounts) → (T → Script) → (ℕ → Type 0) → D → D → T → T → ℕ → Schedule → Schedule → BeatEnd → Type 0
HasMadeRound goes fault stopped client left gives desk desk2 steps steps2 now old new (Sent l) = HasSentDue goes fault stopped client left gives desk desk2 steps steps2 now old new (Sent l)
HasMadeRound goes fault stopped client left gives desk desk2 steps steps2 now old new (Desk f) = HasSentDue goes fault stopped client left gives desk desk2 steps steps2 now old new (Desk f)
HasMadeRound goes fault stopped client left gives desk desk2 steps steps2 now old new (Refused r) = HasSentDue goes fault stopped client left gives desk desk2 steps steps2 now old new (Refused r)
HasMadeRound goes fault stopped client left gives desk desk2 steps steps2 now old new NoTag = HasSentDue goes fault stopped client left gives desk desk2 steps steps2 now old new NoTag
HasMadeRound goes fault stopped client left gives desk desk2 steps steps2 now old new Unsealed = HasSentDue goes fault stopped client left gives desk desk2 steps steps2 now old new Unsealed
HasMadeRound goes fault stopped client left gives desk desk2 steps steps2 now old new Memory = new ≡ old

-- after a round that ended Sent the desk is open and the client idle
abbrev pub RoundKeeps : {D T : Type 0} → (D → Option DeskFault) → (D → Bool) → (T → Script) → D → T → BeatEnd → Type 0
RoundKeeps fault stopped left desk steps (Sent l) = IsOpen (fault desk) (stopped desk) × (left steps ≡ Over)
RoundKeeps fault stopped left desk steps other = Unit {0}

-- ---- causes

-- a fault of the desk came as each of its faults does, by what its link's counts were before and after, and it isn't that the desk wasn't open
abbrev pub IsDeskCause : Bool → Bool → ℕ → ℕ → ℕ → ℕ → BeatEnd → Type 0
IsDeskCause remote shared faults faults2 ends ends2 (Desk f) = IsFaultOf remote shared faults faults2 ends ends2 f × IsNotEnded f
IsDeskCause remote shared faults faults2 ends ends2 other = Unit {0}
