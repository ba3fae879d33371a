-- What reading a line and a file answers. Serves the proofs of code.
use Rattle.std.specs.Prelude.{◌≡◌, ◌<◌, ℕ, List, [], ◌∷◌, ◌++◌, Result, Ok, Err}
use Rattle.serde_json.specs.View.{view as data_of}
use Rattle.line_text.specs.declared.reason.Reason.{Reason}
use Rattle.line_text.specs.declared.reason.TextFault.{TextFault}
use Rattle.line_text.specs.declared.reason.TextFault.TheVariants as text
use Rattle.beat_times.specs.declared.timed.Timed.{Timed}
use Rattle.beat_times.specs.declared.timed.Timing.{Timing}
use Rattle.beat_times.specs.declared.timed.Timing.TheVariants.{Every, Cron}
use Rattle.beat_files.specs.BeatFiles.{BeatFile, BeatLine, BeatSending, BeatTiming, Bad_line, Calendar, Entries, Interval}
use Rattle.beat_files.specs.declared.entry.BeatTask.{BeatTask}
use Rattle.beat_files.specs.declared.entry.FileEntry.{FileEntry}
use Rattle.beat_files.specs.declared.fault.EntryFault.{EntryFault}
use Rattle.beat_files.specs.declared.fault.EntryFault.TheVariants.{Bad, Memory}
use Rattle.beat_files.specs.declared.schedule.Schedule.{Schedule}

-- what is sent, without where it lies in memory
abbrev pub sending_of : BeatTask → BeatSending
sending_of t = record { name = t.name; queue = t.queue; task = t.task; args = data_of t.args }

-- when it comes due
abbrev pub timing_of : Timing → BeatTiming
timing_of (Every seconds) = Interval seconds
timing_of (Cron crontab) = Calendar crontab.value

-- an entry
abbrev pub line_of : FileEntry → BeatLine
line_of e = record { sends = sending_of e.task; timing = timing_of e.timing }

-- what was read, seen by view, is what is spelled, or the reason against it is told; want of memory says nothing
abbrev pub GivesLine : {X Y : Type 0} → (X → Y) → Result X EntryFault → Result Y Reason → Type 0
GivesLine view (Ok x) spelled = spelled ≡ Ok (view x)
GivesLine view (Err (Bad r)) spelled = spelled ≡ Err r
GivesLine view (Err Memory) spelled = Unit {0}

-- ---- a schedule

-- tasks and their times, side by side
abbrev pub lines_with : List BeatTask → List Timed → List BeatLine
lines_with [] ts = []
lines_with (e ∷ es) [] = []
lines_with (e ∷ es) (t ∷ ts) = record { sends = sending_of e; timing = timing_of t.timing } ∷ lines_with es ts

-- what a schedule sends, in the order of its file
abbrev pub tasks_in : Schedule → List BeatTask
tasks_in s = s.tasks.items

-- the times of its entries, in the same order
abbrev pub times_in : Schedule → List Timed
times_in s = s.times.items

-- the entries of a schedule
abbrev pub entries_in : Schedule → List BeatLine
entries_in s = lines_with (tasks_in s) (times_in s)

-- each last moment is this one
abbrev pub AreFrom : ℕ → List Timed → Type 0
AreFrom start [] = Unit {0}
AreFrom start (t ∷ ts) = (t.last ≡ start) × AreFrom start ts

-- an answer to what a file spells: a schedule of its entries, each of which begins at this moment, or its first bad line; want of memory may be answered at any time
abbrev pub IsRead : ℕ → BeatFile → Result Schedule TextFault → Type 0
IsRead start told (Ok s) = (told ≡ Entries (entries_in s)) × AreFrom start (times_in s)
IsRead start told (Err (text.Bad b)) = told ≡ Bad_line b.line b.reason
IsRead start told (Err text.Memory) = Unit {0}

-- an answer to a line of this number
abbrev pub IsReadAt : ℕ → Result BeatLine Reason → Result FileEntry TextFault → Type 0
IsReadAt n spelled (Ok e) = spelled ≡ Ok (line_of e)
IsReadAt n spelled (Err (text.Bad b)) = (b.line ≡ n) × (spelled ≡ Err b.reason)
IsReadAt n spelled (Err text.Memory) = Unit {0}

-- entries before those that are still to be read
abbrev pub entries_before : List BeatLine → BeatFile → BeatFile
entries_before es (Entries more) = Entries (es ++ more)
entries_before es (Bad_line n r) = Bad_line n r

-- each index is one of so many entries
abbrev pub AreBelow : ℕ → List ℕ → Type 0
AreBelow count [] = Unit {0}
AreBelow count (i ∷ is) = (i < count) × AreBelow count is
