-- What each status of a run says by itself.
use Rattle.std.specs.Io.KnownBytes.{Appends}
use Rattle.std.specs.Prelude.{List, Some, true, ℕ, ◌≡◌, ◌≤◌, ◌⊎◌}
use Rattle.line_text.specs.declared.reason.Reason.{Reason}
use Rattle.links.specs.Causes.{AppendsFront, Rose}
use Rattle.links.specs.Ends.{IsWholeInput}
use Rattle.links.specs.Views.{SinkView, SourceView}
use Rattle.schedule_model.specs.Schedules.{max_input}
use Rattle.top_call.specs.Endings.{MayEnd, text_of}
use Rattle.top_call.specs.Replays.{HasInput, IsFirstBad, IsFull, IsRecordText, IsReport}
use Rattle.top_call.specs.Words.{bad_place, is_recording, is_replay, reads_schedule}
use Rattle.top_call.specs.declared.ending.End.TheVariants.{BadWord, BadLine, Full, Memory, ReadFault}
use Rattle.top_call.specs.declared.ending.End.{End}
use Rattle.top_call.specs.declared.ending.Ended.{Ended}

-- the report of this schedule was written
abbrev pub WritesReport : SinkView → SinkView → List ℕ → Type 0
WritesReport old new schedule = (report : List ℕ) × IsReport schedule report × Appends old.taken new.taken report

-- the line of this number is the first bad one of this schedule, for the reason that was written
abbrev pub WritesBadLine : SinkView → SinkView → List ℕ → ℕ → Type 0
WritesBadLine old new schedule line = (why : Reason)
    × IsFirstBad schedule (record { line = line; reason = why })
    × Appends old.taken new.taken (text_of (BadLine (record { line = line; reason = why })))

-- the history of this schedule was full, with the numbers that were written
abbrev pub WritesFull : SinkView → SinkView → List ℕ → Type 0
WritesFull old new schedule = (entries : ℕ) × (cost : ℕ) × IsFull schedule entries cost
    × Appends old.taken new.taken (text_of (Full entries cost))

-- the record of this schedule's history was written
abbrev pub WritesRecord : SinkView → SinkView → List ℕ → Type 0
WritesRecord old new schedule = (text : List ℕ) × IsRecordText schedule text × Appends old.taken new.taken text

-- what the words ask for was written: the report of this schedule, or the record
abbrev pub WritesAsked : List (List ℕ) → SinkView → SinkView → List ℕ → Type 0
WritesAsked words old new schedule =
    ((is_replay words ≡ true) × WritesReport old new schedule) ⊎ ((is_recording words ≡ true) × WritesRecord old new schedule)

-- status 0: the words are lawful, the input was read to its end, and what they ask for was written
abbrev pub IsReported : List (List ℕ) → SourceView → SourceView → SinkView → SinkView → Type 0
IsReported words before now old new = (bytes : List ℕ) × IsWholeInput max_input before now bytes × WritesAsked words old new bytes

-- status 2: the word at this place is the first bad one, nothing was read, and its text was written
abbrev pub IsBadWord : List (List ℕ) → SourceView → SourceView → SinkView → SinkView → ℕ → Type 0
IsBadWord words before now old new place = (bad_place words ≡ Some place) × (now ≡ before)
    × Appends old.taken new.taken (text_of (BadWord place))

-- status 3: the line of this number is the first bad one of the input, for the reason that was written
abbrev pub IsBadLine : List (List ℕ) → SourceView → SourceView → SinkView → SinkView → ℕ → Type 0
IsBadLine words before now old new line = (reads_schedule words ≡ true)
    × ((bytes : List ℕ) × HasInput before now bytes × WritesBadLine old new bytes line)

-- status 4: the source's count rose, and its text was written
abbrev pub IsReadFault : SourceView → SourceView → SinkView → SinkView → Type 0
IsReadFault before now old new = (before.faults ≤ now.faults) × Rose before.faults now.faults × Appends old.taken new.taken (text_of ReadFault)

-- status 5: the sink's count rose, and a front was written of a text for which there is cause
abbrev pub IsWriteFault : List (List ℕ) → SourceView → SourceView → SinkView → SinkView → Type 0
IsWriteFault words before now old new = (old.faults ≤ new.faults) × Rose old.faults new.faults
    × ((end : End) × MayEnd words before now end × AppendsFront old.taken new.taken (text_of end))

-- status 9: a line of the input was to add to a full history, whose numbers were written
abbrev pub IsHistoryFull : List (List ℕ) → SourceView → SourceView → SinkView → SinkView → Type 0
IsHistoryFull words before now old new = (reads_schedule words ≡ true)
    × ((bytes : List ℕ) × HasInput before now bytes × WritesFull old new bytes)

-- status 11: the source didn't fail, and the text of want of memory was written
abbrev pub IsOutOfMemory : SourceView → SourceView → SinkView → SinkView → Type 0
IsOutOfMemory before now old new = (now.faults ≡ before.faults) × Appends old.taken new.taken (text_of Memory)

-- status and text are those of the whole input, where the source told it
pub record IsAnswerTo (words : List (List ℕ)) (schedule : List ℕ) (old new : SinkView) (result : Ended) : Type 0 where
  pub reported : result.status ≡ 0 → WritesAsked words old new schedule
  pub bad_line : result.status ≡ 3 → WritesBadLine old new schedule result.place
  pub history_full : result.status ≡ 9 → WritesFull old new schedule
