-- How a run ends: its text, its status, and why it may end so. Serves the proofs of code.
use Rattle.std.specs.Io.KnownBytes.{Appends, Consumes}
use Rattle.std.specs.Prelude.{Bool, List, None, Option, Some, [], codes, false, true, decimal, length, ℕ, ◌++◌, ◌+◌, ◌≡◌, ◌≤◌, ◌⊎◌}
use Rattle.line_text.specs.Reason.{reason_text}
use Rattle.links.specs.Causes.{AppendsFront, Rose}
use Rattle.links.specs.Ends.{IsWholeInput}
use Rattle.links.specs.Views.{SinkView, SourceView}
use Rattle.schedule_maker.specs.Made.{made_text}
use Rattle.top_call.specs.Replays.{HasInput, IsFirstBad, IsFull, IsMadeText, IsRecordText, IsReport}
use Rattle.top_call.specs.Words.{bad_place, is_apart, is_recording, is_replay, is_show, made_count, reads_schedule}
use Rattle.schedule_model.specs.Schedules.{max_input}
use Rattle.wire_show.specs.Shows.{HasShown, input_limit, kind_name}
use Rattle.wire_show.specs.declared.ending.ShowEnd.{ShowEnd}
use Rattle.wire_show.specs.declared.ending.ShowEnd.TheVariants.{Bad, Long, Whole, WriteFault}
use Rattle.wire_show.specs.declared.ending.ShowEnd.TheVariants as show
use Rattle.top_call.specs.declared.ending.End.TheVariants.{BadByte, BadLine, BadWord, Full, LongStream, Made, Memory, ReadFault, Recorded, Reported, Shown as ShownEnd, Unfinished}
use Rattle.top_call.specs.declared.ending.End.{End}
use Rattle.top_call.specs.declared.ending.Ended.{Ended}

-- the text of an ending
abbrev pub text_of : End → List ℕ
text_of (Reported report) = report
text_of (Recorded text) = text
text_of (Made text) = text
text_of ShownEnd = []
text_of (BadByte kind place) = codes "fault " ++ (kind_name kind ++ (codes " at " ++ (decimal place ++ codes "\n")))
text_of (Unfinished place) = codes "unfinished at " ++ (decimal place ++ codes "\n")
text_of LongStream = codes "long at 67108864\n"
text_of (BadWord place) = codes "bad word " ++ (decimal place ++ codes "\n")
text_of (BadLine bad) = codes "bad line " ++ (decimal bad.line ++ (codes ": " ++ (reason_text bad.reason ++ codes "\n")))
text_of ReadFault = codes "read fault\n"
text_of (Full entries bytes) = codes "history full " ++ (decimal entries ++ (codes " " ++ (decimal bytes ++ codes "\n")))
text_of Memory = codes "out of memory\n"

-- the status of an ending, and its place
abbrev pub ended_of : End → Ended
ended_of (Reported report) = record { status = 0; place = 0; left = 0 }
ended_of (Recorded text) = record { status = 0; place = 0; left = 0 }
ended_of (Made text) = record { status = 0; place = 0; left = 0 }
ended_of ShownEnd = record { status = 0; place = 0; left = 0 }
ended_of (BadByte kind place) = record { status = 3; place = place; left = 0 }
ended_of (Unfinished place) = record { status = 3; place = place; left = 0 }
ended_of LongStream = record { status = 3; place = input_limit; left = 0 }
ended_of (BadWord place) = record { status = 2; place = place; left = 0 }
ended_of (BadLine bad) = record { status = 3; place = bad.line; left = 0 }
ended_of ReadFault = record { status = 4; place = 0; left = 0 }
ended_of (Full entries bytes) = record { status = 9; place = 0; left = 0 }
ended_of Memory = record { status = 11; place = 0; left = 0 }

-- how a run over this schedule may end, by whether its record is asked for or its report
abbrev pub EndsAs : Bool → List ℕ → End → Type 0
EndsAs recording schedule (Reported report) = (recording ≡ false) × IsReport schedule report
EndsAs recording schedule (Recorded text) = (recording ≡ true) × IsRecordText schedule text
EndsAs recording schedule (Made text) = ⊥
EndsAs recording schedule ShownEnd = ⊥
EndsAs recording schedule (BadByte kind place) = ⊥
EndsAs recording schedule (Unfinished place) = ⊥
EndsAs recording schedule LongStream = ⊥
EndsAs recording schedule (BadWord place) = ⊥
EndsAs recording schedule (BadLine bad) = IsFirstBad schedule bad
EndsAs recording schedule ReadFault = ⊥
EndsAs recording schedule (Full entries cost) = IsFull schedule entries cost
EndsAs recording schedule Memory = Unit {0}

-- how a run over the made schedule of so many messages may end
abbrev pub MadeEnds : ℕ → End → Type 0
MadeEnds n (Made text) = IsMadeText n text
MadeEnds n (BadLine bad) = IsFirstBad (made_text n) bad
MadeEnds n (Full entries cost) = IsFull (made_text n) entries cost
MadeEnds n Memory = Unit {0}
MadeEnds n (Reported report) = ⊥
MadeEnds n (Recorded text) = ⊥
MadeEnds n ShownEnd = ⊥
MadeEnds n (BadByte kind place) = ⊥
MadeEnds n (Unfinished place) = ⊥
MadeEnds n LongStream = ⊥
MadeEnds n (BadWord place) = ⊥
MadeEnds n ReadFault = ⊥

-- why a run that reads a schedule may end so: its words, and what it read
abbrev pub MayEnd : List (List ℕ) → SourceView → SourceView → End → Type 0
MayEnd words before now (Reported report) = (is_replay words ≡ true) × ((bytes : List ℕ) × IsWholeInput max_input before now bytes × IsReport bytes report)
MayEnd words before now (Recorded text) = (is_recording words ≡ true) × ((bytes : List ℕ) × IsWholeInput max_input before now bytes × IsRecordText bytes text)
MayEnd words before now (Made text) = ⊥
MayEnd words before now ShownEnd = ⊥
MayEnd words before now (BadByte kind place) = ⊥
MayEnd words before now (Unfinished place) = ⊥
MayEnd words before now LongStream = ⊥
MayEnd words before now (BadWord place) = (bad_place words ≡ Some place) × (now ≡ before)
MayEnd words before now (BadLine bad) = (reads_schedule words ≡ true) × ((bytes : List ℕ) × HasInput before now bytes × IsFirstBad bytes bad)
MayEnd words before now ReadFault = (reads_schedule words ≡ true) × (before.faults ≤ now.faults) × Rose before.faults now.faults
MayEnd words before now (Full entries cost) = (reads_schedule words ≡ true) × ((bytes : List ℕ) × HasInput before now bytes × IsFull bytes entries cost)
MayEnd words before now Memory = now.faults ≡ before.faults

-- the whole text was written and this is answered, or the sink failed within it and the status is 5
abbrev pub WritesText : SinkView → SinkView → List ℕ → Ended → Ended → Type 0
WritesText before now text ended result =
    ((result ≡ ended) × Appends before.taken now.taken text × (now.faults ≡ before.faults))
    ⊎ ((result ≡ record { status = 5; place = 0; left = 0 }) × AppendsFront before.taken now.taken text × (before.faults ≤ now.faults) × Rose before.faults now.faults)

-- the text of this ending was written, or the sink failed within it
abbrev pub Written : SinkView → SinkView → End → Ended → Type 0
Written before now end result = WritesText before now (text_of end) (ended_of end) result

-- at most one byte more than 64 MiB was read, and no count of the source fell
pub record Took (before now : SourceView) : Type 0 where
  pub taken : (bytes : List ℕ) × Consumes before.left now.left bytes × (length bytes ≤ max_input + 1)
  pub faults : before.faults ≤ now.faults
  pub ends : before.ends ≤ now.ends

-- how a run ends that reads a schedule, or whose words are bad: it may end so, and its text was written
abbrev pub HasAnswered : List (List ℕ) → SourceView → SourceView → SinkView → SinkView → Ended → Type 0
HasAnswered words before now old new result = (end : End) × MayEnd words before now end × Written old new end result

-- which ending is told of one: itself, or want of memory, but that a source failed is told as it is
abbrev pub IsToldFor : End → End → Type 0
IsToldFor end told = (told ≡ end) ⊎ ((told ≡ Memory) × (end ≡ ReadFault → ⊥))

-- the text of the ending that is told was written, or the sink failed within it
abbrev pub IsTold : End → SinkView → SinkView → Ended → Type 0
IsTold end old new result = (told : End) × IsToldFor end told × Written old new told result

-- what is told of the end of a showing: nothing where the sink failed
abbrev pub telling : ShowEnd → Option End
telling Whole = Some ShownEnd
telling (Bad kind place) = Some (BadByte kind place)
telling (show.Unfinished place) = Some (Unfinished place)
telling Long = Some LongStream
telling show.ReadFault = Some ReadFault
telling show.Memory = Some Memory
telling WriteFault = None

-- this was told, where anything is to be told
abbrev pub IsToldIf : Option End → SinkView → SinkView → Ended → Type 0
IsToldIf None old new result = (result ≡ record { status = 5; place = 0; left = 0 }) × (new ≡ old)
IsToldIf (Some end) old new result = IsTold end old new result

-- what was told of the end of a showing
abbrev pub TellsShown : ShowEnd → SinkView → SinkView → Ended → Type 0
TellsShown end old new result = IsToldIf (telling end) old new result

-- how a run of `show` ends: a stream was shown, and then its end was told
abbrev pub HasTold : SourceView → SourceView → SinkView → SinkView → Ended → Type 0
HasTold before now old new result = (end : ShowEnd) × (shown : SinkView) × HasShown before now old shown end × TellsShown end shown new result

-- how a run over a made schedule of so many messages was told
abbrev pub IsMadeTold : ℕ → SinkView → SinkView → Ended → Type 0
IsMadeTold n old new result = (end : End) × MadeEnds n end × IsTold end old new result

-- how a run of `replay --make` ends: nothing was read, and the end of the made schedule's run was told
abbrev pub HasMade : List (List ℕ) → SourceView → SourceView → SinkView → SinkView → Ended → Type 0
HasMade words before now old new result = (n : ℕ) × (made_count words ≡ Some n) × (now ≡ before) × IsMadeTold n old new result

-- how a run ends
abbrev pub HasEnded : List (List ℕ) → SourceView → SourceView → SinkView → SinkView → Ended → Type 0
HasEnded words before now old new result =
    ((is_apart words ≡ false) × HasAnswered words before now old new result)
    ⊎ (((is_show words ≡ true) × HasTold before now old new result) ⊎ HasMade words before now old new result)
