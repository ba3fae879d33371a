-- What `replay` makes of an input, or of a schedule that it makes itself.
use Rattle.std.specs.Prelude.{List, [], codes, decimal, length, true, ℕ, ◌++◌, ◌∷◌, ◌≡◌, ◌⊎◌}
use Rattle.line_text.specs.declared.reason.BadLine.{BadLine}
use Rattle.links.specs.Ends.{IsPast, IsWholeInput}
use Rattle.links.specs.Views.{SourceView}
use Rattle.command_blocks.specs.EnvelopeTexts.{plain_setting}
use Rattle.place_model.specs.Accepted.{places}
use Rattle.place_model.specs.Histories.{History}
use Rattle.place_model.specs.Starts.{IsSound}
use Rattle.place_model.specs.declared.heard.Heard.{Heard}
use Rattle.history_records.specs.Records.{record_text}
use Rattle.message_schedules.specs.Companions.{MessagesHaveOneTree, MessagesPublishedOnce, MessagesWerePublished, PassesAccount, ReturnsAreWhole, StopsMoveOne}
use Rattle.schedule_model.specs.Costs.{is_full}
use Rattle.schedule_model.specs.Desk.{ScheduleReader, first_desk}
use Rattle.schedule_model.specs.EachPlaced.{IsEachPlaced}
use Rattle.schedule_model.specs.Filled.{FilledDesk, lines_read}
use Rattle.schedule_model.specs.Programs.{program_craft, program_legend}
use Rattle.schedule_maker.specs.Made.{made_text}
use Rattle.schedule_model.specs.Reports.{report_text, total_line}
use Rattle.schedule_model.specs.Schedules.{Bad_line, Determined, Whole, max_input, reader_history, schedule_run}
use Rattle.schedule_model.specs.Schedules as schedules

-- what was read of an input that is looked at: all of it to its end, or one byte more than 64 MiB
abbrev pub HasInput : SourceView → SourceView → List ℕ → Type 0
HasInput before now bytes = IsWholeInput max_input before now bytes ⊎ IsPast max_input before now bytes

-- what this schedule determines for the program: a history, its first bad line, or a history that was full
abbrev pub replay_run : List ℕ → Determined
replay_run schedule = schedule_run program_craft schedule

-- the text is of this form, for the history that this schedule determines; that history is sound, after each of its
-- prefixes each message that is accepted and single is in exactly one place, and of its stops, returns, passes and
-- envelopes holds what follows
pub record IsHistoryText (form : History Heard → List ℕ) (schedule text : List ℕ) : Type 0 where
  pub desk : ScheduleReader
  pub determined : replay_run schedule ≡ Whole desk
  pub written : text ≡ form (reader_history desk)
  pub sound : IsSound plain_setting (reader_history desk)
  pub placed : IsEachPlaced (reader_history desk)
  pub stops : StopsMoveOne (reader_history desk)
  pub returns : ReturnsAreWhole (reader_history desk)
  pub passes : PassesAccount (reader_history desk)
  pub published : MessagesWerePublished (reader_history desk)
  pub once : MessagesPublishedOnce (reader_history desk)
  pub trees : MessagesHaveOneTree (reader_history desk)

-- the text is the report of that history
abbrev pub IsReport : List ℕ → List ℕ → Type 0
IsReport schedule text = IsHistoryText (report_text program_legend) schedule text

-- the text is the record of that history
abbrev pub IsRecordText : List ℕ → List ℕ → Type 0
IsRecordText schedule text = IsHistoryText record_text schedule text

-- the two lines of a history of so many messages: how many entries it has, and how many messages are in each place
abbrev pub made_lines : ℕ → History Heard → List ℕ
made_lines n h = (codes "made " ++ (decimal n ++ (codes " entries " ++ (decimal (length h.entries) ++ codes "\n")))) ++ total_line (places plain_setting h)

-- the text is these lines of the history that the made schedule of so many messages determines
abbrev pub IsMadeText : ℕ → List ℕ → Type 0
IsMadeText n text = IsHistoryText (made_lines n) (made_text n) text

-- the first bad line of this schedule, and the first reason that holds of it
abbrev pub IsFirstBad : List ℕ → BadLine → Type 0
IsFirstBad schedule bad = replay_run schedule ≡ Bad_line bad.line bad.reason

-- a line of this schedule was to add to a history of so many entries, which cost so many bytes: that of the desk that the
-- schedule's lines filled; it is full and sound, and of it holds the same
pub record IsFull (schedule : List ℕ) (entries cost : ℕ) : Type 0 where
  pub determined : replay_run schedule ≡ schedules.Full entries cost
  pub filled : FilledDesk program_craft first_desk (lines_read schedule) entries cost
  pub full : is_full filled.desk.entries ≡ true
  pub sound : IsSound plain_setting (reader_history filled.desk)
  pub placed : IsEachPlaced (reader_history filled.desk)
  pub stops : StopsMoveOne (reader_history filled.desk)
  pub returns : ReturnsAreWhole (reader_history filled.desk)
  pub passes : PassesAccount (reader_history filled.desk)
  pub published : MessagesWerePublished (reader_history filled.desk)
  pub once : MessagesPublishedOnce (reader_history filled.desk)
  pub trees : MessagesHaveOneTree (reader_history filled.desk)

-- the statuses that a run over such a schedule may have, where neither its source nor its sink fails: its own, or want of memory
abbrev pub calm_statuses : Determined → List ℕ
calm_statuses (Whole desk) = 0 ∷ 11 ∷ []
calm_statuses (schedules.Full entries cost) = 9 ∷ 11 ∷ []
calm_statuses (Bad_line line reason) = 3 ∷ 11 ∷ []
