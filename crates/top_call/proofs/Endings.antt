-- Why a run ends as it does.
use Rattle.std.proofs.Common.{Bool, List, Err, ap, false, inl, inr, refl, sym, true, ℕ, ◌≡◌, ◌∙◌}
use Rattle.links.specs.Ends.{IsPast, IsWholeInput}
use Rattle.links.specs.Views.{SourceView}
use Rattle.message_schedules.proofs.Companions.{full_desk, messages_have_one_tree, messages_published_once, messages_were_published, passes_account, returns_are_whole, stops_move_one, whole_scheduled}
use Rattle.message_schedules.proofs.Program.{whole_placed, whole_sound}
use Rattle.place_model.specs.Histories.{History}
use Rattle.place_model.specs.declared.heard.Heard.{Heard}
use Rattle.schedule_model.specs.Desk.{ScheduleReader}
use Rattle.schedule_model.specs.Programs.{program_craft, program_legend}
use Rattle.schedule_model.specs.Reports.{report_text}
use Rattle.schedule_model.specs.Schedules.{Whole, max_input, reader_history}
use Rattle.schedule_model.specs.Schedules as schedules
use Rattle.schedule_world.specs.Runs.{HasRun}
use Rattle.schedule_world.specs.declared.run.RunFault.{RunFault}
use Rattle.schedule_world.specs.declared.run.RunFault.TheVariants as run
use Rattle.top_call.proofs.Fronts.{schedule_run-past}
use Rattle.top_call.specs.Endings.{EndsAs, MayEnd}
use Rattle.top_call.specs.Mappings.{asked_text, end_given, end_written}
use Rattle.top_call.specs.Replays.{IsFull, IsHistoryText, replay_run}
use Rattle.top_call.specs.Words.{is_recording, reads_schedule}
use Rattle.top_call.proofs.Asked.{just_replay}
use Rattle.history_records.specs.Records.{record_text}
use Rattle.top_call.specs.declared.ending.End.TheVariants.{BadByte, BadLine, BadWord, Full, LongStream, Made, Memory, ReadFault, Recorded, Reported, Shown as ShownEnd, Unfinished}
use Rattle.top_call.specs.declared.ending.End.{End}

-- a text of the history that a schedule determines
pub text_of_run : (form : History Heard → List ℕ) (schedule text : List ℕ) (h : History Heard) → ((d : ScheduleReader) × (replay_run schedule ≡ Whole d) × (reader_history d ≡ h)) → text ≡ form h → IsHistoryText form schedule text
text_of_run form schedule text h (d, run, same) written = record {
  desk = d;
  determined = run;
  written = written ∙ ap form (sym same);
  sound = whole_sound schedule d run;
  placed = whole_placed schedule d run;
  stops = stops_move_one (reader_history d) (whole_scheduled schedule d run);
  returns = returns_are_whole (reader_history d) (whole_scheduled schedule d run);
  passes = passes_account (reader_history d) (whole_scheduled schedule d run);
  published = messages_were_published (reader_history d) (whole_scheduled schedule d run);
  once = messages_published_once (reader_history d) (whole_scheduled schedule d run);
  trees = messages_have_one_tree (reader_history d) (whole_scheduled schedule d run);
}

-- the report of it, or the record
pub asked_of : (recording : Bool) (schedule text : List ℕ) (h : History Heard) → ((d : ScheduleReader) × (replay_run schedule ≡ Whole d) × (reader_history d ≡ h)) → text ≡ asked_text recording h → EndsAs recording schedule (end_written text recording)
asked_of true schedule text h run written = (refl, text_of_run record_text schedule text h run written)
asked_of false schedule text h run written = (refl, text_of_run (report_text program_legend) schedule text h run written)

-- the desk that a schedule filled
pub full_of : (schedule : List ℕ) (entries cost : ℕ) → replay_run schedule ≡ schedules.Full entries cost → IsFull schedule entries cost
full_of schedule entries cost run = let (filled, full, scheduled, placed) = full_desk schedule entries cost run in record {
  determined = run;
  filled = filled;
  full = full;
  sound = scheduled.sound;
  placed = placed;
  stops = stops_move_one (reader_history filled.desk) scheduled;
  returns = returns_are_whole (reader_history filled.desk) scheduled;
  passes = passes_account (reader_history filled.desk) scheduled;
  published = messages_were_published (reader_history filled.desk) scheduled;
  once = messages_published_once (reader_history filled.desk) scheduled;
  trees = messages_have_one_tree (reader_history filled.desk) scheduled;
}

-- what a schedule without a whole history leads to
pub end_of_fault : (recording : Bool) (schedule : List ℕ) (fault : RunFault) → HasRun (replay_run schedule) (Err fault) → EndsAs recording schedule (end_given fault)
end_of_fault recording schedule (run.Bad bad) is = is
end_of_fault recording schedule (run.Full entries cost) is = full_of schedule entries cost is
end_of_fault recording schedule run.Memory is = tt

-- an input that was read to its end
pub shown_whole : (words : List (List ℕ)) (before now : SourceView) (bytes : List ℕ) (end : End) → reads_schedule words ≡ true → IsWholeInput max_input before now bytes → EndsAs (is_recording words) bytes end → MayEnd words before now end
shown_whole words before now bytes (Reported report) lawful whole (plain, is) = (just_replay words lawful plain, (bytes, whole, is))
shown_whole words before now bytes (Recorded text) lawful whole (asked, is) = (asked, (bytes, whole, is))
shown_whole words before now bytes (BadWord place) lawful whole ends = absurd ends
shown_whole words before now bytes (Made text) lawful whole ends = absurd ends
shown_whole words before now bytes ShownEnd lawful whole ends = absurd ends
shown_whole words before now bytes (BadByte kind place) lawful whole ends = absurd ends
shown_whole words before now bytes (Unfinished place) lawful whole ends = absurd ends
shown_whole words before now bytes LongStream lawful whole ends = absurd ends
shown_whole words before now bytes (BadLine bad) lawful whole ends = (lawful, (bytes, inl whole, ends))
shown_whole words before now bytes ReadFault lawful whole ends = absurd ends
shown_whole words before now bytes (Full entries cost) lawful whole ends = (lawful, (bytes, inl whole, ends))
shown_whole words before now bytes Memory lawful whole ends = whole.kept

-- an input past the limit
pub shown_past : (words : List (List ℕ)) (before now : SourceView) (bytes : List ℕ) (end : End) → reads_schedule words ≡ true → IsPast max_input before now bytes → EndsAs (is_recording words) bytes end → MayEnd words before now end
shown_past words before now bytes (Reported report) lawful past (plain, is) = absurd (schedule_run-past program_craft bytes is.desk past.over is.determined)
shown_past words before now bytes (Recorded text) lawful past (asked, is) = absurd (schedule_run-past program_craft bytes is.desk past.over is.determined)
shown_past words before now bytes (BadWord place) lawful past ends = absurd ends
shown_past words before now bytes (Made text) lawful past ends = absurd ends
shown_past words before now bytes ShownEnd lawful past ends = absurd ends
shown_past words before now bytes (BadByte kind place) lawful past ends = absurd ends
shown_past words before now bytes (Unfinished place) lawful past ends = absurd ends
shown_past words before now bytes LongStream lawful past ends = absurd ends
shown_past words before now bytes (BadLine bad) lawful past ends = (lawful, (bytes, inr past, ends))
shown_past words before now bytes ReadFault lawful past ends = absurd ends
shown_past words before now bytes (Full entries cost) lawful past ends = (lawful, (bytes, inr past, ends))
shown_past words before now bytes Memory lawful past ends = past.kept
