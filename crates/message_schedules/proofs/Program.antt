-- What the program's schedules determine.
use Rattle.std.proofs.Common.{◌≡◌, true, List, length, ◌≤◌, refl, subst, arith}
use Rattle.command_blocks.specs.EnvelopeTexts.{plain_setting, texts}
use Rattle.place_model.specs.Histories.{History, after}
use Rattle.queue_keys.specs.Layouts.{is_layout, plain}
use Rattle.queue_keys.specs.Names.{Bytes, same}
use Rattle.place_model.specs.Starts.{IsSound}
use Rattle.place_model.specs.declared.heard.Heard.{Heard}
use Rattle.place_theorem.proofs.Sound.{placed_one}
use Rattle.message_places.proofs.Serving.{exchanges, facts, full}
use Rattle.schedule_model.specs.EachPlaced.{IsEachPlaced}
use Rattle.schedule_model.specs.Desk.{ScheduleReader}
use Rattle.schedule_model.specs.Filled.{lines_read}
use Rattle.schedule_model.specs.Programs.{program_craft}
use Rattle.schedule_model.specs.Schedules.{Determined, Whole, Full, Bad_line, reader_history, schedule_run}
use Rattle.schedule_laws.specs.Sound.{IsCraft, IsSoundlyDetermined}
use Rattle.schedule_laws.proofs.Crafts.{layout_craft}
use Rattle.schedule_laws.proofs.Determined.{schedule_sound}
use Rattle.message_schedules.specs.Laws.{ArePlaced, HistoriesPlaced, HistoriesSound}
use Rattle.message_schedules.proofs.Seals.{seals_tell}

pub lawful : is_layout plain ≡ true
unfolding same
lawful = refl

few : length plain.steps ≤ 4
few = omega arith

pub craft : IsCraft program_craft
craft = layout_craft plain texts program_craft lawful few refl facts exchanges seals_tell

pub sound : HistoriesSound
sound bytes = schedule_sound program_craft craft bytes

-- in a sound history each message is in its place
pub placed : (h : History Heard) → IsSound plain_setting h → IsEachPlaced h
placed h is p t front accepted single = placed_one (full plain lawful) h p t is front accepted single

all_placed : (ls : List Bytes) (r : Determined) → IsSoundlyDetermined program_craft ls r → ArePlaced ls r
all_placed ls (Whole d) s = placed (reader_history d) s.history
all_placed ls (Full n cost) s = (s.0, placed (reader_history s.0.desk) s.1.history, s.2)
all_placed ls (Bad_line n reason) s = tt

pub each_placed : HistoriesPlaced
each_placed bytes = all_placed (lines_read bytes) (schedule_run program_craft bytes) (sound bytes)

-- ---- of a whole history

-- the history that a schedule determines is sound
pub whole_sound : (bytes : Bytes) (d : ScheduleReader) → schedule_run program_craft bytes ≡ Whole d → IsSound plain_setting (reader_history d)
whole_sound bytes d e = (subst (IsSoundlyDetermined program_craft (lines_read bytes)) e (sound bytes)).history

-- and its messages are in their places
pub whole_placed : (bytes : Bytes) (d : ScheduleReader) → schedule_run program_craft bytes ≡ Whole d → IsEachPlaced (reader_history d)
whole_placed bytes d e = placed (reader_history d) (whole_sound bytes d e)

-- and it leaves the desk's store
pub whole_store : (bytes : Bytes) (d : ScheduleReader) → schedule_run program_craft bytes ≡ Whole d → (after (reader_history d)).store ≡ d.store
whole_store bytes d e = (subst (IsSoundlyDetermined program_craft (lines_read bytes)) e (sound bytes)).store
