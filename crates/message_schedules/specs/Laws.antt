-- What is known of the histories that the program's schedules determine.
use Rattle.std.specs.Prelude.{◌≡◌, true, List}
use Rattle.queue_keys.specs.Names.{Bytes}
use Rattle.schedule_model.specs.Costs.{is_full}
use Rattle.schedule_model.specs.Desk.{first_desk}
use Rattle.schedule_model.specs.EachPlaced.{IsEachPlaced}
use Rattle.schedule_model.specs.Filled.{FilledDesk, lines_read}
use Rattle.schedule_model.specs.Programs.{program_craft}
use Rattle.schedule_model.specs.Schedules.{Determined, Whole, Full, Bad_line, reader_history, schedule_run}
use Rattle.schedule_laws.specs.Sound.{IsSoundlyDetermined}

-- the messages of a whole history are in their places after each prefix; where one was full, so are those of the desk that the lines filled
abbrev pub ArePlaced : List Bytes → Determined → Type 0
ArePlaced ls (Whole d) = IsEachPlaced (reader_history d)
ArePlaced ls (Full n cost) = (f : FilledDesk program_craft first_desk ls n cost) × IsEachPlaced (reader_history f.desk) × (is_full f.desk.entries ≡ true)
ArePlaced ls (Bad_line n reason) = Unit {0}

-- what each schedule determines is sound
abbrev pub HistoriesSound : Type 0
HistoriesSound = (bytes : Bytes) → IsSoundlyDetermined program_craft (lines_read bytes) (schedule_run program_craft bytes)

-- and its messages are in their places
abbrev pub HistoriesPlaced : Type 0
HistoriesPlaced = (bytes : Bytes) → ArePlaced (lines_read bytes) (schedule_run program_craft bytes)
