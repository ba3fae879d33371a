-- Where the history of a schedule was full, its lines filled one desk and no other.
use Rattle.std.specs.Prelude.{◌≡◌, ℕ, List}
use Rattle.queue_keys.specs.Names.{Bytes}
use Rattle.schedule_model.specs.Desk.{ScheduleReader, first_desk}
use Rattle.schedule_model.specs.Faults.{Craft}
use Rattle.schedule_model.specs.Filled.{FilledDesk, IsFilled, lines_read}
use Rattle.schedule_model.specs.Schedules.{Full, schedule_run}

-- these lines filled no other desk: whichever they filled from the desk d on, it is this one, by the same line after the same lines
abbrev pub FillsOnly : (κ : Craft) (d : ScheduleReader) (ls : List Bytes) (n cost : ℕ) → FilledDesk κ d ls n cost → Type 0
FillsOnly κ d ls n cost f = (e : ScheduleReader) (g : IsFilled κ d ls e) → (e ≡ f.desk) × (g.before ≡ f.filled.before) × (g.line ≡ f.filled.line)

-- where the history of a schedule was full, with these numbers, its lines filled exactly one desk, which has them
abbrev pub SchedulesFillOne : Type 0
SchedulesFillOne = (κ : Craft) (bytes : Bytes) (n cost : ℕ) → schedule_run κ bytes ≡ Full n cost
    → (f : FilledDesk κ first_desk (lines_read bytes) n cost) × FillsOnly κ first_desk (lines_read bytes) n cost f
