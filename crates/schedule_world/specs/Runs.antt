-- What running a schedule answers. Serves the proofs of code.
use Rattle.std.specs.Prelude.{◌≡◌, ℕ, Bool, List, [], ◌∷◌, Option, Some, None, Result, Ok, Err, ⊤}
use Rattle.std.specs.Borrow.{Bor}
use Rattle.queue_keys.specs.Names.{Bytes}
use Rattle.place_model.specs.Shown.{history_of}
use Rattle.place_model.specs.declared.history.History as code
use Rattle.line_text.specs.declared.reason.Reason.{Reason}
use Rattle.schedule_world.specs.declared.fault.LineFault.{LineFault}
use Rattle.schedule_world.specs.declared.fault.LineFault.TheVariants as line
use Rattle.schedule_world.specs.declared.run.ScheduleRun.{ScheduleRun}
use Rattle.schedule_world.specs.declared.run.RunFault.{RunFault}
use Rattle.schedule_world.specs.declared.run.RunFault.TheVariants.{Bad, Full, Memory}
use Rattle.schedule_model.specs.Desk.{ScheduleReader, first_desk}
pub use Rattle.schedule_model.specs.EachPlaced.{IsEachPlaced}
use Rattle.schedule_model.specs.Faults.{Craft}
use Rattle.schedule_model.specs.Programs.{program_craft}
use Rattle.schedule_model.specs.Schedules.{Determined, Bad_line, Led, Whole, Went, last_led, led_on, line_led, schedule_run}
use Rattle.schedule_model.specs.Schedules as schedules

-- an answer to what a schedule determines: its history, its first bad line, or the numbers of a full history; want of memory may be answered at any time
abbrev pub IsRun : Determined → Result code.History RunFault → Type 0
IsRun r (Ok h) = (d : ScheduleReader) × (r ≡ Whole d) × (schedules.reader_history d ≡ history_of h)
IsRun r (Err (Bad b)) = r ≡ Bad_line b.line b.reason
IsRun r (Err (Full n cost)) = r ≡ schedules.Full n cost
IsRun r (Err Memory) = Unit {0}

-- the same of a run's end, whose store is that of the desk
abbrev pub HasRun : Determined → Result ScheduleRun RunFault → Type 0
HasRun r (Ok ran) = (d : ScheduleReader) × (r ≡ Whole d) × (schedules.reader_history d ≡ history_of ran.history) × (d.store ≡ ran.store.state)
HasRun r (Err (Bad b)) = r ≡ Bad_line b.line b.reason
HasRun r (Err (Full n cost)) = r ≡ schedules.Full n cost
HasRun r (Err Memory) = Unit {0}

-- the same of lines that were taken up to this desk
abbrev pub HasEnded : Determined → ScheduleReader → Result ⊤ RunFault → Type 0
HasEnded r d (Ok u) = r ≡ Whole d
HasEnded r d (Err (Bad b)) = r ≡ Bad_line b.line b.reason
HasEnded r d (Err (Full n cost)) = r ≡ schedules.Full n cost
HasEnded r d (Err Memory) = Unit {0}

-- the history of a run's end
abbrev pub history_alone : Result ScheduleRun RunFault → Result code.History RunFault
history_alone (Ok ran) = Ok ran.history
history_alone (Err fault) = Err fault

-- the history that the schedule determines, its first bad line, or the numbers of a full history
abbrev pub IsAnswer : Bytes → Result code.History RunFault → Type 0
IsAnswer bytes result = IsRun (schedule_run program_craft bytes) result

-- what numbered lines determine; the mark tells whether the input goes on past its limit
abbrev pub numbered_led : Craft → Bool → ScheduleReader → List (ℕ × Bytes) → Determined
numbered_led κ cut d [] = Whole d
numbered_led κ cut d ((n, l) ∷ []) = led_on Whole n (last_led cut (line_led κ d l))
numbered_led κ cut d ((n, l) ∷ m ∷ ls) = led_on (λ e. numbered_led κ cut e (m ∷ ls)) n (line_led κ d l)

-- a line that was read already, where there is one, and those behind it
abbrev pub from_present : Option (ℕ × Bor Bytes) → List (ℕ × Bytes) → List (ℕ × Bytes)
from_present None ls = []
from_present (Some l) ls = (l.0, l.1.now) ∷ ls

-- the fault of the line of this number, as one of the schedule
abbrev pub fault_at : ℕ → LineFault → RunFault
fault_at n (line.Bad r) = Bad (record { line = n; reason = r })
fault_at n (line.Full entries bytes) = Full entries bytes
fault_at n line.Memory = Memory

-- an answer to what a header leads to: nothing is wrong with it, or the reason that it is none
abbrev pub IsHeaderTold : Led → Option Reason → Type 0
IsHeaderTold l None = l ≡ Went first_desk
IsHeaderTold l (Some r) = l ≡ schedules.Bad r
