-- What taking a line answers.
use Rattle.std.specs.Prelude.{◌≡◌, Bool, false, true, Result, Ok, Err, length}
use Rattle.client_plans.specs.declared.fault.PlanFault.{PlanFault}
use Rattle.client_plans.specs.declared.fault.PlanFault.TheVariants as plan
use Rattle.schedule_model.specs.Costs.{total_cost}
use Rattle.schedule_model.specs.Desk.{ScheduleReader}
use Rattle.schedule_model.specs.Schedules.{Led, Went, Filled}
use Rattle.schedule_model.specs.Schedules as schedules
use Rattle.schedule_world.specs.declared.fault.LineFault.{LineFault}
use Rattle.schedule_world.specs.declared.fault.LineFault.TheVariants.{Bad, Full, Memory}

-- an answer at this desk to what leads to another: the desk was left so, or the line is bad and the desk as it was, or the history was full and is left so; want of memory may be answered at any time
abbrev pub IsTold : Led → ScheduleReader → ScheduleReader → Result Unit LineFault → Type 0
IsTold l d e (Ok done) = l ≡ Went e
IsTold l d e (Err (Bad r)) = (l ≡ schedules.Bad r) × (e ≡ d)
IsTold l d e (Err (Full n cost)) = (l ≡ Filled e) × (n ≡ length e.entries) × (cost ≡ total_cost e.entries)
IsTold l d e (Err Memory) = Unit {0}

-- an answer to whether the history had room at this desk: it had, or its numbers
abbrev pub IsRoom : ScheduleReader → Bool → Result Unit LineFault → Type 0
IsRoom e room (Ok done) = room ≡ true
IsRoom e room (Err (Full n cost)) = (room ≡ false) × (n ≡ length e.entries) × (cost ≡ total_cost e.entries)
IsRoom e room (Err other) = ⊥

-- why a block can't be begun, as the fault of its line
abbrev pub fault_of_plan : PlanFault → LineFault
fault_of_plan (plan.Bad r) = Bad r
fault_of_plan plan.Memory = Memory

-- whether an answer is want of memory
abbrev pub lacked_memory : Result Unit LineFault → Bool
lacked_memory (Err Memory) = true
lacked_memory other = false
