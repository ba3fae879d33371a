-- The history that a schedule determines is sound, its messages are in their places, and the run's store is the one that it leaves.
use Rattle.std.proofs.Common.{◌≡◌, IfOk, Result, Ok, Err, sym, ap, subst, ◌∙◌}
use Rattle.command_blocks.specs.EnvelopeTexts.{plain_setting}
use Rattle.queue_keys.specs.Names.{Bytes}
use Rattle.place_model.specs.Histories.{History, after}
use Rattle.place_model.specs.Shown.{history_of}
use Rattle.place_model.specs.Starts.{IsSound}
use Rattle.place_model.specs.declared.heard.Heard.{Heard}
use Rattle.message_schedules.specs.Companions.{IsScheduled}
use Rattle.message_schedules.proofs.Companions.{whole_scheduled}
use Rattle.message_schedules.proofs.Program.{whole_placed, whole_sound, whole_store}
use Rattle.schedule_model.specs.Desk.{ScheduleReader}
use Rattle.schedule_model.specs.Programs.{program_craft}
use Rattle.schedule_model.specs.Schedules.{Determined, reader_history, schedule_run}
use Rattle.schedule_world.specs.Runs.{HasEnded, HasRun, IsEachPlaced, IsRun, history_alone}
use Rattle.schedule_world.specs.declared.run.ScheduleRun.{ScheduleRun}
use Rattle.schedule_world.specs.declared.run.RunFault.{RunFault}
use Rattle.schedule_world.specs.declared.run.RunFault.TheVariants.{Bad, Full, Memory}

pub run_sound : (bytes : Bytes) (result : Result ScheduleRun RunFault) → HasRun (schedule_run program_craft bytes) result → IfOk result (λ ran. IsSound plain_setting (history_of ran.history))
run_sound bytes (Ok ran) answer = subst (IsSound plain_setting) answer.2 (whole_sound bytes answer.0 answer.1)
run_sound bytes (Err fault) answer = tt

pub run_placed : (bytes : Bytes) (result : Result ScheduleRun RunFault) → HasRun (schedule_run program_craft bytes) result → IfOk result (λ ran. IsEachPlaced (history_of ran.history))
run_placed bytes (Ok ran) answer = subst IsEachPlaced answer.2 (whole_placed bytes answer.0 answer.1)
run_placed bytes (Err fault) answer = tt

-- so is all that holds of each history of a schedule
pub run_has : (P : History Heard → Type 0) → ((h : History Heard) → IsScheduled h → P h) → (bytes : Bytes) (result : Result ScheduleRun RunFault) → HasRun (schedule_run program_craft bytes) result → IfOk result (λ ran. P (history_of ran.history))
run_has P all bytes (Ok ran) answer = subst P answer.2 (all (reader_history answer.0) (whole_scheduled bytes answer.0 answer.1))
run_has P all bytes (Err fault) answer = tt

pub run_store : (bytes : Bytes) (result : Result ScheduleRun RunFault) → HasRun (schedule_run program_craft bytes) result → IfOk result (λ ran. ran.store.state ≡ (after (history_of ran.history)).store)
run_store bytes (Ok ran) answer = sym answer.3 ∙ (sym (whole_store bytes answer.0 answer.1) ∙ ap (λ h. (after h).store) answer.2)
run_store bytes (Err fault) answer = tt

-- a run's end has the history that is determined
pub run_history : (r : Determined) (result : Result ScheduleRun RunFault) → HasRun r result → IsRun r (history_alone result)
run_history r (Ok ran) h = (h.0, h.1, h.2)
run_history r (Err (Bad b)) h = h
run_history r (Err (Full n cost)) h = h
run_history r (Err Memory) h = tt

-- a fault that lines ended with is one that a run ends with
pub fault_same : (r : Determined) (d : ScheduleReader) (fault : RunFault) → HasEnded r d (Err fault) → HasRun r (Err fault)
fault_same r d (Bad b) h = h
fault_same r d (Full n cost) h = h
fault_same r d Memory h = tt
