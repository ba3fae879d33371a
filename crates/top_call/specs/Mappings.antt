-- The end of a run by what its schedule gave. Serves the proofs of code.
use Rattle.std.specs.Prelude.{Bool, List, false, true, ℕ}
use Rattle.history_records.specs.Records.{record_text}
use Rattle.place_model.specs.Histories.{History}
use Rattle.place_model.specs.declared.heard.Heard.{Heard}
use Rattle.schedule_model.specs.Programs.{program_legend}
use Rattle.schedule_model.specs.Reports.{report_text}
use Rattle.schedule_world.specs.declared.run.RunFault.{RunFault}
use Rattle.schedule_world.specs.declared.run.RunFault.TheVariants.{Bad}
use Rattle.schedule_world.specs.declared.run.RunFault.TheVariants as run
use Rattle.top_call.specs.declared.ending.End.{End}
use Rattle.top_call.specs.declared.ending.End.TheVariants.{BadLine, Full, Memory, Recorded, Reported}

-- the end that a schedule without a history leads to
abbrev pub end_given : RunFault → End
end_given (Bad bad) = BadLine bad
end_given (run.Full entries bytes) = Full entries bytes
end_given run.Memory = Memory

-- what is written of a history: its record where that is asked for, else its report
abbrev pub asked_text : Bool → History Heard → List ℕ
asked_text true h = record_text h
asked_text false h = report_text program_legend h

-- the end with that text
abbrev pub end_written : List ℕ → Bool → End
end_written text true = Recorded text
end_written text false = Reported text
