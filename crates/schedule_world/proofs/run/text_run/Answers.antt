use Rattle.std.proofs.Common.{sym}
use Rattle.line_text.specs.Lines.{lines_of}
use Rattle.schedule_model.specs.Programs.{program_craft}
use Rattle.schedule_model.specs.Schedules.{header_on}
use Rattle.schedule_world.specs.Desks.{desk_of}
use Rattle.schedule_world.proofs.Lawful.{fault_same}
use Rattle.schedule_world.proofs.run.text_run.Goals as goal

pub returns-in-Ok : goal.returns-in-Ok
returns-in-Ok c = (desk_of c.text_taken.new.world, c.in-Ok.ensures, sym c.into_ran.ensures.history, sym c.into_ran.ensures.store)

pub returns-in-Err : goal.returns-in-Err
returns-in-Err c = fault_same (header_on program_craft c.args.is_cut (lines_of c.args.text.now)) (desk_of c.text_taken.new.world) c.in-Err.fault c.in-Err.ensures
