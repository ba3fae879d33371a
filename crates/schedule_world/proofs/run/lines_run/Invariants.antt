use Rattle.std.proofs.Common.{◌≡◌, length}
use Rattle.line_text.specs.LinesLeft.{lines_left}
use Rattle.schedule_model.specs.Programs.{program_craft}
use Rattle.schedule_world.specs.Desks.{desk_of}
use Rattle.schedule_world.specs.Runs.{from_present, numbered_led}
use Rattle.schedule_world.proofs.run.lines_run.Given as goal

-- the lines from here on determine at the world's desk what all of them determine
abbrev pub invariant-loop-present : goal.invariant-loop-present
invariant-loop-present l =
    numbered_led program_craft l.is_cut (desk_of l.fn.world) (from_present l.fn.first (lines_left l.fn.lines)) ≡ numbered_led program_craft l.is_cut (desk_of l.world) (from_present l.present (lines_left l.lines))

abbrev pub decreases-loop-present : goal.decreases-loop-present
decreases-loop-present l = length (from_present l.present (lines_left l.lines))
