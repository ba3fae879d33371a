-- What the program reads schedules by, and what it reports histories with.
use Rattle.std.specs.Prelude.{Bool, is_some}
use Rattle.command_blocks.specs.EnvelopeTexts.{plain_setting}
use Rattle.queue_keys.specs.Names.{Bytes}
use Rattle.schedule_model.specs.Drafts.{arguments_of, sealed_task}
use Rattle.schedule_model.specs.Faults.{Craft}
use Rattle.schedule_model.specs.Legends.{legend_of}
use Rattle.schedule_model.specs.Reports.{ReportLegend}
use Rattle.schedule_model.specs.Shapes.{shape_of}

-- whether a JSON text may be a task's arguments
abbrev pub are_arguments : Bytes → Bool
are_arguments j = is_some (arguments_of j)

-- Celery's envelopes under the keys without a prefix
abbrev pub program_craft : Craft
program_craft = record { setting = plain_setting; are_arguments = are_arguments; sealed = sealed_task }

-- the words that spell envelopes, entries and tags, under the same names
abbrev pub program_legend : ReportLegend
program_legend = legend_of plain_setting shape_of
