use Rattle.std.proofs.Common.{◌≡◌, ◌++◌, ◌+◌, drop}
use Rattle.command_blocks.specs.Setting.{Setting}
use Rattle.schedule_model.specs.Legends.{legend_of}
use Rattle.schedule_model.specs.Reports.{entry_lines}
use Rattle.replay.proofs.entry_text.entry_lines.Given as goal

-- what is written and the entries that are left are the text before and all entries
abbrev pub invariant-loop-index : goal.invariant-loop-index
invariant-loop-index g l = (σ : Setting) → l.out.items ++ entry_lines (legend_of σ (g.L.Legend.shape l.legend)) (l.index + 1) (drop l.index l.entries) ≡ l.fn.out.items ++ entry_lines (legend_of σ (g.L.Legend.shape l.legend)) 1 l.entries
