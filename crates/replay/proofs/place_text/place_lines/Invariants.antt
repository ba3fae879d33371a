use Rattle.std.proofs.Common.{◌≡◌, ◌++◌, take}
use Rattle.std.specs.List.{flat_map}
use Rattle.command_blocks.specs.Setting.{Setting}
use Rattle.place_model.specs.Placed.{placed}
use Rattle.schedule_model.specs.Legends.{legend_of}
use Rattle.schedule_model.specs.Reports.{place_line}
use Rattle.replay.proofs.place_text.place_lines.Given as goal

abbrev pub invariant-loop-pair : goal.invariant-loop-pair
invariant-loop-pair g l = (σ : Setting) → l.out.items ≡ l.initial.out.items ++ flat_map (λ p. place_line (legend_of σ (g.L.Legend.shape l.legend)) (placed p)) (take l.pair-index l.places)
