use Rattle.std.proofs.Common.{◌∙◌}
use Rattle.schedule_model.specs.Legends.{legend_of}
use Rattle.replay.proofs.Reported.{report_written}
use Rattle.replay.proofs.report_lines.report_of.Goals as goal

pub returns : goal.returns
returns g c = λ σ h same told. c.from_vec.ensures ∙ report_written (legend_of σ (g.L.Legend.shape c.args.legend.now)) h _ _ _ _ _ _ same told c.in_ok-out.ensures.items (c.in_ok-entry_lines.ensures σ) (c.in_ok-place_lines.ensures σ) c.in_ok-total_line.ensures
