use Rattle.std.proofs.Common.{arith}
use Rattle.place_model.specs.Placed.{placed}
use Rattle.schedule_model.specs.Legends.{legend_of}
use Rattle.replay.proofs.Written.{all_of_them, one_more}
use Rattle.schedule_model.specs.Reports.{place_line}
use Rattle.replay.proofs.place_text.place_lines.Goals as goal

pub loop-pair-preserved : goal.loop-pair-preserved
loop-pair-preserved g c = λ σ. one_more (λ p. place_line (legend_of σ (g.L.Legend.shape c.args.legend.now)) (placed p)) _ _ _ _ _ _ c.loop-pair-test.true c.pair-item.is (c.loop-pair.invariant σ) (c.in_ok-place_line.ensures σ)

pub returns : goal.returns
returns g c = λ σ. all_of_them (λ p. place_line (legend_of σ (g.L.Legend.shape c.args.legend.now)) (placed p)) _ _ _ c.loop-pair.pair-index (omega arith) (c.loop-pair.invariant σ)
