use Rattle.std.specs.Prelude.{codes}
use Rattle.line_text.specs.Short.{short_value}
use Rattle.replay.proofs.Written.{reply_written}
use Rattle.replay.proofs.entry_text.reply_text.Goals as goal

pub returns : goal.returns
returns g c = λ σ. reply_written (codes " ; ") (short_value (g.L.Legend.shape c.args.legend.now)) _ _ _ _ _ _ c.as_slice.ensures c.in_ok-pushed_values.ensures c.in_ok-short_value.ensures
