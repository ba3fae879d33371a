use Rattle.replay.proofs.Written.{line_written}
use Rattle.replay.proofs.entry_text.call_line.Goals as goal

pub returns : goal.returns
returns g c = λ σ. line_written _ _ _ _ _ _ _ c.in_ok-head.ensures (c.in_ok-called.ensures σ)
