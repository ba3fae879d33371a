use Rattle.line_text.specs.Short.{short_word}
use Rattle.replay.proofs.Written.{called_written}
use Rattle.replay.proofs.entry_text.called.Goals as goal

pub returns : goal.returns
returns g c = λ σ. called_written (short_word (g.L.Legend.shape c.args.legend.now)) _ _ _ _ _ _ _ c.in_ok-spaced_words.ensures c.in_ok-extend_from_slice.ensures.items (c.in_ok-reply_text.ensures σ) c.in_ok-push.ensures.items
