use Rattle.replay.proofs.Reported.{place_written}
use Rattle.replay.proofs.place_text.place_line.Goals as goal

pub returns : goal.returns
returns g c = λ σ. place_written c.args.number c.ranges.number.fits _ _ _ _ _ c.in_ok-named_tag.ensures (c.in_ok-place_words.ensures σ) c.in_ok-push.ensures.items
