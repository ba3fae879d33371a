use Rattle.std.proofs.Common.{codes, false, refl, true}
use Rattle.command_blocks.specs.EnvelopeTexts.{plain_setting}
use Rattle.manner_laws.specs.Spots.{Entry}
use Rattle.client_spots.specs.Stands.{job_of}
use Rattle.client_asks.proofs.Tests.{job_said}
use Rattle.client_asks.proofs.returning.ask_watched.Goals as goal

pub returns-then-not-says_three : goal.returns-then-not-says_three
returns-then-not-says_three c = λ at.
    let s = c.args.spot.now in
    (job_said (codes "HGET") plain_setting.unacked s.tag s.tried s.tags c.args.words.now c.as_slice.result.now c.says_three.result false c.says_three.ensures c.as_slice.ensures c.if-not-says_three.true (Entry s.drawn s.passes (job_of s) s.tries), refl)

pub returns : goal.returns
returns c = λ at.
    let s = c.args.spot.now in
    (job_said (codes "HGET") plain_setting.unacked s.tag s.tried s.tags c.args.words.now c.as_slice.result.now c.says_three.result true c.says_three.ensures c.as_slice.ensures c.if-not-says_three.false (Entry s.drawn s.passes (job_of s) s.tries), refl)
