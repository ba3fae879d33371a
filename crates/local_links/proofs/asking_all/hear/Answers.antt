use Rattle.std.proofs.Common.{◌++◌}
use Rattle.sessions.proofs.Taken.{fed}
use Rattle.local_links.specs.LocalTalks.{IsBeginning, desk_goes}
use Rattle.local_links.proofs.Heard.{served_after, served_unfed}
use Rattle.local_links.proofs.Placed.{placed_fed}
use Rattle.local_links.proofs.asking_all.hear.Goals as goal

pub answer_all-answered-requires-clause-placed : goal.answer_all-answered-requires-clause-placed
answer_all-answered-requires-clause-placed c = placed_fed c.args.talking.now.decoder c.feed.new.self c.args.piece.now c.requires.placed c.in-Ok.ensures.ok

pub returns-in-Ok : goal.returns-in-Ok
returns-in-Ok c = record {
  served = rw c.stage_after.ensures (λ first sent replies s.
      let t = c.answer_all-answered.new.talking in
      let heard = fed desk_goes IsBeginning first c.args.desk.now sent replies c.args.piece.now c.args.talking.now s.talks c.feed.new.self c.in-Ok.ensures.ok in
      served_after first c.answer_all-answered.new.desk sent c.args.piece.now replies t c.answer_all-answered.new.desk.standing.fault c.answer_all-answered.result
      (c.answer_all-answered.ensures.answers first (sent ++ c.args.piece.now) replies heard) c.answer_all-answered.ensures.open);
}

pub returns-in-Err : goal.returns-in-Err
returns-in-Err c = record { served = λ first sent replies s. served_unfed first c.args.desk.now sent c.args.piece.now replies c.args.talking.now c.feed.new.self s }
