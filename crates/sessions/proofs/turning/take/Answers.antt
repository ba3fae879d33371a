use Rattle.std.proofs.Common.{◌++◌}
use Rattle.resp_wire.specs.Stands.{IsSpentDecoder}
use Rattle.sessions.proofs.Taken.{fed, flushed, unfed}
use Rattle.sessions.proofs.turning.take.Goals as goal

pub returns-in-Ok-clause-taken : goal.returns-in-Ok-clause-taken
returns-in-Ok-clause-taken g c = λ first stream sent s none.
    let t = c.answer_all-answered.new.talking in
    let heard = fed g.D.Desk.goes (g.C.Clock.gives c.args.clock.now) first c.args.desk.now stream sent c.args.piece.now c.args.talking.now s.talks c.feed.new.self c.in-Ok.ensures.ok in
    flushed g.D.Desk.goes (g.C.Clock.gives c.args.clock.now) g.D.Desk.shared (g.D.Desk.fault c.answer_all-answered.new.desk) first c.answer_all-answered.new.desk (stream ++ c.args.piece.now) sent t
    record { decoder = t.decoder; out = c.flush.new.out; commands = t.commands } (g.L.Link.sent c.args.link.now) (g.L.Link.sent c.flush.new.link) (g.L.Link.faults c.args.link.now) (g.L.Link.faults c.flush.new.link)
    c.answer_all-answered.result c.flush.result (c.answer_all-answered.ensures.answers first (stream ++ c.args.piece.now) sent heard) c.flush.ensures.flushed

pub returns-in-Err-clause-taken : goal.returns-in-Err-clause-taken
returns-in-Err-clause-taken g c = λ first stream sent s none.
    unfed g.D.Desk.goes (g.C.Clock.gives c.args.clock.now) first c.args.desk.now stream sent c.args.piece.now c.args.talking.now s.talks (IsSpentDecoder c.feed.new.self) c.in-Err.ensures.err c.requires.piece none g.D.Desk.shared (g.D.Desk.fault c.args.desk.now) c.requires.open.no_fault (g.L.Link.sent c.args.link.now) (g.L.Link.faults c.args.link.now)
