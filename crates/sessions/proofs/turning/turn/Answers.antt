use Rattle.std.proofs.Common.{arith, take, ◌<◌, ◌≡◌}
use Rattle.std.proofs.lemmas.Grind.{common_steps}
use Rattle.net_links.specs.LinkViews.{link_view}
use Rattle.sessions.proofs.Taken.{appends_none, gained_none, gained_some, none_received, not_received, taken}
use Rattle.sessions.proofs.turning.turn.Goals as goal

pub returns-in_default-clause-turned : goal.returns-in_default-clause-turned
returns-in_default-clause-turned g c = λ first start n s.
    let mid = link_view g.L.Link.sent g.L.Link.received g.L.Link.faults g.L.Link.ends g.L.Link.gains c.args.link.now in
    let new = link_view g.L.Link.sent g.L.Link.received g.L.Link.faults g.L.Link.ends g.L.Link.gains c.receive.new.self in
    let e = c.in_default.ensures in
    not_received g.D.Desk.goes (g.C.Clock.gives c.args.clock.now) g.D.Desk.shared (g.D.Desk.fault c.args.desk.now) first c.args.desk.now start mid new c.args.talking.now n s e.received e.sent e.cause.later e.cause.failed e.end.failed e.gains

pub returns-then-count-eq0-clause-turned : goal.returns-then-count-eq0-clause-turned
returns-then-count-eq0-clause-turned g c = λ first start n s.
    let mid = link_view g.L.Link.sent g.L.Link.received g.L.Link.faults g.L.Link.ends g.L.Link.gains c.args.link.now in
    let new = link_view g.L.Link.sent g.L.Link.received g.L.Link.faults g.L.Link.ends g.L.Link.gains c.receive.new.self in
    let e = c.in-Ok.ensures in
    let none : c.in-Ok.count ≡ 0 = omega (arith, c.if-count-eq0.true) in
    none_received g.D.Desk.goes (g.C.Clock.gives c.args.clock.now) g.D.Desk.shared (g.D.Desk.fault c.args.desk.now) first c.args.desk.now start mid new c.args.talking.now n s
    (appends_none mid.received new.received c.in-Ok.count c.receive.new.into none e.received) e.sent e.cause.kept e.end.later (e.end.risen none (grind (arith, common_steps))) (gained_none _ _ c.in-Ok.count none e.gains)
    c.ended.result (c.ended.ensures s.talks.talks.heard.from s.talks.talks.heard.rest s.talks.talks.stands)

pub returns-clause-turned : goal.returns-clause-turned
returns-clause-turned g c = λ first start n s.
    let mid = link_view g.L.Link.sent g.L.Link.received g.L.Link.faults g.L.Link.ends g.L.Link.gains c.args.link.now in
    let got = link_view g.L.Link.sent g.L.Link.received g.L.Link.faults g.L.Link.ends g.L.Link.gains c.receive.new.self in
    let new = link_view g.L.Link.sent g.L.Link.received g.L.Link.faults g.L.Link.ends g.L.Link.gains c.take.new.link in
    let e = c.in-Ok.ensures in
    let a = c.take.ensures in
    let some : 0 < c.in-Ok.count = omega (arith, c.if-count-eq0.false) in
    taken g.D.Desk.goes (g.C.Clock.gives c.args.clock.now) g.D.Desk.shared (g.D.Desk.fault c.take.new.desk) first c.args.desk.now c.take.new.desk start mid got new c.args.talking.now c.take.new.talking n s (take c.in-Ok.count c.receive.new.into)
    e.received e.sent e.cause.kept (e.end.moved some) (gained_some _ _ c.in-Ok.count some e.gains) a.received a.later a.ends a.gains c.take.result (a.taken first s.stream s.sent s.talks s.empty)
