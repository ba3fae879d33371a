use Rattle.std.proofs.Common.{subst, sym}
use Rattle.link_desk.specs.Exchanges.{RefusesWords}
use Rattle.link_desk.specs.LinkDeeds.{link_desk_view, standing_of}
use Rattle.link_desk.proofs.Linked.{failed, failed_words}
use Rattle.link_desk.proofs.desk.LinkDeskDesk.ask.Goals as goal

pub returns-in-Err-exchange-clause-err : goal.returns-in-Err-exchange-clause-err
returns-in-Err-exchange-clause-err g c =
    failed (g.L.Link.sent c.args.self.now.link) (g.L.Link.sent c.exchange.new.link) (g.L.Link.received c.args.self.now.link) (g.L.Link.received c.exchange.new.link) c.args.self.now.hearing.decoder c.exchange.new.hearing.decoder c.args.self.now.notes c.args.words.now
    c.args.self.now.standing.fault c.enter.new.self.fault c.refuse.new.self.fault c.args.self.now.standing.stopped c.enter.new.self.stopped c.refuse.new.self.stopped c.in-Err-exchange.fault _ _ _ _
    c.in-Ok.ensures.shown.0 c.in-Ok.ensures.shown.1 c.refuse.ensures.first c.in-Err-exchange.ensures.cause c.in-Err-exchange.ensures.exchanged

pub returns-in-Err-exchange-clause-refused : goal.returns-in-Err-exchange-clause-refused
returns-in-Err-exchange-clause-refused g c =
    subst (λ f. RefusesWords (link_desk_view (standing_of c.args.self.now.standing.fault c.args.self.now.standing.stopped) (g.L.Link.sent c.args.self.now.link) (g.L.Link.received c.args.self.now.link) c.args.self.now.hearing.decoder c.args.self.now.notes) c.args.words.now f (link_desk_view (standing_of c.refuse.new.self.fault c.refuse.new.self.stopped) (g.L.Link.sent c.exchange.new.link) (g.L.Link.received c.exchange.new.link) c.exchange.new.hearing.decoder c.args.self.now.notes)) (sym c.refuse.ensures.given)
    (failed_words (g.L.Link.sent c.args.self.now.link) (g.L.Link.sent c.exchange.new.link) (g.L.Link.received c.args.self.now.link) (g.L.Link.received c.exchange.new.link) c.args.self.now.hearing.decoder c.exchange.new.hearing.decoder c.args.self.now.notes c.args.words.now
    c.args.self.now.standing.fault c.enter.new.self.fault c.refuse.new.self.fault c.args.self.now.standing.stopped c.enter.new.self.stopped c.refuse.new.self.stopped c.in-Err-exchange.fault _ _ _ _
    c.in-Ok.ensures.shown.0 c.in-Ok.ensures.shown.1 c.refuse.ensures.first c.in-Err-exchange.ensures.cause c.in-Err-exchange.ensures.exchanged)
