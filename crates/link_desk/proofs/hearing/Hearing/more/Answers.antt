use Rattle.link_desk.proofs.Ready.{ready_fed}
use Rattle.link_desk.proofs.hearing.Hearing.more.Goals as goal

pub invariant_of-self-2 : goal.invariant_of-self-2
invariant_of-self-2 g c = record { ready = ready_fed c.args.self.now.decoder c.feed.new.self c.args.self.now.ready _ c.feed.result c.feed.ensures.ok c.feed.ensures.err c.feed.ensures.spent }
