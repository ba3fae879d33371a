use Rattle.std.proofs.Common.{inr, subst, ℕ, ◌∙◌}
use Rattle.net_links.specs.LinkViews.{link_view}
use Rattle.net_links.specs.NetCauses.{HasClosedFaults}
use Rattle.publish_run.proofs.Linked.{closes_since}
use Rattle.publish_run.proofs.publishing.publish_linked.Goals as goal

pub returns-in-Ok : goal.returns-in-Ok
returns-in-Ok g c =
    let carried = c.say_over-link.ensures in (
      carried.0,
      carried.1,
      inr (record {
        link = (link_view g.N.Stream.Link.sent g.N.Stream.Link.received g.N.Stream.Link.faults g.N.Stream.Link.ends g.N.Stream.Link.gains c.in-Ok.link);
        link2 = (link_view g.N.Stream.Link.sent g.N.Stream.Link.received g.N.Stream.Link.faults g.N.Stream.Link.ends g.N.Stream.Link.gains c.say_over-link.result.0);
        fresh = c.in-Ok.ensures.fresh;
        carried = carried.2;
        closed = closes_since (g.N.Net.closed c.args.net.now) (g.N.Net.closed c.connect.new.self) (g.N.Net.closed c.close.new.self) (link_view g.N.Stream.Link.sent g.N.Stream.Link.received g.N.Stream.Link.faults g.N.Stream.Link.ends g.N.Stream.Link.gains c.say_over-link.result.0) c.in-Ok.ensures.closed c.close.ensures.closed;
        closed_faults = subst (λ (n : ℕ). HasClosedFaults n (g.N.Net.closed_faults c.close.new.self) (g.N.Stream.Link.faults c.say_over-link.result.0) (g.N.Stream.Link.ends c.say_over-link.result.0)) c.in-Ok.ensures.closed_faults c.close.ensures.closed_faults;
        no_fault = c.close.ensures.faults ∙ c.in-Ok.ensures.cause;
      }),
    )
