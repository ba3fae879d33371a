use Rattle.std.proofs.Common.{◌∙◌}
use Rattle.plain_desk.specs.declared.desk.PlainDesk.{PlainDesk}
use Rattle.net_links.specs.LinkViews.{link_view}
use Rattle.store_server.proofs.Served.{visited}
use Rattle.store_server.proofs.serving.visit.Goals as goal

pub returns : goal.returns
returns g c = record {
  visited = visited (λ (d : PlainDesk). d.conn) (λ (d : PlainDesk). d.store) (g.C.Clock.gives c.args.clock.now) _ c.new-desk.result c.session-end.new.desk c.args.number c.args.store.now
      (link_view g.L.Link.sent g.L.Link.received g.L.Link.faults g.L.Link.ends g.L.Link.gains c.args.link.now) (link_view g.L.Link.sent g.L.Link.received g.L.Link.faults g.L.Link.ends g.L.Link.gains c.session-end.new.link)
      c.args.turns c.session-end.result (c.new-desk.ensures.store ∙ c.replace-own.ensures.value) c.new-desk.ensures.conn c.into_store.result c.session-end.ensures.session c.into_store.ensures;
}
