use Rattle.std.proofs.Common.{ap, false, refl, sym, true}
use Rattle.link_desk.specs.Exchanges.{RefusesWords}
use Rattle.link_desk.specs.LinkDeeds.{CarriesDeeds, link_desk_view, standing_of}
use Rattle.links.specs.Views.{sink_view}
use Rattle.publish_run.proofs.Linked.{said_by_view, starts_open}
use Rattle.publish_run.proofs.publishing.say_over.Goals as goal

pub returns : goal.returns
returns g c =
    let said = c.say_script-end.ensures.said in
    let first = c.new-desk.ensures.link in
    let last = c.into_link.ensures in (
      said.0,
      said.1,
      record {
        desk = (link_desk_view (standing_of c.new-desk.result.standing.fault c.new-desk.result.standing.stopped) (g.L.Link.sent c.new-desk.result.link) (g.L.Link.received c.new-desk.result.link) c.new-desk.result.hearing.decoder c.new-desk.result.notes);
        desk2 = (link_desk_view (standing_of c.say_script-end.new.desk.standing.fault c.say_script-end.new.desk.standing.stopped) (g.L.Link.sent c.say_script-end.new.desk.link) (g.L.Link.received c.say_script-end.new.desk.link) c.say_script-end.new.desk.hearing.decoder c.say_script-end.new.desk.notes);
        shows = (record { fault = c.new-desk.result.standing.fault; stopped = c.new-desk.result.standing.stopped; faults = g.L.Link.faults c.new-desk.result.link; ends = g.L.Link.ends c.new-desk.result.link });
        shows2 = (record { fault = c.say_script-end.new.desk.standing.fault; stopped = c.say_script-end.new.desk.standing.stopped; faults = g.L.Link.faults c.say_script-end.new.desk.link; ends = g.L.Link.ends c.say_script-end.new.desk.link });
        opened = starts_open c.new-desk.result.standing.fault c.new-desk.result.standing.stopped c.new-desk.ensures.open;
        stands = c.new-desk.ensures.stands;
        begins = (ap g.L.Link.sent first, ap g.L.Link.received first, ap g.L.Link.faults first, ap g.L.Link.ends first);
        stands2 = refl;
        ends = (ap g.L.Link.sent (sym last), ap g.L.Link.received (sym last), ap g.L.Link.faults (sym last), ap g.L.Link.ends (sym last));
        said = said_by_view (λ d. (link_desk_view (standing_of d.standing.fault d.standing.stopped) (g.L.Link.sent d.link) (g.L.Link.received d.link) d.hearing.decoder d.notes)) CarriesDeeds RefusesWords true false c.args.seed 0 said.0 c.new-desk.result c.say_script-end.new.desk (record { fault = c.new-desk.result.standing.fault; stopped = c.new-desk.result.standing.stopped; faults = g.L.Link.faults c.new-desk.result.link; ends = g.L.Link.ends c.new-desk.result.link }) (record { fault = c.say_script-end.new.desk.standing.fault; stopped = c.say_script-end.new.desk.standing.stopped; faults = g.L.Link.faults c.say_script-end.new.desk.link; ends = g.L.Link.ends c.say_script-end.new.desk.link }) (sink_view g.K.Sink.taken g.K.Sink.write_faults c.args.out.now) (sink_view g.K.Sink.taken g.K.Sink.write_faults c.say_script-end.new.out) c.say_script-end.result said.2;
      },
    )
