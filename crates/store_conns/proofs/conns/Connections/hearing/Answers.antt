use Rattle.std.proofs.Common.{ap, sym, ◌∙◌}
use Rattle.std.specs.FinMap.{entries, nat_cmp-IsAntisymmetric}
use Rattle.std.specs.Cmp.{nat_cmp_total}
use Rattle.store_tables.proofs.Maps.{entries_made}
use Rattle.store_model.specs.Connections.{hearing}
use Rattle.store_conns.proofs.conns.Connections.hearing.Goals as goal

pub returns : goal.returns
returns c =
    let all = sym (entries_made nat_cmp_total nat_cmp-IsAntisymmetric c.self.inside.kept.entries c.hearing_in.ensures.ordered) ∙ ap entries c.self.view_is in
    c.hearing_in.ensures.count ∙ ap (hearing c.args.channel.now) all
