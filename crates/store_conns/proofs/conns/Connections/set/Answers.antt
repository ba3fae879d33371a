use Rattle.std.proofs.Common.{ap, ◌∙◌}
use Rattle.std.specs.FinMap as map
use Rattle.std.specs.FinMap.{nat_cmp-IsAntisymmetric}
use Rattle.std.specs.Cmp.{nat_cmp_total}
use Rattle.store_tables.proofs.Maps.{put_made}
use Rattle.store_conns.proofs.conns.Connections.set.Goals as goal

pub returns : goal.returns
returns c = put_made nat_cmp_total nat_cmp-IsAntisymmetric c.self.inside.kept.entries c.insert.new.self.entries c.args.number c.args.known c.in_ok-insert.ensures.updates.0 ∙ ap (λ m. map.insert m c.args.number c.args.known) c.self.view_is
