use Rattle.std.proofs.Common.{ap, ◌∙◌}
use Rattle.std.specs.FinMap as map
use Rattle.std.specs.FinMap.{nat_cmp-IsAntisymmetric}
use Rattle.std.specs.Cmp.{nat_cmp_total}
use Rattle.store_tables.proofs.Maps.{removed_made}
use Rattle.store_conns.proofs.conns.Connections.forget.Goals as goal

pub returns : goal.returns
returns c = removed_made nat_cmp_total nat_cmp-IsAntisymmetric c.self.inside.kept.entries c.remove.new.self.entries c.args.number c.remove.ensures.updates.0 ∙ ap (λ m. map.remove m c.args.number) c.self.view_is
