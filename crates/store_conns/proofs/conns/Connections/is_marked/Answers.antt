use Rattle.std.proofs.Common.{sym, ap, ◌∙◌}
use Rattle.std.specs.FinMap as map
use Rattle.std.specs.FinMap.{nat_cmp-IsAntisymmetric}
use Rattle.std.specs.Cmp.{nat_cmp_total}
use Rattle.store_tables.proofs.Maps.{get_made}
use Rattle.store_model.specs.Connections.{or_no_conn}
use Rattle.store_conns.proofs.conns.Connections.is_marked.Goals as goal

pub returns-in-Some : goal.returns-in-Some
returns-in-Some c = ap (λ o. (or_no_conn o).marked) (c.in-Some.ensures.value ∙ sym (get_made nat_cmp_total nat_cmp-IsAntisymmetric c.self.inside.kept.entries c.args.number) ∙ ap (λ m. map.get m c.args.number) c.self.view_is)

pub returns-in-None : goal.returns-in-None
returns-in-None c = ap (λ o. (or_no_conn o).marked) (c.in-None.ensures.value ∙ sym (get_made nat_cmp_total nat_cmp-IsAntisymmetric c.self.inside.kept.entries c.args.number) ∙ ap (λ m. map.get m c.args.number) c.self.view_is)
