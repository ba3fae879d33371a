use Rattle.std.proofs.Common.{sym, ap, ◌∙◌}
use Rattle.std.specs.FinMap as map
use Rattle.std.specs.FinMap.{nat_cmp-IsAntisymmetric}
use Rattle.std.specs.Cmp.{nat_cmp_total}
use Rattle.store_tables.proofs.Maps.{get_made, removed_made}
use Rattle.store_model.specs.Connections.{or_no_conn}
use Rattle.store_tables.proofs.Lookups.{insert-remove}
use Rattle.store_conns.proofs.conns.Connections.take.Goals as goal

pub returns-in_default-clause-taken : goal.returns-in_default-clause-taken
returns-in_default-clause-taken c = c.unknown.ensures ∙ (ap or_no_conn (c.in_default.ensures.value ∙ sym (get_made nat_cmp_total nat_cmp-IsAntisymmetric c.self.inside.kept.entries c.args.number) ∙ ap (λ m. map.get m c.args.number) c.self.view_is))

pub returns-clause-taken : goal.returns-clause-taken
returns-clause-taken c = ap or_no_conn (c.in-Some.ensures.value ∙ sym (get_made nat_cmp_total nat_cmp-IsAntisymmetric c.self.inside.kept.entries c.args.number) ∙ ap (λ m. map.get m c.args.number) c.self.view_is)

pub returns-clause-room : goal.returns-clause-room
returns-clause-room c k =
    ap (λ m. map.insert m c.args.number k) (removed_made nat_cmp_total nat_cmp-IsAntisymmetric c.self.inside.kept.entries c.remove.new.self.entries c.args.number c.remove.ensures.updates.0 ∙ ap (λ m. map.remove m c.args.number) c.self.view_is)
    ∙ insert-remove nat_cmp_total nat_cmp-IsAntisymmetric c.args.self.now c.args.number k
