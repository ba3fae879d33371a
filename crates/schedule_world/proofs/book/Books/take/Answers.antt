use Rattle.std.proofs.Common.{ap, sym, ◌∙◌}
use Rattle.std.specs.FinMap as map
use Rattle.std.specs.FinMap.{nat_cmp-IsAntisymmetric}
use Rattle.std.specs.Cmp.{nat_cmp_total}
use Rattle.store_tables.proofs.Maps.{get_made, removed_made}
use Rattle.schedule_world.proofs.book.Books.take.Goals as goal

pub returns-clause-taken : goal.returns-clause-taken
returns-clause-taken c = c.remove.ensures.value ∙ sym (get_made nat_cmp_total nat_cmp-IsAntisymmetric c.self.inside.kept.entries c.args.client) ∙ ap (λ m. map.get m c.args.client) c.self.view_is

pub returns-clause-removed : goal.returns-clause-removed
returns-clause-removed c = removed_made nat_cmp_total nat_cmp-IsAntisymmetric c.self.inside.kept.entries c.remove.new.self.entries c.args.client c.remove.ensures.updates.0 ∙ ap (λ m. map.remove m c.args.client) c.self.view_is
