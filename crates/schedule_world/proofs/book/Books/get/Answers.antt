use Rattle.std.proofs.Common.{ap, sym, ◌∙◌}
use Rattle.std.specs.FinMap as map
use Rattle.std.specs.FinMap.{nat_cmp-IsAntisymmetric}
use Rattle.std.specs.Cmp.{nat_cmp_total}
use Rattle.store_tables.proofs.Maps.{get_made}
use Rattle.schedule_world.proofs.book.Books.get.Goals as goal

pub returns : goal.returns
returns c = c.get.ensures.value ∙ sym (get_made nat_cmp_total nat_cmp-IsAntisymmetric c.self.inside.kept.entries c.args.client) ∙ ap (λ m. map.get m c.args.client) c.self.view_is
