use Rattle.std.proofs.Common.{ap, sym, ◌∙◌}
use Rattle.std.proofs.lemmas.Cmp.{nat_cmp_total}
use Rattle.std.specs.FinMap as map
use Rattle.store_tables.proofs.Maps.{get_made}
use Rattle.place_index.proofs.tagged.Tagged.get.Goals as goal

pub returns : goal.returns
returns g c = c.get.ensures.value ∙ sym (get_made nat_cmp_total map.nat_cmp-IsAntisymmetric c.self.inside.kept.entries c.args.number) ∙ ap (λ m. map.get m c.args.number) c.self.view_is
