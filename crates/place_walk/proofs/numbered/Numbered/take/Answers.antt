use Rattle.std.proofs.Common.{ap, sym, ◌∙◌}
use Rattle.std.proofs.lemmas.Cmp.{nat_cmp_total}
use Rattle.std.specs.FinMap as map
use Rattle.store_tables.proofs.Maps.{get_made, removed_made}
use Rattle.place_walk.proofs.numbered.Numbered.take.Goals as goal

pub returns-clause-before : goal.returns-clause-before
returns-clause-before g c = c.remove.ensures.value ∙ sym (get_made nat_cmp_total map.nat_cmp-IsAntisymmetric c.self.inside.kept.entries c.args.conn) ∙ ap (λ m. map.get m c.args.conn) c.self.view_is

pub returns-clause-after : goal.returns-clause-after
returns-clause-after g c = removed_made nat_cmp_total map.nat_cmp-IsAntisymmetric c.self.inside.kept.entries c.remove.new.self.entries c.args.conn c.remove.ensures.updates.0 ∙ ap (λ m. map.remove m c.args.conn) c.self.view_is
