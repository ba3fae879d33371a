use Rattle.std.proofs.Common.{ap, sym, ◌∙◌, is_some}
use Rattle.std.proofs.lemmas.Cmp.{nat_cmp_total}
use Rattle.std.specs.FinMap as map
use Rattle.store_tables.proofs.Maps.{get_made}
use Rattle.place_walk.proofs.numbered.Numbered.has.Goals as goal

pub returns : goal.returns
returns g c = c.contains_key.ensures ∙ ap is_some (sym (get_made nat_cmp_total map.nat_cmp-IsAntisymmetric c.self.inside.kept.entries c.args.conn) ∙ ap (λ m. map.get m c.args.conn) c.self.view_is)
