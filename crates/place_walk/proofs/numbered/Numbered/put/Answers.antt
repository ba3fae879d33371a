use Rattle.std.proofs.Common.{ap, ◌∙◌}
use Rattle.std.proofs.lemmas.Cmp.{nat_cmp_total}
use Rattle.std.specs.FinMap as map
use Rattle.store_tables.proofs.Maps.{put_made}
use Rattle.place_walk.proofs.numbered.Numbered.put.Goals as goal

pub returns : goal.returns
returns g c = put_made nat_cmp_total map.nat_cmp-IsAntisymmetric c.self.inside.kept.entries c.insert.new.self.entries c.args.conn c.args.value c.in_ok-insert.ensures.updates.0 ∙ ap (λ m. map.insert m c.args.conn c.args.value) c.self.view_is
