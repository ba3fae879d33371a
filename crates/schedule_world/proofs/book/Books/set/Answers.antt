use Rattle.std.proofs.Common.{ap, ◌∙◌}
use Rattle.std.specs.FinMap as map
use Rattle.std.specs.FinMap.{nat_cmp-IsAntisymmetric}
use Rattle.std.specs.Cmp.{nat_cmp_total}
use Rattle.store_tables.proofs.Maps.{put_made}
use Rattle.schedule_world.proofs.book.Books.set.Goals as goal

pub returns-clause-ok : goal.returns-clause-ok
returns-clause-ok c = put_made nat_cmp_total nat_cmp-IsAntisymmetric c.self.inside.kept.entries c.insert.new.self.entries c.args.client c.args.book c.in_ok-insert.ensures.updates.0 ∙ ap (λ m. map.insert m c.args.client c.args.book) c.self.view_is
