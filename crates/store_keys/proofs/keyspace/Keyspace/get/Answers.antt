use Rattle.std.proofs.Common.{ap, sym, ◌∙◌}
use Rattle.std.specs.FinMap as map
use Rattle.store_tables.proofs.Maps.{get_made, bytes_total, bytes_anti}
use Rattle.store_keys.proofs.keyspace.Keyspace.get.Goals as goal

pub returns : goal.returns
returns c = c.get.ensures.value ∙ sym (get_made bytes_total bytes_anti c.self.inside.kept.entries c.args.key.now) ∙ ap (λ m. map.get m c.args.key.now) c.self.view_is
