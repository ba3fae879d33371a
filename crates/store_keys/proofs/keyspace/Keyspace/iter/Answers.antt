use Rattle.std.proofs.Common.{ap, sym, ◌∙◌}
use Rattle.std.specs.FinMap as map
use Rattle.store_tables.proofs.Maps.{bytes_total, bytes_anti, entries_made}
use Rattle.store_keys.proofs.keyspace.Keyspace.iter.Goals as goal

pub returns : goal.returns
returns c = c.iter.ensures.rest ∙ sym (entries_made bytes_total bytes_anti c.self.inside.kept.entries c.iter.ensures.ordered) ∙ ap map.entries c.self.view_is
