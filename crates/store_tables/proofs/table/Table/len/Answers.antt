use Rattle.std.proofs.Common.{ap, sym, ◌∙◌}
use Rattle.std.specs.FinMap as map
use Rattle.store_tables.proofs.Maps.{bytes_total, bytes_anti, len_made}
use Rattle.store_tables.proofs.table.Table.len.Goals as goal

pub returns-clause-len : goal.returns-clause-len
returns-clause-len g c = c.len.ensures.len ∙ sym (len_made bytes_total bytes_anti c.self.inside.kept.entries c.len.ensures.ordered) ∙ ap map.len c.self.view_is
