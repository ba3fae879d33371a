use Rattle.std.proofs.Common.{◌≡◌, IfOk, ap, sym, ◌∙◌, subst, map as mapped}
use Rattle.std.specs.FinMap as map
use Rattle.store_tables.proofs.Maps.{bytes_total, bytes_anti, entries_made}
use Rattle.store_tables.proofs.table.Table.names.Goals as goal

pub returns : goal.returns
returns g c =
    let all = sym (entries_made bytes_total bytes_anti c.self.inside.kept.entries c.copied_names.ensures.ordered) ∙ ap map.entries c.self.view_is in
    subst (λ es. IfOk c.copied_names.result (λ names. names ≡ mapped (λ e. e.0) es)) all c.copied_names.ensures.names
