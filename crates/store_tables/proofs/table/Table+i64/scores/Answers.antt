use Rattle.std.proofs.Common.{◌≡◌, IfOk, ap, sym, ◌∙◌, subst}
use Rattle.std.specs.FinMap as map
use Rattle.store_tables.proofs.Maps.{bytes_total, bytes_anti, entries_made}
use Rattle.store_tables.proofs.table.Table+i64.scores.Goals as goal

pub returns : goal.returns
returns c =
    let all = sym (entries_made bytes_total bytes_anti c.self.inside.kept.entries c.copied_scores.ensures.ordered) ∙ ap map.entries c.self.view_is in
    subst (λ es. IfOk c.copied_scores.result (λ pairs. pairs ≡ es)) all c.copied_scores.ensures.pairs
