use Rattle.std.proofs.Common.{sym, ap, ◌∙◌, map, refl}
use Rattle.std.specs.FinMap.{from_entries, nat_cmp-IsAntisymmetric}
use Rattle.std.specs.Cmp.{nat_cmp_total}
use Rattle.store_tables.proofs.Maps.{entries_made}
use Rattle.store_model.specs.Connections.{touch, touched}
use Rattle.store_keys.proofs.Calm.{touched_none}
use Rattle.store_conns.proofs.conns.Connections.mark.Goals as goal

pub returns : goal.returns
unfolding touched
returns c =
    let k = c.args.keys.now in
    ap from_entries c.mark_all.ensures.each
    ∙ ap (λ es. from_entries (map (λ e. (e.0, touch k e.1)) es)) (sym (entries_made nat_cmp_total nat_cmp-IsAntisymmetric c.self.inside.kept.entries c.mark_all.ensures.ordered))
    ∙ ap (touched k) c.self.view_is

pub returns-then-is_empty : goal.returns-then-is_empty
returns-then-is_empty c = touched_none c.args.keys.now c.args.self.now (c.if-is_empty.ensures.0 refl)
