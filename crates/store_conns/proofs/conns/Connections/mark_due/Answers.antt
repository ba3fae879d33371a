use Rattle.std.proofs.Common.{sym, ap, ◌∙◌, map}
use Rattle.std.specs.FinMap.{entries, from_entries, nat_cmp-IsAntisymmetric}
use Rattle.std.specs.Cmp.{nat_cmp_total}
use Rattle.store_tables.proofs.Maps.{entries_made}
use Rattle.store_model.specs.Keys.{due_keys}
use Rattle.store_model.specs.Connections.{touch, touched}
use Rattle.store_model.specs.declared.connection.Conn.{Conn}
use Rattle.store_keys.proofs.Dues.{touch_due_is}
use Rattle.store_conns.proofs.conns.Connections.mark_due.Goals as goal

pub returns : goal.returns
unfolding touched
returns c =
    let ks = due_keys c.args.at (entries c.args.keys.now) in
    ap from_entries c.mark_all_due.ensures.each
    ∙ ap (λ (f : Conn → Conn). from_entries (map (λ e. (e.0, f e.1)) c.self.inside.kept.entries)) (λ i cn. touch_due_is c.args.at c.args.keys.now cn i)
    ∙ ap (λ es. from_entries (map (λ e. (e.0, touch ks e.1)) es)) (sym (entries_made nat_cmp_total nat_cmp-IsAntisymmetric c.self.inside.kept.entries c.mark_all_due.ensures.ordered))
    ∙ ap (touched ks) c.self.view_is
