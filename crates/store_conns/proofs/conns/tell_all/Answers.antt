use Rattle.std.proofs.Common.{ap, sym, ◌∙◌, map}
use Rattle.std.specs.Cmp.{nat_cmp_total}
use Rattle.std.specs.FinMap.{from_entries, nat_cmp-IsAntisymmetric}
use Rattle.store_tables.proofs.Maps.{entries_made, put_made}
use Rattle.store_model.specs.Connections.{reached, delivered}
use Rattle.store_conns.proofs.Refills.{refilled-step, refilled-done, nothing_left}
use Rattle.store_conns.proofs.conns.tell_all.Goals as goal

pub loop-number-preserved-in_ok-insert : goal.loop-number-preserved-in_ok-insert
loop-number-preserved-in_ok-insert c = refilled-step nat_cmp_total nat_cmp-IsAntisymmetric (reached c.args.channel.now c.args.text.now) (from_entries c.loop-number.told.entries) _ _ c.loop-number.all.entries c.pop_first.new.self.entries c.in-Some.number c.in-Some.known c.in_ok-tell.field-0
    c.loop-number.invariant c.in-Some.ensures.removal
    (put_made nat_cmp_total nat_cmp-IsAntisymmetric c.loop-number.told.entries c.insert.new.self.entries c.in-Some.number c.in_ok-tell.field-0 c.in_ok-insert.ensures.updates.0)
    c.in_ok-tell.ensures

pub loop-number-preserved : goal.loop-number-preserved
loop-number-preserved c = refilled-step nat_cmp_total nat_cmp-IsAntisymmetric (reached c.args.channel.now c.args.text.now) (from_entries c.loop-number.told.entries) _ _ c.loop-number.all.entries c.pop_first.new.self.entries c.in-Some.number c.in-Some.known c.in_ok-tell.field-0
    c.loop-number.invariant c.in-Some.ensures.removal
    (put_made nat_cmp_total nat_cmp-IsAntisymmetric c.loop-number.told.entries c.insert.new.self.entries c.in-Some.number c.in_ok-tell.field-0 c.in_ok-insert.ensures.updates.0)
    c.in_ok-tell.ensures

pub returns : goal.returns
unfolding delivered
returns c =
    let none = nothing_left c.loop-number.all.entries c.in_default.ensures.variant.1 in
    refilled-done nat_cmp_total nat_cmp-IsAntisymmetric (reached c.args.channel.now c.args.text.now) (from_entries c.loop-number.told.entries) c.loop-number.all.entries c.args.all.entries
    c.loop-number.invariant none c.len-count.ensures.ordered
    ∙ ap (λ es. from_entries (map (λ e. (e.0, reached c.args.channel.now c.args.text.now e.1)) es)) (sym (entries_made nat_cmp_total nat_cmp-IsAntisymmetric c.args.all.entries c.len-count.ensures.ordered))
