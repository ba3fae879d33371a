use Rattle.std.proofs.Common.{arith, sym, ap, ◌∙◌}
use Rattle.std.proofs.lemmas.Cmp.{nat_cmp_total}
use Rattle.std.specs.FinMap as map
use Rattle.store_tables.proofs.Maps.{entries_made, put_made}
use Rattle.history_records.proofs.Written.{made_all, made_more}
use Rattle.history_records.proofs.client_rows.seeds_by_connection.Goals as goal

pub seeds-preserved : goal.seeds-preserved
seeds-preserved c = record {
  bound = omega (arith, c.seeds.invariant.bound);
  ordered = c.in_ok-insert.ensures.ordered;
  made = made_more c.args.clients.now c.seeds.left _ c.seeds.seeds.entries c.insert.new.self.entries c.seeds-test.true c.seeds.invariant.bound (put_made nat_cmp_total map.nat_cmp-IsAntisymmetric c.seeds.seeds.entries c.insert.new.self.entries _ _ c.in_ok-insert.ensures.updates.0) c.seeds.invariant.made;
}

pub returns : goal.returns
returns c =
    let none = c.seeds-test.false in
    sym (entries_made nat_cmp_total map.nat_cmp-IsAntisymmetric c.seeds.seeds.entries c.seeds.invariant.ordered) ∙ ap map.entries (c.seeds.invariant.made ∙ made_all c.args.clients.now c.seeds.left (omega (arith, none)))
