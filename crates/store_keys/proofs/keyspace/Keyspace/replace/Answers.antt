use Rattle.std.proofs.Common.{Some, ap, sym, ◌∙◌, subst}
use Rattle.std.specs.FinMap as map
use Rattle.store_tables.proofs.Maps.{get_made, put_made, bytes_total, bytes_anti, is_some_from}
use Rattle.store_model.specs.Keys.{Keys}
use Rattle.store_keys.specs.Expiries.{EndsFrom}
use Rattle.store_keys.proofs.Calm.{ends_insert, ends_sooner}
use Rattle.store_keys.proofs.keyspace.Keyspace.replace.Goals as goal

pub returns-in_default-clause-absent : goal.returns-in_default-clause-absent
returns-in_default-clause-absent c = sym (c.in_default.ensures.value ∙ sym (get_made bytes_total bytes_anti c.self.inside.kept.entries c.args.key.now) ∙ ap (λ m. map.get m c.args.key.now) c.self.view_is)

pub returns-clause-there : goal.returns-clause-there
returns-clause-there c = sym (c.in-Some.ensures.value ∙ sym (get_made bytes_total bytes_anti c.self.inside.kept.entries c.args.key.now) ∙ ap (λ m. map.get m c.args.key.now) c.self.view_is) ∙ ap Some (sym c.replace.ensures.value)

pub returns-clause-ok : goal.returns-clause-ok
returns-clause-ok c =
    let there = is_some_from c.in-Some.ensures.value in
    let updates = (c.get_mut.follows.holds c.replace.new.dest).3 there in
    put_made bytes_total bytes_anti c.self.inside.kept.entries (c.get_mut.follows.lender c.replace.new.dest).entries c.args.key.now c.args.held (rw (sym c.replace.ensures.after) updates.0) ∙ ap (λ m. map.insert m c.args.key.now c.args.held) c.self.view_is

pub invariant_of-self-2 : goal.invariant_of-self-2
invariant_of-self-2 c =
    let n = c.sooner-self-inside.result in
    let m : Keys = map.from_entries c.self.inside.kept.entries in
    let P : Keys → Type 0 = λ m. EndsFrom n m in
    let there = is_some_from c.in-Some.ensures.value in
    let updates = (c.get_mut.follows.holds c.replace.new.dest).3 there in
    subst P (sym (put_made bytes_total bytes_anti c.self.inside.kept.entries (c.get_mut.follows.lender c.replace.new.dest).entries c.args.key.now c.args.held (rw (sym c.replace.ensures.after) updates.0)))
    (ends_insert n m c.args.key.now c.args.held c.sooner-self-inside.ensures.ends (ends_sooner n c.self.inside.soonest m c.sooner-self-inside.ensures.sooner c.self.invariant))
