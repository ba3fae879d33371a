use Rattle.std.proofs.Common.{ap, sym, ◌∙◌, subst}
use Rattle.std.specs.FinMap as map
use Rattle.store_tables.proofs.Maps.{get_made, removed_made, bytes_total, bytes_anti}
use Rattle.store_model.specs.Keys.{Keys}
use Rattle.store_keys.specs.Expiries.{EndsFrom}
use Rattle.store_keys.proofs.Calm.{ends_remove}
use Rattle.store_keys.proofs.keyspace.Keyspace.remove.Goals as goal

pub returns-clause-held : goal.returns-clause-held
returns-clause-held c = c.remove.ensures.value ∙ sym (get_made bytes_total bytes_anti c.self.inside.kept.entries c.args.key.now) ∙ ap (λ m. map.get m c.args.key.now) c.self.view_is

pub returns-clause-removed : goal.returns-clause-removed
returns-clause-removed c = removed_made bytes_total bytes_anti c.self.inside.kept.entries c.remove.new.self.entries c.args.key.now c.remove.ensures.updates.0 ∙ ap (λ m. map.remove m c.args.key.now) c.self.view_is

pub invariant_of-self : goal.invariant_of-self
invariant_of-self c =
    let n = c.self.inside.soonest in
    let m : Keys = map.from_entries c.self.inside.kept.entries in
    let P : Keys → Type 0 = λ m. EndsFrom n m in
    subst P (sym (removed_made bytes_total bytes_anti c.self.inside.kept.entries c.remove.new.self.entries c.args.key.now c.remove.ensures.updates.0))
    (ends_remove n m c.args.key.now c.self.invariant)
