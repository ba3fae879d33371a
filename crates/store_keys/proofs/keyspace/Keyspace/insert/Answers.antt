use Rattle.std.proofs.Common.{ap, ◌∙◌, sym, subst}
use Rattle.std.specs.FinMap as map
use Rattle.store_tables.proofs.Maps.{put_made, bytes_total, bytes_anti}
use Rattle.store_model.specs.Keys.{Keys}
use Rattle.store_keys.specs.Expiries.{EndsFrom}
use Rattle.store_keys.proofs.Calm.{ends_insert, ends_sooner}
use Rattle.store_keys.proofs.keyspace.Keyspace.insert.Goals as goal

pub returns : goal.returns
returns c = put_made bytes_total bytes_anti c.self.inside.kept.entries c.insert.new.self.entries c.args.key c.args.held c.in_ok-insert.ensures.updates.0 ∙ ap (λ m. map.insert m c.args.key c.args.held) c.self.view_is

pub invariant_of-self-2 : goal.invariant_of-self-2
invariant_of-self-2 c =
    let n = c.sooner-self-inside.result in
    let m : Keys = map.from_entries c.self.inside.kept.entries in
    let P : Keys → Type 0 = λ m. EndsFrom n m in
    subst P (sym (put_made bytes_total bytes_anti c.self.inside.kept.entries c.insert.new.self.entries c.args.key c.args.held c.in_ok-insert.ensures.updates.0))
    (ends_insert n m c.args.key c.args.held c.sooner-self-inside.ensures.ends (ends_sooner n c.self.inside.soonest m c.sooner-self-inside.ensures.sooner c.self.invariant))
