use Rattle.std.proofs.Common.{ap, ◌∙◌}
use Rattle.std.specs.FinMap.{from_entries}
use Rattle.store_model.specs.Keys.{live_at}
use Rattle.store_keys.proofs.Dues.{live_made}
use Rattle.store_keys.proofs.Calm.{ends_made}
use Rattle.store_keys.proofs.keyspace.Keyspace.drop_due.Goals as goal

pub returns : goal.returns
returns c = ap from_entries c.drop_all_due.ensures.live ∙ live_made c.args.at c.self.inside.kept.entries c.drop_all_due.ensures.ordered ∙ ap (live_at c.args.at) c.self.view_is

pub invariant_of-self : goal.invariant_of-self
invariant_of-self c = ends_made c.soonest_in-self-inside.result c.drop_all_due.new.kept.entries c.soonest_in-self-inside.ensures
