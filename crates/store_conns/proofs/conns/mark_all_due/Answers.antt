use Rattle.std.proofs.Common.{rules}
use Rattle.std.proofs.lemmas.Map.Made.{map_same_pairs}
use Rattle.store_model.specs.Connections.{touch_due}
use Rattle.store_conns.proofs.conns.mark_all_due.Goals as goal

pub returns-clause-each : goal.returns-clause-each
returns-clause-each c = map_same_pairs _ (touch_due c.args.at c.args.keys.now) _ (λ k v b w f' t. search rules) c.args.kept.now.entries c.retain.new.self.entries c.retain.ensures.filtered
