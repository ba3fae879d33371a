use Rattle.std.proofs.Common.{rules, not}
use Rattle.std.proofs.lemmas.Map.Made.{filter_same_pairs}
use Rattle.store_model.specs.Keys.{is_over}
use Rattle.store_keys.proofs.keyspace.drop_all_due.Goals as goal

pub returns-clause-live : goal.returns-clause-live
returns-clause-live c = filter_same_pairs _ (λ e. not (is_over c.args.at e.1.expiry)) _ (λ k v b w f' t. search rules) c.args.kept.now.entries c.retain.new.self.entries c.retain.ensures.filtered
