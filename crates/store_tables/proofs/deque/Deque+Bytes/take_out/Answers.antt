use Rattle.std.proofs.Common.{rules, not, bytes_eq, ap, ◌∙◌}
use Rattle.std.specs.List.{filter}
use Rattle.std.proofs.lemmas.Fn.{filter_same}
use Rattle.store_tables.proofs.deque.Deque+Bytes.take_out.Goals as goal

pub returns : goal.returns
returns c = filter_same _ (λ one. not (bytes_eq c.args.text.now one)) _ (λ x b f' t. search rules) _ _ c.retain.ensures.filtered ∙ ap (filter (λ one. not (bytes_eq c.args.text.now one))) c.self.view_is
