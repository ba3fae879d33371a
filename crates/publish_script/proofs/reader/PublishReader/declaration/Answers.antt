use Rattle.std.proofs.Common.{sym, ap, ◌∙◌}
use Rattle.queue_keys.specs.Names.{is_reserved}
use Rattle.client_plans.proofs.Preparing.{lawful_parts}
use Rattle.publish_script.proofs.reader.PublishReader.declaration.Goals as goal

pub declaration_of-requires-clause-pattern : goal.declaration_of-requires-clause-pattern
declaration_of-requires-clause-pattern c = let a = c.args in (lawful_parts a.exchange.now a.routing_key.now a.pattern.now a.queue.now (sym c.is_no_binding.ensures ∙ c.if-is_no_binding.false) (ap is_reserved (sym c.as_slice.ensures) ∙ sym c.is_reserved.ensures ∙ c.if-is_reserved.false)).2

pub declaration_of-requires-clause-queue : goal.declaration_of-requires-clause-queue
declaration_of-requires-clause-queue c = let a = c.args in (lawful_parts a.exchange.now a.routing_key.now a.pattern.now a.queue.now (sym c.is_no_binding.ensures ∙ c.if-is_no_binding.false) (ap is_reserved (sym c.as_slice.ensures) ∙ sym c.is_reserved.ensures ∙ c.if-is_reserved.false)).3
