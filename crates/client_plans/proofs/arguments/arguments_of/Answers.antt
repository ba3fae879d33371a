use Rattle.std.proofs.Common.{true≢false, sym, ◌∙◌}
use Rattle.client_plans.proofs.Drafted.{spelled, unspelled}
use Rattle.client_plans.proofs.arguments.arguments_of.Goals as goal

pub returns-in-Ok : goal.returns-in-Ok
returns-in-Ok c = c.if_arguments.ensures ∙ sym (spelled c.args.text.now _ c.in-Ok.ensures.ok.0 c.in-Ok.ensures.ok.1)

pub returns-else-is_memory : goal.returns-else-is_memory
returns-else-is_memory c = sym (unspelled c.args.text.now (c.in-Err.ensures.err (λ m. true≢false (sym (c.is_memory.ensures.1 m) ∙ c.if-is_memory.false))))
