use Rattle.std.proofs.Common.{true≢false, sym, ◌∙◌}
use Rattle.task_again.proofs.Texts.{not_nothing}
use Rattle.task_again.proofs.body.json.Goals as goal

pub unreachable-requires : goal.unreachable-requires
unreachable-requires c =
    absurd (not_nothing c.args.content.now c.requires.0 c.requires.1 (c.in-Err.ensures.err (λ m. true≢false (sym (c.is_memory.ensures.1 m) ∙ c.if-is_memory.false))))
