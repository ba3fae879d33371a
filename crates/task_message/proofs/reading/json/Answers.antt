use Rattle.std.proofs.Common.{true≢false, sym, ap, ◌∙◌}
use Rattle.task_message.specs.Reading.{needed}
use Rattle.task_message.specs.declared.fault.Part.TheVariants as part
use Rattle.task_message.specs.declared.fault.TaskFault.TheVariants.{BadField}
use Rattle.task_message.proofs.ReadTexts.{json_some, json_none}
use Rattle.task_message.proofs.reading.json.Goals as goal

pub returns-in-Ok : goal.returns-in-Ok
returns-in-Ok c = ap (needed (BadField part.Body)) (json_some c.args.content.now _ c.in-Ok.ensures.ok.0 c.in-Ok.ensures.ok.1)

pub returns-else-is_memory : goal.returns-else-is_memory
returns-else-is_memory c =
    ap (needed (BadField part.Body)) (json_none c.args.content.now (c.in-Err.ensures.err (λ m. true≢false (sym (c.is_memory.ensures.1 m) ∙ c.if-is_memory.false))))
