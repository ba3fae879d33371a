use Rattle.std.proofs.Common.{true≢false, sym, ap, ◌∙◌}
use Rattle.envelope_trees.specs.Reading.{needed}
use Rattle.envelope_trees.specs.declared.fault.EnvelopeFault.TheVariants.{NotJson}
use Rattle.envelope.proofs.Texts.{json_some, json_none}
use Rattle.envelope.proofs.reading.json.Goals as goal

pub returns-in-Ok : goal.returns-in-Ok
returns-in-Ok c = ap (needed NotJson) (json_some c.args.bytes.now _ c.in-Ok.ensures.ok.0 c.in-Ok.ensures.ok.1)

pub returns-else-is_memory : goal.returns-else-is_memory
returns-else-is_memory c =
    ap (needed NotJson) (json_none c.args.bytes.now (c.in-Err.ensures.err (λ m. true≢false (sym (c.is_memory.ensures.1 m) ∙ c.if-is_memory.false))))
