use Rattle.std.proofs.Common.{sym, ap}
use Rattle.std.specs.Prelude.{option_map}
use Rattle.schedule_model.specs.Shapes.{envelope_shape}
use Rattle.replay.proofs.Shaped.{no_envelope}
use Rattle.replay.proofs.legend.envelope_in.Goals as goal

pub returns-then-not-may_open : goal.returns-then-not-may_open
returns-then-not-may_open c = sym (ap (option_map envelope_shape) (no_envelope c.args.bytes.now (sym c.if-not-may_open.ensures)))
