use Rattle.std.proofs.Common.{sym, ap}
use Rattle.std.specs.Prelude.{option_map}
use Rattle.envelope.specs.Entries.{EntryParts}
use Rattle.schedule_model.specs.Shapes.{entry_shape}
use Rattle.replay.proofs.Shaped.{no_entry}
use Rattle.replay.proofs.legend.entry_in.Goals as goal

pub returns-then-not-may_open : goal.returns-then-not-may_open
returns-then-not-may_open c = sym (ap (option_map (λ (e : EntryParts). entry_shape e.tree)) (no_entry c.args.bytes.now (sym c.if-not-may_open.ensures)))
