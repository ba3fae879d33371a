use Rattle.std.proofs.Common.{ap, sym, ◌∙◌}
use Rattle.serde_json.specs.View.{view as data_of}
use Rattle.envelope.specs.Envelopes.{envelope_at}
use Rattle.envelope.specs.ShownEntry.{entry_view}
use Rattle.returns.specs.Spots.{tried_left}
use Rattle.returns.proofs.Entries.{other_left}
use Rattle.returns.proofs.read.sent.Goals as goal

pub returns-clause-left : goal.returns-clause-left
returns-clause-left c ended stuck u read =
    ap (tried_left ended stuck) c.leaves.ensures
    ∙ other_left ended stuck c.args.aim u (entry_view c.args.entry.now) (data_of c.args.envelope.now) read c.requires.marked (ap envelope_at (sym c.text-text.ensures.value) ∙ c.text-text.ensures.again)
    (sym c.is_of.ensures ∙ c.if-is_of.false)
