use Rattle.std.proofs.Common.{sym, subst}
use Rattle.std.specs.Prelude.{IsUtf8}
use Rattle.serde_json.specs.View.{view as data_of}
use Rattle.envelope.specs.Shown.{parts_view}
use Rattle.envelope.proofs.Told.{said_text}
use Rattle.envelope.proofs.envelope.Envelope.content.Goals as goal

pub returns-clause-text : goal.returns-clause-text
returns-clause-text c = subst IsUtf8 (sym c.as_slice.ensures) (said_text (data_of c.self.inside.tree) (parts_view c.self.inside.found) c.self.invariant.said)
