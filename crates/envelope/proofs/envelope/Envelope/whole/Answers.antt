use Rattle.serde_json.specs.View.{view as data_of}
use Rattle.envelope.specs.Shown.{parts_view}
use Rattle.envelope.proofs.Said.{whole_is}
use Rattle.envelope.proofs.envelope.Envelope.whole.Goals as goal

pub invariant_of-result : goal.invariant_of-result
invariant_of-result c =
    let w = whole_is (data_of c.args.tree) (parts_view c.args.found) c.args.text c.requires.said c.requires.text c.requires.utf8 c.requires.back in
    record { said = c.requires.said; written = w.0; again = w.1 }
