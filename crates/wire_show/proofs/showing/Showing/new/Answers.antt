use Rattle.wire_show.proofs.Showings.{nothing_given}
use Rattle.wire_show.proofs.showing.Showing.new.Goals as goal

pub returns-clause-given : goal.returns-clause-given
returns-clause-given c = nothing_given c.new.result c.new.ensures
