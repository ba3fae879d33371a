use Rattle.unacked.proofs.Ends.{is_text}
use Rattle.unacked.proofs.end.end_of.Goals as goal

pub returns-clause-lawful : goal.returns-clause-lawful
returns-clause-lawful c s n = is_text c.args.number c.ranges.number.fits
