use Rattle.schedule_laws.proofs.OneDesk.{fills_one}
use Rattle.schedule_laws.proofs.one_filled_desk.Goals as goal

pub returns : goal.returns
returns c = fills_one
