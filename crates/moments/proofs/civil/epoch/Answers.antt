use Rattle.moments.proofs.KitCalendar.{epoch_is}
use Rattle.moments.proofs.civil.epoch.Goals as goal

pub returns : goal.returns
returns c = epoch_is c.datetime.result c.datetime.ensures.date c.datetime.ensures.time
