use Rattle.client_plans.proofs.Preparing.{each_lawful}
use Rattle.client_plans.proofs.names.queue_names.Goals as goal

pub queue_name-requires : goal.queue_name-requires
queue_name-requires c = each_lawful c.args.names.now c.loop-name.name-index c.name-item.result c.as_slice.result.now c.requires c.loop-name-test.true c.name-item.is c.as_slice.ensures
