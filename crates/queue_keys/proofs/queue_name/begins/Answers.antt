use Rattle.queue_keys.proofs.NameFaults.{starts_front}
use Rattle.queue_keys.proofs.queue_name.begins.Goals as goal

pub returns : goal.returns
returns c = starts_front c.starts_with.result c.args.front.now c.args.text.now c.starts_with.ensures.value
