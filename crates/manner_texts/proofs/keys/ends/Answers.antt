use Rattle.queue_keys.proofs.NameFaults.{ends_end}
use Rattle.manner_texts.proofs.keys.ends.Goals as goal

pub returns : goal.returns
returns c = ends_end c.ends_with.result c.args.end.now c.args.text.now c.ends_with.ensures.value
