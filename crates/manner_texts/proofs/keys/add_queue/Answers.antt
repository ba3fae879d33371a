use Rattle.queue_keys.proofs.Splits.{key_of_split}
use Rattle.queue_keys.specs.Layouts.{plain}
use Rattle.manner_texts.proofs.keys.add_queue.Goals as goal

pub lawful_name-requires : goal.lawful_name-requires
lawful_name-requires c = (key_of_split plain c.args.key.now c.in-Some-default-eq0.name.now c.in-Some-default-eq0.field-0-1 c.in-Some-default-eq0.ensures).0
