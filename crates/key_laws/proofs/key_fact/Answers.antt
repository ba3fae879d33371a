-- What `key_fact` ensures.
use Rattle.queue_keys.proofs.Splits.{key_parts, split_of_key, key_of_split}
use Rattle.key_laws.proofs.key_fact.Goals as goal

pub returns-clause-tells : goal.returns-clause-tells
returns-clause-tells c = key_parts

pub returns-clause-split : goal.returns-clause-split
returns-clause-split c = split_of_key

pub returns-clause-only : goal.returns-clause-only
returns-clause-only c = key_of_split
