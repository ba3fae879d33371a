use Rattle.manner_texts.proofs.Lists.{middle_is}
use Rattle.manner_texts.proofs.words.middle.Goals as goal

pub returns-in-len2-up : goal.returns-in-len2-up
returns-in-len2-up c = middle_is c.args.words.now
