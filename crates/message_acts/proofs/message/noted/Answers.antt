use Rattle.std.proofs.Common.{rules}
use Rattle.serde_json.specs.View.{view as data_of}
use Rattle.message_acts.proofs.Messages.{message_is}
use Rattle.message_acts.proofs.message.noted.Goals as goal

pub returns : goal.returns
returns c = λ b is. message_is b (data_of c.args.message.now) c.tag.result.0 is c.tag.ensures (search rules)
