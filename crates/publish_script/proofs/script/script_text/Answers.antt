use Rattle.std.proofs.Common.{refl}
use Rattle.publish_script.proofs.Numbered.{uncut}
use Rattle.publish_script.proofs.script.script_text.Goals as goal

pub returns-else-bytes-gt-INPUT_LIMIT : goal.returns-else-bytes-gt-INPUT_LIMIT
returns-else-bytes-gt-INPUT_LIMIT c = uncut 67108864 c.args.bytes.now c.args.bytes.now refl c.if-bytes-gt-INPUT_LIMIT.false
