use Rattle.std.proofs.Common.{◌&&◌, length, sym, ap}
use Rattle.std.specs.Prelude.{nat_le}
use Rattle.std.proofs.lemmas.Str.{is_utf8-from_IsUtf8}
use Rattle.task_message.proofs.ReadTexts.{no_text}
use Rattle.task_message.proofs.drafting.is_filled.Goals as goal

pub returns-in-Ok : goal.returns-in-Ok
returns-in-Ok c = sym (ap (λ b. b && nat_le 1 (length c.args.bytes.now)) (is_utf8-from_IsUtf8 c.args.bytes.now c.in-Ok.ensures.cases.1))

pub returns-in-Err : goal.returns-in-Err
returns-in-Err c = sym (ap (λ b. b && nat_le 1 (length c.args.bytes.now)) (no_text c.args.bytes.now c.in-Err.ensures.cases.0))
