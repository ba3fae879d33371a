use Rattle.std.proofs.Common.{◌≡◌, ◌++◌, drop}
use Rattle.command_blocks.specs.EnvelopeTexts.{plain_setting}
use Rattle.manner_laws.specs.Cursor.{queues_among}
use Rattle.manner_texts.proofs.keys.queues_among.Given as goal

-- what is found so far, before what is to be found
abbrev pub invariant-loop-key : goal.invariant-loop-key
invariant-loop-key l = l.queues ++ queues_among plain_setting (drop l.key-index l.keys) ≡ queues_among plain_setting l.keys
