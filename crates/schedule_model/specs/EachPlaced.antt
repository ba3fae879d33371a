-- Where the messages of a history are, after each of its prefixes.
use Rattle.place_model.specs.Counts.{IsAccepted, IsPlaced, IsSingle}
use Rattle.command_blocks.specs.EnvelopeTexts.{plain_setting}
use Rattle.place_model.specs.Histories.{History, IsHistoryPrefix}
use Rattle.queue_keys.specs.Names.{Bytes}
use Rattle.place_model.specs.declared.heard.Heard.{Heard}

-- after each prefix of the history each message that is accepted and single is in exactly one place
abbrev pub IsEachPlaced : History Heard → Type 0
IsEachPlaced h = (p : History Heard) (t : Bytes) → IsHistoryPrefix p h → IsAccepted plain_setting p t → IsSingle plain_setting p t → IsPlaced plain_setting p t
