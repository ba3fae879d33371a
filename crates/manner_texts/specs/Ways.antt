-- What the code's messages tell.
use Rattle.std.specs.Prelude.{◌≡◌, Option, None, Some}
use Rattle.queue_keys.specs.Names.{Bytes}
use Rattle.delivery_tags.specs.Tags.{tag_text}
use Rattle.envelope.specs.Bodies.{carried, entry_of, tag_of_bytes}
use Rattle.command_blocks.specs.Setting.{Way}
use Rattle.command_blocks.specs.EnvelopeTexts.{plain_setting, way_in, way_of, written_tag}
use Rattle.manner_laws.specs.Cursor.{if_tagged}
use Rattle.manner_texts.specs.declared.way.MessageWay.{MessageWay}
use Rattle.manner_texts.specs.declared.written.WrittenMessage.{WrittenMessage}
use Rattle.manner_texts.specs.declared.popped.PoppedMessage.{PoppedMessage}
use Rattle.manner_texts.specs.declared.kept.KeptMessage.{KeptMessage}

-- where a message goes
abbrev pub way_told : MessageWay → Way
way_told w = record { exchange = w.exchange; routing_key = w.routing_key; priority = w.priority }

-- what is told of bytes as an envelope that stands as it is written
abbrev pub TellsWritten : Bytes → Option WrittenMessage → Type 0
TellsWritten v None = written_tag v ≡ None
TellsWritten v (Some m) = (written_tag v ≡ Some (tag_text m.tag.0)) × (way_of v ≡ Some (way_told m.way))

-- what is told of bytes as an envelope
abbrev pub TellsPopped : Bytes → Option PoppedMessage → Type 0
TellsPopped v None = tag_of_bytes v ≡ None
TellsPopped v (Some m) = (tag_of_bytes v ≡ Some (tag_text m.tag.0)) × (m.entry ≡ entry_of v)

-- what is told of bytes as an entry of a tag's message
abbrev pub TellsKept : Bytes → Bytes → Option KeptMessage → Type 0
TellsKept t u None = if_tagged plain_setting t (carried u) ≡ None
TellsKept t u (Some m) = (if_tagged plain_setting t (carried u) ≡ Some m.text) × (way_in u ≡ Some (way_told m.way))
