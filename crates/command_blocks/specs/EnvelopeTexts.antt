-- What the bytes of tags, envelopes and entries of the table tell, as Celery's envelopes have it, and the setting of the keys without a prefix.
use Rattle.std.specs.Prelude.{if◌then◌else◌, Option, Some, None, option_and_then, option_map}
use Rattle.std.specs.Result.{result_ok}
use Rattle.serde_json.specs.Data.{Data}
use Rattle.serde_json.specs.Written.{compact_text}
use Rattle.envelope.specs.Bodies.{body_in, body_of, carried, entry_of, tag_of_bytes}
use Rattle.envelope.specs.Entries.{EntryParts, entry_at}
use Rattle.envelope.specs.Envelopes.{envelope_at, parts_in, priority_of}
use Rattle.delivery_tags.specs.Tags.{is_tag, tag, tag_text}
use Rattle.queue_keys.specs.Names.{Bytes, same}
use Rattle.queue_keys.specs.Layouts.{plain}
use Rattle.command_blocks.specs.Setting.{IsTexts, Setting, Texts, Way, setting_of}

-- where an envelope's tree goes
abbrev pub way_said : Data → Way
way_said d = record { exchange = (parts_in d).exchange; routing_key = (parts_in d).routing_key; priority = priority_of d }

-- where an entry's tree returns, by the entry's own two texts
abbrev pub way_kept : EntryParts → Way
way_kept e = record { exchange = e.exchange; routing_key = e.routing_key; priority = priority_of e.tree }

-- where an envelope goes, none where the bytes are no envelope
abbrev pub way_of : Bytes → Option Way
way_of v = option_map way_said (result_ok (envelope_at v))

-- where an entry's envelope returns, none where the bytes are no entry
abbrev pub way_in : Bytes → Option Way
way_in u = option_map way_kept (result_ok (entry_at u))

-- the tag of a tree whose compact text the bytes are, none where they spell it otherwise
abbrev pub tag_as_written : Bytes → Data → Option Bytes
tag_as_written v d = if same v (compact_text d) then Some (tag_text (parts_in d).tag) else None

-- the tag of an envelope that is the compact text of its tree, none where the bytes are anything else
abbrev pub written_tag : Bytes → Option Bytes
written_tag v = option_and_then (tag_as_written v) (result_ok (envelope_at v))

-- the texts of Celery's envelopes
abbrev pub texts : Texts
texts = record {
  tag = tag;
  is_tag = is_tag;
  tag_of = tag_of_bytes;
  written_tag = written_tag;
  way_of = way_of;
  entry_of = entry_of;
  way_in = way_in;
  carried = carried;
  body_of = body_of;
  body_in = body_in;
}

-- the keys without a prefix and the four steps of Kombu, with these texts
abbrev pub plain_setting : Setting
plain_setting = setting_of plain texts

-- the texts keep the facts that the proofs need
abbrev pub EnvelopesServe : Type 0
EnvelopesServe = IsTexts texts
