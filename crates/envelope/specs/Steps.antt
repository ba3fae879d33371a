-- The last steps of readings, each from what the steps before it found. Serves the proofs of code.
use Rattle.std.specs.Prelude.{ℕ, List, length, codes, nat_le, Result, Ok}
use Rattle.serde_json.specs.Data.{Data}
use Rattle.serde_json.specs.Find.{get}
use Rattle.serde_json.specs.Written.{compact_text}
use Rattle.envelope.specs.Entries.{EntryParts, entry_in}
use Rattle.envelope.specs.Envelopes.{Parts, are_short, content_of, envelope_of, max_bytes, max_text, properties_said}
use Rattle.envelope_trees.specs.Marks.{marked}
use Rattle.envelope_trees.specs.Members.{is_nothing, object_at}
use Rattle.envelope_trees.specs.Reading.{◌>>=◌, needed, wanted}
use Rattle.envelope_trees.specs.declared.fault.EnvelopeFault.{EnvelopeFault}
use Rattle.envelope_trees.specs.declared.fault.EnvelopeFault.TheVariants.{TooLong, NotJson, Missing, Compressed, BadBody}
use Rattle.envelope_trees.specs.declared.fault.Field.TheVariants as field

-- what is said, once the headers, the body's content and the names are looked at
abbrev pub checked_parts : List ℕ → Data → Parts → Result Parts EnvelopeFault
checked_parts body headers said = do
  plain ← wanted Compressed (is_nothing (get (codes "compression") headers))
  content ← needed BadBody (content_of body)
  short ← wanted TooLong (are_short said.exchange said.routing_key)
  Ok (record { content = content; tag = said.tag; exchange = said.exchange; routing_key = said.routing_key })

-- what the headers and the properties of a tree say beside its body
abbrev pub held_parts : List ℕ → Data → Result Parts EnvelopeFault
held_parts body d = do
  headers ← needed (Missing field.Headers) (object_at (codes "headers") d)
  properties ← needed (Missing field.Properties) (object_at (codes "properties") d)
  said ← properties_said body properties
  checked_parts body headers said

-- what is said, once the tree's text is short enough, without the marks and with them
abbrev pub short_parts : Data → Parts → Result Parts EnvelopeFault
short_parts d parts = do
  plain ← wanted TooLong (nat_le (length (compact_text d)) max_bytes)
  marks ← wanted TooLong (nat_le (length (compact_text (marked d))) max_text)
  Ok parts

-- the entry of an envelope's tree under two names, once they are short enough
abbrev pub named_entry : Data → List ℕ → List ℕ → Result EntryParts EnvelopeFault
named_entry tree exchange routing_key = do
  names ← wanted TooLong (are_short exchange routing_key)
  Ok (record { tree = tree; exchange = exchange; routing_key = routing_key })

-- the entry that a JSON value is, or its first fault
abbrev pub value_entry : Data → Result EntryParts EnvelopeFault
value_entry d = do
  e ← needed NotJson (entry_in d)
  tree ← envelope_of e.tree
  named_entry tree e.exchange e.routing_key
