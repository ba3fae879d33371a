-- What a word spells, as a report shows it: an envelope, an entry of the table, a tag's text, or none of these.
use Rattle.std.specs.Prelude.{ℕ, ◌/◌, ◌%◌, ◌^◌, Option, None, Some, Result, Ok, Err}
use Rattle.serde_json.specs.Data.{Data}
use Rattle.envelope.specs.Entries.{EntryParts, entry_at}
use Rattle.envelope.specs.Envelopes.{envelope_at, parts_in}
use Rattle.envelope_trees.specs.Marks.{is_marked}
use Rattle.delivery_tags.specs.Tags.{tag_of_text}
use Rattle.envelope_trees.specs.declared.fault.EnvelopeFault.{EnvelopeFault}
use Rattle.line_text.specs.declared.short.Shape.{Shape}
use Rattle.line_text.specs.declared.short.Shape.TheVariants.{Envelope, Entry, Tag, Other}
use Rattle.queue_keys.specs.Names.{Bytes}

-- an envelope's tree by its tag, a number whose halves are seed and counter, and whether it is marked
abbrev pub envelope_shape : Data → Shape
envelope_shape d = Envelope ((parts_in d).tag / 2 ^ 64) ((parts_in d).tag % 2 ^ 64) (is_marked d)

-- an entry, likewise by its envelope
abbrev pub entry_shape : Data → Shape
entry_shape d = Entry ((parts_in d).tag / 2 ^ 64) ((parts_in d).tag % 2 ^ 64) (is_marked d)

-- a tag's text
abbrev pub tag_shape : Option ℕ → Shape
tag_shape None = Other
tag_shape (Some n) = Tag (n / 2 ^ 64) (n % 2 ^ 64)

-- what is no envelope: an entry, or else perhaps a tag's text
abbrev pub entry_or_tag : Result EntryParts EnvelopeFault → Option ℕ → Shape
entry_or_tag (Ok e) t = entry_shape e.tree
entry_or_tag (Err fault) t = tag_shape t

-- an envelope, or else what it spells besides
abbrev pub envelope_or : Result Data EnvelopeFault → Shape → Shape
envelope_or (Ok d) rest = envelope_shape d
envelope_or (Err fault) rest = rest

-- what a word spells
unfoldable pub shape_of : Bytes → Shape
shape_of w = envelope_or (envelope_at w) (entry_or_tag (entry_at w) (tag_of_text w))
