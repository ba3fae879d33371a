-- What a text spells: an envelope, or else an entry of the table. Serves the proofs of code.
use Rattle.std.specs.Prelude.{ℕ, List, Option, None, Some, Result, Ok, Err}
use Rattle.serde_json.specs.Data.{Data}
use Rattle.envelope.specs.Entries.{EntryParts, entry_at}
use Rattle.envelope.specs.Envelopes.{envelope_at, parts_in}
use Rattle.envelope_trees.specs.Marks.{is_marked}
use Rattle.envelope_trees.specs.declared.fault.EnvelopeFault.{EnvelopeFault}
use Rattle.letters.specs.declared.letter.Letter.{Letter}
use Rattle.letters.specs.declared.letter.Letter.TheVariants as letter

-- an envelope's tree by the number of its tag, and whether it is marked
abbrev pub envelope_letter : Data → Letter
envelope_letter d = letter.Envelope (parts_in d).tag (is_marked d)

-- an entry, likewise by its envelope's tree
abbrev pub entry_letter : Data → Letter
entry_letter d = letter.Entry (parts_in d).tag (is_marked d)

-- what is no envelope: an entry, or nothing that is told
abbrev pub entry_or_none : Result EntryParts EnvelopeFault → Option Letter
entry_or_none (Ok e) = Some (entry_letter e.tree)
entry_or_none (Err fault) = None

-- an envelope, or else what it spells besides
abbrev pub letter_or : Result Data EnvelopeFault → Option Letter → Option Letter
letter_or (Ok d) rest = Some (envelope_letter d)
letter_or (Err fault) rest = rest

-- what a text spells, none where it is neither
unfoldable pub letter_of : List ℕ → Option Letter
letter_of b = letter_or (envelope_at b) (entry_or_none (entry_at b))
