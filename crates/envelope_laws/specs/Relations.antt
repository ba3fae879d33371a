-- What is read as an envelope or an entry, and what is one.
use Rattle.std.specs.Prelude.{◌≡◌, ◌↔◌, ℕ, List, Ok}
use Rattle.serde_json.specs.Data.{Data}
use Rattle.envelope.specs.Entries.{EntryParts, entry_at}
use Rattle.envelope.specs.Envelopes.{Parts, envelope_at, said_by}
use Rattle.envelope.specs.Relations.{IsEntry, IsEnvelope, IsTree}

-- reading bytes gives a tree exactly where the bytes are the envelope of that tree
abbrev pub ReadsEnvelopes : Type 0
ReadsEnvelopes = (d : Data) (b : List ℕ) → (envelope_at b ≡ Ok d) ↔ IsEnvelope d b

-- reading bytes gives an entry exactly where the bytes are that entry's
abbrev pub ReadsEntries : Type 0
ReadsEntries = (e : EntryParts) (b : List ℕ) → (entry_at b ≡ Ok e) ↔ IsEntry e b

-- an envelope's tree says its parts
abbrev pub TreesSay : Type 0
TreesSay = (d : Data) (p : Parts) → IsTree d p → said_by d ≡ Ok p
