-- What comes out of an entry of the table of messages that are not acknowledged.
use Rattle.std.specs.Prelude.{◌≡◌, ℕ, true, List, Some, Ok}
use Rattle.serde_json.specs.Data.{Data}
use Rattle.serde_json.specs.Written.{compact_text}
use Rattle.envelope.specs.Bodies.{carried, entry_of, tag_of_bytes}
use Rattle.envelope.specs.Entries.{EntryParts, entry_at, entry_data, entry_for}
use Rattle.envelope.specs.Envelopes.{envelope_at, parts_in, priority_of}
use Rattle.envelope_trees.specs.Marks.{is_marked, marked}
use Rattle.delivery_tags.specs.Tags.{tag_text}

-- the bytes are an envelope again: the entry's tree with both marks set, which says what that tree says
pub record IsCarried (e : EntryParts) (v : List ℕ) : Type 0 where
  pub envelope : envelope_at v ≡ Ok (marked e.tree)  -- the bytes are an envelope of the marked tree
  pub marks : is_marked (marked e.tree) ≡ true  -- both its marks are true
  pub parts : parts_in (marked e.tree) ≡ parts_in e.tree  -- its content, its tag, its exchange and its routing key are the entry's
  pub priority : priority_of (marked e.tree) ≡ priority_of e.tree  -- and so is its priority
  pub tag : tag_of_bytes v ≡ Some (tag_text (parts_in e.tree).tag)  -- the bytes tell that tag

-- what an entry carries is its envelope, marked
abbrev pub EntriesCarryEnvelopes : Type 0
EntriesCarryEnvelopes = (u v : List ℕ) → carried u ≡ Some v → (e : EntryParts) × (entry_at u ≡ Ok e) × IsCarried e v

-- the entry of an envelope is the compact text of its array, is read as that entry, and carries the envelope with both marks set
abbrev pub EnvelopesGoIn : Type 0
EnvelopesGoIn = (v : List ℕ) (d : Data) → envelope_at v ≡ Ok d
    → (entry_of v ≡ compact_text (entry_data (entry_for d))) × (entry_at (entry_of v) ≡ Ok (entry_for d)) × (carried (entry_of v) ≡ Some (compact_text (marked d)))
