-- Laws of trees, envelopes, entries and tags.
use Rattle.std.specs.Prelude.{◌≡◌, ◌≤◌, ◌<◌, ◌^◌, ℕ, true, false, List, Some, Ok}
use Rattle.serde_json.specs.Data.{Data, depth}
use Rattle.serde_json.specs.Read.{read, max_depth}
use Rattle.serde_json.specs.Written.{has_float, compact_text}
use Rattle.envelope.specs.Bodies.{body_in, body_of, carried, entry_of, tag_of_bytes}
use Rattle.envelope.specs.Envelopes.{Parts, priority_of, said_by}
use Rattle.envelope_trees.specs.Marks.{is_marked, marked}
use Rattle.envelope_trees.specs.Sorted.{Sorted}
use Rattle.delivery_tags.specs.Tags.{is_tag, tag}

-- a tree that was read is sorted
abbrev pub ReadsSorted : Type 0
ReadsSorted = (text : List ℕ) (d : Data) → read text ≡ Some d → Sorted d

-- the compact text of a sorted tree without floats is read back as that tree
abbrev pub ReadsBack : Type 0
ReadsBack = (d : Data) → Sorted d → has_float d ≡ false → depth d ≤ max_depth → read (compact_text d) ≡ Some d

-- marks that are set are set, and a marked tree stays sorted
abbrev pub MarksStay : Type 0
MarksStay = (d : Data) → (Sorted d → Sorted (marked d)) × (marked (marked d) ≡ marked d)

-- a marked envelope is marked, says what it said, and keeps its priority
abbrev pub MarksSay : Type 0
MarksSay = (d : Data) (p : Parts) → said_by d ≡ Ok p → (said_by (marked d) ≡ Ok p) × (is_marked (marked d) ≡ true) × (priority_of (marked d) ≡ priority_of d)

-- a seed and a counter of 64 bits have a tag's text
abbrev pub TagsSpelled : Type 0
TagsSpelled = (s n : ℕ) → s < 2 ^ 64 → n < 2 ^ 64 → is_tag (tag s n) ≡ true

-- a tag's text tells its seed and its counter
abbrev pub TagsTold : Type 0
TagsTold = (s n s' n' : ℕ) → is_tag (tag s n) ≡ true → tag s n ≡ tag s' n' → (s ≡ s') × (n ≡ n')

-- what an envelope tells as its tag is a tag's text
abbrev pub TagsOfEnvelopes : Type 0
TagsOfEnvelopes = (v t : List ℕ) → tag_of_bytes v ≡ Some t → is_tag t ≡ true

-- an entry has the body of its envelope
abbrev pub BodiesGoIn : Type 0
BodiesGoIn = (v : List ℕ) → body_in (entry_of v) ≡ body_of v

-- the envelope that an entry carries has the entry's body
abbrev pub BodiesComeOut : Type 0
BodiesComeOut = (u v : List ℕ) → carried u ≡ Some v → body_of v ≡ body_in u
