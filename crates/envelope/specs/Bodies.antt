-- What bytes tell of the message in them: the words in which histories of messages are said.
use Rattle.std.specs.Prelude.{ℕ, ◌&&◌, not, nat_le, if◌then◌else◌, List, [], Option, Some, None, option_map, option_and_then}
use Rattle.std.specs.Result.{result_ok}
use Rattle.serde_json.specs.Data.{Data, depth}
use Rattle.serde_json.specs.Read.{read}
use Rattle.serde_json.specs.Written.{has_float, compact_text}
use Rattle.envelope.specs.Entries.{entry_at, entry_data, entry_in}
use Rattle.envelope.specs.Envelopes.{Parts, parts_in, envelope_at, max_levels}
use Rattle.envelope_trees.specs.Marks.{marked}
use Rattle.delivery_tags.specs.Tags.{tag_text}

-- what the envelope says, where the bytes are one
abbrev pub parts_at : List ℕ → Option Parts
parts_at v = option_map parts_in (result_ok (envelope_at v))

-- the text of an envelope's tag, none where the bytes are no envelope
abbrev pub tag_of_bytes : List ℕ → Option (List ℕ)
tag_of_bytes v = option_map (λ p. tag_text p.tag) (parts_at v)

-- ---- bodies

-- a tree that nests at most 100 deep and has no float
abbrev pub if_plain : Data → Option Data
if_plain d = if nat_le (depth d) max_levels && not (has_float d) then Some d else None

-- the text of such a tree with both marks, nothing where there is none
abbrev pub marked_text : Option Data → List ℕ
marked_text None = []
marked_text (Some d) = compact_text (marked d)

-- an envelope but for its two marks: its text with both set
abbrev pub body_of : List ℕ → List ℕ
body_of v = marked_text (option_and_then if_plain (read v))

-- ---- entries

-- the exchange that is told, and nothing where none is
abbrev pub exchange_or : Option Parts → List ℕ
exchange_or None = []
exchange_or (Some p) = p.exchange

-- the same of the routing key
abbrev pub routing_key_or : Option Parts → List ℕ
routing_key_or None = []
routing_key_or (Some p) = p.routing_key

-- the text of the entry of a tree, an exchange and a routing key
abbrev pub entry_text : List ℕ → List ℕ → Option Data → List ℕ
entry_text e r None = []
entry_text e r (Some d) = compact_text (entry_data (record { tree = d; exchange = e; routing_key = r }))

-- the table's entry of an envelope, by its own exchange and routing key
abbrev pub entry_of : List ℕ → List ℕ
entry_of v = entry_text (exchange_or (parts_at v)) (routing_key_or (parts_at v)) (option_and_then if_plain (read v))

-- the tree of an entry
abbrev pub tree_in : List ℕ → Option Data
tree_in u = option_and_then if_plain (option_map (λ e. e.tree) (option_and_then entry_in (read u)))

-- the body of an entry's envelope
abbrev pub body_in : List ℕ → List ℕ
body_in u = marked_text (tree_in u)

-- the envelope of an entry with its two marks set, none where the bytes are no entry
abbrev pub carried : List ℕ → Option (List ℕ)
carried u = option_map (λ e. compact_text (marked e.tree)) (result_ok (entry_at u))
