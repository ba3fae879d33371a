-- Entries of the table of messages that are not acknowledged: a JSON array of an envelope's tree and two texts.
use Rattle.std.specs.Prelude.{ℕ, List, length, nat_le, Option, None, option_and_then, option_map, Result, Ok}
use Rattle.serde_json.specs.Data.{Data, string, array, Items, no_items, item}
use Rattle.serde_json.specs.Find.{as_str, as_array}
use Rattle.envelope.specs.Envelopes.{parts_in, json_at, envelope_of, are_short}
use Rattle.envelope_trees.specs.Reading.{◌>>=◌, needed, wanted}
use Rattle.envelope_trees.specs.declared.fault.EnvelopeFault.{EnvelopeFault}
use Rattle.envelope_trees.specs.declared.fault.EnvelopeFault.TheVariants.{TooLong, NotJson}

-- an envelope's tree, and the exchange and the routing key by which it is returned
pub record EntryParts : Type 0 where
  pub tree : Data
  pub exchange : List ℕ
  pub routing_key : List ℕ

-- the longest bytes of an entry
abbrev pub max_entry : ℕ
max_entry = 1048576

-- the array of an entry
abbrev pub entry_data : EntryParts → Data
entry_data e = array (item e.tree (item (string e.exchange) (item (string e.routing_key) no_items)))

-- the entry of an envelope's tree, by its own exchange and routing key
abbrev pub entry_for : Data → EntryParts
entry_for d = record { tree = d; exchange = (parts_in d).exchange; routing_key = (parts_in d).routing_key }

-- the entry of three values, of which the last two are texts
abbrev pub of_three : Data → Data → Data → Option EntryParts
of_three t e r = option_and_then (λ x. option_map (λ k. record { tree = t; exchange = x; routing_key = k }) (as_str r)) (as_str e)

-- the entry of three items; no other number of items is one
abbrev pub of_items : Items → Option EntryParts
of_items no_items = None
of_items (item t no_items) = None
of_items (item t (item e no_items)) = None
of_items (item t (item e (item r no_items))) = of_three t e r
of_items (item t (item e (item r (item x xs)))) = None

-- the entry that a JSON value is the array of
abbrev pub entry_in : Data → Option EntryParts
entry_in d = option_and_then of_items (as_array d)

-- the entry that the bytes are, or their first fault
unfoldable pub entry_at : List ℕ → Result EntryParts EnvelopeFault
entry_at b = do
  short ← wanted TooLong (nat_le (length b) max_entry)
  d ← needed NotJson (json_at b)
  e ← needed NotJson (entry_in d)
  tree ← envelope_of e.tree
  names ← wanted TooLong (are_short e.exchange e.routing_key)
  Ok (record { tree = tree; exchange = e.exchange; routing_key = e.routing_key })
