-- What an entry is, without where it lies in memory. Serves the proofs of code.
use Rattle.serde_json.specs.View.{view as data_of}
use Rattle.envelope.specs.Entries.{EntryParts}
use Rattle.envelope.specs.declared.entry.Items.{Items}
use Rattle.envelope.specs.declared.entry.UnackedEntry.{UnackedEntry}

-- an entry, as its tree and its two texts
abbrev pub entry_view : UnackedEntry → EntryParts
entry_view e = record { tree = data_of e.envelope; exchange = e.exchange; routing_key = e.routing_key }

-- the same of the items of an array
abbrev pub parts_of_items : Items → EntryParts
parts_of_items i = record { tree = data_of i.tree.now; exchange = i.exchange.now; routing_key = i.routing_key.now }
