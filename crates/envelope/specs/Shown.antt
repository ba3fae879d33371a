-- What a found part is, without where it lies in memory. Serves the proofs of code.
use Rattle.std.specs.Prelude.{◌≡◌, ℕ, List, Ok, string_bytes}
use Rattle.serde_json.specs.View.{view as data_of}
use Rattle.serde_json.specs.Written.{compact_text}
use Rattle.serde_json.specs.declared.value.Value.{Value}
use Rattle.envelope.specs.Envelopes.{Parts, envelope_at, said_by}
use Rattle.envelope.specs.declared.envelope.Found.{Found}
use Rattle.envelope.specs.declared.reading.Properties.{Properties}

-- what was found, with its texts as bytes
abbrev pub parts_view : Found → Parts
parts_view f = record { content = f.content; tag = f.tag.0; exchange = string_bytes f.exchange; routing_key = string_bytes f.routing_key }

-- what the properties said, with the body as the content
abbrev pub properties_view : Properties → Parts
properties_view p = record { content = p.body.now; tag = p.tag.0; exchange = p.exchange.now; routing_key = p.routing_key.now }

-- the parts are what the tree says, and the text is the tree's compact text, which is read again as the tree
pub record TellsTree (tree : Value) (found : Found) (text : List ℕ) : Type 0 where
  pub said : said_by (data_of tree) ≡ Ok (parts_view found)
  pub written : text ≡ compact_text (data_of tree)
  pub again : envelope_at text ≡ Ok (data_of tree)
