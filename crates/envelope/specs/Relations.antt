-- Which bytes are envelopes and entries, said member by member (Kombu's virtual transport, Celery's message protocol).
use Rattle.std.specs.Prelude.{◌≡◌, ◌≤◌, ℕ, List, length, codes, true, false, Some, option_and_then, IsUtf8}
use Rattle.base64.specs.Engines.{standard}
use Rattle.base64.specs.GeneralPurpose.{encode_of}
use Rattle.serde_json.specs.Data.{Data, depth}
use Rattle.serde_json.specs.Find.{get}
use Rattle.serde_json.specs.Read.{read}
use Rattle.serde_json.specs.Written.{has_float, compact_text}
use Rattle.envelope.specs.Entries.{EntryParts, entry_data, max_entry}
use Rattle.envelope.specs.Envelopes.{Parts, max_bytes, max_levels, max_name, max_text}
use Rattle.envelope_trees.specs.Marks.{marked}
use Rattle.envelope_trees.specs.Members.{is_nothing, is_word_any_case, object_at, text_at}
use Rattle.delivery_tags.specs.Tags.{tag_of_text}

-- a delivery_info names the exchange and the routing key
pub record IsInfo (info : Data) (p : Parts) : Type 0 where
  pub exchange : text_at (codes "exchange") info ≡ Some p.exchange
  pub routing_key : text_at (codes "routing_key") info ≡ Some p.routing_key

-- properties name the encoding of the body, the tag by its text, and the delivery_info
pub record IsProperties (properties : Data) (p : Parts) : Type 0 where
  pub body_encoding : text_at (codes "body_encoding") properties ≡ Some (codes "base64")
  pub delivery_tag : option_and_then tag_of_text (text_at (codes "delivery_tag") properties) ≡ Some p.tag
  pub info : Data
  pub delivery_info : object_at (codes "delivery_info") properties ≡ Some info
  pub way : IsInfo info p

-- a tree has the members of an envelope, which say the parts: the body is the base64 of the content
pub record HasMembers (d : Data) (p : Parts) : Type 0 where
  pub body : text_at (codes "body") d ≡ Some (encode_of standard p.content)
  pub content : IsUtf8 p.content
  pub content_encoding : is_word_any_case (codes "utf-8") (text_at (codes "content-encoding") d) ≡ true
  pub content_type : text_at (codes "content-type") d ≡ Some (codes "application/json")
  pub headers : Data
  pub headers_is : object_at (codes "headers") d ≡ Some headers
  pub uncompressed : is_nothing (get (codes "compression") headers) ≡ true
  pub properties : Data
  pub properties_is : object_at (codes "properties") d ≡ Some properties
  pub inner : IsProperties properties p

-- a tree is an envelope's, and says the parts: it has the members, no float, and keeps the limits
pub record IsTree (d : Data) (p : Parts) : Type 0 where
  pub members : HasMembers d p
  pub shallow : depth d ≤ max_levels
  pub whole : has_float d ≡ false
  pub exchange_short : length p.exchange ≤ max_name
  pub routing_key_short : length p.routing_key ≤ max_name
  pub text_short : length (compact_text d) ≤ max_bytes
  pub marked_short : length (compact_text (marked d)) ≤ max_text

-- the bytes are a JSON text of the tree d, and the tree is an envelope's
pub record IsEnvelope (d : Data) (b : List ℕ) : Type 0 where
  pub short : length b ≤ max_bytes
  pub utf8 : IsUtf8 b
  pub text : read b ≡ Some d
  pub parts : Parts
  pub tree : IsTree d parts

-- the bytes are a JSON text of the entry's array: an envelope's tree, and two texts of at most 255 bytes
pub record IsEntry (e : EntryParts) (b : List ℕ) : Type 0 where
  pub short : length b ≤ max_entry
  pub utf8 : IsUtf8 b
  pub text : read b ≡ Some (entry_data e)
  pub parts : Parts
  pub tree : IsTree e.tree parts
  pub exchange_short : length e.exchange ≤ max_name
  pub routing_key_short : length e.routing_key ≤ max_name
