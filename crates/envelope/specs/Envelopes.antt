-- Which trees and bytes are envelopes, and what an envelope says (Kombu's virtual transport, Celery's message protocol).
use Rattle.std.specs.Prelude.{ℕ, min, Bool, List, [], length, codes, not, nat_le, if◌then◌else◌, Option, Some, None, option_and_then, Result, Ok, Err, ◌&&◌}
use Rattle.std.specs.Str.{is_utf8}
use Rattle.serde_json.specs.Data.{Num, unsigned, negative, float, Data, depth}
use Rattle.serde_json.specs.Find.{get, as_number}
use Rattle.serde_json.specs.Read.{read}
use Rattle.serde_json.specs.Written.{has_float, compact_text}
use Rattle.base64.specs.Engines.{standard}
use Rattle.base64.specs.GeneralPurpose.{decoded_of}
use Rattle.delivery_tags.specs.Tags.{tag_of_text}
use Rattle.envelope_trees.specs.Members.{text_at, object_at, says_word, is_word_any_case, is_nothing}
use Rattle.envelope_trees.specs.Marks.{marked}
use Rattle.envelope_trees.specs.declared.fault.Field.TheVariants as field
use Rattle.envelope_trees.specs.declared.fault.EnvelopeFault.{EnvelopeFault}
use Rattle.envelope_trees.specs.declared.fault.EnvelopeFault.TheVariants.{TooLong, NotJson, TooDeep, Float, Missing, Compressed, BadBody}
use Rattle.envelope_trees.specs.Reading.{◌>>=◌, needed, wanted}

-- what an envelope says: its content, the number of its tag, and where it was sent
pub record Parts : Type 0 where
  pub content : List ℕ
  pub tag : ℕ
  pub exchange : List ℕ
  pub routing_key : List ℕ

-- the longest bytes of an envelope
abbrev pub max_bytes : ℕ
max_bytes = 1040000

-- the longest compact text with both marks
abbrev pub max_text : ℕ
max_text = 1000000

-- the longest exchange and routing key (a short string of AMQP 0-9-1)
abbrev pub max_name : ℕ
max_name = 255

-- the deepest nesting of arrays and objects
abbrev pub max_levels : ℕ
max_levels = 100

-- the bytes, where they are UTF-8
abbrev pub if_text : List ℕ → Option (List ℕ)
if_text bytes = if is_utf8 bytes then Some bytes else None

-- the content of a body: the UTF-8 whose canonical padded base64 it is
unfoldable pub content_of : List ℕ → Option (List ℕ)
content_of body = option_and_then if_text (decoded_of standard body)

-- both names are short enough
abbrev pub are_short : List ℕ → List ℕ → Bool
are_short exchange routing_key = nat_le (length exchange) max_name && nat_le (length routing_key) max_name

-- what the delivery_info says, beside the body and the tag
unfoldable pub info_said : List ℕ → ℕ → Data → Result Parts EnvelopeFault
info_said body tag info = do
  exchange ← needed (Missing field.Exchange) (text_at (codes "exchange") info)
  routing_key ← needed (Missing field.RoutingKey) (text_at (codes "routing_key") info)
  Ok (record { content = body; tag = tag; exchange = exchange; routing_key = routing_key })

-- what the properties say, beside the body
unfoldable pub properties_said : List ℕ → Data → Result Parts EnvelopeFault
properties_said body properties = do
  encoded ← wanted (Missing field.BodyEncoding) (says_word (codes "base64") (text_at (codes "body_encoding") properties))
  tag ← needed (Missing field.DeliveryTag) (option_and_then tag_of_text (text_at (codes "delivery_tag") properties))
  info ← needed (Missing field.DeliveryInfo) (object_at (codes "delivery_info") properties)
  info_said body tag info

-- what a tree's members say, the first that is missing as the fault, then what is wrong with what they hold
unfoldable pub parts_of : Data → Result Parts EnvelopeFault
parts_of d = do
  body ← needed (Missing field.Body) (text_at (codes "body") d)
  encoding ← wanted (Missing field.ContentEncoding) (is_word_any_case (codes "utf-8") (text_at (codes "content-encoding") d))
  type ← wanted (Missing field.ContentType) (says_word (codes "application/json") (text_at (codes "content-type") d))
  headers ← needed (Missing field.Headers) (object_at (codes "headers") d)
  properties ← needed (Missing field.Properties) (object_at (codes "properties") d)
  said ← properties_said body properties
  plain ← wanted Compressed (is_nothing (get (codes "compression") headers))
  content ← needed BadBody (content_of body)
  short ← wanted TooLong (are_short said.exchange said.routing_key)
  Ok (record { content = content; tag = said.tag; exchange = said.exchange; routing_key = said.routing_key })

-- what a tree says as an envelope, or its first fault
unfoldable pub said_by : Data → Result Parts EnvelopeFault
said_by d = do
  shallow ← wanted TooDeep (nat_le (depth d) max_levels)
  whole ← wanted Float (not (has_float d))
  parts ← parts_of d
  plain ← wanted TooLong (nat_le (length (compact_text d)) max_bytes)
  marks ← wanted TooLong (nat_le (length (compact_text (marked d))) max_text)
  Ok parts

-- what was said, and nothing where there is a fault
abbrev pub parts_or_none : Result Parts EnvelopeFault → Parts
parts_or_none (Ok p) = p
parts_or_none (Err e) = record { content = []; tag = 0; exchange = []; routing_key = [] }

-- what an envelope's tree says
abbrev pub parts_in : Data → Parts
parts_in d = parts_or_none (said_by d)

-- a whole number held within 0 to 9, and 0 for another kind
abbrev pub held_number : Option Num → ℕ
held_number None = 0
held_number (Some (unsigned n)) = min n 9
held_number (Some (negative z)) = 0
held_number (Some (float x)) = 0

-- the priority that a tree tells in its properties
abbrev pub priority_of : Data → ℕ
priority_of d = held_number (option_and_then as_number (option_and_then (get (codes "priority")) (get (codes "properties") d)))

-- the JSON tree that the bytes are a text of
abbrev pub json_at : List ℕ → Option Data
json_at b = if is_utf8 b then read b else None

-- the tree, where it is an envelope's, or its first fault
unfoldable pub envelope_of : Data → Result Data EnvelopeFault
envelope_of d = do
  parts ← said_by d
  Ok d

-- the tree of the bytes, or the fault that they are too long or no JSON
unfoldable pub tree_at : List ℕ → Result Data EnvelopeFault
tree_at b = do
  short ← wanted TooLong (nat_le (length b) max_bytes)
  needed NotJson (json_at b)

-- the tree of the envelope that the bytes are, or their first fault
unfoldable pub envelope_at : List ℕ → Result Data EnvelopeFault
envelope_at b = do
  d ← tree_at b
  envelope_of d
