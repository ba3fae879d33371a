-- What sending a task again changes in its envelope, member by member (Celery's message protocol, versions 1 and 2).
use Rattle.std.specs.Prelude.{◌≡◌, ◌≤◌, ◌⊎◌, ℕ, ℤ, suc, List, codes, false, Some, None}
use Rattle.base64.specs.Engines.{standard}
use Rattle.base64.specs.GeneralPurpose.{encode_of}
use Rattle.serde_json.specs.Data.{Data, number, unsigned, string, depth}
use Rattle.serde_json.specs.Find.{get}
use Rattle.serde_json.specs.Written.{compact_text, has_float}
use Rattle.delivery_tags.specs.Tags.{tag_text}
use Rattle.envelope.specs.Envelopes.{json_at, max_levels, parts_in}
use Rattle.envelope_trees.specs.Members.{object_at}
use Rattle.envelope_trees.specs.Sorted.{Sorted}
use Rattle.envelope_laws.specs.Marks.{AgreeBut}
use Rattle.moments.specs.MomentTexts.{moment_text}
use Rattle.task_message.specs.Tasks.{TaskParts}

-- two trees have the same at each name but these two
abbrev pub AgreeButTwo : List ℕ → List ℕ → Data → Data → Type 0
AgreeButTwo k l a b = (q : List ℕ) → (q ≡ k → ⊥) → (q ≡ l → ⊥) → get q a ≡ get q b

-- a tree has these headers, these properties, and in them this delivery_info
pub record IsAround (d headers properties info : Data) : Type 0 where
  pub headers_is : object_at (codes "headers") d ≡ Some headers
  pub properties_is : object_at (codes "properties") d ≡ Some properties
  pub info_is : object_at (codes "delivery_info") properties ≡ Some info

-- an object tells one retry more than r, and this moment before which the task waits
pub record TellsRetry (r : ℕ) (eta : ℤ) (d : Data) : Type 0 where
  pub retries : get (codes "retries") d ≡ Some (number (unsigned (suc r)))
  pub eta_is : get (codes "eta") d ≡ Some (string (moment_text eta))

-- version 2: the next headers tell the retry and agree with the headers elsewhere but at the mark, and the body stays
pub record IsSecondAgain (r : ℕ) (eta : ℤ) (d e headers next : Data) : Type 0 where
  pub settings : TellsRetry r eta next
  pub others : (q : List ℕ) → (q ≡ codes "redelivered" → ⊥) → (q ≡ codes "retries" → ⊥) → (q ≡ codes "eta" → ⊥) → get q next ≡ get q headers
  pub body : get (codes "body") e ≡ get (codes "body") d

-- version 1: the headers stay but for the mark, and the body is the base64 of a content, as compact text, that is read back from it, nests at most 100 deep, has no float, tells the retry and agrees with the content before at each other name
pub record IsFirstAgain (r : ℕ) (eta : ℤ) (d e headers next : Data) : Type 0 where
  pub in_headers : AgreeBut (codes "redelivered") next headers
  pub content : Data
  pub content_is : json_at (parts_in d).content ≡ Some content
  pub next_content : Data
  pub reads : json_at (compact_text next_content) ≡ Some next_content
  pub shallow : depth next_content ≤ max_levels
  pub whole : has_float next_content ≡ false
  pub body : get (codes "body") e ≡ Some (string (encode_of standard (compact_text next_content)))
  pub settings : TellsRetry r eta next_content
  pub in_content : AgreeButTwo (codes "retries") (codes "eta") next_content content

-- the tree e is the envelope d of the task t, sent again under the tag n with this moment: by the version of the task its settings are other ones; no mark stands in the headers or the delivery_info; the tag is another one; each other name of the tree, its properties and its delivery_info has what it had; and the tree has each key once and in order
pub record IsSentAgain (d : Data) (t : TaskParts) (n : ℕ) (eta : ℤ) (e : Data) : Type 0 where
  pub headers : Data
  pub properties : Data
  pub info : Data
  pub before : IsAround d headers properties info
  pub next_headers : Data
  pub next_properties : Data
  pub next_info : Data
  pub after : IsAround e next_headers next_properties next_info
  pub settings : ((t.version ≡ 1) × IsFirstAgain t.settings.retries eta d e headers next_headers) ⊎ ((t.version ≡ 2) × IsSecondAgain t.settings.retries eta d e headers next_headers)
  pub header_mark : get (codes "redelivered") next_headers ≡ None
  pub info_mark : get (codes "redelivered") next_info ≡ None
  pub in_info : AgreeBut (codes "redelivered") next_info info
  pub tag : get (codes "delivery_tag") next_properties ≡ Some (string (tag_text n))
  pub in_properties : AgreeButTwo (codes "delivery_tag") (codes "delivery_info") next_properties properties
  pub elsewhere : (q : List ℕ) → (q ≡ codes "headers" → ⊥) → (q ≡ codes "properties" → ⊥) → (q ≡ codes "body" → ⊥) → get q e ≡ get q d
  pub sorted : Sorted e

-- the task with one retry more, and this moment before which it waits
abbrev pub next_try : TaskParts → ℤ → TaskParts
next_try t eta = record t { settings = record { retries = suc t.settings.retries; eta = Some eta; expires = t.settings.expires } }
