-- The envelope that a producer's draft becomes.
use Rattle.std.specs.Prelude.{ℕ, codes, length, nat_le, not, Result, Ok}
use Rattle.std.specs.Str.{is_utf8}
use Rattle.base64.specs.Engines.{standard}
use Rattle.base64.specs.GeneralPurpose.{encode_of}
use Rattle.serde_json.specs.Data.{Data, depth}
use Rattle.serde_json.specs.Find.{get}
use Rattle.serde_json.specs.View.{view as data_of}
use Rattle.serde_json.specs.Written.{has_float, compact_text}
use Rattle.envelope.specs.Envelopes.{are_short, max_bytes, max_text}
use Rattle.envelope.specs.SealedTrees.{sealed_info, sealed_properties, sealed_tree}
use Rattle.envelope_trees.specs.Marks.{marked}
use Rattle.envelope_trees.specs.Members.{if_object, is_nothing}
use Rattle.envelope_trees.specs.Reading.{◌>>=◌, needed, wanted}
use Rattle.delivery_tags.specs.Tags.{tag_text}
use Rattle.envelope_trees.specs.declared.fault.Field.TheVariants as field
use Rattle.envelope_trees.specs.declared.fault.EnvelopeFault.{EnvelopeFault}
use Rattle.envelope_trees.specs.declared.fault.EnvelopeFault.TheVariants.{TooLong, TooDeep, Float, Missing, Compressed, BadBody}
use Rattle.sealed_drafts.specs.declared.sealing.Draft.{Draft}

-- the tree of a draft under the tag n
abbrev pub sealed : Draft → ℕ → Data
sealed draft n =
    sealed_tree (encode_of standard draft.content) (data_of draft.headers)
    (sealed_properties (sealed_info draft.exchange draft.routing_key) draft.id draft.priority (tag_text n))

-- the tree, or the first fault of the draft: the same faults in the same order as a reader of the tree meets
unfoldable pub seal_of : Draft → ℕ → Result Data EnvelopeFault
seal_of draft n = do
  shallow ← wanted TooDeep (nat_le (depth (data_of draft.headers)) 99)
  whole ← wanted Float (not (has_float (data_of draft.headers)))
  headers ← needed (Missing field.Headers) (if_object (data_of draft.headers))
  uncompressed ← wanted Compressed (is_nothing (get (codes "compression") headers))
  text ← wanted BadBody (is_utf8 draft.content)
  short ← wanted TooLong (are_short draft.exchange draft.routing_key)
  plain ← wanted TooLong (nat_le (length (compact_text (sealed draft n))) max_bytes)
  marks ← wanted TooLong (nat_le (length (compact_text (marked (sealed draft n)))) max_text)
  Ok (sealed draft n)
