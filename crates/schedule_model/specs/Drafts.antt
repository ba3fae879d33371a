-- The task that a publish line drafts (Celery's message protocol, version 2), and its sealed envelope.
use Rattle.std.specs.Prelude.{ℕ, Bool, ◌&&◌, not, nat_le, if◌then◌else◌, length, codes, Option, None, Some, option_and_then, is_some, pos}
use Rattle.std.specs.Str.{is_utf8}
use Rattle.base64.specs.Engines.{standard}
use Rattle.base64.specs.GeneralPurpose.{encode_of}
use Rattle.serde_json.specs.Data.{Data, null, number, unsigned, string, array, object, no_members, member, no_items, item, depth}
use Rattle.serde_json.specs.Find.{as_array}
use Rattle.serde_json.specs.Written.{compact_text, has_float}
use Rattle.envelope.specs.Envelopes.{json_at, are_short, max_bytes, max_text}
use Rattle.envelope_trees.specs.Marks.{marked}
use Rattle.envelope.specs.SealedTrees.{sealed_tree, sealed_properties, sealed_info}
use Rattle.delivery_tags.specs.Tags.{is_tag, tag}
use Rattle.queue_keys.specs.Names.{Bytes}

-- ---- arguments

-- a tree that may be a task's arguments: an array without a float, nested at most 90 deep
abbrev pub if_arguments : Data → Option Data
if_arguments d = if is_some (as_array d) && not (has_float d) && nat_le (depth d) 90 then Some d else None

-- the arguments that a JSON text spells
unfoldable pub arguments_of : Bytes → Option Data
arguments_of j = option_and_then if_arguments (json_at j)

-- ---- the draft

-- no keywords
abbrev pub no_keywords : Data
no_keywords = object no_members

-- nothing is called after the task, and it is no part of a chain or a chord
abbrev pub no_embed : Data
no_embed = object (member (codes "callbacks") null (member (codes "chain") null (member (codes "chord") null (member (codes "errbacks") null no_members))))

-- the content of a task with these arguments
abbrev pub content_tree : Data → Data
content_tree args = array (item args (item no_keywords (item no_embed no_items)))

-- the headers of a task of this id, name and arguments, in byte order of their names
abbrev pub headers_tree : Bytes → Bytes → Data → Data
headers_tree id task args = object
    (member (codes "argsrepr") (string (compact_text args))
    (member (codes "eta") null
    (member (codes "expires") null
    (member (codes "group") null
    (member (codes "id") (string id)
    (member (codes "kwargsrepr") (string (compact_text no_keywords))
    (member (codes "lang") (string (codes "py"))
    (member (codes "origin") (string (codes "node"))
    (member (codes "parent_id") null
    (member (codes "retries") (number (unsigned 0))
    (member (codes "root_id") (string id)
    (member (codes "task") (string task)
    (member (codes "timelimit") (array (item null (item null no_items))) no_members)))))))))))))

-- the tree of the envelope of a task that is published under this tag's text, which is its id too
abbrev pub task_tree : Bytes → Bytes → Bytes → ℕ → Bytes → Data → Data
task_tree t exchange routing_key priority task args =
    sealed_tree (encode_of standard (compact_text (content_tree args))) (headers_tree t task args)
    (sealed_properties (sealed_info exchange routing_key) t (pos priority) t)

-- ---- the seal

-- whether the names are UTF-8
abbrev pub are_texts : Bytes → Bytes → Bytes → Bool
are_texts exchange routing_key task = is_utf8 exchange && is_utf8 routing_key && is_utf8 task

-- whether an envelope can tell these: the names are UTF-8, the tag has a text, and the priority is a byte
abbrev pub are_told : Bytes → Bytes → Bytes → ℕ → Bytes → Bool
are_told t exchange routing_key priority task = are_texts exchange routing_key task && is_tag t && nat_le priority 255

-- whether the exchange, the routing key and the texts of the tree are short enough
abbrev pub are_within : Bytes → Bytes → Data → Bool
are_within exchange routing_key d = are_short exchange routing_key && nat_le (length (compact_text d)) max_bytes && nat_le (length (compact_text (marked d))) max_text

-- the text of the tree of a task with these arguments, where it can be told and is short enough
abbrev pub if_sealed : Bytes → Bytes → Bytes → ℕ → Bytes → Data → Option Bytes
if_sealed t exchange routing_key priority task args =
    let d = task_tree t exchange routing_key priority task args in
    if are_told t exchange routing_key priority task && are_within exchange routing_key d then Some (compact_text d) else None

-- the envelope of a task, by the seed and counter of its tag, exchange, routing key, priority, task and arguments
unfoldable pub sealed_task : ℕ → ℕ → Bytes → Bytes → ℕ → Bytes → Bytes → Option Bytes
sealed_task s n exchange routing_key priority task j = option_and_then (if_sealed (tag s n) exchange routing_key priority task) (arguments_of j)
