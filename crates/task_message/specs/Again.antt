-- An envelope whose task is sent again as a retry: what changes in its tree (Celery's message protocol, versions 1 and 2).
use Rattle.std.specs.Prelude.{ℕ, ℤ, suc, ◌==◌, List, codes, length, nat_le, if◌then◌else◌, unwrap_or, Result, Ok}
use Rattle.std.specs.Ordering.{nat_cmp, match_ordering}
use Rattle.std.specs.Cmp.Lexicographic.{slice_cmp}
use Rattle.base64.specs.Engines.{standard}
use Rattle.base64.specs.GeneralPurpose.{encode_of}
use Rattle.serde_json.specs.Data.{Data, null, number, unsigned, string, Members, no_members, member, put}
use Rattle.serde_json.specs.Written.{compact_text}
use Rattle.envelope.specs.Envelopes.{json_at, max_bytes, max_text, parts_in}
use Rattle.envelope_trees.specs.Marks.{marked, on_object, with_member}
use Rattle.delivery_tags.specs.Tags.{tag_text}
use Rattle.moments.specs.MomentTexts.{moment_text}
use Rattle.task_message.specs.declared.fault.TaskFault.{TaskFault}
use Rattle.task_message.specs.declared.fault.TaskFault.TheVariants.{TooLong}
use Rattle.task_message.specs.Reading.{◌>>=◌, wanted}
use Rattle.task_message.specs.Tasks.{TaskParts}

-- the members without the one at the name k
abbrev pub without : List ℕ → Members → Members
without k no_members = no_members
without k (member l e ms) = match_ordering (slice_cmp nat_cmp k l) (member l e (without k ms)) ms (member l e (without k ms))

-- an object without its mark of a message that is delivered again; another value stays
abbrev pub unmarked : Data → Data
unmarked d = on_object (without (codes "redelivered")) d

-- an object with one retry more and another moment before which the task waits; another value stays
abbrev pub retried : ℕ → ℤ → Data → Data
retried r eta d = on_object (λ ms. put (codes "eta") (string (moment_text eta)) (put (codes "retries") (number (unsigned (suc r))) ms)) d

-- the headers: without their mark, and in version 2 with the new settings
abbrev pub headers_again : ℕ → ℕ → ℤ → Data → Data
headers_again version r eta d = if version == 1 then unmarked d else retried r eta (unmarked d)

-- the properties: another tag, and the delivery_info without its mark
abbrev pub properties_again : ℕ → Data → Data
properties_again n d = on_object (put (codes "delivery_tag") (string (tag_text n))) (with_member (codes "delivery_info") unmarked d)

-- the base64 of a content of version 1 with the new settings, as compact text
abbrev pub body_again : ℕ → ℤ → List ℕ → List ℕ
body_again r eta content = encode_of standard (compact_text (retried r eta (unwrap_or (json_at content) null)))

-- a tree with the new body in version 1; in version 2 the body stays
abbrev pub with_body : ℕ → List ℕ → Data → Data
with_body version body d = if version == 1 then on_object (put (codes "body") (string body)) d else d

-- the tree of the envelope d of a task of this version and number of retries, sent again under the tag n
abbrev pub again_tree : Data → ℕ → ℕ → ℕ → ℤ → Data
again_tree d version r n eta =
    with_body version (body_again r eta (parts_in d).content)
    (with_member (codes "properties") (properties_again n) (with_member (codes "headers") (headers_again version r eta) d))

-- the tree that is sent again, where it is short enough without the marks and with them
abbrev pub if_short : Data → Result Data TaskFault
if_short d = do
  plain ← wanted TooLong (nat_le (length (compact_text d)) max_bytes)
  marks ← wanted TooLong (nat_le (length (compact_text (marked d))) max_text)
  Ok d

-- the tree of the envelope that is sent again, or the fault that it is too long
unfoldable pub again_of : Data → TaskParts → ℕ → ℤ → Result Data TaskFault
again_of d t n eta = if_short (again_tree d t.version t.settings.retries n eta)
