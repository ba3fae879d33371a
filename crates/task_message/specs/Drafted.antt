-- The headers and the content that a task is drafted with, by both versions of Celery's message protocol.
use Rattle.std.specs.Prelude.{◌≡◌, ◌≤◌, ℕ, ℤ, Bool, true, ◌&&◌, ◌||◌, ◌==◌, not, nat_le, List, codes, length, if◌then◌else◌, Option, Some, None, is_some}
use Rattle.std.specs.Option.{option_map_or}
use Rattle.std.specs.Str.{is_utf8}
use Rattle.serde_json.specs.Data.{Data, null, boolean, number, unsigned, string, array, object, no_members, member, no_items, item, depth}
use Rattle.serde_json.specs.Find.{as_array, as_object}
use Rattle.serde_json.specs.View.{view as data_of}
use Rattle.serde_json.specs.Written.{compact_text, has_float}
use Rattle.envelope.specs.Envelopes.{json_at}
use Rattle.sealed_drafts.specs.declared.sealing.Draft.{Draft}
use Rattle.moments.specs.CivilTimes.{is_within_years}
use Rattle.moments.specs.MomentTexts.{moment_text}
use Rattle.task_message.specs.Tasks.{TaskParts}

-- ---- what may be drafted

-- a moment that lies in the years 1 to 9999, or none
abbrev pub is_writable : Option ℤ → Bool
is_writable o = option_map_or is_within_years o true

-- the deepest nesting of the arguments, and of the keywords, of a task that is drafted
abbrev pub max_argument_levels : ℕ
max_argument_levels = 90

-- a tree without a float, nested at most so deep
abbrev pub is_argument : Data → Bool
is_argument d = not (has_float d) && nat_le (depth d) max_argument_levels

-- a text of UTF-8 that isn't empty
abbrev pub is_filled : List ℕ → Bool
is_filled s = is_utf8 s && nat_le 1 (length s)

-- a task that can be drafted
abbrev pub can_draft : TaskParts → Bool
can_draft t =
    (t.version == 1 || t.version == 2) && is_filled t.name && is_filled t.id
    && (is_some (as_array t.args) && is_argument t.args) && (is_some (as_object t.kwargs) && is_argument t.kwargs)
    && is_writable t.settings.eta && is_writable t.settings.expires

-- ---- version 2

-- a moment as it stands in a message: its text, or null
abbrev pub moment_data : Option ℤ → Data
moment_data None = null
moment_data (Some m) = string (moment_text m)

-- nothing is called after the task, and it is no part of a chain or a chord
abbrev pub nothing_after : Data
nothing_after = object (member (codes "callbacks") null (member (codes "chain") null (member (codes "chord") null (member (codes "errbacks") null no_members))))

-- the content of version 2: the arguments, the keywords, and what is called after the task
abbrev pub call_tree : TaskParts → Data
call_tree t = array (item t.args (item t.kwargs (item nothing_after no_items)))

-- the headers of version 2, in byte order of their names
abbrev pub headers_of : TaskParts → Data
headers_of t = object
    (member (codes "argsrepr") (string (compact_text t.args))
    (member (codes "eta") (moment_data t.settings.eta)
    (member (codes "expires") (moment_data t.settings.expires)
    (member (codes "group") null
    (member (codes "id") (string t.id)
    (member (codes "kwargsrepr") (string (compact_text t.kwargs))
    (member (codes "lang") (string (codes "py"))
    (member (codes "origin") (string (codes "node"))
    (member (codes "parent_id") null
    (member (codes "retries") (number (unsigned t.settings.retries))
    (member (codes "root_id") (string t.id)
    (member (codes "task") (string t.name)
    (member (codes "timelimit") (array (item null (item null no_items))) no_members)))))))))))))

-- ---- version 1

-- the content of version 1, which tells all of the task; its moments are in UTC
abbrev pub told_tree : TaskParts → Data
told_tree t = object
    (member (codes "args") t.args
    (member (codes "eta") (moment_data t.settings.eta)
    (member (codes "expires") (moment_data t.settings.expires)
    (member (codes "id") (string t.id)
    (member (codes "kwargs") t.kwargs
    (member (codes "retries") (number (unsigned t.settings.retries))
    (member (codes "task") (string t.name)
    (member (codes "utc") (boolean true) no_members))))))))

-- ---- both

-- the content's tree of a task
abbrev pub drafted_content : TaskParts → Data
drafted_content t = if t.version == 1 then told_tree t else call_tree t

-- the headers of a task: none in version 1
abbrev pub drafted_headers : TaskParts → Data
drafted_headers t = if t.version == 1 then object no_members else headers_of t

-- the draft of a task: its headers, its content as compact text, which is read again as its tree, its id, and where it is sent
pub record IsDrafted (t : TaskParts) (exchange routing_key : List ℕ) (priority : ℤ) (d : Draft) : Type 0 where
  pub headers : data_of d.headers ≡ drafted_headers t
  pub content : d.content ≡ compact_text (drafted_content t)
  pub reads : json_at d.content ≡ Some (drafted_content t)
  pub id : d.id ≡ t.id
  pub exchange_is : d.exchange ≡ exchange
  pub routing_key_is : d.routing_key ≡ routing_key
  pub priority_is : d.priority ≡ priority
