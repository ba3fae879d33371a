-- Members with those of a task put among them. This serves the proofs of code.
use Rattle.std.specs.Prelude.{codes, true}
use Rattle.serde_json.specs.Data.{Members, array, boolean, item, no_items, null, number, put, string, unsigned}
use Rattle.serde_json.specs.Written.{compact_text}
use Rattle.task_message.specs.Drafted.{moment_data}
use Rattle.task_message.specs.Tasks.{TaskParts, TaskSettings}

-- with the settings
abbrev pub with_settings : TaskSettings → Members → Members
with_settings s ms =
    put (codes "retries") (number (unsigned s.retries)) (put (codes "expires") (moment_data s.expires) (put (codes "eta") (moment_data s.eta) ms))

-- with the arguments and the keywords
abbrev pub with_arguments : TaskParts → Members → Members
with_arguments t ms = put (codes "kwargs") t.kwargs (put (codes "args") t.args ms)

-- with the id, the name, and that the moments are in UTC
abbrev pub with_names : TaskParts → Members → Members
with_names t ms = put (codes "utc") (boolean true) (put (codes "task") (string t.name) (put (codes "id") (string t.id) ms))

-- with the headers that each task has alike
abbrev pub with_fixed : Members → Members
with_fixed ms =
    put (codes "timelimit") (array (item null (item null no_items)))
    (put (codes "parent_id") null (put (codes "origin") (string (codes "node")) (put (codes "lang") (string (codes "py")) (put (codes "group") null ms))))

-- with the spellings of the arguments and the keywords
abbrev pub with_spellings : TaskParts → Members → Members
with_spellings t ms = put (codes "kwargsrepr") (string (compact_text t.kwargs)) (put (codes "argsrepr") (string (compact_text t.args)) ms)

-- with the id and the name
abbrev pub with_ids : TaskParts → Members → Members
with_ids t ms = put (codes "task") (string t.name) (put (codes "root_id") (string t.id) (put (codes "id") (string t.id) ms))
