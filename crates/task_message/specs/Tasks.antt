-- The task that an envelope carries, by both versions of Celery's message protocol.
use Rattle.std.specs.Prelude.{ℕ, ◌^◌, nat_le, nat_lt, Bool, not, List, [], ◌∷◌, codes, if◌then◌else◌, Option, Some, None, option_and_then, option_map, is_some, unwrap_or, Result, Ok, Err, ℤ}
use Rattle.serde_json.specs.Data.{Data, null, array, Items, no_items, item, depth}
use Rattle.serde_json.specs.Find.{get, as_array, as_number, as_u64}
use Rattle.serde_json.specs.Written.{has_float}
use Rattle.envelope.specs.Envelopes.{json_at, parts_in, max_levels}
use Rattle.envelope_trees.specs.Members.{if_object, is_nothing, object_at, text_at}
use Rattle.moments.specs.MomentTexts.{moment_of}
use Rattle.task_message.specs.declared.fault.TaskFault.{TaskFault}
use Rattle.task_message.specs.declared.fault.TaskFault.TheVariants.{NoTask, Float, BadField, BadMoment}
use Rattle.task_message.specs.declared.fault.Part.TheVariants as part
use Rattle.task_message.specs.Reading.{◌>>=◌, needed, wanted}

-- how often a task was retried, the moment before which it waits, and the moment after which it is expired
pub record TaskSettings : Type 0 where
  pub retries : ℕ
  pub eta : Option ℤ
  pub expires : Option ℤ

-- a task: the version of its message, its name, its id, its arguments, and its settings
pub record TaskParts : Type 0 where
  pub version : ℕ
  pub name : List ℕ
  pub id : List ℕ
  pub args : Data
  pub kwargs : Data
  pub settings : TaskSettings

-- what a message of version 2 calls a task with, and what else it tells of it
pub record TaskCall : Type 0 where
  pub args : Data
  pub kwargs : Data
  pub embed : Data

-- ---- members

-- a text that isn't empty
abbrev pub if_word : List ℕ → Option (List ℕ)
if_word [] = None
if_word (b ∷ s) = Some (b ∷ s)

-- such a text at a name
abbrev pub word_at : List ℕ → Data → Option (List ℕ)
word_at k d = option_and_then if_word (text_at k d)

-- the value, where it is an array
abbrev pub if_array : Data → Option Data
if_array d = option_map array (as_array d)

-- the array at a name
abbrev pub array_at : List ℕ → Data → Option Data
array_at k d = option_and_then if_array (get k d)

-- a number of 32 bits
abbrev pub if_32_bits : ℕ → Option ℕ
if_32_bits n = if nat_lt n (2 ^ 32) then Some n else None

-- how often a task was retried: a whole number of 32 bits, 0 where nothing or null stands
abbrev pub retries_at : Data → Option ℕ
retries_at d = if is_nothing (get (codes "retries") d) then Some 0 else option_and_then if_32_bits (option_and_then as_u64 (option_and_then as_number (get (codes "retries") d)))

-- the moment that was spelled
abbrev pub spelled_moment : Option ℤ → Result (Option ℤ) TaskFault
spelled_moment (Some m) = Ok (Some m)
spelled_moment None = Err BadMoment

-- the moment of the text at a name, none where nothing or null stands
abbrev pub moment_at : List ℕ → Data → Result (Option ℤ) TaskFault
moment_at k d = if is_nothing (get k d) then Ok None else spelled_moment (option_and_then moment_of (text_at k d))

-- the settings that an object tells
unfoldable pub settings_in : Data → Result TaskSettings TaskFault
settings_in d = do
  retries ← needed (BadField part.Retries) (retries_at d)
  eta ← moment_at (codes "eta") d
  expires ← moment_at (codes "expires") d
  Ok (record { retries = retries; eta = eta; expires = expires })

-- ---- contents

-- a tree that nests at most 100 deep
abbrev pub if_shallow : Data → Option Data
if_shallow d = if nat_le (depth d) max_levels then Some d else None

-- the tree of a content
unfoldable pub content_in : List ℕ → Result Data TaskFault
content_in b = do
  c ← needed (BadField part.Body) (option_and_then if_shallow (json_at b))
  whole ← wanted Float (not (has_float c))
  Ok c

-- the call of three items; no other number of items is one
abbrev pub call_of_items : Items → Option TaskCall
call_of_items no_items = None
call_of_items (item a no_items) = None
call_of_items (item a (item k no_items)) = None
call_of_items (item a (item k (item e no_items))) = Some (record { args = a; kwargs = k; embed = e })
call_of_items (item a (item k (item e (item x xs)))) = None

-- the call of an array of three
abbrev pub call_in : Data → Option TaskCall
call_in d = option_and_then call_of_items (as_array d)

-- a call of an array, an object and an object
unfoldable pub fit_call : TaskCall → Result TaskCall TaskFault
fit_call call = do
  args ← needed (BadField part.Args) (if_array call.args)
  kwargs ← needed (BadField part.Kwargs) (if_object call.kwargs)
  embed ← needed (BadField part.Embed) (if_object call.embed)
  Ok (record { args = args; kwargs = kwargs; embed = embed })

-- ---- tasks

-- the task of version 2: its name, id and settings in the headers, its arguments in the content
unfoldable pub second_task : Data → Data → Result TaskParts TaskFault
second_task headers c = do
  call ← needed (BadField part.Body) (call_in c)
  name ← needed (BadField part.Name) (word_at (codes "task") headers)
  id ← needed (BadField part.Id) (word_at (codes "id") headers)
  fit ← fit_call call
  settings ← settings_in headers
  Ok (record { version = 2; name = name; id = id; args = fit.args; kwargs = fit.kwargs; settings = settings })

-- the name that a content of version 1 tells
unfoldable pub told_name : Data → Result (List ℕ) TaskFault
told_name c = do
  text ← needed NoTask (text_at (codes "task") c)
  needed (BadField part.Name) (if_word text)

-- the task of version 1: all of it in the content
unfoldable pub first_task : Data → Result TaskParts TaskFault
first_task c = do
  name ← told_name c
  id ← needed (BadField part.Id) (word_at (codes "id") c)
  args ← needed (BadField part.Args) (array_at (codes "args") c)
  kwargs ← needed (BadField part.Kwargs) (object_at (codes "kwargs") c)
  settings ← settings_in c
  Ok (record { version = 1; name = name; id = id; args = args; kwargs = kwargs; settings = settings })

-- a message is of version 2 exactly where its headers have a member `task`
abbrev pub is_second : Data → Bool
is_second headers = is_some (get (codes "task") headers)

-- the task of headers and of a content's tree
abbrev pub task_in : Data → Data → Result TaskParts TaskFault
task_in headers c = if is_second headers then second_task headers c else first_task c

-- the headers of an envelope's tree
abbrev pub headers_in : Data → Data
headers_in d = unwrap_or (get (codes "headers") d) null

-- the task that an envelope's tree carries, or its first fault
unfoldable pub task_of : Data → Result TaskParts TaskFault
task_of d = do
  c ← content_in (parts_in d).content
  task_in (headers_in d) c
