-- The task that an envelope carries, said member by member (Celery's message protocol, versions 1 and 2).
use Rattle.std.specs.Prelude.{◌≡◌, ◌≤◌, ◌<◌, ◌^◌, ◌⊎◌, ℕ, ℤ, List, length, codes, true, false, Option, Some, None}
use Rattle.serde_json.specs.Data.{Data, number, unsigned, string, array, object, Items, Members, no_items, item, depth}
use Rattle.serde_json.specs.Find.{get}
use Rattle.serde_json.specs.Written.{has_float}
use Rattle.envelope.specs.Envelopes.{json_at, max_levels, parts_in}
use Rattle.envelope_trees.specs.Members.{is_nothing}
use Rattle.moments.specs.MomentTexts.{moment_of}
use Rattle.task_message.specs.Tasks.{TaskParts, TaskSettings, headers_in}

-- the value is an array
abbrev pub IsJsonArray : Data → Type 0
IsJsonArray d = (ds : Items) × (d ≡ array ds)

-- the value is an object
abbrev pub IsJsonObject : Data → Type 0
IsJsonObject d = (ms : Members) × (d ≡ object ms)

-- this text stands at a name, and isn't empty
abbrev pub IsWordAt : List ℕ → Data → List ℕ → Type 0
IsWordAt k d s = (get k d ≡ Some (string s)) × (1 ≤ length s)

-- a number of 32 bits stands there, or nothing or null for 0
abbrev pub IsRetries : Option Data → ℕ → Type 0
IsRetries o n = ((is_nothing o ≡ true) × (n ≡ 0)) ⊎ ((o ≡ Some (number (unsigned n))) × (n < 2 ^ 32))

-- the text of a moment stands there, or nothing or null for none
abbrev pub IsMoment : Option Data → Option ℤ → Type 0
IsMoment o None = is_nothing o ≡ true
IsMoment o (Some m) = (text : List ℕ) × (o ≡ Some (string text)) × (moment_of text ≡ Some m)

-- an object tells the settings of a task
pub record TellsSettings (d : Data) (s : TaskSettings) : Type 0 where
  pub retries : IsRetries (get (codes "retries") d) s.retries
  pub eta : IsMoment (get (codes "eta") d) s.eta
  pub expires : IsMoment (get (codes "expires") d) s.expires

-- version 2: the headers tell the name, the id and the settings, and the content is an array of the arguments, the keywords and one more object
pub record IsSecondTask (headers content : Data) (t : TaskParts) : Type 0 where
  pub version : t.version ≡ 2
  pub name : IsWordAt (codes "task") headers t.name
  pub id : IsWordAt (codes "id") headers t.id
  pub settings : TellsSettings headers t.settings
  pub embed : Data
  pub call : content ≡ array (item t.args (item t.kwargs (item embed no_items)))
  pub args : IsJsonArray t.args
  pub kwargs : IsJsonObject t.kwargs
  pub embedded : IsJsonObject embed

-- version 1: the content is an object that tells all of the task
pub record IsFirstTask (content : Data) (t : TaskParts) : Type 0 where
  pub version : t.version ≡ 1
  pub name : IsWordAt (codes "task") content t.name
  pub id : IsWordAt (codes "id") content t.id
  pub settings : TellsSettings content t.settings
  pub args_at : get (codes "args") content ≡ Some t.args
  pub args : IsJsonArray t.args
  pub kwargs_at : get (codes "kwargs") content ≡ Some t.kwargs
  pub kwargs : IsJsonObject t.kwargs

-- a task of version 1 where the headers have no member `task`, or one of version 2
abbrev pub TellsTask : Data → Data → TaskParts → Type 0
TellsTask headers content t = ((get (codes "task") headers ≡ None) × IsFirstTask content t) ⊎ IsSecondTask headers content t

-- an envelope's tree carries the task: its content is JSON that nests at most 100 deep and has no float, and this tree and the headers tell the task
pub record IsTask (d : Data) (t : TaskParts) : Type 0 where
  pub content : Data
  pub reads : json_at (parts_in d).content ≡ Some content
  pub shallow : depth content ≤ max_levels
  pub whole : has_float content ≡ false
  pub told : TellsTask (headers_in d) content t
