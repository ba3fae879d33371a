-- What a task is, without where it lies in memory.
use Rattle.std.specs.Prelude.{ℤ, Option, option_map}
use Rattle.serde_json.specs.View.{view as data_of}
use Rattle.moments.specs.declared.moment.Moment.{Moment}
use Rattle.task_message.specs.declared.found.Call.{Call}
use Rattle.task_message.specs.declared.found.Found.{Found}
use Rattle.task_message.specs.declared.found.Settings.{Settings}
use Rattle.task_message.specs.declared.task.Task.{Task}
use Rattle.task_message.specs.Tasks.{TaskCall, TaskParts, TaskSettings}

-- a moment that may be there, as its microseconds
abbrev pub micros_if : Option Moment → Option ℤ
micros_if o = option_map (λ m. m.0) o

-- settings as they were read
abbrev pub settings_view : Settings → TaskSettings
settings_view s = record { retries = s.retries; eta = micros_if s.eta; expires = micros_if s.expires }

-- a call as it stands in a content
abbrev pub call_view : Call → TaskCall
call_view c = record { args = data_of c.args.now; kwargs = data_of c.kwargs.now; embed = data_of c.embed.now }

-- a task as it stands in an envelope
abbrev pub found_view : Found → TaskParts
found_view f = record { version = f.version; name = f.name.now; id = f.id.now; args = data_of f.args.now; kwargs = data_of f.kwargs.now; settings = settings_view f.settings }

-- a task
abbrev pub task_view : Task → TaskParts
task_view t = record { version = t.version; name = t.name; id = t.id; args = data_of t.args; kwargs = data_of t.kwargs; settings = record { retries = t.retries; eta = micros_if t.eta; expires = micros_if t.expires } }
