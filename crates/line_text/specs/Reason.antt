-- Why a line is bad, as a program prints it.
use Rattle.std.specs.Prelude.{ℕ, List, codes}
use Rattle.line_text.specs.declared.reason.Reason.{Reason}
use Rattle.line_text.specs.declared.reason.Reason.TheVariants.{Long, Text, Header, Syntax, UnknownClient, Stopped, Busy, Idle, Repeated, Moment, Name, Reserved, Json, Task, Illegal, Unmannered, Cron, Queue}

-- the text of a reason
abbrev pub reason_text : Reason → List ℕ
reason_text Long = codes "long"
reason_text Text = codes "text"
reason_text Header = codes "header"
reason_text Syntax = codes "syntax"
reason_text UnknownClient = codes "unknown client"
reason_text Stopped = codes "stopped"
reason_text Busy = codes "busy"
reason_text Idle = codes "idle"
reason_text Repeated = codes "repeated"
reason_text Moment = codes "moment"
reason_text Name = codes "name"
reason_text Reserved = codes "reserved"
reason_text Json = codes "json"
reason_text Task = codes "task"
reason_text Illegal = codes "illegal"
reason_text Unmannered = codes "unmannered"
reason_text Cron = codes "cron"
reason_text Queue = codes "queue"
