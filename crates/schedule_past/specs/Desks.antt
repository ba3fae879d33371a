-- What happened so far, with books of clients: the desk of a reader of schedules.
use Rattle.std.specs.FinMap.{FinMap}
use Rattle.std.specs.Ordering.{nat_cmp}
use Rattle.place_model.specs.Shown.{history_of}
use Rattle.schedule_model.specs.Desk.{ClientBook, ScheduleReader}
use Rattle.schedule_past.specs.declared.past.Past.{Past}

-- what happened so far, with these books
abbrev pub desk_with : Past → FinMap nat_cmp ClientBook → ScheduleReader
desk_with p bs = record { moment = p.moment; clients = (history_of p.history).clients; entries = (history_of p.history).entries; store = p.store.state; books = bs }
