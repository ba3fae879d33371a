-- What a world shows: the desk of a reader of schedules.
use Rattle.std.specs.Prelude.{Bool}
use Rattle.schedule_model.specs.Desk.{ScheduleReader}
use Rattle.schedule_past.specs.Desks.{desk_with}
use Rattle.schedule_world.specs.Books.{books_of}
use Rattle.schedule_world.specs.declared.world.World.{World}

-- the desk of a world
abbrev pub desk_of : World → ScheduleReader
desk_of w = desk_with w.past (books_of w.books)

-- whether memory was wanting at its last line: such a world takes no line any more
abbrev pub is_world_spent : World → Bool
is_world_spent w = w.spent
