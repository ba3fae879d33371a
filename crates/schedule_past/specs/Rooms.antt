-- How much room is left in a history. Serves the proofs of code.
use Rattle.std.specs.Prelude.{ℕ, ◌-◌, length}
use Rattle.place_model.specs.Shown.{history_of}
use Rattle.schedule_model.specs.Costs.{max_entries}
use Rattle.schedule_past.specs.declared.past.Past.{Past}

-- how many entries it may still get, but for their cost
abbrev pub room_left : Past → ℕ
room_left p = max_entries - length (history_of p.history).entries
