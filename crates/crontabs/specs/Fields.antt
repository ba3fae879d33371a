-- The numbers that a field of a crontab has.
use Rattle.std.specs.Prelude.{ℕ, ◌-◌, ◌%◌, Bool, ◌&&◌, ◌==◌, nat_le, List}
use Rattle.std.specs.List.{list_any}
use Rattle.crontabs.specs.declared.stepped_range.SteppedRange.{SteppedRange}

-- whether a number is among those from a first to a last in steps
abbrev pub steps_have : SteppedRange → ℕ → Bool
steps_have s n = nat_le 1 s.step && nat_le s.first n && nat_le n s.last && ((n - s.first) % s.step == 0)

-- whether a field has a number: one of its parts has it
abbrev pub field_has : List SteppedRange → ℕ → Bool
field_has field n = list_any (λ s. steps_have s n) field
