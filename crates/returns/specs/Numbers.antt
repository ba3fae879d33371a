-- Values that are all integers. Serves the proofs of code.
use Rattle.std.specs.Prelude.{◌&&◌, Bool, true, is_some, List, [], ◌∷◌}
use Rattle.wire_values.specs.declared.value.Value.{Value}
use Rattle.command_blocks.specs.Answers.{number_of}

-- whether each of the values is an integer
abbrev pub are_numbers : List Value → Bool
are_numbers [] = true
are_numbers (v ∷ vs) = is_some (number_of v) && are_numbers vs
