-- Cores, which say a block command by command: what each leaves of the block's script. Serves the proofs of code.
use Rattle.std.specs.Prelude.{◌≡◌, ℕ, Bool, true, false}
use Rattle.wire_values.specs.declared.value.Value.{Value}
use Rattle.store_model.specs.Words.{Words}
use Rattle.command_blocks.specs.Calls.{call}
use Rattle.command_blocks.specs.Scripts.{Script, Over, Off, Say, after_call}

-- the one script is left of the other after this answer at this moment, whatever the words of the call were
abbrev pub IsAnswered : Script → Script → ℕ → Value → Type 0
IsAnswered old new at answer = (words : Words) → new ≡ after_call old (call at words answer)

-- whether words are next
abbrev pub is_saying : Script → Bool
is_saying Over = false
is_saying Off = false
is_saying (Say w go) = true

-- whether the last answer wasn't a listed one
abbrev pub is_off : Script → Bool
is_off Over = false
is_off Off = true
is_off (Say w go) = false
