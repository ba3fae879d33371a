-- Texts that are told one after the other.
use Rattle.std.proofs.Common.{◌≡◌, List, ◌++◌, Option}
use Rattle.std.specs.Prelude.{option_map}
use Rattle.wire_values.specs.declared.value.Value.{Value}
use Rattle.queue_keys.specs.Names.{Bytes}
use Rattle.command_blocks.specs.Answers.{bulk_of}
use Rattle.command_blocks.specs.Scripts.{each_told}

-- what so many texts and those of the other values make
abbrev pub after_texts : List Bytes → Option (List Bytes) → Option (List Bytes)
after_texts ts o = option_map (λ us. ts ++ us) o

-- the texts that were told and those of what is left are those of all values
abbrev pub AreTold : List Value → List Bytes → List Value → Type 0
AreTold values ts rest = after_texts ts (each_told bulk_of rest) ≡ each_told bulk_of values
