-- The words of a command, as the value that a client sends.
use Rattle.std.specs.Prelude.{List, None, Option, Some, [], ◌∷◌, option_and_then}
use Rattle.wire_values.specs.declared.value.Value.{Value}
use Rattle.store_model.specs.Words.{Bytes, Words}
use Rattle.command_blocks.specs.Answers.{bulk_of, items_of}

-- a word before others, where all are there
abbrev pub with_word : Option Bytes → Option Words → Option Words
with_word None rest = None
with_word (Some word) None = None
with_word (Some word) (Some words) = Some (word ∷ words)

-- the contents of values that are bulk strings, all of them
abbrev pub contents : List Value → Option Words
contents [] = Some []
contents (v ∷ vs) = with_word (bulk_of v) (contents vs)

-- the contents of one or more bulk strings
abbrev pub command_items : List Value → Option Words
command_items [] = None
command_items (v ∷ vs) = contents (v ∷ vs)

-- the words that a value spells: it is an array of one or more bulk strings, else it spells none
abbrev pub command_in : Value → Option Words
command_in v = option_and_then command_items (items_of v)
