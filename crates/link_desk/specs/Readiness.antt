-- Where the decoder of a desk stands. This serves the proofs of code.
use Rattle.std.specs.Prelude.{List, length, ℕ, ◌+◌, ◌-◌, ◌⊎◌}
use Rattle.wire_grammar.specs.Limits.{value_limit}
use Rattle.resp_wire.specs.declared.decoder.Decoder.{Decoder}
use Rattle.resp_wire.specs.Stands.{IsSpentDecoder, Stands, held_to}

-- a decoder is spent, or stands somewhere in a stream
abbrev pub IsReady : Decoder → Type 0
IsReady d = IsSpentDecoder d ⊎ ((before : ℕ) × (rest : List ℕ) × Stands d before rest)

-- how many bytes were fed since its last value
abbrev pub fed_since : Decoder → ℕ
fed_since d = held_to (d.held + (length d.unread.items - d.at) + d.later)

-- how many more bytes a value may have
abbrev pub wanting : Decoder → ℕ
wanting d = value_limit - fed_since d
