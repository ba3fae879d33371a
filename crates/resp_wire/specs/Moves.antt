-- What a piece changes beside the state. This serves the decoder alone.
use Rattle.std.specs.Prelude.{ℕ, ◌+◌, ◌-◌, ◌≤◌, ◌<◌, ◌≡◌, List, [], ◌∷◌, ◌++◌, length, take, drop, get_or, nat_le, Option, Some, None, Result, Ok, Err, if◌then◌else◌}
use Rattle.wire_values.specs.declared.value.Value.{Value}
use Rattle.wire_grammar.specs.Limits.{value_limit}
use Rattle.wire_grammar.specs.Reads.{Got, Wrong}
use Rattle.resp_wire.specs.declared.decoder.Decoder.{Decoder}
use Rattle.resp_wire.specs.declared.state.Phase.TheVariants.{Content, At}
use Rattle.resp_wire.specs.declared.state.WireSpot.TheVariants.{Begin, Return}
use Rattle.resp_wire.specs.declared.state.StepFault.{StepFault}
use Rattle.resp_wire.specs.declared.state.StepFault.TheVariants.{Bad, Memory}
use Rattle.resp_wire.specs.Steps.{WireState, state}
use Rattle.resp_wire.specs.Meanings.{wire_goes_on}
use Rattle.resp_wire.specs.Stands.{held_to}

-- how many bytes are unread
abbrev pub unread_of : Decoder → ℕ
unread_of d = length d.unread.items - d.at

-- the unread bytes
abbrev pub ahead_of : Decoder → List ℕ
ahead_of d = drop d.at d.unread.items

-- nothing but the piece at hand changed
pub record HasStayed (old new : Decoder) : Type 0 where
  pub unread : new.unread.items ≡ old.unread.items
  pub at : new.at ≡ old.at
  pub start : new.start ≡ old.start
  pub held : new.held ≡ old.held
  pub later : new.later ≡ old.later
  pub fault : new.fault ≡ old.fault
  pub spent : new.spent ≡ old.spent

-- nothing but the mark of a fault changed
pub record HasOnlyMarked (old new : Decoder) : Type 0 where
  pub unread : new.unread.items ≡ old.unread.items
  pub at : new.at ≡ old.at
  pub held : new.held ≡ old.held
  pub later : new.later ≡ old.later
  pub spent : new.spent ≡ old.spent

-- n bytes more of the value at hand were taken
pub record HasMoved (old new : Decoder) (n : ℕ) : Type 0 where
  pub core : new.core ≡ old.core
  pub unread : new.unread.items ≡ old.unread.items
  pub at : new.at ≡ old.at + n
  pub start : new.start ≡ old.start
  pub held : new.held ≡ old.held + n
  pub later : new.later ≡ old.later
  pub fault : new.fault ≡ old.fault
  pub spent : new.spent ≡ old.spent

-- one byte more ended the value at hand
pub record HasGivenOne (old new : Decoder) : Type 0 where
  pub core : new.core ≡ old.core
  pub unread : new.unread.items ≡ old.unread.items
  pub at : new.at ≡ old.at + 1
  pub start : new.start ≡ held_to (old.start + old.held + 1)
  pub held : new.held ≡ 0
  pub later : new.later ≡ old.later
  pub fault : new.fault ≡ old.fault
  pub spent : new.spent ≡ old.spent

-- a span of unread bytes that are taken at once
pub record IsSpan (d : Decoder) (n : ℕ) : Type 0 where
  pub some : 0 < n
  pub within : n ≤ unread_of d
  pub room : n + d.held ≤ value_limit

-- how the content of a bulk string goes on by these n bytes
abbrev pub ran : WireState → ℕ → List ℕ → WireState
ran s n xs =
    if nat_le n s.number then record { phase = Content; number = s.number - n; bytes = s.bytes ++ xs; opens = s.opens }
    else record { phase = At Return; number = s.number; bytes = s.bytes ++ xs; opens = s.opens }

-- what the span means: the reading goes on after it, or its one byte ends a value or is wrong
abbrev pub Advances : Decoder → Decoder → ℕ → Result (Option Value) StepFault → Type 0
Advances old new n (Ok None) = (p : ℕ) (cs : List ℕ) → wire_goes_on (state old.core) p (take n (ahead_of old) ++ cs) ≡ wire_goes_on (state new.core) (p + n) cs
Advances old new n (Ok (Some v)) =
    ((p : ℕ) (cs : List ℕ) → wire_goes_on (state old.core) p (get_or old.unread.items old.at 0 ∷ cs) ≡ Got v (p + 1) cs) × (new.core.phase ≡ At Begin) × (new.core.opens.items ≡ [])
Advances old new n (Err (Bad k)) = (p : ℕ) (cs : List ℕ) → wire_goes_on (state old.core) p (get_or old.unread.items old.at 0 ∷ cs) ≡ Wrong k p
Advances old new n (Err Memory) = Unit {0}

-- all bytes were taken, and their room is free again
pub record HasCleared (old new : Decoder) : Type 0 where
  pub core : new.core ≡ old.core
  pub unread : new.unread.items ≡ []
  pub at : new.at ≡ 0
  pub start : new.start ≡ old.start
  pub held : new.held ≡ old.held
  pub later : new.later ≡ old.later
  pub fault : new.fault ≡ old.fault
  pub spent : new.spent ≡ old.spent

-- a piece was appended to the unread bytes
pub record HasFed (old new : Decoder) (piece : List ℕ) : Type 0 where
  pub core : new.core ≡ old.core
  pub ahead : ahead_of new ≡ ahead_of old ++ piece
  pub start : new.start ≡ old.start
  pub held : new.held ≡ old.held
  pub later : new.later ≡ old.later
  pub fault : new.fault ≡ old.fault
  pub spent : new.spent ≡ old.spent

-- n bytes were counted after a fault
pub record HasCounted (old new : Decoder) (n : ℕ) : Type 0 where
  pub unread : new.unread.items ≡ old.unread.items
  pub at : new.at ≡ old.at
  pub held : new.held ≡ old.held
  pub later : new.later ≡ held_to (old.later + n)
  pub fault : new.fault ≡ old.fault
  pub spent : new.spent ≡ old.spent
