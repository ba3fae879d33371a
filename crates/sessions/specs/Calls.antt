-- Commands that were received and asked.
use Rattle.std.specs.Prelude.{List, Some, [], flat_map, ℕ, ◌∷◌, ◌≡◌}
use Rattle.wire_values.specs.declared.value.Value.{Value}
use Rattle.desks.specs.Deeds.{Deed, DidAsk, DidNote, DidStop}
use Rattle.sessions.specs.CommandValues.{command_in}
use Rattle.sessions.specs.Talks.{IsClocked, reply_bytes}

-- the bytes that answer a deed
abbrev pub deed_bytes : Deed → List ℕ
deed_bytes (DidAsk at words reply) = reply_bytes reply
deed_bytes (DidNote heard) = []
deed_bytes DidStop = []

-- the bytes that answer these deeds, one after the other
abbrev pub answers : List Deed → List ℕ
answers deeds = flat_map deed_bytes deeds

-- this deed asks the words that this value spells, at a moment of a clock that gives these
abbrev pub IsCall : (ℕ → Type 0) → Value → Deed → Type 0
IsCall gives v (DidAsk at words reply) = (command_in v ≡ Some words) × IsClocked gives at
IsCall gives v (DidNote heard) = ⊥
IsCall gives v DidStop = ⊥

-- these deeds ask what these values spell, one for each, in their order
abbrev pub AreCalls : (ℕ → Type 0) → List Value → List Deed → Type 0
AreCalls gives [] [] = Unit {0}
AreCalls gives [] (d ∷ ds) = ⊥
AreCalls gives (v ∷ vs) [] = ⊥
AreCalls gives (v ∷ vs) (d ∷ ds) = IsCall gives v d × AreCalls gives vs ds
