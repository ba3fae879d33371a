-- Where a decoder stands in its stream.
use Rattle.std.specs.Prelude.{ℕ, ◌+◌, ◌-◌, ◌^◌, ◌≡◌, List, ◌++◌, length, drop, min, true, false, Option, Some, None, Result, Ok, Err}
use Rattle.wire_values.specs.declared.value.Value.{Value}
use Rattle.wire_grammar.specs.declared.kind.WireKind.{WireKind}
use Rattle.wire_grammar.specs.Spells.{Spells, IsFront}
use Rattle.wire_grammar.specs.Reads.{Wrong, read_on, read, wire_fault}
use Rattle.resp_wire.specs.declared.decoder.Decoder.{Decoder}
use Rattle.resp_wire.specs.declared.decoder.FoundFault.{FoundFault}
use Rattle.resp_wire.specs.declared.decoder.WireFault.{WireFault}
use Rattle.resp_wire.specs.declared.decoder.WireFault.TheVariants.{Bad, Memory}
use Rattle.resp_wire.specs.Steps.{state}
use Rattle.resp_wire.specs.Meanings.{wire_goes_on}

-- a number of 64 bits, the last for all above
abbrev pub held_to : ℕ → ℕ
held_to n = min n (2 ^ 64 - 1)

-- the front of the rest was taken, and what follows it stands unread
pub record Reads (d : Decoder) (before : ℕ) (rest : List ℕ) (front : List ℕ) : Type 0 where
  pub cut : rest ≡ front ++ drop d.at d.unread.items
  pub means : (cs : List ℕ) → read_on before (front ++ cs) ≡ wire_goes_on (state d.core) (before + length front) cs
  pub start : d.start ≡ held_to before
  pub held : d.held ≡ length front
  pub later : d.later ≡ 0

-- the rest has this fault, however it goes on
pub record HasFoundFault (d : Decoder) (before : ℕ) (rest : List ℕ) (f : FoundFault) (q : ℕ) : Type 0 where
  pub wrong : (cs : List ℕ) → read before (rest ++ cs) ≡ Wrong f.kind q
  pub place : f.place ≡ held_to q
  pub later : held_to (d.held + (length d.unread.items - d.at) + d.later) ≡ held_to (length rest)

abbrev pub StandsBy : Option FoundFault → Decoder → ℕ → List ℕ → Type 0
StandsBy None d before rest = (front : List ℕ) × Reads d before rest front
StandsBy (Some f) d before rest = (q : ℕ) × HasFoundFault d before rest f q

-- it answered want of memory, and answers nothing else from then on
abbrev pub IsSpentDecoder : Decoder → Type 0
IsSpentDecoder d = d.spent ≡ true

-- it found this fault, and answers it from then on
abbrev pub HasMet : Decoder → WireKind → ℕ → Type 0
HasMet d kind place = (d.spent ≡ false) × (d.fault ≡ Some (record { kind = kind; place = place }))

-- this many bytes of the stream were values that it gave, these bytes were fed since, and it isn't spent
abbrev pub Stands : Decoder → ℕ → List ℕ → Type 0
Stands d before rest = (d.spent ≡ false) × StandsBy d.fault d before rest

-- the kind and the place of the fault; a place past 64 bits is held there
abbrev pub IsFault : ℕ → List ℕ → WireKind → ℕ → Type 0
IsFault before rest kind place = (q : ℕ) × (wire_fault before rest ≡ Some (kind, q)) × (place ≡ held_to q)

-- what `next` answers, and where the decoder stands then
abbrev pub HasNext : ℕ → List ℕ → Decoder → Result (Option Value) WireFault → Type 0
HasNext before rest new (Ok (Some v)) = (front : List ℕ) × (more : List ℕ) × (rest ≡ front ++ more) × Spells v front × Stands new (before + length front) more
HasNext before rest new (Ok None) = IsFront rest × Stands new before rest
HasNext before rest new (Err (Bad kind place)) = IsFault before rest kind place × Stands new before rest × HasMet new kind place
HasNext before rest new (Err Memory) = IsSpentDecoder new
