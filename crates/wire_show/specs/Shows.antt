-- What is shown of a stream.
use Rattle.std.specs.Io.KnownBytes.{Appends}
use Rattle.std.specs.Prelude.{ℕ, ◌<◌, ◌≤◌, ◌≡◌, List, [], ◌∷◌, ◌++◌, length, take, flat_map, codes, Some}
use Rattle.line_text.specs.Forms.{value_form}
use Rattle.links.specs.Causes.{AppendsFront, Rose}
use Rattle.links.specs.Ends.{HasReadUpTo, IsPast, IsWholeInput}
use Rattle.links.specs.Views.{SinkView, SourceView}
use Rattle.wire_grammar.specs.declared.kind.WireKind.{WireKind}
use Rattle.wire_grammar.specs.declared.kind.WireKind.TheVariants.{BadKind, BadInteger, NoCrLf, TooLong, TooDeep}
use Rattle.wire_grammar.specs.Reads.{wire_fault}
use Rattle.wire_grammar.specs.Spells.{IsFront}
use Rattle.wire_grammar.specs.Streams.{Leads}
use Rattle.wire_show.specs.declared.ending.ShowEnd.{ShowEnd}
use Rattle.wire_show.specs.declared.ending.ShowEnd.TheVariants.{Whole, Bad, Unfinished, Long, ReadFault, WriteFault, Memory}
use Rattle.wire_values.specs.declared.value.Value.{Value}

-- the most bytes of a stream
abbrev pub input_limit : ℕ
input_limit = 67108864

-- the line of a value: its value form, and a line feed
abbrev pub value_line : Value → List ℕ
value_line v = value_form v ++ 10 ∷ []

-- a line for each value
abbrev pub value_lines : List Value → List ℕ
value_lines vs = flat_map value_line vs

-- the name of what is wrong with a byte
abbrev pub kind_name : WireKind → List ℕ
kind_name BadKind = codes "BadKind"
kind_name BadInteger = codes "BadInteger"
kind_name NoCrLf = codes "NoCrLf"
kind_name TooLong = codes "TooLong"
kind_name TooDeep = codes "TooDeep"

-- the stream is these values, one after the other
abbrev pub IsWholeStream : List ℕ → List Value → Type 0
IsWholeStream stream vs = (length stream ≤ input_limit) × (end : ℕ) × Leads 0 stream vs end []

-- these values end within the limit, and after them comes a byte within it that is wrong
abbrev pub IsBadStream : List ℕ → List Value → WireKind → ℕ → Type 0
IsBadStream stream vs kind place =
    (from : ℕ) × (rest : List ℕ) × Leads 0 (take input_limit stream) vs from rest × (wire_fault from rest ≡ Some (kind, place))

-- after these values the stream ends within a value, which begins at this place
abbrev pub IsUnfinishedStream : List ℕ → List Value → ℕ → Type 0
IsUnfinishedStream stream vs place =
    (length stream ≤ input_limit) × (rest : List ℕ) × Leads 0 stream vs place rest × (0 < length rest) × IsFront rest

-- these values end within these bytes, and after them comes the front of one more, or nothing
abbrev pub IsGoingOn : List ℕ → List Value → Type 0
IsGoingOn bytes vs = (from : ℕ) × (rest : List ℕ) × Leads 0 bytes vs from rest × IsFront rest

-- the stream goes on past the limit, no byte within it is wrong, and these values end within it
abbrev pub IsLongStream : List ℕ → List Value → Type 0
IsLongStream stream vs = (input_limit < length stream) × IsGoingOn (take input_limit stream) vs

-- these values begin the stream and end within the limit
abbrev pub IsBegunStream : List ℕ → List Value → Type 0
IsBegunStream stream vs = (from : ℕ) × (rest : List ℕ) × Leads 0 (take input_limit stream) vs from rest

-- how a stream ends, of which these values are shown
abbrev pub EndsShown : List ℕ → List Value → ShowEnd → Type 0
EndsShown stream vs Whole = IsWholeStream stream vs
EndsShown stream vs (Bad kind place) = IsBadStream stream vs kind place
EndsShown stream vs (Unfinished place) = IsUnfinishedStream stream vs place
EndsShown stream vs Long = IsLongStream stream vs
EndsShown stream vs ReadFault = (length stream ≤ input_limit) × IsGoingOn stream vs
EndsShown stream vs WriteFault = IsBegunStream stream vs
EndsShown stream vs Memory = IsBegunStream stream vs

-- these bytes were read, within the limit, and no fault
abbrev pub IsReadSoFar : SourceView → SourceView → List ℕ → Type 0
IsReadSoFar before now bytes = HasReadUpTo input_limit before now bytes × (now.faults ≡ before.faults)

-- what was read: all of it to its end, one byte past the limit, or so much until something failed or was wrong
abbrev pub HasReadFor : ShowEnd → SourceView → SourceView → List ℕ → Type 0
HasReadFor Whole before now bytes = IsWholeInput input_limit before now bytes
HasReadFor (Unfinished place) before now bytes = IsWholeInput input_limit before now bytes
HasReadFor Long before now bytes = IsPast input_limit before now bytes
HasReadFor ReadFault before now bytes = HasReadUpTo input_limit before now bytes × (before.faults ≤ now.faults) × Rose before.faults now.faults
HasReadFor (Bad kind place) before now bytes = IsReadSoFar before now bytes
HasReadFor WriteFault before now bytes = IsReadSoFar before now bytes
HasReadFor Memory before now bytes = IsReadSoFar before now bytes

-- all of these bytes were written, and no fault
abbrev pub IsWritten : SinkView → SinkView → List ℕ → Type 0
IsWritten old new bytes = Appends old.taken new.taken bytes × (new.faults ≡ old.faults)

-- the sink failed within these bytes
abbrev pub IsCutShort : SinkView → SinkView → List ℕ → Type 0
IsCutShort old new bytes = AppendsFront old.taken new.taken bytes × (old.faults ≤ new.faults) × Rose old.faults new.faults

-- what was written: the lines, but where the sink failed within them
abbrev pub HasWrittenFor : ShowEnd → SinkView → SinkView → List ℕ → Type 0
HasWrittenFor WriteFault old new lines = IsCutShort old new lines
HasWrittenFor Whole old new lines = IsWritten old new lines
HasWrittenFor (Bad kind place) old new lines = IsWritten old new lines
HasWrittenFor (Unfinished place) old new lines = IsWritten old new lines
HasWrittenFor Long old new lines = IsWritten old new lines
HasWrittenFor ReadFault old new lines = IsWritten old new lines
HasWrittenFor Memory old new lines = IsWritten old new lines

-- a stream that ends so, with these lines
abbrev pub IsShownEnd : List ℕ → List ℕ → ShowEnd → Type 0
IsShownEnd stream lines end = (vs : List Value) × EndsShown stream vs end × (lines ≡ value_lines vs)

-- a source was shown: these bytes of it were read, they end so, and their lines were written
abbrev pub HasShown : SourceView → SourceView → SinkView → SinkView → ShowEnd → Type 0
HasShown before now old new end =
    (bytes : List ℕ) × (lines : List ℕ) × HasReadFor end before now bytes × IsShownEnd bytes lines end × HasWrittenFor end old new lines
