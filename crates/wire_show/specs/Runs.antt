-- What is known amid a showing. This serves the proofs of code.
use Rattle.std.specs.Prelude.{ℕ, ◌≡◌, List, ◌++◌, length, Option, None, Some}
use Rattle.links.specs.Views.{SinkView, SourceView}
use Rattle.resp_wire.specs.declared.decoder.Decoder.{Decoder}
use Rattle.resp_wire.specs.Stands.{IsFault, Stands}
use Rattle.wire_grammar.specs.declared.kind.WireKind.{WireKind}
use Rattle.wire_grammar.specs.Spells.{IsFront}
use Rattle.wire_grammar.specs.Streams.{Leads}
use Rattle.wire_show.specs.Shows.{HasReadFor, HasShown, HasWrittenFor, IsReadSoFar, IsShownEnd, IsWritten, input_limit, value_lines}
use Rattle.wire_show.specs.declared.ending.ShowEnd.{ShowEnd}
use Rattle.wire_show.specs.declared.ending.ShowEnd.TheVariants.{Whole, Bad as BadEnd, Unfinished, Long, ReadFault, WriteFault, Memory as MemoryEnd}
use Rattle.wire_show.specs.declared.showing.NextLine.{NextLine}
use Rattle.wire_show.specs.declared.showing.NextLine.TheVariants.{Added, Front, Bad, Memory}
use Rattle.wire_values.specs.declared.value.Value.{Value}

-- a decoder gave the values of these lines of the stream
pub record HasGivenLines (d : Decoder) (stream lines : List ℕ) : Type 0 where
  pub values : List Value
  pub from : ℕ
  pub rest : List ℕ
  pub leads : Leads 0 stream values from rest
  pub stands : Stands d from rest
  pub lines_are : lines ≡ value_lines values

-- and no further one is whole
pub record HasGivenAll (d : Decoder) (stream lines : List ℕ) : Type 0 where
  pub given : HasGivenLines d stream lines
  pub front : IsFront given.rest

-- the lines are those of values that begin the stream
abbrev pub AreLinesOf : List ℕ → List ℕ → Type 0
AreLinesOf stream lines = (vs : List Value) × (from : ℕ) × (rest : List ℕ) × Leads 0 stream vs from rest × (lines ≡ value_lines vs)

-- the lines are those of values that begin the stream, and after these comes a fault
abbrev pub HasFaultAfter : List ℕ → List ℕ → WireKind → ℕ → Type 0
HasFaultAfter stream lines kind place =
    (vs : List Value) × (from : ℕ) × (rest : List ℕ) × Leads 0 stream vs from rest × IsFault from rest kind place × (lines ≡ value_lines vs)

-- what came of asking for lines
abbrev pub GivesLines : Decoder → List ℕ → List ℕ → NextLine → Type 0
GivesLines d stream lines Added = HasGivenLines d stream lines
GivesLines d stream lines Front = HasGivenAll d stream lines
GivesLines d stream lines (Bad kind place) = HasFaultAfter stream lines kind place
GivesLines d stream lines Memory = AreLinesOf stream lines

-- why a showing ends amid its stream
abbrev pub EndsAmid : List ℕ → List ℕ → ShowEnd → Type 0
EndsAmid stream lines (BadEnd kind place) = HasFaultAfter stream lines kind place
EndsAmid stream lines WriteFault = AreLinesOf stream lines
EndsAmid stream lines MemoryEnd = AreLinesOf stream lines
EndsAmid stream lines Whole = ⊥
EndsAmid stream lines (Unfinished place) = ⊥
EndsAmid stream lines Long = ⊥
EndsAmid stream lines ReadFault = ⊥

-- how a stream ends that was read to its end
abbrev pub EndsRead : List ℕ → List ℕ → ShowEnd → Type 0
EndsRead bytes lines Whole = IsShownEnd bytes lines Whole
EndsRead bytes lines (Unfinished place) = IsShownEnd bytes lines (Unfinished place)
EndsRead bytes lines (BadEnd kind place) = ⊥
EndsRead bytes lines Long = ⊥
EndsRead bytes lines ReadFault = ⊥
EndsRead bytes lines WriteFault = ⊥
EndsRead bytes lines MemoryEnd = ⊥

-- more lines were written, and then all are; or the showing ends amid its stream
abbrev pub Drains : Decoder → List ℕ → List ℕ → SinkView → SinkView → Option ShowEnd → Type 0
Drains d stream lines old new None = (more : List ℕ) × HasGivenAll d stream (lines ++ more) × IsWritten old new more
Drains d stream lines old new (Some end) = (more : List ℕ) × EndsAmid stream (lines ++ more) end × HasWrittenFor end old new more

-- the limit was reached, or the showing has ended
abbrev pub HasReadOn : SourceView → SourceView → SinkView → SinkView → Decoder → Option ShowEnd → Type 0
HasReadOn before now old new d None =
    (bytes : List ℕ) × (lines : List ℕ) × IsReadSoFar before now bytes × (length bytes ≡ input_limit) × HasGivenAll d bytes lines × IsWritten old new lines
HasReadOn before now old new d (Some end) = HasShown before now old new end

-- how a showing ends that has reached the limit; it never ends for want of memory there
abbrev pub HasReadPast : SourceView → SourceView → SinkView → SinkView → List ℕ → ShowEnd → Type 0
HasReadPast before now old new lines end =
    (bytes : List ℕ) × HasReadFor end before now bytes × IsShownEnd bytes lines end × (IsWritten old new lines → HasWrittenFor end old new lines)
    × (end ≡ MemoryEnd → ⊥)
