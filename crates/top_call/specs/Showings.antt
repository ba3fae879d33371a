-- What each status of a run of `show` says by itself.
use Rattle.std.specs.Io.KnownBytes.{Appends, Consumes}
use Rattle.std.specs.Prelude.{Contains, List, None, Option, Some, [], ℕ, ◌++◌, ◌∷◌, ◌≡◌, ◌≤◌, ◌⊎◌}
use Rattle.links.specs.Causes.{AppendsFront, Rose}
use Rattle.links.specs.Ends.{HasReadUpTo, IsPast, IsWholeInput}
use Rattle.links.specs.Views.{SinkView, SourceView}
use Rattle.top_call.specs.Endings.{IsToldFor, telling, text_of}
use Rattle.top_call.specs.declared.ending.End.TheVariants.{BadByte, LongStream, Memory, ReadFault, Unfinished}
use Rattle.top_call.specs.declared.ending.End.{End}
use Rattle.top_call.specs.declared.ending.Ended.{Ended}
use Rattle.wire_grammar.specs.declared.kind.WireKind.{WireKind}
use Rattle.wire_show.specs.Shows.{EndsShown, HasReadFor, IsBadStream, IsBegunStream, IsGoingOn, IsLongStream, IsReadSoFar, IsUnfinishedStream, IsWholeStream, input_limit, value_lines}
use Rattle.wire_show.specs.declared.ending.ShowEnd.{ShowEnd}
use Rattle.wire_values.specs.declared.value.Value.{Value}

-- the lines of these values were written, and then this text
abbrev pub WritesLines : SinkView → SinkView → List Value → List ℕ → Type 0
WritesLines old new vs text = Appends old.taken new.taken (value_lines vs ++ text)

-- a byte is wrong: the values before it are in these bytes, which were read
abbrev pub IsByteWrong : SourceView → SourceView → SinkView → SinkView → ℕ → Type 0
IsByteWrong before now old new place = (bytes : List ℕ) × (vs : List Value) × (kind : WireKind)
    × IsReadSoFar before now bytes × IsBadStream bytes vs kind place × WritesLines old new vs (text_of (BadByte kind place))

-- the whole input ends within the value that begins at this place
abbrev pub IsEndWithin : SourceView → SourceView → SinkView → SinkView → ℕ → Type 0
IsEndWithin before now old new place = (bytes : List ℕ) × (vs : List Value)
    × IsWholeInput input_limit before now bytes × IsUnfinishedStream bytes vs place × WritesLines old new vs (text_of (Unfinished place))

-- there is a byte past the limit, and none before it is wrong
abbrev pub IsPastShowing : SourceView → SourceView → SinkView → SinkView → ℕ → Type 0
IsPastShowing before now old new place = (place ≡ input_limit) × ((bytes : List ℕ) × (vs : List Value)
    × IsPast input_limit before now bytes × IsLongStream bytes vs × WritesLines old new vs (text_of LongStream))

-- status 0: the whole input is these values, and just their lines were written
abbrev pub IsAllShown : SourceView → SourceView → SinkView → SinkView → Type 0
IsAllShown before now old new = (bytes : List ℕ) × (vs : List Value)
    × IsWholeInput input_limit before now bytes × IsWholeStream bytes vs × Appends old.taken new.taken (value_lines vs)

-- status 4: the source's count rose; the lines of all values that are whole in what was read were written, and then its text
abbrev pub IsReadCut : SourceView → SourceView → SinkView → SinkView → Type 0
IsReadCut before now old new = (before.faults ≤ now.faults) × Rose before.faults now.faults × ((bytes : List ℕ) × (vs : List Value)
    × HasReadUpTo input_limit before now bytes × IsGoingOn bytes vs × WritesLines old new vs (text_of ReadFault))

-- the sink failed within these lines, or within the text that was told of this ending after them
abbrev pub IsCutAfter : SinkView → SinkView → List Value → Option End → Type 0
IsCutAfter old new vs None = AppendsFront old.taken new.taken (value_lines vs)
IsCutAfter old new vs (Some end) = (told : End) × IsToldFor end told × AppendsFront old.taken new.taken (value_lines vs ++ text_of told)

-- status 5: the sink's count rose, within the lines of the values that are shown of what was read, or within the text of
-- how that ends
abbrev pub IsWriteCut : SourceView → SourceView → SinkView → SinkView → Type 0
IsWriteCut before now old new = (old.faults ≤ new.faults) × Rose old.faults new.faults × ((bytes : List ℕ) × (vs : List Value) × (end : ShowEnd)
    × HasReadFor end before now bytes × EndsShown bytes vs end × IsCutAfter old new vs (telling end))

-- status 11: the source didn't fail; the lines of values that begin what was read were written, and then its text
abbrev pub IsMemoryCut : SourceView → SourceView → SinkView → SinkView → Type 0
IsMemoryCut before now old new = (now.faults ≡ before.faults) × ((bytes : List ℕ) × (vs : List Value)
    × Consumes before.left now.left bytes × IsBegunStream bytes vs × WritesLines old new vs (text_of Memory))

-- what each status of `show` says, and which it can have
pub record IsShowing (before now : SourceView) (old new : SinkView) (result : Ended) : Type 0 where
  pub whole : result.status ≡ 0 → IsAllShown before now old new
  pub wrong : result.status ≡ 3 → IsByteWrong before now old new result.place ⊎ (IsEndWithin before now old new result.place ⊎ IsPastShowing before now old new result.place)
  pub read_fault : result.status ≡ 4 → IsReadCut before now old new
  pub write_fault : result.status ≡ 5 → IsWriteCut before now old new
  pub out_of_memory : result.status ≡ 11 → IsMemoryCut before now old new
  pub statuses : Contains (0 ∷ 3 ∷ 4 ∷ 5 ∷ 11 ∷ []) result.status
  pub complete : (stream : List ℕ) (vs : List Value) → before.left ≡ Some stream → IsWholeStream stream vs
      → ¬ (Rose before.faults now.faults) → ¬ (Rose old.faults new.faults) → Contains (0 ∷ 11 ∷ []) result.status
