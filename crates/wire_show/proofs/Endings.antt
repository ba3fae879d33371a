-- How showings end.
use Rattle.std.proofs.Common.{◌≡◌, ℕ, ◌+◌, ◌-◌, ◌^◌, ◌<◌, ◌≤◌, List, [], ◌∷◌, ◌++◌, length, take, refl, sym, ap, subst, ◌∙◌, arith, append_assoc, append-nil, length-append, inl, inr}
use Rattle.std.specs.Io.KnownBytes.{Consumes}
use Rattle.std.specs.Prelude.{◌⊎◌, None, Some, min}
use Rattle.std.proofs.lemmas.List.{take-append-le, take_all}
use Rattle.std.proofs.lemmas.Grind.{common_steps}
use Rattle.links.specs.Causes.{Rose}
use Rattle.links.specs.Ends.{HasReadUpTo, IsPast, IsWholeInput}
use Rattle.links.specs.Views.{SinkView, SourceView}
use Rattle.resp_wire.specs.declared.decoder.Decoder.{Decoder}
use Rattle.resp_wire.specs.Stands.{IsFault, Stands, held_to}
use Rattle.wire_grammar.specs.declared.kind.WireKind.{WireKind}
use Rattle.wire_grammar.specs.Faults.{IsWrongAt}
use Rattle.wire_grammar.specs.Reads.{wire_fault}
use Rattle.wire_grammar.specs.Spells.{IsFront}
use Rattle.wire_grammar.specs.Streams.{Leads}
use Rattle.wire_grammar.proofs.Limited.{fault_is}
use Rattle.wire_grammar.proofs.StreamLaws.{leads_place}
use Rattle.wire_show.specs.Runs.{AreLinesOf, Drains, EndsAmid, EndsRead, HasFaultAfter, HasGivenAll, HasGivenLines}
use Rattle.wire_show.specs.Shows.{EndsShown, HasReadFor, HasShown, HasWrittenFor, IsBegunStream, IsCutShort, IsReadSoFar, IsShownEnd, IsWritten, input_limit, value_lines}
use Rattle.wire_show.specs.declared.ending.ShowEnd.{ShowEnd}
use Rattle.wire_show.specs.declared.ending.ShowEnd.TheVariants.{Whole, Bad, Unfinished, Long, ReadFault, WriteFault, Memory}
use Rattle.wire_show.proofs.Sources.{cut_more, read_more, written_more}
use Rattle.wire_values.specs.declared.value.Value.{Value}

-- a fault lies within the bytes, or just past them
wrong_within : (p : ℕ) (b : List ℕ) (kind : WireKind) (q : ℕ) → IsWrongAt p b kind q → q ≤ p + length b
wrong_within p b kind q (inl s) = omega (arith, s.place, ap length s.cut, length-append s.front (s.byte ∷ s.rest))
wrong_within p b kind q (inr l) = omega (arith, l.place, l.long)

pub fault_within : (p : ℕ) (b : List ℕ) (kind : WireKind) (q : ℕ) → wire_fault p b ≡ Some (kind, q) → q ≤ p + length b
fault_within p b kind q e = wrong_within p b kind q (fault_is p b [] kind q e).0

-- a stream within the limit is not cut
pub uncut : (stream : List ℕ) → length stream ≤ input_limit → take input_limit stream ≡ stream
uncut stream within = take_all input_limit stream within

pub uncut_leads : (stream : List ℕ) (vs : List Value) (from : ℕ) (rest : List ℕ) → length stream ≤ input_limit → Leads 0 stream vs from rest → Leads 0 (take input_limit stream) vs from rest
uncut_leads stream vs from rest within l = subst (λ (s : List ℕ). Leads 0 s vs from rest) (sym (uncut stream within)) l

-- a place within the limit is told as it is
held_small : (q place : ℕ) → q ≤ input_limit → place ≡ held_to q → place ≡ q
held_small q place small e = omega (arith, small, e)

-- an ending amid the stream
module _ (stream lines : List ℕ) (within : length stream ≤ input_limit) where
  pub amid_bad : (kind : WireKind) (place : ℕ) → HasFaultAfter stream lines kind place → IsShownEnd stream lines (Bad kind place)
  amid_bad kind place (vs, from, rest, leads, (q, wrong, held), are) =
      let here : place ≡ q = held_small q place (omega (arith, fault_within from rest kind q wrong, leads_place 0 stream vs from rest leads, within)) held in
      (vs, (from, rest, uncut_leads stream vs from rest within leads, subst (λ (i : ℕ). wire_fault from rest ≡ Some (kind, i)) (sym here) wrong), are)

  pub amid_memory : AreLinesOf stream lines → IsShownEnd stream lines Memory
  amid_memory (vs, from, rest, leads, are) = (vs, (from, rest, uncut_leads stream vs from rest within leads), are)

  pub amid_write : AreLinesOf stream lines → IsShownEnd stream lines WriteFault
  amid_write (vs, from, rest, leads, are) = (vs, (from, rest, uncut_leads stream vs from rest within leads), are)

module _ (b n : SourceView) (o m x : SinkView) (stream lines more : List ℕ) (read : IsReadSoFar b n stream) (within : length stream ≤ input_limit) (written : IsWritten o m lines) where
  pub shown_amid : (end : ShowEnd) → EndsAmid stream (lines ++ more) end → HasWrittenFor end m x more → HasShown b n o x end
  shown_amid (Bad kind place) e w = (stream, lines ++ more, read, amid_bad stream (lines ++ more) within kind place e, written_more o m x lines more written w.0 w.1)
  shown_amid WriteFault e w = (stream, lines ++ more, read, amid_write stream (lines ++ more) within e, cut_more o m x lines more written w)
  shown_amid Memory e w = (stream, lines ++ more, read, amid_memory stream (lines ++ more) within e, written_more o m x lines more written w.0 w.1)
  shown_amid Whole e w = absurd e
  shown_amid (Unfinished place) e w = absurd e
  shown_amid Long e w = absurd e
  shown_amid ReadFault e w = absurd e

-- an ending at the end of the source
pub ends_read : (b n : SourceView) (stream lines : List ℕ) (end : ShowEnd) → EndsRead stream lines end → IsWholeInput input_limit b n stream
    → HasReadFor end b n stream × IsShownEnd stream lines end × ((o x : SinkView) → IsWritten o x lines → HasWrittenFor end o x lines)
ends_read b n stream lines Whole e w = (w, e, λ o x i. i)
ends_read b n stream lines (Unfinished place) e w = (w, e, λ o x i. i)
ends_read b n stream lines (Bad kind place) e w = absurd e
ends_read b n stream lines Long e w = absurd e
ends_read b n stream lines ReadFault e w = absurd e
ends_read b n stream lines WriteFault e w = absurd e
ends_read b n stream lines Memory e w = absurd e

-- such an ending is no want of memory
pub ends_read_held : (stream lines : List ℕ) (end : ShowEnd) → EndsRead stream lines end → end ≡ Memory → ⊥
ends_read_held stream lines end e is = subst (EndsRead stream lines) is e

module _ (d : Decoder) (stream lines : List ℕ) (h : HasGivenAll d stream lines) where
  -- how many bytes are left, and where they begin
  rest_place : h.given.from + length h.given.rest ≡ length stream
  rest_place = omega (arith, leads_place 0 stream h.given.values h.given.from h.given.rest h.given.leads)

  pub ended_unfinished : (left place : ℕ) → length stream ≤ input_limit → left ≡ held_to (length h.given.rest) → 0 < left → place ≡ length stream - left → EndsRead stream lines (Unfinished place)
  ended_unfinished left place within is some at =
      let exact : left ≡ length h.given.rest = held_small (length h.given.rest) left (omega (arith, rest_place, within)) is in
      let here : place ≡ h.given.from = omega (arith, at, exact, rest_place) in
      let there : 0 < length h.given.rest = omega (arith, exact, some) in
      (h.given.values, (within, h.given.rest, subst (λ (i : ℕ). Leads 0 stream h.given.values i h.given.rest) (sym here) h.given.leads, there, h.front), h.given.lines_are)

  no_bytes : (l : List ℕ) → length l ≡ 0 → l ≡ []
  no_bytes [] e = refl
  no_bytes (x ∷ xs) e = absurd (omega (arith, e))

  pub ended_whole : length stream ≤ input_limit → held_to (length h.given.rest) ≡ 0 → EndsRead stream lines Whole
  ended_whole within is =
      let none : h.given.rest ≡ [] = no_bytes h.given.rest (omega (arith, is)) in
      (h.given.values, (within, h.given.from, subst (λ (r : List ℕ). Leads 0 stream h.given.values h.given.from r) none h.given.leads), h.given.lines_are)

  -- the source failed, after all values were shown
  pub failed_shown : length stream ≤ input_limit → IsShownEnd stream lines ReadFault
  failed_shown within = (h.given.values, (within, (h.given.from, h.given.rest, h.given.leads, h.front)), h.given.lines_are)

  -- there is a byte past the limit
  pub long_shown : (more : List ℕ) → length stream ≡ input_limit → length more ≡ 1 → IsShownEnd (stream ++ more) lines Long
  long_shown more full one =
      let cut : take input_limit (stream ++ more) ≡ stream = take-append-le input_limit stream more (omega (arith, full)) ∙ uncut stream (omega (arith, full)) in
      (h.given.values, (omega (arith, length-append stream more, full, one), (h.given.from, h.given.rest, subst (λ (s : List ℕ). Leads 0 s h.given.values h.given.from h.given.rest) (sym cut) h.given.leads, h.front)), h.given.lines_are)

-- a piece was read, and its values shown
module _ (b m n : SourceView) (o k x : SinkView) (d e : Decoder) (bytes lines : List ℕ) (read : IsReadSoFar b m bytes) (written : IsWritten o k lines)
    (got : List ℕ) (consumed : Consumes m.left n.left got) (unended : n.ends ≡ m.ends) (kept : n.faults ≡ m.faults) (within : length bytes + length got ≤ input_limit) where
  so_far : IsReadSoFar b n (bytes ++ got)
  so_far = read_more b m n bytes read got consumed unended kept within

  pub piece_shown : Drains e (bytes ++ got) lines k x None
      → (all : List ℕ) × (shown : List ℕ) × (length all ≡ length bytes + length got) × HasGivenAll e all shown × IsReadSoFar b n all × IsWritten o x shown
  piece_shown (more, given, wrote) = (bytes ++ got, lines ++ more, length-append bytes got, given, so_far, written_more o k x lines more written wrote.0 wrote.1)

  pub piece_ended : (end : ShowEnd) → Drains e (bytes ++ got) lines k x (Some end) → HasShown b n o x end
  piece_ended end (more, amid, wrote) = shown_amid b n o k x (bytes ++ got) lines more so_far (omega (arith, length-append bytes got, within)) written end amid wrote

-- however a stream ends, the values that are shown begin it
pub ends_begun : (stream : List ℕ) (vs : List Value) (end : ShowEnd) → EndsShown stream vs end → IsBegunStream stream vs
ends_begun stream vs Whole (within, from, leads) = (from, [], uncut_leads stream vs from [] within leads)
ends_begun stream vs (Bad kind place) (from, rest, leads, wrong) = (from, rest, leads)
ends_begun stream vs (Unfinished place) (within, rest, leads, some, front) = (place, rest, uncut_leads stream vs place rest within leads)
ends_begun stream vs Long (over, (from, rest, leads, front)) = (from, rest, leads)
ends_begun stream vs ReadFault (within, (from, rest, leads, front)) = (from, rest, uncut_leads stream vs from rest within leads)
ends_begun stream vs WriteFault begun = begun
ends_begun stream vs Memory begun = begun
