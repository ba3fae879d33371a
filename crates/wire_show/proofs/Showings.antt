-- A showing goes on.
use Rattle.std.proofs.Common.{◌≡◌, ℕ, ◌+◌, ◌≤◌, List, [], ◌∷◌, ◌++◌, length, refl, sym, ap, subst, ◌∙◌, arith, append_assoc, append-nil, length-append, inl, inr}
use Rattle.std.proofs.lemmas.Grind.{flat_map-append}
use Rattle.resp_wire.specs.declared.decoder.Decoder.{Decoder}
use Rattle.resp_wire.specs.Stands.{HasMet, IsFault, Stands}
use Rattle.wire_grammar.specs.declared.kind.WireKind.{WireKind}
use Rattle.wire_grammar.specs.Spells.{IsFront, Spells}
use Rattle.wire_grammar.specs.Reads.{Front, read, read_on}
use Rattle.wire_grammar.proofs.Limited.{front_says, limited_front}
use Rattle.wire_grammar.proofs.StreamLaws.{leads_on, leads_one}
use Rattle.wire_show.specs.declared.showing.NextLine.{NextLine}
use Rattle.wire_show.specs.declared.showing.NextLine.TheVariants.{Added, Front as NextFront, Bad, Memory}
use Rattle.wire_show.specs.Runs.{AreLinesOf, GivesLines, HasFaultAfter, HasGivenAll, HasGivenLines}
use Rattle.wire_show.specs.Shows.{value_line, value_lines}
use Rattle.wire_values.specs.declared.value.Value.{Value}

-- nothing is a front
pub empty_front : IsFront []
empty_front = front_says 0 [] (limited_front 0 [] (omega arith) refl)

pub nothing_given : (d : Decoder) → Stands d 0 [] → HasGivenAll d [] []
nothing_given d s = record { given = record { values = []; from = 0; rest = []; leads = (refl, refl); stands = s; lines_are = refl }; front = empty_front }

lines_one : (vs : List Value) (v : Value) → value_lines (vs ++ v ∷ []) ≡ value_lines vs ++ value_line v
lines_one vs v = flat_map-append value_line vs (v ∷ []) ∙ ap (λ l. value_lines vs ++ l) (append-nil (value_line v))

module _ (d e : Decoder) (stream lines : List ℕ) (h : HasGivenLines d stream lines) where
  -- a value more was given
  pub gave_line : (v : Value) → ((before : ℕ) (rest : List ℕ) → Stands d before rest → (front : List ℕ) × (more : List ℕ) × (rest ≡ front ++ more) × Spells v front × Stands e (before + length front) more)
      → HasGivenLines e stream (lines ++ value_line v)
  gave_line v next =
      let n = next h.from h.rest h.stands in
      record {
        values = h.values ++ v ∷ [];
        from = h.from + length n.0;
        rest = n.1;
        leads = leads_one 0 stream h.values h.from h.rest v n.0 n.1 h.leads n.2 n.3;
        stands = n.4;
        lines_are = ap (λ l. l ++ value_line v) h.lines_are ∙ sym (lines_one h.values v);
      }

  -- no value is whole
  pub gave_none : ((before : ℕ) (rest : List ℕ) → Stands d before rest → IsFront rest × Stands e before rest) → HasGivenAll e stream lines
  gave_none next =
      let n = next h.from h.rest h.stands in
      record { given = record { values = h.values; from = h.from; rest = h.rest; leads = h.leads; stands = n.1; lines_are = h.lines_are }; front = n.0 }

  -- the rest has a fault
  pub gave_fault : (kind : WireKind) (place : ℕ) → ((before : ℕ) (rest : List ℕ) → Stands d before rest → IsFault before rest kind place × Stands e before rest × HasMet e kind place) → HasFaultAfter stream lines kind place
  gave_fault kind place next = (h.values, h.from, h.rest, h.leads, (next h.from h.rest h.stands).0, h.lines_are)

  -- a piece was fed
  pub fed : (piece : List ℕ) → ((before : ℕ) (rest : List ℕ) → Stands d before rest → Stands e before (rest ++ piece)) → HasGivenLines e (stream ++ piece) lines
  fed piece next = record {
    values = h.values;
    from = h.from;
    rest = h.rest ++ piece;
    leads = leads_on 0 stream h.values h.from h.rest piece h.leads;
    stands = next h.from h.rest h.stands;
    lines_are = h.lines_are;
  }

-- the lines so far
pub lines_of_given : (d : Decoder) (stream lines : List ℕ) → HasGivenLines d stream lines → AreLinesOf stream lines
lines_of_given d stream lines h = (h.values, h.from, h.rest, h.leads, h.lines_are)

pub lines_of_more : (stream piece lines : List ℕ) → AreLinesOf stream lines → AreLinesOf (stream ++ piece) lines
lines_of_more stream piece lines h = (h.0, h.1, h.2 ++ piece, leads_on 0 stream h.0 h.1 h.2 piece h.3, h.4)

-- the lines that asking for more gave
pub lines_of_gives : (d : Decoder) (stream lines : List ℕ) (next : NextLine) → GivesLines d stream lines next → AreLinesOf stream lines
lines_of_gives d stream lines Added h = lines_of_given d stream lines h
lines_of_gives d stream lines NextFront h = lines_of_given d stream lines h.given
lines_of_gives d stream lines (Bad kind place) (vs, from, rest, leads, wrong, are) = (vs, from, rest, leads, are)
lines_of_gives d stream lines Memory h = h
