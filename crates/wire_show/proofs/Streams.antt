-- A stream of whole values has one reading.
use Rattle.std.proofs.Common.{◌≡◌, ℕ, ◌+◌, ◌<◌, ◌≤◌, List, [], ◌∷◌, ◌++◌, length, take, refl, sym, ap, subst, ◌∙◌, arith, append_assoc, append-nil, length-append, inl, inr}
use Rattle.std.specs.Prelude.{None, Some}
use Rattle.std.proofs.lemmas.Option.{none-some}
use Rattle.wire_grammar.specs.declared.kind.WireKind.{WireKind}
use Rattle.wire_grammar.specs.Reads.{Front, Got, Reading, Wrong, read, wire_fault}
use Rattle.wire_grammar.specs.Spells.{IsFront, Spells}
use Rattle.wire_grammar.specs.Streams.{Leads}
use Rattle.wire_grammar.proofs.Limited.{fault_is, limited_front, one_holds, read_spelled}
use Rattle.wire_grammar.proofs.StreamLaws.{leads_on}
use Rattle.wire_show.specs.Shows.{IsBadStream, IsUnfinishedStream, IsWholeStream, input_limit}
use Rattle.wire_show.proofs.Showings.{empty_front}
use Rattle.wire_show.proofs.Endings.{uncut}
use Rattle.wire_values.specs.declared.value.Value.{Value}
use Rattle.wire_values.specs.declared.value.Value.TheVariants.{NullBulk}

got_front : (v : Value) (q : ℕ) (rest : List ℕ) → Got v q rest ≡ Front → ⊥
got_front v q rest e = cc

abbrev place_in : Reading → ℕ
place_in (Got v q rest) = q
place_in Front = 0
place_in (Wrong kind q) = q

abbrev rest_in : Reading → List ℕ
rest_in (Got v q rest) = rest
rest_in Front = []
rest_in (Wrong kind q) = []

-- nothing is spelled by no bytes
not_empty : (p : ℕ) (v : Value) (front more : List ℕ) → [] ≡ front ++ more → Spells v front → ⊥
not_empty p v front more e s = got_front v (p + length front) more (sym (read_spelled v front more p s) ∙ ap (read p) (sym e) ∙ limited_front p [] (omega arith) refl)

-- what follows some of a stream's values are the others
leads_split : (p : ℕ) (s : List ℕ) (vs : List Value) (q : ℕ) (rest : List ℕ) (ws : List Value) (end : ℕ) → Leads p s vs q rest → Leads p s ws end [] → (us : List Value) × Leads q rest us end []
leads_split p s [] q rest ws end a b = (ws, subst (λ (i : ℕ). Leads i rest ws end []) a.1 (subst (λ (l : List ℕ). Leads p l ws end []) a.0 b))
leads_split p s (v ∷ vs) q rest [] end a b = absurd (not_empty p v a.0 a.1 (sym b.0 ∙ a.2) a.3)
leads_split p s (v ∷ vs) q rest (w ∷ ws) end a b =
    let same : Got v (p + length a.0) a.1 ≡ Got w (p + length b.0) b.1 =
    sym (read_spelled v a.0 a.1 p a.3) ∙ ap (read p) (sym a.2 ∙ b.2) ∙ read_spelled w b.0 b.1 p b.3 in
    let place : p + length a.0 ≡ p + length b.0 = ap place_in same in
    let more : a.1 ≡ b.1 = ap rest_in same in
    leads_split (p + length a.0) a.1 vs q rest ws end a.4
    (subst (λ (i : ℕ). Leads i a.1 ws end []) (sym place) (subst (λ (l : List ℕ). Leads (p + length b.0) l ws end []) (sym more) b.4))

-- after the values of a whole stream nothing is wrong
no_fault : (q : ℕ) (rest : List ℕ) (us : List Value) (end : ℕ) → Leads q rest us end [] → wire_fault q rest ≡ None
no_fault q rest [] end l = ap (wire_fault q) l.0 ∙ (one_holds q []).front empty_front
no_fault q rest (u ∷ us) end l = (one_holds q rest).begun (u, l.0, l.1, l.2, l.3)

-- and nothing is unfinished
no_front : (q : ℕ) (rest : List ℕ) (us : List Value) (end : ℕ) → Leads q rest us end [] → IsFront rest → 0 < length rest → ⊥
no_front q rest [] end l f some = omega (arith, ap length l.0, some)
no_front q rest (u ∷ us) end l f some = f.none u l.0 l.1 l.2 l.3

pub whole_not_bad : (stream bytes more : List ℕ) (ws vs : List Value) (kind : WireKind) (place : ℕ) → IsWholeStream stream ws → stream ≡ bytes ++ more → IsBadStream bytes vs kind place → ⊥
whole_not_bad stream bytes more ws vs kind place whole split (from, rest, leads, wrong) =
    let short : length bytes ≤ input_limit = omega (arith, ap length split, length-append bytes more, whole.0) in
    let all : Leads 0 stream vs from (rest ++ more) =
    subst (λ (s : List ℕ). Leads 0 s vs from (rest ++ more)) (sym split)
    (leads_on 0 bytes vs from rest more (subst (λ (s : List ℕ). Leads 0 s vs from rest) (uncut bytes short) leads)) in
    let (us, others) = leads_split 0 stream vs from (rest ++ more) ws whole.1 all whole.2 in
    let still : wire_fault from (rest ++ more) ≡ Some (kind, place) = (fault_is from rest more kind place wrong).1 in
    none-some (kind, place) (sym (no_fault from (rest ++ more) us whole.1 others) ∙ still)

pub whole_not_unfinished : (stream : List ℕ) (ws vs : List Value) (place : ℕ) → IsWholeStream stream ws → IsUnfinishedStream stream vs place → ⊥
whole_not_unfinished stream ws vs place whole (within, rest, leads, some, front) =
    let (us, others) = leads_split 0 stream vs place rest ws whole.1 leads whole.2 in
    no_front place rest us whole.1 others front some
