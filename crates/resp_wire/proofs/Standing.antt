-- How a decoder stands after a span.
use Rattle.std.proofs.Common.{◌≡◌, ℕ, zero, suc, ◌+◌, ◌-◌, ◌<◌, ◌≤◌, List, [], ◌∷◌, ◌++◌, length, take, drop, false, refl, sym, ap, subst, ◌∙◌, arith, append_assoc, length-append, append-nil, drop_of_length-le, length-drop}
use Rattle.std.proofs.Math.Seq.{drop-drop}
use Rattle.std.specs.Prelude.{Option, Some, None, Ok, Err}
use Rattle.wire_values.specs.declared.value.Value.{Value}
use Rattle.wire_grammar.specs.declared.kind.WireKind.{WireKind}
use Rattle.wire_grammar.specs.declared.kind.WireKind.TheVariants.{TooLong}
use Rattle.wire_grammar.specs.Limits.{value_limit}
use Rattle.wire_grammar.specs.Spells.{Spells, IsFront}
use Rattle.wire_grammar.specs.Reads.{Got, Front, Wrong, Next, wire_value_at, read_on, read, fault_of}
use Rattle.wire_grammar.proofs.Limited.{take_drop, limited_got, limited_wrong, limited_long, limited_front, got_says, front_says}
use Rattle.resp_wire.specs.declared.decoder.Decoder.{Decoder}
use Rattle.resp_wire.specs.declared.decoder.FoundFault.{FoundFault}
use Rattle.resp_wire.specs.declared.state.Open.{Open}
use Rattle.resp_wire.specs.declared.state.Phase.{Phase}
use Rattle.resp_wire.specs.declared.state.Phase.TheVariants.{Content, At}
use Rattle.resp_wire.specs.declared.state.WireSpot.{WireSpot}
use Rattle.resp_wire.specs.declared.state.WireSpot.TheVariants.{Begin, Text, TextFeed, First, Minus, Zero, Digits, Feed, Return, Line}
use Rattle.resp_wire.specs.declared.state.StepFault.TheVariants.{Bad}
use Rattle.resp_wire.specs.Steps.{WireState, state}
use Rattle.resp_wire.specs.Meanings.{room, up, at_spot_on, in_phase_on, wire_goes_on}
use Rattle.resp_wire.specs.Stands.{held_to, Reads, HasFoundFault, StandsBy, Stands, HasMet, IsFault}
use Rattle.resp_wire.specs.Moves.{Advances, HasStayed, HasOnlyMarked, HasMoved, HasGivenOne, HasCleared, HasFed, HasCounted, IsSpan, ahead_of, unread_of}
use Rattle.resp_wire.proofs.Spans.{span_length, byte_of, ahead_byte}

-- a new value
pub anew : (s : WireState) (p : ℕ) (cs : List ℕ) → s.phase ≡ At Begin → s.opens ≡ [] → read_on p cs ≡ wire_goes_on s p cs
anew s p cs e f = sym (λ j. in_phase_on (e j) s.number s.bytes (f j) p cs)

silent_value : (d : ℕ) (k : Next Value) (p : ℕ) → wire_value_at d k p [] ≡ Front
silent_value zero k p = refl
silent_value (suc d) k p = refl

silent_at : (f : WireSpot) (n : ℕ) (b : List ℕ) (os : List Open) (p : ℕ) → at_spot_on f n b os p [] ≡ Front
silent_at Begin n b os p = silent_value (room os) (up os) p
silent_at (Text t) n b os p = refl
silent_at (TextFeed t) n b os p = refl
silent_at (First w) n b os p = refl
silent_at (Minus w) n b os p = refl
silent_at (Zero w) n b os p = refl
silent_at (Digits w negative) n b os p = refl
silent_at (Feed w negative) n b os p = refl
silent_at Return n b os p = refl
silent_at Line n b os p = refl

silent_in : (f : Phase) (n : ℕ) (b : List ℕ) (os : List Open) (p : ℕ) → in_phase_on f n b os p [] ≡ Front
silent_in Content n b os p = refl
silent_in (At f) n b os p = silent_at f n b os p

-- where no byte is left, what was taken is a front
silent : (s : WireState) (p : ℕ) → wire_goes_on s p [] ≡ Front
silent s p = silent_in s.phase s.number s.bytes s.opens p

reading : (d : Decoder) (before : ℕ) (rest : List ℕ) → d.fault ≡ None → Stands d before rest → (front : List ℕ) × Reads d before rest front
reading d before rest e s = subst (λ (f : Option FoundFault). StandsBy f d before rest) e s.1

standing : (d : Decoder) (before : ℕ) (rest front : List ℕ) → d.spent ≡ false → d.fault ≡ None → Reads d before rest front → Stands d before rest
standing d before rest front fresh e r = (fresh, subst (λ (f : Option FoundFault). StandsBy f d before rest) (sym e) (front, r))

broken : (d : Decoder) (before : ℕ) (rest : List ℕ) (f : FoundFault) (q : ℕ) → d.spent ≡ false → d.fault ≡ Some f → HasFoundFault d before rest f q → Stands d before rest
broken d before rest f q fresh e w = (fresh, subst (λ (o : Option FoundFault). StandsBy o d before rest) (sym e) (q, w))

-- what was taken and a span more
front_span : (d : Decoder) (before : ℕ) (rest front : List ℕ) (n : ℕ) → Reads d before rest front → rest ≡ (front ++ take n (ahead_of d)) ++ drop n (ahead_of d)
front_span d before rest front n r = r.cut ∙ ap (λ l. front ++ l) (sym (take_drop n (ahead_of d))) ∙ sym (append_assoc front (take n (ahead_of d)) (drop n (ahead_of d)))

module _ (d e : Decoder) (stayed : HasStayed d e) (before : ℕ) (rest front : List ℕ) (r : Reads d before rest front) where
  module _ (k : ℕ) (span : IsSpan d k) (on : Advances d e k (Ok None)) where
    abbrev longer : List ℕ
    longer = front ++ take k (ahead_of d)

    longer_length : length longer ≡ length front + k
    longer_length = length-append front (take k (ahead_of d)) ∙ ap (λ (i : ℕ). length front + i) (span_length d k span)

    longer_means : (cs : List ℕ) → read_on before (longer ++ cs) ≡ wire_goes_on (state e.core) (before + length longer) cs
    longer_means cs =
        let q : before + length front + k ≡ before + length longer = omega (arith, longer_length) in
        ap (read_on before) (append_assoc front (take k (ahead_of d)) cs) ∙ r.means (take k (ahead_of d) ++ cs) ∙ on (before + length front) cs ∙ ap (λ (i : ℕ). wire_goes_on (state e.core) i cs) q

    moved_reads : (n : Decoder) → HasMoved e n k → Reads n before rest longer
    moved_reads n moved = record {
      cut = front_span d before rest front k r ∙ ap (λ l. longer ++ l) (drop-drop k d.at d.unread.items ∙ sym (λ j. drop (stayed.at j + k) (stayed.unread j)) ∙ sym (λ j. drop (moved.at j) (moved.unread j)));
      means = λ cs. longer_means cs ∙ ap (λ (c : _). wire_goes_on (state c) (before + length longer) cs) (sym moved.core);
      start = moved.start ∙ stayed.start ∙ r.start;
      held = omega (arith, moved.held, stayed.held, r.held, longer_length);
      later = moved.later ∙ stayed.later ∙ r.later;
    }

    long_wrong : k + d.held ≡ value_limit → (cs : List ℕ) → read before (rest ++ cs) ≡ Wrong TooLong (before + value_limit)
    long_wrong full cs =
        ap (read before) (ap (λ l. l ++ cs) (front_span d before rest front k r) ∙ append_assoc longer (drop k (ahead_of d)) cs)
        ∙ limited_long before longer (drop k (ahead_of d) ++ cs) (omega (arith, longer_length, full, r.held)) (ap (read_on before) (sym (append-nil longer)) ∙ longer_means [] ∙ silent (state e.core) (before + length longer))

  kept_later : (n : Decoder) → HasOnlyMarked e n → held_to (n.held + (length n.unread.items - n.at) + n.later) ≡ held_to (length rest)
  kept_later n kept =
      let lengths : length rest ≡ length front + (length d.unread.items - d.at) = ap length r.cut ∙ length-append front (ahead_of d) ∙ ap (λ (i : ℕ). length front + i) (length-drop d.at d.unread.items) in
      let same : n.held + (length n.unread.items - n.at) + n.later ≡ d.held + (length d.unread.items - d.at) + d.later =
      (λ j. kept.held j + (length (kept.unread j) - kept.at j) + kept.later j) ∙ (λ j. stayed.held j + (length (stayed.unread j) - stayed.at j) + stayed.later j) in
      ap held_to (omega (arith, same, lengths, r.held, r.later))

  byte_cut : 0 < unread_of d → rest ≡ front ++ byte_of d ∷ drop (d.at + 1) d.unread.items
  byte_cut some = r.cut ∙ ap (λ l. front ++ l) (ahead_byte d some)

  -- a byte that is wrong
  stuck : (k : ℕ) (kind : WireKind) → 0 < unread_of d → d.held < value_limit → Advances d e k (Err (Bad kind)) → (cs : List ℕ) → read before (rest ++ cs) ≡ Wrong kind (before + length front)
  stuck k kind some short is cs =
      ap (read before) (ap (λ l. l ++ cs) (byte_cut some) ∙ append_assoc front (byte_of d ∷ drop (d.at + 1) d.unread.items) cs)
      ∙ limited_wrong before front (drop (d.at + 1) d.unread.items ++ cs) (byte_of d) kind (before + length front) (omega (arith, short, r.held)) (λ more. r.means (byte_of d ∷ more) ∙ is (before + length front) more)

  -- a whole value
  gave_here : (n : Decoder) (k : ℕ) (v : Value) → 0 < unread_of d → d.held < value_limit → Advances d e k (Ok (Some v)) → HasGivenOne e n → n.spent ≡ false → n.fault ≡ None
      → (f2 : List ℕ) × (more : List ℕ) × (rest ≡ f2 ++ more) × Spells v f2 × Stands n (before + length f2) more
  gave_here n k v some short is ended fresh sound =
      let more : List ℕ = drop (d.at + 1) d.unread.items in
      let one : List ℕ = front ++ byte_of d ∷ [] in
      let length_one : length one ≡ length front + 1 = length-append front (byte_of d ∷ []) in
      let got : (cs : List ℕ) → read_on before (one ++ cs) ≡ Got v (before + length front + 1) cs =
      λ cs. ap (read_on before) (append_assoc front (byte_of d ∷ []) cs) ∙ r.means (byte_of d ∷ cs) ∙ is.0 (before + length front) cs in
      let cut : rest ≡ one ++ more = byte_cut some ∙ sym (append_assoc front (byte_of d ∷ []) more) in
      let g = got_says before rest v (before + length front + 1) more (ap (read before) cut ∙ limited_got before one more v (before + length front + 1) (omega (arith, length_one, short, r.held)) got) in
      let same : before + length front + 1 ≡ before + length g.0 = g.3 in (
        g.0,
        more,
        g.1,
        g.2,
        standing n (before + length g.0) more [] fresh sound (record {
          cut = sym (λ j. drop (stayed.at j + 1) (stayed.unread j)) ∙ sym (λ j. drop (ended.at j) (ended.unread j));
          means = λ cs. anew (state n.core) (before + length g.0) cs (ap (λ (c : _). c.phase) ended.core ∙ is.1) (ap (λ (c : _). c.opens.items) ended.core ∙ is.2) ∙ ap (λ (i : ℕ). wire_goes_on (state n.core) i cs) (let q : before + length g.0 ≡ before + length g.0 + 0 = omega arith in q);
          start = omega (arith, ended.start, stayed.start, stayed.held, r.start, r.held, same);
          held = ended.held;
          later = ended.later ∙ stayed.later ∙ r.later;
        }),
      )

-- a fault where the decoder stands
fault_stands : (n : Decoder) (before : ℕ) (rest : List ℕ) (f : FoundFault) (q : ℕ) → n.spent ≡ false → n.fault ≡ Some f → f.place ≡ held_to q → ((cs : List ℕ) → read before (rest ++ cs) ≡ Wrong f.kind q)
    → held_to (n.held + (length n.unread.items - n.at) + n.later) ≡ held_to (length rest) → IsFault before rest f.kind f.place × Stands n before rest × HasMet n f.kind f.place
fault_stands n before rest f q fresh is placed wrong later = (
  (q, ap fault_of (ap (read before) (sym (append-nil rest)) ∙ wrong []), placed),
  broken n before rest f q fresh is (record { wrong = wrong; place = placed; later = later }),
  (fresh, is),
)

module _ (d e n : Decoder) (fresh : d.spent ≡ false) (sound : d.fault ≡ None) (stayed : HasStayed d e) where
  pub moved_on : (k : ℕ) → IsSpan d k → Advances d e k (Ok None) → HasMoved e n k → (before : ℕ) (rest : List ℕ) → Stands d before rest → Stands n before rest
  moved_on k span on moved before rest s =
      let t = reading d before rest sound s in
      standing n before rest (longer d e stayed before rest t.0 t.1 k span on) (moved.spent ∙ stayed.spent ∙ fresh) (moved.fault ∙ stayed.fault ∙ sound) (moved_reads d e stayed before rest t.0 t.1 k span on n moved)

  pub gave : (k : ℕ) (v : Value) → IsSpan d k → d.held < value_limit → Advances d e k (Ok (Some v)) → HasGivenOne e n → (before : ℕ) (rest : List ℕ) → Stands d before rest
      → (f2 : List ℕ) × (more : List ℕ) × (rest ≡ f2 ++ more) × Spells v f2 × Stands n (before + length f2) more
  gave k v span short is ended before rest s =
      let t = reading d before rest sound s in
      gave_here d e stayed before rest t.0 t.1 n k v (omega (arith, span.some, span.within)) short is ended (ended.spent ∙ stayed.spent ∙ fresh) (ended.fault ∙ stayed.fault ∙ sound)

  pub failed : (k : ℕ) (f : FoundFault) → IsSpan d k → d.held < value_limit → Advances d e k (Err (Bad f.kind)) → HasOnlyMarked e n → f.place ≡ held_to (e.start + e.held) → n.fault ≡ Some f → (before : ℕ) (rest : List ℕ) → Stands d before rest
      → IsFault before rest f.kind f.place × Stands n before rest × HasMet n f.kind f.place
  failed k f span short is kept at marked before rest s =
      let t = reading d before rest sound s in
      fault_stands n before rest f (before + length t.0) (kept.spent ∙ stayed.spent ∙ fresh) marked (omega (arith, at, stayed.start, stayed.held, t.1.start, t.1.held))
      (stuck d e stayed before rest t.0 t.1 k f.kind (omega (arith, span.some, span.within)) short is) (kept_later d e stayed before rest t.0 t.1 n kept)

  pub failed_long : (k : ℕ) (f : FoundFault) → IsSpan d k → Advances d e k (Ok None) → HasOnlyMarked e n → f.kind ≡ TooLong → f.place ≡ held_to (e.start + value_limit) → n.fault ≡ Some f → k + d.held ≡ value_limit → (before : ℕ) (rest : List ℕ) → Stands d before rest
      → IsFault before rest f.kind f.place × Stands n before rest × HasMet n f.kind f.place
  failed_long k f span on kept kind at marked full before rest s =
      let t = reading d before rest sound s in
      fault_stands n before rest f (before + value_limit) (kept.spent ∙ stayed.spent ∙ fresh) marked (omega (arith, at, stayed.start, t.1.start))
      (λ cs. long_wrong d e stayed before rest t.0 t.1 k span on full cs ∙ ap (λ (w : WireKind). Wrong w (before + value_limit)) (sym kind)) (kept_later d e stayed before rest t.0 t.1 n kept)

-- nothing is left to read
pub ended : (d n : Decoder) → d.spent ≡ false → d.fault ≡ None → d.held < value_limit → length d.unread.items ≤ d.at → HasCleared d n → (before : ℕ) (rest : List ℕ) → Stands d before rest → IsFront rest × Stands n before rest
ended d n fresh sound short over cleared before rest s =
    let h = reading d before rest sound s in
    let front : List ℕ = h.0 in
    let all : rest ≡ front = h.1.cut ∙ ap (λ l. front ++ l) (drop_of_length-le d.unread.items over) ∙ append-nil front in
    let is : read_on before rest ≡ Front = ap (read_on before) (all ∙ sym (append-nil front)) ∙ h.1.means [] ∙ silent (state d.core) (before + length front) in
    let small : suc (length rest) ≤ value_limit = omega (arith, ap length all, h.1.held, short) in (
      front_says before rest (limited_front before rest small is),
      standing n before rest front (cleared.spent ∙ fresh) (cleared.fault ∙ sound) (record {
        cut = all ∙ sym (append-nil front) ∙ sym (λ j. front ++ drop (cleared.at j) (cleared.unread j));
        means = λ cs. h.1.means cs ∙ ap (λ (c : _). wire_goes_on (state c) (before + length front) cs) (sym cleared.core);
        start = cleared.start ∙ h.1.start;
        held = cleared.held ∙ h.1.held;
        later = cleared.later ∙ h.1.later;
      }),
    )

-- the same fault again
pub again : (d : Decoder) (f : FoundFault) → d.fault ≡ Some f → (before : ℕ) (rest : List ℕ) → Stands d before rest → IsFault before rest f.kind f.place × Stands d before rest × HasMet d f.kind f.place
again d f e before rest s =
    let t : (q : ℕ) × HasFoundFault d before rest f q = subst (λ (o : Option FoundFault). StandsBy o d before rest) e s.1 in
    ((t.0, ap fault_of (ap (read before) (sym (append-nil rest)) ∙ t.1.wrong []), t.1.place), s, (s.0, e))

-- a piece more
pub fed : (d n : Decoder) (piece : List ℕ) → d.fault ≡ None → HasFed d n piece → (before : ℕ) (rest : List ℕ) → Stands d before rest → Stands n before (rest ++ piece)
fed d n piece sound h before rest s =
    let t = reading d before rest sound s in
    standing n before (rest ++ piece) t.0 (h.spent ∙ s.0) (h.fault ∙ sound) (record {
      cut = ap (λ l. l ++ piece) t.1.cut ∙ append_assoc t.0 (ahead_of d) piece ∙ ap (λ l. t.0 ++ l) (sym h.ahead);
      means = λ cs. t.1.means cs ∙ ap (λ (c : _). wire_goes_on (state c) (before + length t.0) cs) (sym h.core);
      start = h.start ∙ t.1.start;
      held = h.held ∙ t.1.held;
      later = h.later ∙ t.1.later;
    })

-- a piece after a fault
pub fed_broken : (d n : Decoder) (f : FoundFault) (piece : List ℕ) → d.fault ≡ Some f → HasCounted d n (length piece) → (before : ℕ) (rest : List ℕ) → Stands d before rest → Stands n before (rest ++ piece)
fed_broken d n f piece e h before rest s =
    let t : (q : ℕ) × HasFoundFault d before rest f q = subst (λ (o : Option FoundFault). StandsBy o d before rest) e s.1 in
    broken n before (rest ++ piece) f t.0 (h.spent ∙ s.0) (h.fault ∙ e) (record {
      wrong = λ cs. ap (read before) (append_assoc rest piece cs) ∙ t.1.wrong (piece ++ cs);
      place = t.1.place;
      later = (λ j. held_to (h.held j + (length (h.unread j) - h.at j) + n.later)) ∙ omega (arith, h.later, t.1.later, length-append rest piece);
    })

-- how many bytes the rest has
pub pending_is : (d : Decoder) (before : ℕ) (rest : List ℕ) → Stands d before rest → held_to (d.held + (length d.unread.items - d.at) + d.later) ≡ held_to (length rest)
pending_is d before rest s = by d.fault s.1 where
  by : (o : Option FoundFault) → StandsBy o d before rest → held_to (d.held + (length d.unread.items - d.at) + d.later) ≡ held_to (length rest)
  by None t = ap held_to (omega (arith, t.1.held, t.1.later, ap length t.1.cut, length-append t.0 (ahead_of d), length-drop d.at d.unread.items))
  by (Some f) t = t.1.later
