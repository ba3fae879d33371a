-- A step and the reading go together.
use Rattle.std.proofs.Common.{◌≡◌, ℕ, ℤ, pos, negsuc, zero, suc, ◌+◌, ◌-◌, ◌<◌, ◌≤◌, List, [], ◌∷◌, ◌++◌, length, Bool, true, false, nat_le, nat_lt, nat_eq, ◌==◌, if◌then◌else◌, refl, sym, ap, ◌∙◌, arith, append_assoc, append-nil}
use Rattle.std.proofs.lemmas.Bool.Decides.{nat_tests}
use Rattle.wire_values.specs.declared.value.Value.{Value}
use Rattle.wire_values.specs.declared.value.Value.TheVariants.{Integer, Bulk, NullBulk, Array, NullArray}
use Rattle.wire_grammar.specs.declared.kind.NumberKind.{NumberKind}
use Rattle.wire_grammar.specs.declared.kind.NumberKind.TheVariants.{Whole, Length, Count}
use Rattle.wire_grammar.specs.declared.kind.TextKind.TheVariants.{Status, Error}
use Rattle.wire_grammar.specs.declared.kind.WireKind.TheVariants.{BadKind, BadInteger, NoCrLf, TooLong, TooDeep}
use Rattle.wire_grammar.specs.Limits.{text_limit, depth_limit, limit_of}
use Rattle.wire_grammar.specs.Reads.{Reading, Wrong, Next, is_digit, signed, grown, over_of, begins_below, wire_text_at, number_at, content_at, values_at, integer_for, bulk_for, wire_value_at}
use Rattle.resp_wire.specs.declared.state.Open.{Open}
use Rattle.resp_wire.specs.declared.state.Phase.{Phase}
use Rattle.resp_wire.specs.declared.state.Phase.TheVariants.{Content, At}
use Rattle.resp_wire.specs.declared.state.WireSpot.{WireSpot}
use Rattle.resp_wire.specs.declared.state.WireSpot.TheVariants.{Begin, Text, TextFeed, First, Minus, Zero, Digits, Feed, Return, Line}
use Rattle.resp_wire.specs.Steps.{WireState, Stepped, On, Wrong_byte, at_spot, with_number, with_bytes, begins, settle, step, step_star, step_begin, text_value, headed}
use Rattle.resp_wire.specs.Meanings.{left_of, room, room_within, up, headed_at, texted_at, at_spot_on, in_phase_on, wire_goes_on, stepped_on}
use Rattle.resp_wire.specs.Moves.{ran}

-- a choice is met where both sides are
branch : (b : Bool) (x y : Stepped) (X Y : Reading) (p : ℕ) (cs : List ℕ) → X ≡ stepped_on x p cs → Y ≡ stepped_on y p cs → (if b then X else Y) ≡ stepped_on (if b then x else y) p cs
branch true x y X Y p cs ex ey = ex
branch false x y X Y p cs ex ey = ey

-- one of three
three : (a b : Bool) (x y z : Stepped) (X Y Z : Reading) (p : ℕ) (cs : List ℕ) → X ≡ stepped_on x p cs → Y ≡ stepped_on y p cs → Z ≡ stepped_on z p cs
    → (if a then X else if b then Y else Z) ≡ stepped_on (if a then x else if b then y else z) p cs
three a b x y z X Y Z p cs ex ey ez = branch a x (if b then y else z) X (if b then Y else Z) p cs ex (branch b y z Y Z p cs ey ez)

values_more : (one : Next Value → ℕ → List ℕ → Reading) (n : ℕ) (vs : List Value) (k : Next (List Value)) (p : ℕ) (cs : List ℕ) → 0 < n
    → values_at one n vs k p cs ≡ one (λ v. values_at one (n - 1) (vs ++ v ∷ []) k) p cs
values_more one zero vs k p cs h = absurd (omega (arith, h))
values_more one (suc m) vs k p cs h = let e : m ≡ suc m - 1 = omega arith in ap (λ (i : ℕ). one (λ v. values_at one i (vs ++ v ∷ []) k) p cs) e

values_none : (one : Next Value → ℕ → List ℕ → Reading) (n : ℕ) (vs : List Value) (k : Next (List Value)) (p : ℕ) (cs : List ℕ) → n ≡ 0
    → values_at one n vs k p cs ≡ k vs p cs
values_none one n vs k p cs h = ap (λ (i : ℕ). values_at one i vs k p cs) h

module _ (n : ℕ) (b : List ℕ) where
  settled_by : (v : Value) (o : Open) (os : List Open) (p : ℕ) (cs : List ℕ) (t : Bool) → nat_lt 0 o.more ≡ t
      → ((u : Value) → up os u (p + 1) cs ≡ stepped_on (settle n b u os) p cs)
      → up (o ∷ os) v (p + 1) cs ≡ stepped_on (if t then On (begins n b (record { more = o.more - 1; items = o.items ++ v ∷ [] } ∷ os)) else settle n b (Array (o.items ++ v ∷ [])) os) p cs
  settled_by v o os p cs true h more = values_more (wire_value_at (room_within os)) o.more (o.items ++ v ∷ []) (λ vs. up os (Array vs)) (p + 1) cs (grind (arith, nat_tests))
  settled_by v o os p cs false h more = values_none (wire_value_at (room_within os)) o.more (o.items ++ v ∷ []) (λ vs. up os (Array vs)) (p + 1) cs (grind (arith, nat_tests)) ∙ more (Array (o.items ++ v ∷ []))

  pub settled : (v : Value) (os : List Open) (p : ℕ) (cs : List ℕ) → up os v (p + 1) cs ≡ stepped_on (settle n b v os) p cs
  settled v [] p cs = refl
  settled v (o ∷ os) p cs = settled_by v o os p cs (nat_lt 0 o.more) refl (λ u. settled u os p cs)

-- how many arrays may be opened
left_more : (d : ℕ) (os : List Open) → length os < suc d → left_of (suc d) os ≡ suc (left_of d os)
left_more zero [] l = refl
left_more zero (o ∷ os) l = absurd (omega (arith, l))
left_more (suc d) [] l = refl
left_more (suc d) (o ∷ os) l = left_more d os (omega (arith, l))

left_none : (d : ℕ) (os : List Open) → d ≤ length os → left_of d os ≡ 0
left_none zero os l = refl
left_none (suc d) [] l = absurd (omega (arith, l))
left_none (suc d) (o ∷ os) l = left_none d os (omega (arith, l))

-- a star where a value begins
starred : (n : ℕ) (b : List ℕ) (os : List Open) (p : ℕ) (cs : List ℕ) (t : Bool) → nat_lt (length os) depth_limit ≡ t
    → wire_value_at (room os) (up os) p (42 ∷ cs) ≡ stepped_on (if t then On (at_spot (begins n b os) (First Count)) else Wrong_byte TooDeep) p cs
starred n b os p cs true e =
    let more : room os ≡ suc (room_within os) = left_more (depth_limit - 1) os (grind (arith, nat_tests)) in
    ap (λ (d : ℕ). wire_value_at d (up os) p (42 ∷ cs)) more
starred n b os p cs false e =
    let none : room os ≡ 0 = left_none depth_limit os (grind (arith, nat_tests)) in
    ap (λ (d : ℕ). wire_value_at d (up os) p (42 ∷ cs)) none

head_same : (d : ℕ) (k : Next Value) (c p : ℕ) (cs : List ℕ)
    → wire_value_at d k p (c ∷ cs) ≡
    (if c == 43 then wire_text_at [] (λ t. k (text_value Status t)) (p + 1) cs
    else if c == 45 then wire_text_at [] (λ t. k (text_value Error t)) (p + 1) cs
    else if c == 58 then number_at Whole (integer_for k) (p + 1) cs
    else if c == 36 then number_at Length (bulk_for k) (p + 1) cs
    else if c == 42 then wire_value_at d k p (42 ∷ cs)
    else Wrong BadKind p)
head_same zero k c p cs = refl
head_same (suc d) k c p cs = refl

begun : (n : ℕ) (b : List ℕ) (os : List Open) (c p : ℕ) (cs : List ℕ) → wire_value_at (room os) (up os) p (c ∷ cs) ≡ stepped_on (step_begin (begins n b os) c) p cs
begun n b os c p cs =
    let s : WireState = begins n b os in
    let star = starred n b os p cs (nat_lt (length os) depth_limit) refl in
    let bulk : Stepped = On (at_spot s (First Length)) in
    let whole : Stepped = On (at_spot s (First Whole)) in
    let error : Stepped = On (with_bytes s (Text Error) []) in
    let status : Stepped = On (with_bytes s (Text Status) []) in
    let last : Stepped = (if c == 42 then step_star s else Wrong_byte BadKind) in
    let last_at : Reading = (if c == 42 then wire_value_at (room os) (up os) p (42 ∷ cs) else Wrong BadKind p) in
    let fifth : last_at ≡ stepped_on last p cs = branch (c == 42) (step_star s) (Wrong_byte BadKind) (wire_value_at (room os) (up os) p (42 ∷ cs)) (Wrong BadKind p) p cs star refl in
    let third = three (c == 58) (c == 36) whole bulk last (stepped_on whole p cs) (stepped_on bulk p cs) last_at p cs refl refl fifth in
    head_same (room os) (up os) c p cs
    ∙ three (c == 43) (c == 45) status error (if c == 58 then whole else if c == 36 then bulk else last) (stepped_on status p cs) (stepped_on error p cs) (if c == 58 then stepped_on whole p cs else if c == 36 then stepped_on bulk p cs else last_at) p cs refl refl third

-- a whole number
begun_content : (n : ℕ) (p : ℕ) (cs : List ℕ) (os : List Open) (t : Bool) → nat_eq n 0 ≡ t
    → content_at n [] (λ content. up os (Bulk content)) p cs ≡ in_phase_on (if t then At Return else Content) (n - 1) [] os p cs
begun_content n p cs os true h = let e : n ≡ 0 = grind (arith, nat_tests) in ap (λ (i : ℕ). content_at i [] (λ content. up os (Bulk content)) p cs) e
begun_content n p cs os false h = let e : n ≡ suc (n - 1) = grind (arith, nat_tests) in ap (λ (i : ℕ). content_at i [] (λ content. up os (Bulk content)) p cs) e

counted : (n m : ℕ) (b : List ℕ) (p : ℕ) (cs : List ℕ) (os : List Open) (t : Bool) → nat_eq n 0 ≡ t
    → values_at (wire_value_at (room_within os)) n [] (λ vs. up os (Array vs)) (p + 1) cs
    ≡ stepped_on (if t then settle m b (Array []) os else On (begins m b (record { more = n - 1; items = [] } ∷ os))) p cs
counted n m b p cs os true h = values_none (wire_value_at (room_within os)) n [] (λ vs. up os (Array vs)) (p + 1) cs (grind (arith, nat_tests)) ∙ settled m b (Array []) os p cs
counted n m b p cs os false h = values_more (wire_value_at (room_within os)) n [] (λ vs. up os (Array vs)) (p + 1) cs (grind (arith, nat_tests))

was_headed : (w : NumberKind) (z : ℤ) (s : WireState) (p : ℕ) (cs : List ℕ) → headed_at w s.opens z (p + 1) cs ≡ stepped_on (headed w z s) p cs
was_headed Whole z s p cs = settled s.number s.bytes (Integer z) s.opens p cs
was_headed Length (pos n) s p cs = begun_content n (p + 1) cs s.opens (nat_eq n 0) refl
was_headed Length (negsuc n) s p cs = settled s.number s.bytes NullBulk s.opens p cs
was_headed Count (pos n) s p cs = counted n s.number s.bytes p cs s.opens (nat_eq n 0) refl
was_headed Count (negsuc n) s p cs = settled s.number s.bytes NullArray s.opens p cs

-- what a step does to what the bytes mean
pub stepped_at : (f : WireSpot) (s : WireState) (c p : ℕ) (cs : List ℕ) → at_spot_on f s.number s.bytes s.opens p (c ∷ cs) ≡ stepped_on (step f s c) p cs
stepped_at Begin s c p cs = begun s.number s.bytes s.opens c p cs
stepped_at (Text t) s c p cs =
    three (c == 13) (c == 10) (On (at_spot s (TextFeed t))) (Wrong_byte NoCrLf) (if nat_lt (length s.bytes) text_limit then On (with_bytes s (Text t) (s.bytes ++ c ∷ [])) else Wrong_byte TooLong) _ _ _ p cs refl refl
    (branch (nat_lt (length s.bytes) text_limit) (On (with_bytes s (Text t) (s.bytes ++ c ∷ []))) (Wrong_byte TooLong) (wire_text_at (s.bytes ++ c ∷ []) (texted_at t s.opens) (p + 1) cs) (Wrong TooLong p) p cs refl refl)
stepped_at (TextFeed t) s c p cs = branch (c == 10) (settle s.number [] (text_value t s.bytes) s.opens) (Wrong_byte NoCrLf) _ _ p cs (settled s.number [] (text_value t s.bytes) s.opens p cs) refl
stepped_at (First w) s c p cs =
    three (c == 48) (is_digit c) (On (with_number s (Zero w) 0)) (On (with_number s (Digits w false) (c - 48))) (if c == 45 then On (at_spot s (Minus w)) else Wrong_byte BadInteger) _ _ _ p cs refl refl
    (branch (c == 45) (On (at_spot s (Minus w))) (Wrong_byte BadInteger) _ _ p cs refl refl)
stepped_at (Minus w) s c p cs = branch (begins_below w c) (On (with_number s (Digits w true) (c - 49))) (Wrong_byte BadInteger) _ _ p cs refl refl
stepped_at (Zero w) s c p cs = branch (c == 13) (On (with_number s (Feed w false) 0)) (Wrong_byte BadInteger) _ _ p cs refl refl
stepped_at (Digits w negative) s c p cs =
    three (c == 13) (is_digit c) (On (at_spot s (Feed w negative)))
    (if nat_le (grown negative s.number (c - 48)) (limit_of w negative) then On (with_number s (Digits w negative) (grown negative s.number (c - 48))) else Wrong_byte (over_of w negative)) (Wrong_byte BadInteger) _ _ _ p cs refl
    (branch (nat_le (grown negative s.number (c - 48)) (limit_of w negative)) (On (with_number s (Digits w negative) (grown negative s.number (c - 48)))) (Wrong_byte (over_of w negative)) _ _ p cs refl refl) refl
stepped_at (Feed w negative) s c p cs = branch (c == 10) (headed w (signed negative s.number) s) (Wrong_byte NoCrLf) _ _ p cs (was_headed w (signed negative s.number) s p cs) refl
stepped_at Return s c p cs = branch (c == 13) (On (at_spot s Line)) (Wrong_byte NoCrLf) _ _ p cs refl refl
stepped_at Line s c p cs = branch (c == 10) (settle s.number [] (Bulk s.bytes) s.opens) (Wrong_byte NoCrLf) _ _ p cs (settled s.number [] (Bulk s.bytes) s.opens p cs) refl

pub stepped : (s : WireState) (f : WireSpot) (c p : ℕ) (cs : List ℕ) → s.phase ≡ At f → wire_goes_on s p (c ∷ cs) ≡ stepped_on (step f s c) p cs
stepped s f c p cs e = ap (λ (h : Phase). in_phase_on h s.number s.bytes s.opens p (c ∷ cs)) e ∙ stepped_at f s c p cs

-- content goes on by many bytes
content_on : (n : ℕ) (b xs : List ℕ) (k : Next (List ℕ)) (p : ℕ) (cs : List ℕ) → length xs ≤ n → content_at n b k p (xs ++ cs) ≡ content_at (n - length xs) (b ++ xs) k (p + length xs) cs
content_on n b [] k p cs l =
    let e : n ≡ n - 0 = omega arith in
    let q : p ≡ p + 0 = omega arith in
    λ j. content_at (e j) (sym (append-nil b) j) k (q j) cs
content_on zero b (x ∷ xs) k p cs l = absurd (omega (arith, l))
content_on (suc n) b (x ∷ xs) k p cs l =
    let e : n - length xs ≡ suc n - suc (length xs) = omega arith in
    let q : p + 1 + length xs ≡ p + suc (length xs) = omega arith in
    content_on n (b ++ x ∷ []) xs k (p + 1) cs (omega (arith, l)) ∙ (λ j. content_at (e j) (append_assoc b (x ∷ []) xs j) k (q j) cs)

ran_by : (s : WireState) (xs : List ℕ) (p : ℕ) (cs : List ℕ) (t : Bool) → nat_le (length xs) s.number ≡ t → length xs ≤ suc s.number
    → content_at (suc s.number) s.bytes (λ content. up s.opens (Bulk content)) p (xs ++ cs)
    ≡ wire_goes_on (if t then record { phase = Content; number = s.number - length xs; bytes = s.bytes ++ xs; opens = s.opens } else record { phase = At Return; number = s.number; bytes = s.bytes ++ xs; opens = s.opens }) (p + length xs) cs
ran_by s xs p cs true e l =
    let q : suc s.number - length xs ≡ suc (s.number - length xs) = grind (arith, nat_tests) in
    content_on (suc s.number) s.bytes xs (λ content. up s.opens (Bulk content)) p cs l ∙ ap (λ (i : ℕ). content_at i (s.bytes ++ xs) (λ content. up s.opens (Bulk content)) (p + length xs) cs) q
ran_by s xs p cs false e l =
    let q : suc s.number - length xs ≡ 0 = grind (arith, nat_tests) in
    content_on (suc s.number) s.bytes xs (λ content. up s.opens (Bulk content)) p cs l ∙ ap (λ (i : ℕ). content_at i (s.bytes ++ xs) (λ content. up s.opens (Bulk content)) (p + length xs) cs) q

pub ran_on : (s : WireState) (xs : List ℕ) (p : ℕ) (cs : List ℕ) → s.phase ≡ Content → length xs ≤ s.number + 1 → wire_goes_on s p (xs ++ cs) ≡ wire_goes_on (ran s (length xs) xs) (p + length xs) cs
ran_on s xs p cs e l =
    ap (λ (h : Phase). in_phase_on h s.number s.bytes s.opens p (xs ++ cs)) e ∙ ran_by s xs p cs (nat_le (length xs) s.number) refl (omega (arith, l))
