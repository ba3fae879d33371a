-- What is read within the limit of a value.
use Rattle.std.proofs.Common.{◌≡◌, ℕ, zero, suc, ◌+◌, ◌-◌, ◌≤◌, List, [], ◌∷◌, ◌++◌, length, take, drop, Bool, true, false, nat_lt, refl, sym, ap, subst, ◌∙◌, arith, append_assoc, append-nil, length-append, length-take, inl, inr}
use Rattle.std.specs.Prelude.{◌⊎◌, Option, Some, None, if◌then◌else◌}
use Rattle.std.proofs.lemmas.Bool.Decides.{nat_tests}
use Rattle.std.proofs.lemmas.List.{take_all}
use Rattle.wire_values.specs.declared.value.Value.{Value}
use Rattle.wire_grammar.specs.declared.kind.WireKind.{WireKind}
use Rattle.wire_grammar.specs.declared.kind.WireKind.TheVariants.{TooLong}
use Rattle.wire_grammar.specs.Limits.{depth_limit, value_limit}
use Rattle.wire_grammar.specs.Spells.{SpellsWithin, Spells, BeginsNone, IsFront}
use Rattle.wire_grammar.specs.Reads.{Reading, Got, Front, Wrong, read_on, limited, read, fault_of, wire_fault, wire_value_at}
use Rattle.wire_grammar.specs.Faults.{IsWrongAt, HasFault, OneHolds, BeginsWithOne, IsWrongWithin}
use Rattle.wire_grammar.proofs.Readers.{Tells, AtFront, Within, AtByte}
use Rattle.wire_grammar.proofs.Readings.{value_reader, reads_spelled}

-- a front shorter than n, and what is left of n
pub take_front : (n : ℕ) (front rest : List ℕ) → length front ≤ n → take n (front ++ rest) ≡ front ++ take (n - length front) rest
take_front n [] rest l = ap (λ (i : ℕ). take i rest) (let e : n ≡ n - 0 = omega arith in e)
take_front zero (x ∷ front) rest l = absurd (omega (arith, l))
take_front (suc n) (x ∷ front) rest l = ap (λ t. x ∷ t) (take_front n front rest (omega (arith, l)) ∙ ap (λ (i : ℕ). front ++ take i rest) (omega arith))

pub drop_front : (n : ℕ) (front rest : List ℕ) → length front ≤ n → drop n (front ++ rest) ≡ drop (n - length front) rest
drop_front n [] rest l = ap (λ (i : ℕ). drop i rest) (let e : n ≡ n - 0 = omega arith in e)
drop_front zero (x ∷ front) rest l = absurd (omega (arith, l))
drop_front (suc n) (x ∷ front) rest l = drop_front n front rest (omega (arith, l)) ∙ ap (λ (i : ℕ). drop i rest) (omega arith)

pub take_drop : (n : ℕ) (xs : List ℕ) → take n xs ++ drop n xs ≡ xs
take_drop zero xs = refl
take_drop (suc n) [] = refl
take_drop (suc n) (x ∷ xs) = ap (λ l. x ∷ l) (take_drop n xs)

-- a value within the limit is read
pub limited_got : (p : ℕ) (front more : List ℕ) (v : Value) (q : ℕ) → length front ≤ value_limit → ((rest : List ℕ) → read_on p (front ++ rest) ≡ Got v q rest) → read p (front ++ more) ≡ Got v q more
limited_got p front more v q l h =
    ap (λ t. limited p (front ++ more) (read_on p t)) (take_front value_limit front more l)
    ∙ ap (limited p (front ++ more)) (h (take (value_limit - length front) more))
    ∙ ap (λ t. Got v q (take (value_limit - length front) more ++ t)) (drop_front value_limit front more l)
    ∙ ap (Got v q) (take_drop (value_limit - length front) more)

-- a byte that is stuck within the limit is wrong
pub limited_wrong : (p : ℕ) (front more : List ℕ) (c : ℕ) (kind : WireKind) (q : ℕ) → suc (length front) ≤ value_limit → ((rest : List ℕ) → read_on p (front ++ c ∷ rest) ≡ Wrong kind q) → read p (front ++ c ∷ more) ≡ Wrong kind q
limited_wrong p front more c kind q l h =
    let one = length-append front (c ∷ []) in
    ap (λ t. limited p (front ++ c ∷ more) (read_on p t)) (ap (take value_limit) (sym (append_assoc front (c ∷ []) more)) ∙ take_front value_limit (front ++ c ∷ []) more (omega (arith, l, one)) ∙ append_assoc front (c ∷ []) _)
    ∙ ap (limited p (front ++ c ∷ more)) (h _)

-- as many bytes as a value may have, which don't end it
pub limited_long : (p : ℕ) (front more : List ℕ) → length front ≡ value_limit → read_on p front ≡ Front → read p (front ++ more) ≡ Wrong TooLong (p + value_limit)
limited_long p front more l h =
    let less : value_limit - length front ≡ 0 = omega (arith, l) in
    let over : nat_lt (length (front ++ more)) value_limit ≡ false = grind (arith, nat_tests, length-append front more) in
    ap (λ t. limited p (front ++ more) (read_on p t)) (take_front value_limit front more (omega (arith, l)) ∙ ap (λ (i : ℕ). front ++ take i more) less ∙ append-nil front)
    ∙ ap (limited p (front ++ more)) h
    ∙ ap (λ (t : Bool). if t then Front else Wrong TooLong (p + value_limit)) over

-- fewer bytes than a value may have
pub limited_front : (p : ℕ) (b : List ℕ) → suc (length b) ≤ value_limit → read_on p b ≡ Front → read p b ≡ Front
limited_front p b l h =
    let within : nat_lt (length b) value_limit ≡ true = grind (arith, nat_tests) in
    ap (λ t. limited p b (read_on p t)) (take_all value_limit b (omega (arith, l)))
    ∙ ap (limited p b) h
    ∙ ap (λ (t : Bool). if t then Front else Wrong TooLong (p + value_limit)) within

-- a spelling is read, whatever follows it
pub read_spelled : (v : Value) (b rest : List ℕ) (p : ℕ) → Spells v b → read p (b ++ rest) ≡ Got v (p + length b) rest
read_spelled v b rest p s = limited_got p b rest v (p + length b) s.1 (λ more. reads_spelled v b more p s.0)

-- what a reading says of the bytes
abbrev pub Says : ℕ → List ℕ → Reading → Type 0
Says p b (Got v q rest) = (front : List ℕ) × (b ≡ front ++ rest) × Spells v front × (q ≡ p + length front)
Says p b Front = IsFront b
Says p b (Wrong kind q) = IsWrongAt p b kind q × ((more : List ℕ) → read p (b ++ more) ≡ Wrong kind q)

got_wrong : (v : Value) (q : ℕ) (rest : List ℕ) (kind : WireKind) (p : ℕ) → Got v q rest ≡ Wrong kind p → ⊥
got_wrong v q rest kind p e = cc

got_front : (v : Value) (q : ℕ) (rest : List ℕ) → Got v q rest ≡ Front → ⊥
got_front v q rest e = cc

-- no value is spelled at the front of what isn't read as one
none_front : (p : ℕ) (b : List ℕ) → read p b ≡ Front → BeginsNone b
none_front p b f v front rest e s = got_front v (p + length front) rest (sym (read_spelled v front rest p s) ∙ ap (read p) (sym e) ∙ f)

none_wrong : (p : ℕ) (b : List ℕ) (kind : WireKind) (q : ℕ) → read p b ≡ Wrong kind q → BeginsNone b
none_wrong p b kind q f v front rest e s = got_wrong v (p + length front) rest kind q (sym (read_spelled v front rest p s) ∙ ap (read p) (sym e) ∙ f)

-- what is told of the bytes within the limit
module _ (p : ℕ) (b : List ℕ) where
  long_or_short : (f : read_on p (take value_limit b) ≡ Front) (v : Value) (more : List ℕ) → SpellsWithin depth_limit v (take value_limit b ++ more) → (t : Bool) → nat_lt (length b) value_limit ≡ t → Says p b (read p b)
  long_or_short f v more r true e =
      let short : suc (length b) ≤ value_limit = grind (arith, nat_tests) in
      let all : take value_limit b ≡ b = take_all value_limit b (omega (arith, short)) in
      let is : read p b ≡ Front = limited_front p b short (ap (read_on p) (sym all) ∙ f) in
      subst (Says p b) (sym is) (record { short = short; goes_on = (v, more, subst (λ (l : List ℕ). SpellsWithin depth_limit v (l ++ more)) all r); none = none_front p b is })
  long_or_short f v more r false e =
      let long : value_limit ≤ length b = grind (arith, nat_tests) in
      let exact : length (take value_limit b) ≡ value_limit = omega (arith, length-take value_limit b, long) in
      let there : (more : List ℕ) → read p (b ++ more) ≡ Wrong TooLong (p + value_limit) =
      λ more. ap (read p) (ap (λ l. l ++ more) (sym (take_drop value_limit b)) ∙ append_assoc (take value_limit b) (drop value_limit b) more) ∙ limited_long p (take value_limit b) (drop value_limit b ++ more) exact f in
      let is : read p b ≡ Wrong TooLong (p + value_limit) = ap (read p) (sym (append-nil b)) ∙ there [] in
      subst (Says p b) (sym is) (inr (record { long = long; place = refl; is = refl; goes_on = (v, more, r); none = none_wrong p b TooLong (p + value_limit) is }), there)

  said : (t : List ℕ) → t ≡ take value_limit b → Tells (wire_value_at depth_limit) (SpellsWithin depth_limit) (IsWrongWithin depth_limit) t → Says p b (read p b)
  said t is (AtFront v front rest e r) =
      let cut : b ≡ front ++ (rest ++ drop value_limit b) = sym (take_drop value_limit b) ∙ ap (λ l. l ++ drop value_limit b) (sym is ∙ e) ∙ append_assoc front rest (drop value_limit b) in
      let small : length front ≤ value_limit = omega (arith, ap length is, length-take value_limit b, ap length e, length-append front rest) in
      let s : Spells v front = (r, small) in
      subst (Says p b) (sym (ap (read p) cut ∙ read_spelled v front (rest ++ drop value_limit b) p s)) (front, cut, s, refl)
  said t is (Within f v more r) = long_or_short (ap (read_on p) (sym is) ∙ f Got p) v more (subst (λ (l : List ℕ). SpellsWithin depth_limit v (l ++ more)) is r) (nat_lt (length b) value_limit) refl
  said t is (AtByte front c rest kind e f v more r w) =
      let cut : b ≡ front ++ c ∷ (rest ++ drop value_limit b) = sym (take_drop value_limit b) ∙ ap (λ l. l ++ drop value_limit b) (sym is ∙ e) ∙ append_assoc front (c ∷ rest) (drop value_limit b) in
      let small : suc (length front) ≤ value_limit = omega (arith, ap length is, length-take value_limit b, ap length e, length-append front (c ∷ rest)) in
      let wrong : (m : List ℕ) → read p (front ++ c ∷ m) ≡ Wrong kind (p + length front) = λ m. limited_wrong p front m c kind (p + length front) small (λ l. f Got p l) in
      let here : read p b ≡ Wrong kind (p + length front) = ap (read p) cut ∙ wrong (rest ++ drop value_limit b) in
      subst (Says p b) (sym here) (
        inl (record {
          front = front;
          byte = c;
          rest = rest ++ drop value_limit b;
          cut = cut;
          place = refl;
          before = record {
            short = small;
            goes_on = (v, more, r);
            none = λ u f2 r2 e2 s. none_wrong p b kind (p + length front) here u f2 (r2 ++ c ∷ (rest ++ drop value_limit b)) (cut ∙ ap (λ l. l ++ c ∷ (rest ++ drop value_limit b)) e2 ∙ append_assoc f2 r2 (c ∷ (rest ++ drop value_limit b))) s;
          };
          is = w;
          stuck = λ u m s. got_wrong u (p + length (front ++ c ∷ m)) [] kind (p + length front)
              (sym (reads_spelled u (front ++ c ∷ m) [] p s) ∙ ap (read_on p) (append-nil (front ++ c ∷ m)) ∙ f Got p m);
        }),
        λ m. ap (read p) (ap (λ l. l ++ m) cut ∙ append_assoc front (c ∷ (rest ++ drop value_limit b)) m) ∙ wrong ((rest ++ drop value_limit b) ++ m),
      )

-- each reading says what is so
pub reads : (p : ℕ) (b : List ℕ) → Says p b (read p b)
reads p b = said p b (take value_limit b) refl ((value_reader depth_limit).tells (take value_limit b))

pub got_says : (p : ℕ) (b : List ℕ) (v : Value) (q : ℕ) (rest : List ℕ) → read p b ≡ Got v q rest → (front : List ℕ) × (b ≡ front ++ rest) × Spells v front × (q ≡ p + length front)
got_says p b v q rest e = subst (Says p b) e (reads p b)

pub front_says : (p : ℕ) (b : List ℕ) → read p b ≡ Front → IsFront b
front_says p b e = subst (Says p b) e (reads p b)

pub wrong_says : (p : ℕ) (b : List ℕ) (kind : WireKind) (q : ℕ) → read p b ≡ Wrong kind q → IsWrongAt p b kind q × ((more : List ℕ) → read p (b ++ more) ≡ Wrong kind q)
wrong_says p b kind q e = subst (Says p b) e (reads p b)

some_of : (p : ℕ) (b : List ℕ) (r : Reading) → read p b ≡ r → BeginsWithOne b ⊎ (IsFront b ⊎ HasFault p b)
some_of p b (Got v q rest) e = let h = got_says p b v q rest e in inl (v, h.0, rest, h.1, h.2)
some_of p b Front e = inr (inl (front_says p b e))
some_of p b (Wrong kind q) e = inr (inr (kind, q, ap fault_of e))

begun_none : (p : ℕ) (b : List ℕ) → BeginsWithOne b → wire_fault p b ≡ None
begun_none p b h = ap (λ l. wire_fault p l) h.3 ∙ ap fault_of (read_spelled h.0 h.1 h.2 p h.4)

-- a front can't be faulty: what stands before a faulty byte and the byte itself go on, and it is short
front_none_by : (p : ℕ) (b : List ℕ) (r : Reading) → read p b ≡ r → IsFront b → fault_of r ≡ None
front_none_by p b (Got v q rest) e f = refl
front_none_by p b Front e f = refl
front_none_by p b (Wrong kind q) e f = absurd (never ((wrong_says p b kind q e).0)) where
  never : IsWrongAt p b kind q → ⊥
  never (inl s) = s.stuck f.goes_on.0 (s.rest ++ f.goes_on.1) (subst (λ (l : List ℕ). SpellsWithin depth_limit f.goes_on.0 l) (ap (λ l. l ++ f.goes_on.1) s.cut ∙ append_assoc s.front (s.byte ∷ s.rest) f.goes_on.1) f.goes_on.2)
  never (inr l) = omega (arith, l.long, f.short)

pub one_holds : (p : ℕ) (b : List ℕ) → OneHolds p b
one_holds p b = record { some = some_of p b (read p b) refl; begun = begun_none p b; front = front_none_by p b (read p b) refl }

abbrev place_in : Option (WireKind × ℕ) → ℕ
place_in None = 0
place_in (Some s) = s.1

abbrev kind_in : Option (WireKind × ℕ) → WireKind
kind_in None = TooLong
kind_in (Some s) = s.0

fault_from : (p : ℕ) (b more : List ℕ) (kind : WireKind) (q : ℕ) (r : Reading) → read p b ≡ r → fault_of r ≡ Some (kind, q) → IsWrongAt p b kind q × (wire_fault p (b ++ more) ≡ Some (kind, q))
fault_from p b more kind q (Got v x rest) e f = absurd (cc)
fault_from p b more kind q Front e f = absurd (cc)
fault_from p b more kind q (Wrong k x) e f =
    let h = wrong_says p b k x e in
    (subst (λ (o : Option (WireKind × ℕ)). IsWrongAt p b (kind_in o) (place_in o)) f h.0, ap fault_of (h.1 more) ∙ f)

pub fault_is : (p : ℕ) (b more : List ℕ) (kind : WireKind) (q : ℕ) → wire_fault p b ≡ Some (kind, q) → IsWrongAt p b kind q × (wire_fault p (b ++ more) ≡ Some (kind, q))
fault_is p b more kind q f = fault_from p b more kind q (read p b) refl f
