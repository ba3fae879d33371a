-- A fault has one place and one kind: what the words of spellings say is wrong is what is read as wrong.
use Rattle.std.proofs.Common.{◌≡◌, ℕ, ℤ, pos, zero, suc, ◌+◌, ◌≤◌, List, [], ◌∷◌, ◌++◌, length, take, true, false, ◌==◌, refl, sym, ap, subst, ◌∙◌, arith, append_assoc, length-append, append-nil, inl, inr}
use Rattle.std.specs.Prelude.{Option, Some, if◌then◌else◌}
use Rattle.wire_values.specs.declared.value.Value.{Value}
use Rattle.wire_values.specs.declared.value.Value.TheVariants.{NullArray}
use Rattle.wire_grammar.specs.declared.kind.WireKind.{WireKind}
use Rattle.wire_grammar.specs.declared.kind.NumberKind.TheVariants.{Count, Length, Whole}
use Rattle.wire_grammar.specs.Limits.{depth_limit, value_limit}
use Rattle.wire_grammar.specs.Spells.{AreSpelled, GoesOn, IsNumber, SpellsWithin, crlf}
use Rattle.wire_grammar.specs.Reads.{Front, Got, Next, Reading, Wrong, fault_of, number_at, read, wire_fault, wire_value_at}
use Rattle.wire_grammar.specs.Faults.{IsPastLimit, IsStuckAt, IsWrongArray, IsWrongAt, IsWrongInside, IsWrongItem, IsWrongPlain, IsWrongWithin, at_begin, begin_kind, has, in_bulk, in_error, in_integer, in_status, number_kind, text_kind}
use Rattle.wire_grammar.proofs.Readers.{IsReader, Why}
use Rattle.wire_grammar.proofs.Parts.{has_append, number_reader, or_true}
use Rattle.wire_grammar.proofs.Readings.{value_reader}
use Rattle.wire_grammar.proofs.Limited.{Says, reads, take_front}

abbrev first_of_list : List ℕ → ℕ
first_of_list [] = 0
first_of_list (c ∷ cs) = c

abbrev rest_of_list : List ℕ → List ℕ
rest_of_list [] = []
rest_of_list (c ∷ cs) = cs

abbrev rest_in : Reading → List ℕ
rest_in (Got v q rest) = rest
rest_in Front = []
rest_in (Wrong kind q) = []

-- two cuts of one list: at the same place, or one before the other
data Cuts (u y front rest : List ℕ) : Type 0 where
  AtOne : u ≡ front → y ≡ rest → Cuts u y front rest
  Sooner : (c : ℕ) (m : List ℕ) → front ≡ u ++ c ∷ m → y ≡ c ∷ (m ++ rest) → Cuts u y front rest
  Later : (c : ℕ) (m : List ℕ) → u ≡ front ++ c ∷ m → rest ≡ c ∷ (m ++ y) → Cuts u y front rest

cuts_on : (x z : ℕ) (u y front rest : List ℕ) → x ≡ z → Cuts u y front rest → Cuts (x ∷ u) y (z ∷ front) rest
cuts_on x z u y front rest e (AtOne a b) = AtOne (λ i. e i ∷ a i) b
cuts_on x z u y front rest e (Sooner c m a b) = Sooner c m (λ i. sym e i ∷ a i) b
cuts_on x z u y front rest e (Later c m a b) = Later c m (λ i. e i ∷ a i) b

cuts : (u y front rest : List ℕ) → u ++ y ≡ front ++ rest → Cuts u y front rest
cuts [] y [] rest e = AtOne refl e
cuts [] y (z ∷ front) rest e = Sooner z front refl e
cuts (x ∷ u) y [] rest e = Later x u refl (sym e)
cuts (x ∷ u) y (z ∷ front) rest e = cuts_on x z u y front rest (ap first_of_list e) (cuts u y front rest (ap rest_of_list e))

-- what follows a spelling is determined
abbrev whole_at : {A : Type 0} → Next A
whole_at a p cs = Got NullArray p cs

same_rest : {A : Type 0} {W : Why} (P : Next A → ℕ → List ℕ → Reading) (R : A → List ℕ → Type 0) → IsReader P R W → (a b : A) (u v y z : List ℕ) → R a u → R b v → u ++ y ≡ v ++ z → y ≡ z
same_rest {A} {W} P R g a b u v y z r s e = ap rest_in (sym (g.whole a u y 0 whole_at r) ∙ ap (P whole_at 0) e ∙ g.whole b v z 0 whole_at s)

-- a number has a line feed
has_feed : (digits : List ℕ) → has 10 (digits ++ crlf) ≡ true
has_feed [] = refl
has_feed (x ∷ xs) = or_true (x == 10) (has 10 (xs ++ crlf)) (has_feed xs)

fed : (z : ℤ) (line rest b : List ℕ) → IsNumber Count z line → b ≡ line ++ rest → has 10 b ≡ false → ⊥
fed z line rest b r e f =
    let on : has 10 b ≡ true = ap (has 10) e ∙ has_append 10 line rest (ap (has 10) r.3 ∙ has_feed r.0) in
    let no : true ≡ false = sym on ∙ f in
    absurd (cc)

-- in the items of an array
module _ (P : Next Value → ℕ → List ℕ → Reading) (R : Value → List ℕ → Type 0) (W : Why) (g : IsReader P R W) (one : (b : List ℕ) (x : ℕ) (k j : WireKind) → W b x k → W b x j → k ≡ j) where
  abbrev IsUnspelled : List ℕ → Type 0
  IsUnspelled front = (v : Value) (whole more : List ℕ) → front ≡ whole ++ more → R v whole → ⊥

  item_cut : (before front first more : List ℕ) → before ≡ first ++ more → before ++ front ≡ first ++ (more ++ front)
  item_cut before front first more e = ap (λ l. l ++ front) e ∙ append_assoc first more front

  same_front : (items others : List Value) (before last front rest : List ℕ) → AreSpelled R items before → AreSpelled R others last → before ++ front ≡ last ++ rest → IsUnspelled front → IsUnspelled rest → front ≡ rest
  same_front [] [] before last front rest r s e n m = sym (ap (λ l. l ++ front) r) ∙ e ∙ ap (λ l. l ++ rest) s
  same_front [] (w ∷ others) before last front rest r s e n m =
      absurd (n w s.0 (s.1 ++ rest) (sym (ap (λ l. l ++ front) r) ∙ e ∙ item_cut last rest s.0 s.1 s.2) s.3)
  same_front (v ∷ items) [] before last front rest r s e n m =
      absurd (m v r.0 (r.1 ++ front) (sym (ap (λ l. l ++ rest) s) ∙ sym e ∙ item_cut before front r.0 r.1 r.2) r.3)
  same_front (v ∷ items) (w ∷ others) before last front rest r s e n m =
      same_front items others r.1 s.1 front rest r.4 s.4
      (same_rest P R g v w r.0 s.0 (r.1 ++ front) (s.1 ++ rest) r.3 s.3 (sym (item_cut before front r.0 r.1 r.2) ∙ e ∙ item_cut last rest s.0 s.1 s.2)) n m

  one_item : (n m : ℕ) (b : List ℕ) (x : ℕ) (k j : WireKind) → IsWrongItem R W n b x k → IsWrongItem R W m b x j → k ≡ j
  one_item n m b x k j w u =
      let same : w.front ≡ u.front = same_front w.items u.items w.before u.before w.front u.front w.spelled u.spelled (sym w.cut ∙ u.cut) (λ v whole more e r. w.none v whole more e r) (λ v whole more e r. u.none v whole more e r) in
      one u.front x k j (subst (λ (l : List ℕ). W l x k) same w.here) u.here

  one_inside : (b : List ℕ) (x : ℕ) (k j : WireKind) → IsWrongInside R W b x k → IsWrongInside R W b x j → k ≡ j
  one_inside b x k j w u =
      let same : w.2 ≡ u.2 = same_rest (number_at Count) (IsNumber Count) (number_reader Count) (pos w.0) (pos u.0) w.1 u.1 w.2 u.2 w.4 u.4 (sym w.3 ∙ u.3) in
      one_item w.0 u.0 u.2 x k j (subst (λ (l : List ℕ). IsWrongItem R W w.0 l x k) same w.5) u.5

  one_array : (b : List ℕ) (x : ℕ) (k j : WireKind) → IsWrongArray R W b x k → IsWrongArray R W b x j → k ≡ j
  one_array b x k j (inl w) (inl u) = w.1 ∙ sym u.1
  one_array b x k j (inl w) (inr u) = absurd (fed (pos u.0) u.1 u.2 b u.4 u.3 w.0)
  one_array b x k j (inr w) (inl u) = absurd (fed (pos w.0) w.1 w.2 b w.4 w.3 u.0)
  one_array b x k j (inr w) (inr u) = one_inside b x k j w u

-- in a value that is no array
plain_kind : List ℕ → ℕ → WireKind
plain_kind [] x = begin_kind x
plain_kind (c ∷ cs) x = if c == 43 then text_kind cs x else if c == 45 then text_kind cs x else if c == 58 then number_kind Whole cs x else number_kind Length cs x

plain_is : (b : List ℕ) (x : ℕ) (k : WireKind) → IsWrongPlain b x k → k ≡ plain_kind b x
unfolding plain_kind
plain_is b x k (at_begin e f) = f ∙ ap (λ l. plain_kind l x) (sym e)
plain_is b x k (in_status text e f) = f ∙ ap (λ l. plain_kind l x) (sym e)
plain_is b x k (in_error text e f) = f ∙ ap (λ l. plain_kind l x) (sym e)
plain_is b x k (in_integer number e f) = f ∙ ap (λ l. plain_kind l x) (sym e)
plain_is b x k (in_bulk rest e f) = f ∙ ap (λ l. plain_kind l x) (sym e)

no_star : (c : ℕ) (b left right : List ℕ) → first_of_list left ≡ c → (c == 42) ≡ false → b ≡ left → b ≡ 42 ∷ right → ⊥
no_star c b left right a n e f =
    let is : 42 ≡ c = ap first_of_list (sym f ∙ e) ∙ a in
    let yes : true ≡ false = ap (λ (i : ℕ). i == 42) is ∙ n in
    absurd (cc)

plain_star : (b : List ℕ) (x : ℕ) (k : WireKind) (rest : List ℕ) → IsWrongPlain b x k → b ≡ 42 ∷ rest → ⊥
plain_star b x k rest (at_begin e f) h = no_star 0 b [] rest refl refl e h
plain_star b x k rest (in_status text e f) h = no_star 43 b (43 ∷ text) rest refl refl e h
plain_star b x k rest (in_error text e f) h = no_star 45 b (45 ∷ text) rest refl refl e h
plain_star b x k rest (in_integer number e f) h = no_star 58 b (58 ∷ number) rest refl refl e h
plain_star b x k rest (in_bulk more e f) h = no_star 36 b (36 ∷ more) rest refl refl e h

one_plain : (b : List ℕ) (x : ℕ) (k j : WireKind) → IsWrongPlain b x k → IsWrongPlain b x j → k ≡ j
one_plain b x k j w u = plain_is b x k w ∙ sym (plain_is b x j u)

-- one kind, with so many arrays inside each other at most
one_kind : (d : ℕ) (b : List ℕ) (x : ℕ) (k j : WireKind) → IsWrongWithin d b x k → IsWrongWithin d b x j → k ≡ j
one_kind zero b x k j w u = one_plain b x k j w u
one_kind (suc d) b x k j (inl w) (inl u) = one_plain b x k j w u
one_kind (suc d) b x k j (inl w) (inr u) = absurd (plain_star b x k u.0 w u.1)
one_kind (suc d) b x k j (inr w) (inl u) = absurd (plain_star b x j w.0 u w.1)
one_kind (suc d) b x k j (inr w) (inr u) =
    let same : w.0 ≡ u.0 = ap rest_of_list (sym w.1 ∙ u.1) in
    one_array (wire_value_at d) (SpellsWithin d) (IsWrongWithin d) (value_reader d) (one_kind d) u.0 x k j
    (subst (λ (l : List ℕ). IsWrongArray (SpellsWithin d) (IsWrongWithin d) l x k) same w.2) u.2

-- nothing goes on past a byte at which nothing goes on
abbrev IsStuck : List ℕ → ℕ → Type 0
IsStuck front c = (v : Value) (more : List ℕ) → SpellsWithin depth_limit v (front ++ c ∷ more) → ⊥

past_stuck : (front : List ℕ) (c : ℕ) (y : List ℕ) → IsStuck front c → GoesOn (front ++ c ∷ y) → ⊥
past_stuck front c y stuck g = stuck g.0 (y ++ g.1) (subst (λ (l : List ℕ). SpellsWithin depth_limit g.0 l) (append_assoc front (c ∷ y) g.1) g.2)

-- the same byte after it
byte_after : (front : List ℕ) (c x : ℕ) (m y rest : List ℕ) → x ∷ rest ≡ c ∷ y → front ++ c ∷ m ≡ front ++ x ∷ m
byte_after front c x m y rest e = ap (λ (i : ℕ). front ++ i ∷ m) (sym (ap first_of_list e))

abbrev found : WireKind → ℕ → Option (WireKind × ℕ)
found kind q = Some (kind, q)

module _ (p : ℕ) (b : List ℕ) where
  stuck_long : (k kind : WireKind) (x q : ℕ) → IsStuckAt p b k x → IsPastLimit p b kind q → ⊥
  stuck_long k kind x q u w =
      let one = length-append u.front (u.byte ∷ []) in
      let front : take value_limit b ≡ u.front ++ u.byte ∷ take _ u.rest =
      ap (take value_limit) (u.cut ∙ sym (append_assoc u.front (u.byte ∷ []) u.rest)) ∙ take_front value_limit (u.front ++ u.byte ∷ []) u.rest (omega (arith, u.before.short, one)) ∙ append_assoc u.front (u.byte ∷ []) _ in
      past_stuck u.front u.byte _ (λ v more s. u.stuck v more s) (subst GoesOn front w.goes_on)

  two_stuck : (k kind : WireKind) (x q : ℕ) (u : IsStuckAt p b k x) (w : IsStuckAt p b kind q) → Cuts u.front (u.byte ∷ u.rest) w.front (w.byte ∷ w.rest) → found k x ≡ found kind q
  two_stuck k kind x q u w (AtOne e f) =
      let byte : u.byte ≡ w.byte = ap first_of_list f in
      let same : k ≡ kind = one_kind depth_limit w.front w.byte k kind (subst (λ (i : ℕ). IsWrongWithin depth_limit w.front i k) byte (subst (λ (l : List ℕ). IsWrongWithin depth_limit l u.byte k) e u.is)) w.is in
      let place : x ≡ q = u.place ∙ ap (λ (l : List ℕ). p + length l) e ∙ sym w.place in
      λ i. found (same i) (place i)
  two_stuck k kind x q u w (Sooner c m e f) =
      absurd (past_stuck u.front u.byte m (λ v more s. u.stuck v more s) (subst GoesOn (e ∙ byte_after u.front c u.byte m _ u.rest f) w.before.goes_on))
  two_stuck k kind x q u w (Later c m e f) =
      absurd (past_stuck w.front w.byte m (λ v more s. w.stuck v more s) (subst GoesOn (e ∙ byte_after w.front c w.byte m _ w.rest f) u.before.goes_on))

  one_fault : (k kind : WireKind) (x q : ℕ) → IsWrongAt p b k x → IsWrongAt p b kind q → found k x ≡ found kind q
  one_fault k kind x q (inl u) (inl w) = two_stuck k kind x q u w (cuts u.front (u.byte ∷ u.rest) w.front (w.byte ∷ w.rest) (sym u.cut ∙ w.cut))
  one_fault k kind x q (inl u) (inr w) = absurd (stuck_long k kind x q u w)
  one_fault k kind x q (inr u) (inl w) = absurd (stuck_long kind k q x w u)
  one_fault k kind x q (inr u) (inr w) =
      let same : k ≡ kind = u.is ∙ sym w.is in
      let place : x ≡ q = u.place ∙ sym w.place in
      λ i. found (same i) (place i)

  -- nothing is whole where something is wrong
  not_whole : (v : Value) (kind : WireKind) (q : ℕ) (front rest : List ℕ) (w : IsStuckAt p b kind q) → SpellsWithin depth_limit v front → (length front ≤ value_limit) → Cuts front rest w.front (w.byte ∷ w.rest) → ⊥
  not_whole v kind q front rest w s l (AtOne e f) = w.before.none v front [] (sym e ∙ sym (append-nil front)) (s, l)
  not_whole v kind q front rest w s l (Sooner c m e f) = w.before.none v front (c ∷ m) e (s, l)
  not_whole v kind q front rest w s l (Later c m e f) = w.stuck v m (subst (λ (t : List ℕ). SpellsWithin depth_limit v t) (e ∙ byte_after w.front c w.byte m _ w.rest f) s)

  told : (r : Reading) (kind : WireKind) (q : ℕ) → Says p b r → IsWrongAt p b kind q → fault_of r ≡ found kind q
  told (Got v x rest) kind q s (inl w) = absurd (not_whole v kind q s.0 rest w s.2.0 s.2.1 (cuts s.0 rest w.front (w.byte ∷ w.rest) (sym s.1 ∙ w.cut)))
  told (Got v x rest) kind q s (inr w) = absurd (w.none v s.0 rest s.1 s.2)
  told Front kind q s (inl w) = absurd (past_stuck w.front w.byte w.rest (λ v more t. w.stuck v more t) (subst GoesOn w.cut s.goes_on))
  told Front kind q s (inr w) = absurd (omega (arith, w.long, s.short))
  told (Wrong k x) kind q s w = one_fault k kind x q s.0 w

pub fault_told : (p : ℕ) (b : List ℕ) (kind : WireKind) (q : ℕ) → IsWrongAt p b kind q → wire_fault p b ≡ Some (kind, q)
fault_told p b kind q w = told p b (read p b) kind q (reads p b) w
