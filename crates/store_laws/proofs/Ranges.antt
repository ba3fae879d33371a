-- The walk over a sorted set finds its one range.
use Rattle.std.proofs.Common.{◌≡◌, ◌≢◌, ◌⊎◌, inl, inr, ℕ, List, [], ◌∷◌, Bool, true, false, cond, refl, sym, ap, subst, ◌∙◌, Some, Ordering, Less, Equal, Greater, arith, ltb}
use Rattle.std.specs.Prelude.{◌&&◌, T, ℤ, pos, negsuc, int_le, int_lt, if◌then◌else◌}
use Rattle.std.specs.Ordering.{eq_by_cmp, is_eq, is_lt}
use Rattle.std.proofs.lemmas.Bool.{and_from, and_parts}
use Rattle.std.proofs.lemmas.Bool.Decides.{nat_tests}
use Rattle.std.specs.FinMap.{FinMap, entries, entries_sorted, get, get-entries}
use Rattle.std.specs.FinMap.Entries.{below_all, find, is_sorted}
use Rattle.wire_values.specs.Order.{bytes_cmp}
use Rattle.store_tables.proofs.Maps.{bytes_total, bytes_anti}
use Rattle.store_model.specs.Words.{Bytes}
use Rattle.store_laws.specs.Rankings.{AreRanked, BeforeAll, ComesBefore, IsOneOf, IsRange}
use Rattle.store_model.specs.SortedSets.{between, ranked}
use Rattle.store_laws.specs.Ranges.{GivesRange}
use Rattle.store_laws.proofs.Maps.{first, second, tied_itself, tied_same, untied}

-- ---- orders

lt_trans : (a b c : ℤ) → int_lt a b ≡ true → int_lt b c ≡ true → int_lt a c ≡ true
lt_trans (pos a) (pos b) (pos c) e f = grind (arith, nat_tests)
lt_trans (pos a) (pos b) (negsuc c) e f = cc
lt_trans (pos a) (negsuc b) c e f = cc
lt_trans (negsuc a) (pos b) (pos c) e f = refl
lt_trans (negsuc a) (pos b) (negsuc c) e f = cc
lt_trans (negsuc a) (negsuc b) (pos c) e f = refl
lt_trans (negsuc a) (negsuc b) (negsuc c) e f = grind (arith, nat_tests)

lt_irrefl : (a : ℤ) → int_lt a a ≡ true → ⊥
lt_irrefl (pos a) e = grind (arith, nat_tests)
lt_irrefl (negsuc a) e = grind (arith, nat_tests)

-- what isn't lower is higher, or the same
not_lower : (a b : ℤ) → int_lt a b ≡ false → (int_lt b a ≡ true) ⊎ (b ≡ a)
not_lower (pos a) (pos b) e = go (ltb b a) refl
  where
    go : (t : Bool) → ltb b a ≡ t → (ltb b a ≡ true) ⊎ (pos b ≡ pos a)
    go true i = inl i
    go false i = let s : b ≡ a = grind (arith, nat_tests) in inr (ap pos s)
not_lower (pos a) (negsuc b) e = inl refl
not_lower (negsuc a) (pos b) e = cc
not_lower (negsuc a) (negsuc b) e = go (ltb a b) refl
  where
    go : (t : Bool) → ltb a b ≡ t → (ltb a b ≡ true) ⊎ (negsuc b ≡ negsuc a)
    go true i = inl i
    go false i = let s : b ≡ a = grind (arith, nat_tests) in inr (ap negsuc s)

less_is : (r : Ordering) → T (is_lt r) → r ≡ Less
less_is Less h = refl
less_is Equal h = absurd h
less_is Greater h = absurd h

not_itself : (x : Bytes) → bytes_cmp x x ≡ Less → ⊥
not_itself x e = go (bytes_cmp x x) e (tied_itself bytes_cmp bytes_total bytes_anti x)
  where
    go : (r : Ordering) → r ≡ Less → is_eq r ≡ true → ⊥
    go Less i h = cc
    go Equal i h = cc
    go Greater i h = cc

before_trans : (a b c : Bytes × ℤ) → ComesBefore a b → ComesBefore b c → ComesBefore a c
before_trans a b c (inl e) (inl f) = inl (lt_trans c.1 b.1 a.1 f e)
before_trans a b c (inl e) (inr f) = inl (subst (λ z. int_lt z a.1 ≡ true) (sym f.0) e)
before_trans a b c (inr e) (inl f) = inl (subst (λ z. int_lt c.1 z ≡ true) e.0 f)
before_trans a b c (inr e) (inr f) = inr (f.0 ∙ e.0, bytes_total.trans c.0 b.0 a.0 f.1 e.1)

not_before : (a : Bytes × ℤ) → ComesBefore a a → ⊥
not_before a (inl e) = lt_irrefl a.1 e
not_before a (inr e) = not_itself a.0 e.1

-- ---- ranking one more

-- each is earlier in byte order
abbrev AllEarlier : Bytes → List (Bytes × ℤ) → Type 0
AllEarlier x [] = Unit {0}
AllEarlier x (e ∷ es) = (bytes_cmp e.0 x ≡ Less) × AllEarlier x es

one_ranked : (a : Bytes × ℤ) (x : Bytes) (s : ℤ) (es : List (Bytes × ℤ)) → IsOneOf a (ranked x s es) → (a ≡ (x, s)) ⊎ IsOneOf a es
one_ranked a x s [] is = is
one_ranked a x s (e ∷ es) is = go (int_lt s e.1) (one_ranked a x s es) is
  where
    go : (b : Bool) → (IsOneOf a (ranked x s es) → (a ≡ (x, s)) ⊎ IsOneOf a es) → IsOneOf a (if b then e ∷ ranked x s es else (x, s) ∷ e ∷ es) → (a ≡ (x, s)) ⊎ IsOneOf a (e ∷ es)
    go true rest (inl same) = inr (inl same)
    go true rest (inr there) = elim (rest there) [ inl same ↦ inl same | inr old ↦ inr (inr old) ]
    go false rest is' = is'

ranked_one : (a : Bytes × ℤ) (x : Bytes) (s : ℤ) (es : List (Bytes × ℤ)) → (a ≡ (x, s)) ⊎ IsOneOf a es → IsOneOf a (ranked x s es)
ranked_one a x s [] is = is
ranked_one a x s (e ∷ es) is = go (int_lt s e.1) (ranked_one a x s es) is
  where
    go : (b : Bool) → ((a ≡ (x, s)) ⊎ IsOneOf a es → IsOneOf a (ranked x s es)) → (a ≡ (x, s)) ⊎ IsOneOf a (e ∷ es) → IsOneOf a (if b then e ∷ ranked x s es else (x, s) ∷ e ∷ es)
    go true rest (inl same) = inr (rest (inl same))
    go true rest (inr (inl same)) = inl same
    go true rest (inr (inr old)) = inr (rest (inr old))
    go false rest is' = is'

before_ranked : (a : Bytes × ℤ) (x : Bytes) (s : ℤ) (es : List (Bytes × ℤ)) → ComesBefore a (x, s) → BeforeAll a es → BeforeAll a (ranked x s es)
before_ranked a x s [] e all = (e, tt)
before_ranked a x s (d ∷ es) e all = go (int_lt s d.1) (before_ranked a x s es e all.1)
  where
    go : (b : Bool) → BeforeAll a (ranked x s es) → BeforeAll a (if b then d ∷ ranked x s es else (x, s) ∷ d ∷ es)
    go true rest = (all.0, rest)
    go false rest = (e, all)

before_more : (a b : Bytes × ℤ) (es : List (Bytes × ℤ)) → ComesBefore a b → BeforeAll b es → BeforeAll a es
before_more a b [] e all = tt
before_more a b (d ∷ es) e all = (before_trans a b d e all.0, before_more a b es e all.1)

ranked_well : (x : Bytes) (s : ℤ) (es : List (Bytes × ℤ)) → AreRanked es → AllEarlier x es → AreRanked (ranked x s es)
ranked_well x s [] well early = (tt, tt)
ranked_well x s (e ∷ es) well early = go (int_lt s e.1) refl (ranked_well x s es well.1 early.1)
  where
    here : (int_lt e.1 s ≡ true) ⊎ (e.1 ≡ s) → ComesBefore (x, s) e
    here (inl i) = inl i
    here (inr i) = inr (i, early.0)

    go : (b : Bool) → int_lt s e.1 ≡ b → AreRanked (ranked x s es) → AreRanked (if b then e ∷ ranked x s es else (x, s) ∷ e ∷ es)
    go true i rest = (before_ranked e x s es (inl i) well.0, rest)
    go false i rest = let first_one = here (not_lower s e.1 i) in ((first_one, before_more (x, s) e es first_one well.0), well)

earlier_ranked : (y x : Bytes) (s : ℤ) (es : List (Bytes × ℤ)) → bytes_cmp x y ≡ Less → AllEarlier y es → AllEarlier y (ranked x s es)
earlier_ranked y x s [] e all = (e, tt)
earlier_ranked y x s (d ∷ es) e all = go (int_lt s d.1) (earlier_ranked y x s es e all.1)
  where
    go : (b : Bool) → AllEarlier y (ranked x s es) → AllEarlier y (if b then d ∷ ranked x s es else (x, s) ∷ d ∷ es)
    go true rest = (all.0, rest)
    go false rest = (e, all)

-- ---- the walk

-- all that are ranked so far are earlier in byte order than all that are to come
abbrev AreEarlier : List (Bytes × ℤ) → List (Bytes × ℤ) → Type 0
AreEarlier rs [] = Unit {0}
AreEarlier rs (e ∷ es) = AllEarlier e.0 rs × AreEarlier rs es

still_earlier : (x : Bytes) (s : ℤ) (rs es : List (Bytes × ℤ)) → T (below_all bytes_cmp x es) → AreEarlier rs es → AreEarlier (ranked x s rs) es
still_earlier x s rs [] low early = tt
still_earlier x s rs (e ∷ es) low early =
    (earlier_ranked e.0 x s rs (less_is (bytes_cmp x e.0) (first _ _ low)) early.0, still_earlier x s rs es (second _ _ low) early.1)

between_well : (high low : ℤ) (es rs : List (Bytes × ℤ)) → T (is_sorted bytes_cmp es) → AreRanked rs → AreEarlier rs es → AreRanked (between high low es rs)
between_well high low [] rs sorted well early = well
between_well high low (e ∷ es) rs sorted well early = go (int_le low e.1 && int_le e.1 high) (λ r w k. between_well high low es r (second _ _ sorted) w k)
  where
    go : (b : Bool) → ((r : List (Bytes × ℤ)) → AreRanked r → AreEarlier r es → AreRanked (between high low es r)) → AreRanked (between high low es (if b then ranked e.0 e.1 rs else rs))
    go true rest = rest (ranked e.0 e.1 rs) (ranked_well e.0 e.1 rs well early.0) (still_earlier e.0 e.1 rs es (first _ _ sorted) early.1)
    go false rest = rest rs well early.1

one_between : (a : Bytes × ℤ) (high low : ℤ) (es rs : List (Bytes × ℤ)) → IsOneOf a (between high low es rs) → IsOneOf a rs ⊎ (IsOneOf a es × ((int_le low a.1 && int_le a.1 high) ≡ true))
one_between a high low [] rs is = inl is
one_between a high low (e ∷ es) rs is = go (int_le low e.1 && int_le e.1 high) refl (λ r. one_between a high low es r) is
  where
    go : (b : Bool) → (int_le low e.1 && int_le e.1 high) ≡ b → ((r : List (Bytes × ℤ)) → IsOneOf a (between high low es r) → IsOneOf a r ⊎ (IsOneOf a es × ((int_le low a.1 && int_le a.1 high) ≡ true)))
        → IsOneOf a (between high low es (if b then ranked e.0 e.1 rs else rs)) → IsOneOf a rs ⊎ (IsOneOf a (e ∷ es) × ((int_le low a.1 && int_le a.1 high) ≡ true))
    go true i rest is' = elim (rest (ranked e.0 e.1 rs) is') [
      | inl here ↦ elim (one_ranked a e.0 e.1 rs here) [ inl same ↦ inr (inl same, ap (λ (z : Bytes × ℤ). int_le low z.1 && int_le z.1 high) same ∙ i) | inr old ↦ inl old ]
      | inr there ↦ inr (inr there.0, there.1)
    ]
    go false i rest is' = elim (rest rs is') [ inl here ↦ inl here | inr there ↦ inr (inr there.0, there.1) ]

between_one : (a : Bytes × ℤ) (high low : ℤ) (es rs : List (Bytes × ℤ)) → IsOneOf a rs ⊎ (IsOneOf a es × ((int_le low a.1 && int_le a.1 high) ≡ true)) → IsOneOf a (between high low es rs)
between_one a high low [] rs (inl is) = is
between_one a high low [] rs (inr is) = absurd is.0
between_one a high low (e ∷ es) rs is = go (int_le low e.1 && int_le e.1 high) refl (λ r. between_one a high low es r) is
  where
    go : (b : Bool) → (int_le low e.1 && int_le e.1 high) ≡ b → ((r : List (Bytes × ℤ)) → IsOneOf a r ⊎ (IsOneOf a es × ((int_le low a.1 && int_le a.1 high) ≡ true)) → IsOneOf a (between high low es r))
        → IsOneOf a rs ⊎ (IsOneOf a (e ∷ es) × ((int_le low a.1 && int_le a.1 high) ≡ true)) → IsOneOf a (between high low es (if b then ranked e.0 e.1 rs else rs))
    go true i rest (inl old) = rest (ranked e.0 e.1 rs) (inl (ranked_one a e.0 e.1 rs (inr old)))
    go true i rest (inr (inl same, fits)) = rest (ranked e.0 e.1 rs) (inl (ranked_one a e.0 e.1 rs (inl same)))
    go true i rest (inr (inr there, fits)) = rest (ranked e.0 e.1 rs) (inr (there, fits))
    go false i rest (inl old) = rest rs (inl old)
    go false i rest (inr (inl same, fits)) = let z : true ≡ false = sym fits ∙ ap (λ (z : Bytes × ℤ). int_le low z.1 && int_le z.1 high) same ∙ i in absurd (cc z)
    go false i rest (inr (inr there, fits)) = rest rs (inr (there, fits))

-- ---- what a map holds

found_one : (x : Bytes) (s : ℤ) (es : List (Bytes × ℤ)) → find bytes_cmp x es ≡ Some s → IsOneOf (x, s) es
found_one x s [] e = cc
found_one x s (d ∷ es) e = go (eq_by_cmp bytes_cmp x d.0) refl e (λ f. found_one x s es f)
  where
    go : (b : Bool) → eq_by_cmp bytes_cmp x d.0 ≡ b → cond b (Some d.1) (find bytes_cmp x es) ≡ Some s → (find bytes_cmp x es ≡ Some s → IsOneOf (x, s) es) → IsOneOf (x, s) (d ∷ es)
    go true i f rest = let k : x ≡ d.0 = tied_same bytes_cmp bytes_total bytes_anti x d.0 i in let v : d.1 ≡ s = cc f in inl (λ j. (k j, sym v j))
    go false i f rest = inr (rest f)

later_key : (x : Bytes) (a : Bytes × ℤ) (es : List (Bytes × ℤ)) → T (below_all bytes_cmp x es) → IsOneOf a es → bytes_cmp x a.0 ≡ Less
later_key x a [] low is = absurd is
later_key x a (d ∷ es) low (inl same) = subst (λ (z : Bytes × ℤ). bytes_cmp x z.0 ≡ Less) (sym same) (less_is (bytes_cmp x d.0) (first _ _ low))
later_key x a (d ∷ es) low (inr is) = later_key x a es (second _ _ low) is

one_found : (x : Bytes) (s : ℤ) (es : List (Bytes × ℤ)) → T (is_sorted bytes_cmp es) → IsOneOf (x, s) es → find bytes_cmp x es ≡ Some s
one_found x s [] sorted is = absurd is
one_found x s (d ∷ es) sorted (inl same) =
    let k : x ≡ d.0 = ap (λ (z : Bytes × ℤ). z.0) same in
    let t : eq_by_cmp bytes_cmp x d.0 ≡ true = subst (λ y. eq_by_cmp bytes_cmp x y ≡ true) k (tied_itself bytes_cmp bytes_total bytes_anti x) in
    ap (λ b. cond b (Some d.1) (find bytes_cmp x es)) t ∙ ap (λ (z : Bytes × ℤ). Some z.1) (sym same)
one_found x s (d ∷ es) sorted (inr is) =
    let later : bytes_cmp d.0 x ≡ Less = later_key d.0 (x, s) es (first _ _ sorted) is in
    let n : x ≢ d.0 = λ e. not_itself x (subst (λ y. bytes_cmp y x ≡ Less) (sym e) later) in
    ap (λ b. cond b (Some d.1) (find bytes_cmp x es)) (untied bytes_cmp bytes_total bytes_anti x d.0 n) ∙ one_found x s es (second _ _ sorted) is

-- ---- there is one range

before_one : (a b : Bytes × ℤ) (es : List (Bytes × ℤ)) → BeforeAll a es → IsOneOf b es → ComesBefore a b
before_one a b [] all is = absurd is
before_one a b (d ∷ es) all (inl same) = subst (ComesBefore a) (sym same) all.0
before_one a b (d ∷ es) all (inr is) = before_one a b es all.1 is

same_ranked : (xs ys : List (Bytes × ℤ)) → AreRanked xs → AreRanked ys → ((a : Bytes × ℤ) → IsOneOf a xs → IsOneOf a ys) → ((a : Bytes × ℤ) → IsOneOf a ys → IsOneOf a xs) → xs ≡ ys
same_ranked [] [] wx wy to from = refl
same_ranked [] (y ∷ ys) wx wy to from = absurd (from y (inl refl))
same_ranked (x ∷ xs) [] wx wy to from = absurd (to x (inl refl))
same_ranked (x ∷ xs) (y ∷ ys) wx wy to from =
    let e = heads (to x (inl refl)) (from y (inl refl)) in
    let rest : xs ≡ ys = same_ranked xs ys wx.1 wy.1 (λ a is. right a e is (to a (inr is))) (λ a is. left a e is (from a (inr is))) in
    λ i. e i ∷ rest i
  where
    heads : IsOneOf x (y ∷ ys) → IsOneOf y (x ∷ xs) → x ≡ y
    heads (inl e) h = e
    heads (inr is) (inl e) = sym e
    heads (inr is) (inr is') = absurd (not_before x (before_trans x y x (before_one x y xs wx.0 is') (before_one y x ys wy.0 is)))

    right : (a : Bytes × ℤ) → x ≡ y → IsOneOf a xs → IsOneOf a (y ∷ ys) → IsOneOf a ys
    right a e is (inl same) = absurd (not_before x (subst (ComesBefore x) (same ∙ sym e) (before_one x a xs wx.0 is)))
    right a e is (inr there) = there

    left : (a : Bytes × ℤ) → x ≡ y → IsOneOf a ys → IsOneOf a (x ∷ xs) → IsOneOf a xs
    left a e is (inl same) = absurd (not_before y (subst (ComesBefore y) (same ∙ e) (before_one y a ys wy.0 is)))
    left a e is (inr there) = there

nothing_ranked : (es : List (Bytes × ℤ)) → AreEarlier [] es
nothing_ranked [] = tt
nothing_ranked (e ∷ es) = (tt, nothing_ranked es)

module _ (high low : ℤ) (h : FinMap bytes_cmp ℤ) where
  abbrev range : List (Bytes × ℤ)
  range = between high low (entries h) []

  holds_to : (x : Bytes) (s : ℤ) → IsOneOf (x, s) range → (get h x ≡ Some s) × (int_le low s ≡ true) × (int_le s high ≡ true)
  holds_to x s is = go (one_between (x, s) high low (entries h) [] is)
    where
      go : ⊥ ⊎ (IsOneOf (x, s) (entries h) × ((int_le low s && int_le s high) ≡ true)) → (get h x ≡ Some s) × (int_le low s ≡ true) × (int_le s high ≡ true)
      go (inl z) = absurd z
      go (inr k) = let b = and_parts (int_le low s) (int_le s high) k.1 in (get-entries h x ∙ one_found x s (entries h) (entries_sorted h) k.0, b.0, b.1)

  holds_from : (x : Bytes) (s : ℤ) → (get h x ≡ Some s) × (int_le low s ≡ true) × (int_le s high ≡ true) → IsOneOf (x, s) range
  holds_from x s k = between_one (x, s) high low (entries h) [] (inr (found_one x s (entries h) (sym (get-entries h x) ∙ k.0), and_from (int_le low s) (int_le s high) k.1 k.2))

  is_range : IsRange high low h range
  is_range = record {
    ranked = between_well high low (entries h) [] (entries_sorted h) tt (nothing_ranked (entries h));
    holds = λ x s. (holds_to x s, holds_from x s);
  }

  one_range : (l : List (Bytes × ℤ)) → IsRange high low h l → l ≡ range
  one_range l k = same_ranked l range k.ranked is_range.ranked (λ a is. holds_from a.0 a.1 ((k.holds a.0 a.1).0 is)) (λ a is. (k.holds a.0 a.1).1 (holds_to a.0 a.1 is))

  pub gives_range : (skip most : ℕ) → GivesRange high low skip most h
  gives_range skip most = record { range = range; is = is_range; only = one_range; given = refl }
