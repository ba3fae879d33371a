-- A value's form tells the value and its end, where no digit follows.
use Rattle.std.proofs.Common.{◌≡◌, ℕ, ℤ, zero, suc, ◌≤◌, Bool, true, false, List, [], ◌∷◌, ◌++◌, refl, sym, ap, subst, ◌∙◌, map, arith, append_assoc}
use Rattle.std.specs.Prelude.{max, ◌&&◌}
use Rattle.std.specs.Fmt.{signed_decimal}
use Rattle.std.specs.List.{flat_map, list_all}
use Rattle.wire_values.specs.declared.value.Value.{Value}
use Rattle.wire_values.specs.declared.value.Value.TheFolds.{fold-roll-Value}
use Rattle.wire_values.specs.declared.value.Value.TheOpen.{Value-F}
use Rattle.wire_values.specs.declared.value.Value.TheVariants.{Status, Error, Integer, Bulk, NullBulk, Array, NullArray, rolls-Integer, rolls-Array}
use Rattle.line_text.specs.Forms.{quoted, commas, value_form}
use Rattle.history_records.specs.Recordable.{is_integer, is_typed, typed_step, depth, depth_step, greatest}
use Rattle.record_laws.proofs.Apart.{heads, tails}
use Rattle.record_laws.proofs.Digits.{no_digit, signed_apart}
use Rattle.record_laws.proofs.ValueKinds.{Kind, A_status, An_error, An_integer, A_bulk, A_null, An_array, A_null_array, Shown, Seen, seen, text_kind, items_text}
use Rattle.record_laws.proofs.Quotes.{quoted_apart}

-- ---- folds

typed-integer : (z : ℤ) → is_typed (Integer z) ≡ is_integer z
typed-integer z = ap is_typed (sym (rolls-Integer z)) ∙ fold-roll-Value Bool typed_step (Value-F.Integer z)

typed-array : (items : List Value) → is_typed (Array items) ≡ list_all (λ b. b) (map is_typed items)
typed-array items = ap is_typed (sym (rolls-Array items)) ∙ fold-roll-Value Bool typed_step (Value-F.Array items)

depth-array : (items : List Value) → depth (Array items) ≡ suc (greatest (map depth items))
depth-array items = ap depth (sym (rolls-Array items)) ∙ fold-roll-Value ℕ depth_step (Value-F.Array items)

-- ---- items

-- the values are nested at most so deep, and their integers have 64 bits
abbrev pub AreWithin : ℕ → List Value → Type 0
AreWithin n [] = Unit {0}
AreWithin n (v ∷ vs) = (depth v ≤ n) × (is_typed v ≡ true) × AreWithin n vs

both : (a b : Bool) → (a && b) ≡ true → (a ≡ true) × (b ≡ true)
both true b e = (refl, e)
both false b e = cc

within : (n : ℕ) (items : List Value) → greatest (map depth items) ≤ n → list_all (λ b. b) (map is_typed items) ≡ true → AreWithin n items
within n [] d h = tt
within n (v ∷ vs) d h =
    let g = both _ _ h in
    (omega (arith, d), g.0, within n vs (omega (arith, d)) g.1)

-- what is known of values that are nested at most so deep
abbrev pub Tell : ℕ → Type 0
Tell n = (v w : Value) (r s : List ℕ) → depth v ≤ n → depth w ≤ n → is_typed v ≡ true → is_typed w ≡ true → no_digit r ≡ true → no_digit s ≡ true → value_form v ++ r ≡ value_form w ++ s → (v ≡ w) × (r ≡ s)

abbrev TellItems : ℕ → Type 0
TellItems n = (xs ys : List Value) (r s : List ℕ) → depth (Array xs) ≤ n → depth (Array ys) ≤ n → is_typed (Array xs) ≡ true → is_typed (Array ys) ≡ true → items_text xs ++ r ≡ items_text ys ++ s → (xs ≡ ys) × (r ≡ s)

-- what follows an item
abbrev after_item : List Value → List ℕ → List ℕ
after_item vs r = flat_map (λ t. 44 ∷ 32 ∷ t) (map value_form vs) ++ 93 ∷ r

no_digit-after : (vs : List Value) (r : List ℕ) → no_digit (after_item vs r) ≡ true
no_digit-after [] r = refl
no_digit-after (v ∷ vs) r = refl

more_apart : (n : ℕ) → Tell n → (xs ys : List Value) (r s : List ℕ) → AreWithin n xs → AreWithin n ys → after_item xs r ≡ after_item ys s → (xs ≡ ys) × (r ≡ s)
more_apart n one [] [] r s a b e = (refl, tails 93 93 r s e)
more_apart n one [] (y ∷ ys) r s a b e = let clash : 93 ≡ 44 = heads 93 44 _ _ e in absurd (omega (arith, clash))
more_apart n one (x ∷ xs) [] r s a b e = let clash : 44 ≡ 93 = heads 44 93 _ _ e in absurd (omega (arith, clash))
more_apart n one (x ∷ xs) (y ∷ ys) r s a b e =
    let f = tails 32 32 _ _ (tails 44 44 _ _ e) in
    let g = sym (append_assoc (value_form x) (flat_map (λ t. 44 ∷ 32 ∷ t) (map value_form xs)) (93 ∷ r)) ∙ f ∙ append_assoc (value_form y) (flat_map (λ t. 44 ∷ 32 ∷ t) (map value_form ys)) (93 ∷ s) in
    let h = one x y (after_item xs r) (after_item ys s) a.0 b.0 a.1 b.1 (no_digit-after xs r) (no_digit-after ys s) g in
    let t = more_apart n one xs ys r s a.2 b.2 h.1 in
    ((λ i. h.0 i ∷ t.0 i), t.1)

-- a value doesn't begin with a bracket that ends an array
not_end : (v : Value) (r s : List ℕ) → 93 ∷ r ≡ value_form v ++ s → ⊥
not_end v r s e = by (seen v).kind (seen v).shown where
  by : (k : Kind) → Shown v k → ⊥
  by A_status a = let c : 93 ≡ 43 = heads 93 43 _ _ (e ∙ ap (λ b. b ++ s) a.2) in omega (arith, c)
  by An_error a = let c : 93 ≡ 45 = heads 93 45 _ _ (e ∙ ap (λ b. b ++ s) a.2) in omega (arith, c)
  by An_integer a = let c : 93 ≡ 58 = heads 93 58 _ _ (e ∙ ap (λ b. b ++ s) a.2) in omega (arith, c)
  by A_bulk a = let c : 93 ≡ 36 = heads 93 36 _ _ (e ∙ ap (λ b. b ++ s) a.2) in omega (arith, c)
  by A_null a = let c : 93 ≡ 36 = heads 93 36 _ _ (e ∙ ap (λ b. b ++ s) a.1) in omega (arith, c)
  by An_array a = let c : 93 ≡ 42 = heads 93 42 _ _ (e ∙ ap (λ b. b ++ s) a.2) in omega (arith, c)
  by A_null_array a = let c : 93 ≡ 42 = heads 93 42 _ _ (e ∙ ap (λ b. b ++ s) a.1) in omega (arith, c)

-- the items of an array, of which the first stands without a comma
items_on : (v : Value) (vs : List Value) (r : List ℕ) → items_text (v ∷ vs) ++ r ≡ value_form v ++ after_item vs r
items_on v vs r =
    append_assoc (value_form v ++ flat_map (λ t. 44 ∷ 32 ∷ t) (map value_form vs)) (93 ∷ []) r
    ∙ append_assoc (value_form v) (flat_map (λ t. 44 ∷ 32 ∷ t) (map value_form vs)) (93 ∷ r)

listed_apart : (n : ℕ) → Tell n → (xs ys : List Value) (r s : List ℕ) → AreWithin n xs → AreWithin n ys → items_text xs ++ r ≡ items_text ys ++ s → (xs ≡ ys) × (r ≡ s)
listed_apart n one [] [] r s a b e = (refl, tails 93 93 r s e)
listed_apart n one [] (y ∷ ys) r s a b e = absurd (not_end y r _ (e ∙ items_on y ys s))
listed_apart n one (x ∷ xs) [] r s a b e = absurd (not_end x s _ (sym e ∙ items_on x xs r))
listed_apart n one (x ∷ xs) (y ∷ ys) r s a b e =
    let h = one x y (after_item xs r) (after_item ys s) a.0 b.0 a.1 b.1 (no_digit-after xs r) (no_digit-after ys s) (sym (items_on x xs r) ∙ e ∙ items_on y ys s) in
    let t = more_apart n one xs ys r s a.2 b.2 h.1 in
    ((λ i. h.0 i ∷ t.0 i), t.1)

-- ---- values

values_apart : (n : ℕ) → TellItems n → Tell n
values_apart n items v w r s p q a b c d e = by (seen v).kind (seen v).shown (subst (Shown w) same (seen w).shown) where
  same : (seen w).kind ≡ (seen v).kind
  same = sym ((seen w).told s) ∙ ap text_kind (sym e) ∙ (seen v).told r

  by : (k : Kind) → Shown v k → Shown w k → (v ≡ w) × (r ≡ s)
  by A_status x y =
      let h = quoted_apart x.0 y.0 r s (tails 43 43 _ _ (ap (λ t. t ++ r) (sym x.2) ∙ e ∙ ap (λ t. t ++ s) y.2)) in
      (x.1 ∙ ap (λ (t : List ℕ). Status t) h.0 ∙ sym y.1, h.1)
  by An_error x y =
      let h = quoted_apart x.0 y.0 r s (tails 45 45 _ _ (ap (λ t. t ++ r) (sym x.2) ∙ e ∙ ap (λ t. t ++ s) y.2)) in
      (x.1 ∙ ap (λ (t : List ℕ). Error t) h.0 ∙ sym y.1, h.1)
  by An_integer x y =
      let f = sym (ap is_typed x.1 ∙ typed-integer x.0) ∙ a in
      let g = sym (ap is_typed y.1 ∙ typed-integer y.0) ∙ b in
      let h = signed_apart x.0 y.0 r s f g c d (tails 58 58 _ _ (ap (λ t. t ++ r) (sym x.2) ∙ e ∙ ap (λ t. t ++ s) y.2)) in
      (x.1 ∙ ap (λ (z : ℤ). Integer z) h.0 ∙ sym y.1, h.1)
  by A_bulk x y =
      let h = quoted_apart x.0 y.0 r s (tails 36 36 _ _ (ap (λ t. t ++ r) (sym x.2) ∙ e ∙ ap (λ t. t ++ s) y.2)) in
      (x.1 ∙ ap (λ (t : List ℕ). Bulk t) h.0 ∙ sym y.1, h.1)
  by A_null x y =
      let h = tails 45 45 _ _ (tails 36 36 _ _ (ap (λ t. t ++ r) (sym x.1) ∙ e ∙ ap (λ t. t ++ s) y.1)) in
      (x.0 ∙ sym y.0, h)
  by An_array x y =
      let f = tails 91 91 _ _ (tails 42 42 _ _ (ap (λ t. t ++ r) (sym x.2) ∙ e ∙ ap (λ t. t ++ s) y.2)) in
      let h = items x.0 y.0 r s (subst (λ u. depth u ≤ n) x.1 p) (subst (λ u. depth u ≤ n) y.1 q) (sym (ap is_typed x.1) ∙ a) (sym (ap is_typed y.1) ∙ b) f in
      (x.1 ∙ ap (λ (vs : List Value). Array vs) h.0 ∙ sym y.1, h.1)
  by A_null_array x y =
      let h = tails 45 45 _ _ (tails 42 42 _ _ (ap (λ t. t ++ r) (sym x.1) ∙ e ∙ ap (λ t. t ++ s) y.1)) in
      (x.0 ∙ sym y.0, h)

too_deep : (items : List Value) → depth (Array items) ≤ 0 → ⊥
too_deep items d = let h = depth-array items in omega (arith, d, h)

less_deep : (n : ℕ) (items : List Value) → depth (Array items) ≤ suc n → is_typed (Array items) ≡ true → AreWithin n items
less_deep n items d h = let e = depth-array items in within n items (omega (arith, d, e)) (sym (typed-array items) ∙ h)

pub tell : (n : ℕ) → Tell n
tell zero = values_apart zero (λ xs ys r s p q a b e. absurd (too_deep xs p))
tell (suc n) = values_apart (suc n) (λ xs ys r s p q a b e. listed_apart n (tell n) xs ys r s (less_deep n xs p a) (less_deep n ys q b) e)

pub value_apart : (v w : Value) (r s : List ℕ) → is_typed v ≡ true → is_typed w ≡ true → no_digit r ≡ true → no_digit s ≡ true → value_form v ++ r ≡ value_form w ++ s → (v ≡ w) × (r ≡ s)
value_apart v w r s a b c d e = tell (max (depth v) (depth w)) v w r s (omega arith) (omega arith) a b c d e
