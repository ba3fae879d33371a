-- A quoted text tells its bytes and its end.
use Rattle.std.proofs.Common.{◌≡◌, ◌⊎◌, ◌≢◌, inl, inr, ℕ, ◌+◌, ◌/◌, ◌%◌, ◌*◌, ◌<◌, ◌≤◌, Bool, true, false, List, [], ◌∷◌, ◌++◌, refl, sym, ap, ◌∙◌, arith, append_assoc}
use Rattle.std.specs.Prelude.{◌||◌, ◌&&◌, nat_le, nat_lt, nat_eq, if◌then◌else◌}
use Rattle.std.specs.List.{flat_map}
use Rattle.std.proofs.lemmas.Bool.Decides.{nat_tests}
use Rattle.line_text.specs.Forms.{escaped, hex_digit, quoted}
use Rattle.record_laws.proofs.Apart.{heads, tails}

-- how a byte is written
pub data Written (b : ℕ) : Type 0 where
  Behind : (b ≡ 34) ⊎ (b ≡ 92) → escaped b ≡ 92 ∷ b ∷ [] → Written b
  Plain : b ≢ 34 → b ≢ 92 → escaped b ≡ b ∷ [] → Written b
  Coded : escaped b ≡ 92 ∷ 120 ∷ hex_digit (b / 16) ∷ hex_digit (b % 16) ∷ [] → Written b

pub written : (b : ℕ) → Written b
written b = by (nat_eq b 34) (nat_eq b 92) (nat_le 32 b) (nat_le b 126) refl refl refl refl where
  by : (p q r s : Bool) → nat_eq b 34 ≡ p → nat_eq b 92 ≡ q → nat_le 32 b ≡ r → nat_le b 126 ≡ s → Written b
  by true q r s e f g h = Behind (inl (grind (arith, nat_tests))) (rw e refl)
  by false true r s e f g h = Behind (inr (grind (arith, nat_tests))) (rw (e, f) refl)
  by false false true true e f g h = Plain (grind (arith, nat_tests)) (grind (arith, nat_tests)) (rw (e, f, g, h) refl)
  by false false false s e f g h = Coded (rw (e, f, g) refl)
  by false false true false e f g h = Coded (rw (e, f, g, h) refl)

pub hex_apart : (x y : ℕ) → hex_digit x ≡ hex_digit y → x ≡ y
hex_apart x y e = by (nat_lt x 10) (nat_lt y 10) refl refl e where
  by : (p q : Bool) → nat_lt x 10 ≡ p → nat_lt y 10 ≡ q → (if p then 48 + x else 87 + x) ≡ (if q then 48 + y else 87 + y) → x ≡ y
  by true true g h e' = omega (arith, e')
  by true false g h e' = let lt : x < 10 = grind (arith, nat_tests) in absurd (omega (arith, e', lt))
  by false true g h e' = let lt : y < 10 = grind (arith, nat_tests) in absurd (omega (arith, e', lt))
  by false false g h e' = omega (arith, e')

other : (b : ℕ) → (b ≡ 34) ⊎ (b ≡ 92) → b ≡ 120 → ⊥
other b (inl p) q = omega (arith, p, q)
other b (inr p) q = omega (arith, p, q)

-- one byte tells itself and its end
pub escaped_apart : (x y : ℕ) (r s : List ℕ) → escaped x ++ r ≡ escaped y ++ s → (x ≡ y) × (r ≡ s)
escaped_apart x y r s e = by (written x) (written y) where
  by : Written x → Written y → (x ≡ y) × (r ≡ s)
  by (Behind a f) (Behind b g) =
      let h : 92 ∷ x ∷ r ≡ 92 ∷ y ∷ s = ap (λ t. t ++ r) (sym f) ∙ e ∙ ap (λ t. t ++ s) g in
      (heads x y r s (tails 92 92 _ _ h), tails x y r s (tails 92 92 _ _ h))
  by (Behind a f) (Plain n m g) =
      let h : 92 ∷ x ∷ r ≡ y ∷ s = ap (λ t. t ++ r) (sym f) ∙ e ∙ ap (λ t. t ++ s) g in
      absurd (m (sym (heads 92 y _ _ h)))
  by (Behind a f) (Coded g) =
      let h : 92 ∷ x ∷ r ≡ 92 ∷ 120 ∷ hex_digit (y / 16) ∷ hex_digit (y % 16) ∷ s = ap (λ t. t ++ r) (sym f) ∙ e ∙ ap (λ t. t ++ s) g in
      absurd (other x a (heads x 120 _ _ (tails 92 92 _ _ h)))
  by (Plain n m f) (Behind b g) =
      let h : x ∷ r ≡ 92 ∷ y ∷ s = ap (λ t. t ++ r) (sym f) ∙ e ∙ ap (λ t. t ++ s) g in
      absurd (m (heads x 92 _ _ h))
  by (Plain n m f) (Plain n' m' g) =
      let h : x ∷ r ≡ y ∷ s = ap (λ t. t ++ r) (sym f) ∙ e ∙ ap (λ t. t ++ s) g in
      (heads x y r s h, tails x y r s h)
  by (Plain n m f) (Coded g) =
      let h : x ∷ r ≡ 92 ∷ 120 ∷ hex_digit (y / 16) ∷ hex_digit (y % 16) ∷ s = ap (λ t. t ++ r) (sym f) ∙ e ∙ ap (λ t. t ++ s) g in
      absurd (m (heads x 92 _ _ h))
  by (Coded f) (Behind b g) =
      let h : 92 ∷ 120 ∷ hex_digit (x / 16) ∷ hex_digit (x % 16) ∷ r ≡ 92 ∷ y ∷ s = ap (λ t. t ++ r) (sym f) ∙ e ∙ ap (λ t. t ++ s) g in
      absurd (other y b (sym (heads 120 y _ _ (tails 92 92 _ _ h))))
  by (Coded f) (Plain n m g) =
      let h : 92 ∷ 120 ∷ hex_digit (x / 16) ∷ hex_digit (x % 16) ∷ r ≡ y ∷ s = ap (λ t. t ++ r) (sym f) ∙ e ∙ ap (λ t. t ++ s) g in
      absurd (m (sym (heads 92 y _ _ h)))
  by (Coded f) (Coded g) =
      let h : 92 ∷ 120 ∷ hex_digit (x / 16) ∷ hex_digit (x % 16) ∷ r ≡ 92 ∷ 120 ∷ hex_digit (y / 16) ∷ hex_digit (y % 16) ∷ s = ap (λ t. t ++ r) (sym f) ∙ e ∙ ap (λ t. t ++ s) g in
      let h2 = tails 120 120 _ _ (tails 92 92 _ _ h) in
      let high = hex_apart (x / 16) (y / 16) (heads (hex_digit (x / 16)) (hex_digit (y / 16)) _ _ h2) in
      let h3 = tails (hex_digit (x / 16)) (hex_digit (y / 16)) _ _ h2 in
      let low = hex_apart (x % 16) (y % 16) (heads (hex_digit (x % 16)) (hex_digit (y % 16)) _ _ h3) in
      (omega (arith, high, low), tails (hex_digit (x % 16)) (hex_digit (y % 16)) r s h3)

-- what is written of a byte doesn't begin with a quote
pub no_quote : (y : ℕ) (r s : List ℕ) → 34 ∷ r ≡ escaped y ++ s → ⊥
no_quote y r s e = by (written y) where
  by : Written y → ⊥
  by (Behind b g) = let is : 34 ≡ 92 = heads 34 92 _ _ (e ∙ ap (λ t. t ++ s) g) in omega (arith, is)
  by (Plain n m g) = n (sym (heads 34 y _ _ (e ∙ ap (λ t. t ++ s) g)))
  by (Coded g) = let is : 34 ≡ 92 = heads 34 92 _ _ (e ∙ ap (λ t. t ++ s) g) in omega (arith, is)

-- the bytes of a quoted text and its end
pub body_apart : (xs ys r s : List ℕ) → flat_map escaped xs ++ 34 ∷ r ≡ flat_map escaped ys ++ 34 ∷ s → (xs ≡ ys) × (r ≡ s)
body_apart [] [] r s e = (refl, tails 34 34 r s e)
body_apart [] (y ∷ ys) r s e = absurd (no_quote y r _ (e ∙ append_assoc (escaped y) (flat_map escaped ys) (34 ∷ s)))
body_apart (x ∷ xs) [] r s e = absurd (no_quote x s _ (sym e ∙ append_assoc (escaped x) (flat_map escaped xs) (34 ∷ r)))
body_apart (x ∷ xs) (y ∷ ys) r s e =
    let h = escaped_apart x y _ _ (sym (append_assoc (escaped x) (flat_map escaped xs) (34 ∷ r)) ∙ e ∙ append_assoc (escaped y) (flat_map escaped ys) (34 ∷ s)) in
    let t = body_apart xs ys r s h.1 in
    ((λ i. h.0 i ∷ t.0 i), t.1)

pub quoted_apart : (xs ys r s : List ℕ) → quoted xs ++ r ≡ quoted ys ++ s → (xs ≡ ys) × (r ≡ s)
quoted_apart xs ys r s e =
    body_apart xs ys r s (sym (append_assoc (flat_map escaped xs) (34 ∷ []) r) ∙ tails 34 34 _ _ e ∙ append_assoc (flat_map escaped ys) (34 ∷ []) s)
