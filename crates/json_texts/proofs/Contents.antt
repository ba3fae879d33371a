-- The content of a string in a UTF-8 text is UTF-8.
use Rattle.std.proofs.Common.{◌≡◌, ℕ, zero, suc, ◌+◌, ◌*◌, ◌<◌, Bool, true, false, cond, ◌&&◌, ◌||◌, ◌==◌, nat_lt, List, [], ◌∷◌, ◌++◌, length, drop, get_or, slice_index, Option, Some, None, option_and_then, IsUtf8, refl, sym, ap, subst, ◌∙◌, arith}
use Rattle.std.specs.Char.{IsScalar, digit_value, is_digit, encode_utf8}
use Rattle.std.proofs.lemmas.Bool.{eqb-true, and_parts}
use Rattle.std.proofs.lemmas.Bool.Decides.{nat_tests}
use Rattle.std.proofs.lemmas.List.{append-nil, append_assoc, take_at, drop_at, get_or_at, length-append}
use Rattle.std.proofs.lemmas.Str.{IsUtf8-append, IsUtf8-encode, IsUtf8-from_ascii, IsUtf8-take, IsUtf8-drop, IsCharBoundary-before_ascii, IsCharBoundary-after_ascii}
use Rattle.json.specs.Text.{code_unit, short_escape, is_high_surrogate, is_low_surrogate, surrogate_pair, Within, plain, after_backslash, after_u, after_high, prepend, content}

-- what is there makes a text with what stands before it
abbrev pub After : List ℕ → Option (List ℕ) → Type 0
After pre None = Unit {0}
After pre (Some s) = IsUtf8 (pre ++ s)

both : (pre : List ℕ) (b : Bool) (x y : Option (List ℕ)) → (b ≡ true → After pre x) → (b ≡ false → After pre y) → After pre (cond b x y)
both pre true x y f g = f refl
both pre false x y f g = g refl

then : (pre : List ℕ) (f : ℕ → Option (List ℕ)) (o : Option ℕ) → ((u : ℕ) → o ≡ Some u → After pre (f u)) → After pre (option_and_then f o)
then pre f None h = tt
then pre f (Some u) h = h u refl

later : (pre : List ℕ) (r : Option (List ℕ)) → IsUtf8 pre → After [] r → After pre r
later pre None p h = tt
later pre (Some s) p h = IsUtf8-append pre s p h

joined : (pre a : List ℕ) (r : Option (List ℕ)) → IsUtf8 pre → IsUtf8 a → After [] r → After pre (prepend a r)
joined pre a None p q h = tt
joined pre a (Some s) p q h = IsUtf8-append pre (a ++ s) p (IsUtf8-append a s q h)

pending : (pre : List ℕ) (x : ℕ) (r : Option (List ℕ)) → After (pre ++ x ∷ []) r → After pre (prepend (x ∷ []) r)
pending pre x None h = tt
pending pre x (Some s) h = subst IsUtf8 (append_assoc pre (x ∷ []) s) h

-- ---- a text is cut at a byte that is ASCII

pub at_ascii : (pre : List ℕ) (x : ℕ) (xs : List ℕ) → x < 128 → IsUtf8 (pre ++ x ∷ xs) → IsUtf8 pre × IsUtf8 xs
at_ascii pre x xs low u =
    let text = pre ++ x ∷ xs in
    let at : get_or text (length pre) 0 ≡ x = get_or_at pre x xs 0 (length pre) refl in
    let within : length pre < length text = omega (arith, length-append pre (x ∷ xs)) in
    let small : get_or text (length pre) 0 < 128 = omega (arith, at, low) in
    let past : length (pre ++ x ∷ []) ≡ length pre + 1 = omega (arith, length-append pre (x ∷ [])) in
    let before = subst IsUtf8 (take_at pre (x ∷ xs) (length pre) refl) (IsUtf8-take text (length pre) u (IsCharBoundary-before_ascii text (length pre) within small)) in
    let after = subst IsUtf8 (ap (drop (length pre + 1)) (sym (append_assoc pre (x ∷ []) xs)) ∙ drop_at (pre ++ x ∷ []) xs (length pre + 1) past)
    (IsUtf8-drop text (length pre + 1) u (IsCharBoundary-after_ascii text (length pre) u within small)) in
    (before, after)

-- ---- escapes

one_low : (c i : ℕ) → c < 128 → slice_index (c ∷ []) i < 128
one_low c zero h = h
one_low c (suc i) h = omega arith

ascii : (c : ℕ) → c < 128 → IsUtf8 (c ∷ [])
ascii c h = IsUtf8-from_ascii (c ∷ []) (λ i. one_low c i h)

short_low : (x c : ℕ) → short_escape x ≡ Some c → (x < 128) × (c < 128)
unfolding short_escape
short_low x c e = go ((x == 34) || (x == 92) || (x == 47)) (x == 98) (x == 102) (x == 110) (x == 114) (x == 116) refl refl refl refl refl refl e
  where
    low : (n : ℕ) → (x == n) ≡ true → n < 128 → x < 128
    low n e h = let s = eqb-true x n e in omega (arith, s, h)

    small : (x == 34 || x == 92 || x == 47) ≡ true → x < 128
    small e = grind (arith, nat_tests)

    same : (n : ℕ) → x < 128 → n < 128 → Some n ≡ Some c → (x < 128) × (c < 128)
    same n l h e = let s : n ≡ c = cc in (l, subst (λ y. y < 128) s h)

    go : (p b f n r t : Bool) → ((x == 34) || (x == 92) || (x == 47)) ≡ p → (x == 98) ≡ b → (x == 102) ≡ f → (x == 110) ≡ n → (x == 114) ≡ r → (x == 116) ≡ t
        → cond p (Some x) (cond b (Some 8) (cond f (Some 12) (cond n (Some 10) (cond r (Some 13) (cond t (Some 9) None))))) ≡ Some c → (x < 128) × (c < 128)
    go true b f n r t p0 b0 f0 n0 r0 t0 e = same x (small p0) (small p0) e
    go false true f n r t p0 b0 f0 n0 r0 t0 e = same 8 (low 98 b0 (omega arith)) (omega arith) e
    go false false true n r t p0 b0 f0 n0 r0 t0 e = same 12 (low 102 f0 (omega arith)) (omega arith) e
    go false false false true r t p0 b0 f0 n0 r0 t0 e = same 10 (low 110 n0 (omega arith)) (omega arith) e
    go false false false false true t p0 b0 f0 n0 r0 t0 e = same 13 (low 114 r0 (omega arith)) (omega arith) e
    go false false false false false true p0 b0 f0 n0 r0 t0 e = same 9 (low 116 t0 (omega arith)) (omega arith) e
    go false false false false false false p0 b0 f0 n0 r0 t0 e = cc

hex_low : (x : ℕ) → is_digit x 16 ≡ true → (x < 128) × (digit_value x < 16)
hex_low x e =
    let small : digit_value x < 16 = grind (arith, nat_tests) in
    let low : x < 128 = grind (arith, nat_tests) in
    (low, small)

-- what four hex digits are known to be
record IsUnit (a b c d u : ℕ) : Type 0 where
  a_low : a < 128
  b_low : b < 128
  c_low : c < 128
  d_low : d < 128
  unit : u < 65536

unit_is : (a b c d u : ℕ) → code_unit a b c d ≡ Some u → IsUnit a b c d u
unfolding code_unit
unit_is a b c d u e = go (is_digit a 16 && is_digit b 16 && is_digit c 16 && is_digit d 16) refl e
  where
    go : (t : Bool) → (is_digit a 16 && is_digit b 16 && is_digit c 16 && is_digit d 16) ≡ t → cond t (Some (digit_value a * 4096 + digit_value b * 256 + digit_value c * 16 + digit_value d)) None ≡ Some u → IsUnit a b c d u
    go false i h = cc
    go true i h =
        let p = and_parts (is_digit a 16 && is_digit b 16 && is_digit c 16) (is_digit d 16) i in
        let q = and_parts (is_digit a 16 && is_digit b 16) (is_digit c 16) p.0 in
        let r = and_parts (is_digit a 16) (is_digit b 16) q.0 in
        let s : digit_value a * 4096 + digit_value b * 256 + digit_value c * 16 + digit_value d ≡ u = cc in
        let wa = hex_low a r.0 in
        let wb = hex_low b r.1 in
        let wc = hex_low c q.1 in
        let wd = hex_low d p.1 in
        record { a_low = wa.0; b_low = wb.0; c_low = wc.0; d_low = wd.0; unit = omega (arith, s, wa.1, wb.1, wc.1, wd.1) }

unit_scalar : (u : ℕ) → u < 65536 → is_high_surrogate u ≡ false → is_low_surrogate u ≡ false → IsScalar u
unit_scalar u h i j = grind (arith, nat_tests)

pair_scalar : (h l : ℕ) → is_high_surrogate h ≡ true → is_low_surrogate l ≡ true → IsScalar (surrogate_pair h l)
pair_scalar h l i j = grind (arith, nat_tests)

-- ---- the content

abbrev IsHigh : Within → Type 0
IsHigh plain = Unit {0}
IsHigh after_backslash = Unit {0}
IsHigh after_u = Unit {0}
IsHigh (after_high h) = is_high_surrogate h ≡ true

pub content_after : (w : Within) (pre xs : List ℕ) → IsHigh w → IsUtf8 (pre ++ xs) → After pre (content w xs)
unfolding content
content_after plain pre [] ok u = tt
content_after plain pre (x ∷ xs) ok u =
    both pre (x == 34) _ _ (λ q. let s = at_ascii pre x xs (let e = eqb-true x 34 q in omega (arith, e)) u in subst IsUtf8 (sym (append-nil pre)) s.0)
    (λ q. both pre (x == 92) _ _ (λ b. let s = at_ascii pre x xs (let e = eqb-true x 92 b in omega (arith, e)) u in later pre _ s.0 (content_after after_backslash [] xs tt s.1))
    (λ b. both pre (nat_lt x 32) _ _ (λ l. tt) (λ l. pending pre x _ (content_after plain (pre ++ x ∷ []) xs tt (subst IsUtf8 (sym (append_assoc pre (x ∷ []) xs)) u)))))
content_after after_backslash pre [] ok u = tt
content_after after_backslash pre (x ∷ xs) ok u =
    both pre (x == 117) _ _ (λ q. let s = at_ascii pre x xs (let e = eqb-true x 117 q in omega (arith, e)) u in later pre _ s.0 (content_after after_u [] xs tt s.1))
    (λ q. then pre _ (short_escape x) (λ c i. let low = short_low x c i in let s = at_ascii pre x xs low.0 u in joined pre (c ∷ []) _ s.0 (ascii c low.1) (content_after plain [] xs tt s.1)))
content_after after_u pre [] ok u = tt
content_after after_u pre (a ∷ []) ok u = tt
content_after after_u pre (a ∷ b ∷ []) ok u = tt
content_after after_u pre (a ∷ b ∷ c ∷ []) ok u = tt
content_after after_u pre (a ∷ b ∷ c ∷ d ∷ xs) ok u =
    then pre _ (code_unit a b c d) (λ v i. (
    let k = unit_is a b c d v i in
    let s = at_ascii pre a (b ∷ c ∷ d ∷ xs) k.a_low u in
    let s' = at_ascii [] b (c ∷ d ∷ xs) k.b_low s.1 in
    let s'' = at_ascii [] c (d ∷ xs) k.c_low s'.1 in
    let rest = (at_ascii [] d xs k.d_low s''.1).1 in
    both pre (is_high_surrogate v) _ _ (λ h. later pre _ s.0 (content_after (after_high v) [] xs h rest))
    (λ h. both pre (is_low_surrogate v) _ _ (λ l. tt) (λ l. joined pre (encode_utf8 v) _ s.0 (IsUtf8-encode v (unit_scalar v k.unit h l)) (content_after plain [] xs tt rest)))))
content_after (after_high h) pre [] ok u = tt
content_after (after_high h) pre (s ∷ []) ok u = tt
content_after (after_high h) pre (s ∷ t ∷ []) ok u = tt
content_after (after_high h) pre (s ∷ t ∷ a ∷ []) ok u = tt
content_after (after_high h) pre (s ∷ t ∷ a ∷ b ∷ []) ok u = tt
content_after (after_high h) pre (s ∷ t ∷ a ∷ b ∷ c ∷ []) ok u = tt
content_after (after_high h) pre (s ∷ t ∷ a ∷ b ∷ c ∷ d ∷ xs) ok u =
    both pre ((s == 92) && (t == 117)) _ _ (λ e. then pre _ (code_unit a b c d) (λ l i. both pre (is_low_surrogate l) _ _ (λ low. (
    let p = and_parts (s == 92) (t == 117) e in
    let k = unit_is a b c d l i in
    let r = at_ascii pre s (t ∷ a ∷ b ∷ c ∷ d ∷ xs) (let y = eqb-true s 92 p.0 in omega (arith, y)) u in
    let r1 = at_ascii [] t (a ∷ b ∷ c ∷ d ∷ xs) (let y = eqb-true t 117 p.1 in omega (arith, y)) r.1 in
    let r2 = at_ascii [] a (b ∷ c ∷ d ∷ xs) k.a_low r1.1 in
    let r3 = at_ascii [] b (c ∷ d ∷ xs) k.b_low r2.1 in
    let r4 = at_ascii [] c (d ∷ xs) k.c_low r3.1 in
    joined pre (encode_utf8 (surrogate_pair h l)) _ r.0 (IsUtf8-encode (surrogate_pair h l) (pair_scalar h l ok low)) (content_after plain [] xs tt (at_ascii [] d xs k.d_low r4.1).1)))
    (λ low. tt))) (λ e. tt)
