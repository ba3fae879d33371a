-- Text in UTF-8 is bytes.
use Rattle.std.proofs.Common.{◌≡◌, ℕ, zero, suc, ◌+◌, ◌/◌, ◌%◌, ◌<◌, Bool, true, false, cond, ltb, ltb-true, List, [], ◌∷◌, ◌++◌, IsUtf8, inl, inr, refl, subst, arith}
use Rattle.std.proofs.lemmas.Bool.{and_parts}
use Rattle.std.proofs.Math.Utf8.{scalar, scalars, scalar_cases, encode, encodes}
use Rattle.base64.specs.GeneralPurpose.{IsBytes}

-- each is a byte
abbrev AreBytes : List ℕ → Type 0
AreBytes [] = Unit {0}
AreBytes (x ∷ xs) = (x < 256) × AreBytes xs

bytes-append : (xs ys : List ℕ) → AreBytes xs → AreBytes ys → AreBytes (xs ++ ys)
bytes-append [] ys h k = k
bytes-append (x ∷ xs) ys h k = (h.0, bytes-append xs ys h.1 k)

below : (c : ℕ) → scalar c ≡ true → c < 1114112
below c e = elim (scalar_cases c e) [ inl h ↦ omega arith | inr h ↦ h.1 ]

bytes-encode : (c : ℕ) → scalar c ≡ true → AreBytes (encode c)
unfolding encode
bytes-encode c e = go (ltb c 128) (ltb c 2048) (ltb c 65536) refl refl refl
  where
    go : (x y z : Bool) → ltb c 128 ≡ x → ltb c 2048 ≡ y → ltb c 65536 ≡ z
        → AreBytes (cond x (c ∷ []) (cond y ((192 + c / 64) ∷ (128 + c % 64) ∷ []) (cond z ((224 + c / 4096) ∷ (128 + (c / 64) % 64) ∷ (128 + c % 64) ∷ []) ((240 + c / 262144) ∷ (128 + (c / 4096) % 64) ∷ (128 + (c / 64) % 64) ∷ (128 + c % 64) ∷ []))))
    go true y z p q r = let h = ltb-true c 128 p in (omega arith, tt)
    go false true z p q r = let h = ltb-true c 2048 q in (omega arith, (omega arith, tt))
    go false false true p q r = let h = ltb-true c 65536 r in (omega arith, (omega arith, (omega arith, tt)))
    go false false false p q r = let h = below c e in (omega arith, (omega arith, (omega arith, (omega arith, tt))))

bytes-encodes : (cs : List ℕ) → scalars cs ≡ true → AreBytes (encodes cs)
bytes-encodes [] e = tt
bytes-encodes (c ∷ cs) e = let p = and_parts (scalar c) (scalars cs) e in bytes-append (encode c) (encodes cs) (bytes-encode c p.0) (bytes-encodes cs p.1)

each_byte : (xs : List ℕ) → AreBytes xs → IsBytes xs
each_byte [] h i = omega arith
each_byte (x ∷ xs) h zero = h.0
each_byte (x ∷ xs) h (suc i) = each_byte xs h.1 i

-- text in UTF-8 is bytes
pub utf8_bytes : (xs : List ℕ) → IsUtf8 xs → IsBytes xs
utf8_bytes xs u = each_byte xs (subst AreBytes u.1.1 (bytes-encodes u.0 u.1.0))
