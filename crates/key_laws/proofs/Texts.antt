-- A token tells its seed and its number.
use Rattle.std.proofs.Common.{◌≡◌, ℕ, ◌+◌, ◌^◌, ◌<◌, ◌-◌, ◌%◌, min, [], ◌∷◌, ◌++◌, Bool, true, false, not, ◌&&◌, ◌==◌, refl, subst, arith, decimal}
use Rattle.std.proofs.lemmas.Bool.Decides.{nat_tests}
use Rattle.std.proofs.lemmas.Fmt.{decimal_by_steps, decimal_injective}
use Rattle.queue_keys.specs.Names.{Bytes}
use Rattle.queue_keys.specs.Texts.{token}
use Rattle.queue_keys.proofs.Basics.{and_true, false_true}

-- no byte is a colon
abbrev no_colon : Bytes → Bool
no_colon [] = true
no_colon (b ∷ bs) = not (b == 58) && no_colon bs

digit_no_colon : (d : ℕ) → d < 10 → ((48 + d) == 58) ≡ false
digit_no_colon d h = grind (arith, nat_tests)

no_colon-last : (ds : Bytes) (d : ℕ) → d < 10 → no_colon ds ≡ true → no_colon (ds ++ (48 + d) ∷ []) ≡ true
no_colon-last [] d h e = rw (digit_no_colon d h) refl
no_colon-last (b ∷ ds) d h e = let f = and_true (not (b == 58)) (no_colon ds) e in rw (f.0) (no_colon-last ds d h f.1)

decimal_plain : (n : ℕ) → n < 2 ^ 64 → no_colon (decimal n) ≡ true
decimal_plain n h = decimal_by_steps (λ n ds. no_colon ds ≡ true) (λ n i. no_colon-last [] n i refl) (λ n ds i e. no_colon-last ds (n % 10) (omega arith) e) n h

colon_off : (b : ℕ) → b ≡ 58 → not (b == 58) ≡ true → ⊥
colon_off b e h = false_true (subst (λ x. not (x == 58) ≡ true) e h)

cut_parts : (a a' b b' : Bytes) → no_colon a ≡ true → no_colon a' ≡ true → a ++ 58 ∷ b ≡ a' ++ 58 ∷ b' → (a ≡ a') × (b ≡ b')
cut_parts [] [] b b' h h' e = (refl, cc)
cut_parts [] (c ∷ a') b b' h h' e = let f : c ≡ 58 = cc in absurd (colon_off c f (and_true (not (c == 58)) (no_colon a') h').0)
cut_parts (c ∷ a) [] b b' h h' e = let f : c ≡ 58 = cc in absurd (colon_off c f (and_true (not (c == 58)) (no_colon a) h).0)
cut_parts (c ∷ a) (c' ∷ a') b b' h h' e =
    let s : c ≡ c' = cc in
    let r : a ++ 58 ∷ b ≡ a' ++ 58 ∷ b' = cc in
    let i = cut_parts a a' b b' (and_true (not (c == 58)) (no_colon a) h).1 (and_true (not (c' == 58)) (no_colon a') h').1 r in
    let j = i.0 in
    (cc, i.1)

held : (n : ℕ) → n < 2 ^ 64 → min n (2 ^ 64 - 1) ≡ n
held n h = omega (arith, h)

pub token_parts : (s n s' n' : ℕ) → s < 2 ^ 64 → n < 2 ^ 64 → s' < 2 ^ 64 → n' < 2 ^ 64 → token s n ≡ token s' n' → (s ≡ s') × (n ≡ n')
token_parts s n s' n' a b c d e =
    let f : decimal s ++ 58 ∷ decimal n ≡ decimal s' ++ 58 ∷ decimal n' = subst (λ k. decimal s ++ 58 ∷ decimal k ≡ decimal s' ++ 58 ∷ decimal n') (held n b) (subst (λ k. decimal s ++ 58 ∷ decimal (min n (2 ^ 64 - 1)) ≡ decimal s' ++ 58 ∷ decimal k) (held n' d) e) in
    let p = cut_parts (decimal s) (decimal s') (decimal n) (decimal n') (decimal_plain s a) (decimal_plain s' c) f in
    (decimal_injective s s' a c p.0, decimal_injective n n' b d p.1)
