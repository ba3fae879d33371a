-- The text of a seed and a counter, and which texts are tags.
use Rattle.std.proofs.Common.{◌≡◌, ℕ, ◌+◌, ◌*◌, ◌^◌, ◌<◌, List, [], Bool, true, false, ◌&&◌, nat_lt, if◌then◌else◌, Option, Some, None, option_and_then, is_some, unwrap_or, bytes_eq, refl, sym, ap, subst, ◌∙◌, arith}
use Rattle.std.specs.Int.{w128, from_be_bytes}
use Rattle.std.proofs.lemmas.Slice.Eq.{bytes_eq-Decides}
use Rattle.std.proofs.lemmas.Bool.Decides.{nat_tests}
use Rattle.uuid.specs.Text.{parsed}
use Rattle.delivery_tags.specs.Tags.{tag_text, if_spelled, tag_of_text, tag_number, tag, is_tag}
use Rattle.delivery_tags.proofs.TagTexts.{tag_of_text-tag_text}

and_true : (a b : Bool) → (a && b) ≡ true → (a ≡ true) × (b ≡ true)
and_true true b e = (refl, e)
and_true false b e = cc

-- ---- the text of a seed and a counter

fits : (s n : ℕ) → s < 2 ^ 64 → n < 2 ^ 64 → tag_number s n < 2 ^ 128
fits s n a b = omega arith

within : (s n : ℕ) → s < 2 ^ 64 → n < 2 ^ 64 → (nat_lt s (2 ^ 64) && nat_lt n (2 ^ 64)) ≡ true
within s n a b = let c : nat_lt s (2 ^ 64) ≡ true = grind (arith, nat_tests) in let d : nat_lt n (2 ^ 64) ≡ true = grind (arith, nat_tests) in rw c d

pub tag_is : (s n : ℕ) → s < 2 ^ 64 → n < 2 ^ 64 → is_tag (tag s n) ≡ true
tag_is s n a b = rw (within s n a b) (ap is_some (tag_of_text-tag_text (tag_number s n) (fits s n a b)))

-- a tag's text is that of a seed and a counter of 64 bits
tag_known : (s n : ℕ) → is_tag (tag s n) ≡ true → (s < 2 ^ 64) × (n < 2 ^ 64) × (tag s n ≡ tag_text (tag_number s n))
tag_known s n e = go (nat_lt s (2 ^ 64) && nat_lt n (2 ^ 64)) refl e
  where
    go : (t : Bool) → (nat_lt s (2 ^ 64) && nat_lt n (2 ^ 64)) ≡ t → is_tag (if t then tag_text (tag_number s n) else []) ≡ true → (s < 2 ^ 64) × (n < 2 ^ 64) × (tag s n ≡ tag_text (tag_number s n))
    go true t f =
        let p = and_true (nat_lt s (2 ^ 64)) (nat_lt n (2 ^ 64)) t in
        let a : s < 2 ^ 64 = let x = p.0 in grind (arith, nat_tests) in
        let b : n < 2 ^ 64 = let x = p.1 in grind (arith, nat_tests) in
        (a, b, rw t refl)
    go false t f = cc

halves : (s n s' n' : ℕ) → n < 2 ^ 64 → n' < 2 ^ 64 → s * 2 ^ 64 + n ≡ s' * 2 ^ 64 + n' → (s ≡ s') × (n ≡ n')
halves s n s' n' a b e = (omega arith, omega arith)

some_parts : (m n : ℕ) → ◌≡◌ {A = Option ℕ} (Some m) (Some n) → m ≡ n
some_parts m n e = ap (λ (o : Option ℕ). unwrap_or o m) e

pub tag_parts : (s n s' n' : ℕ) → is_tag (tag s n) ≡ true → tag s n ≡ tag s' n' → (s ≡ s') × (n ≡ n')
tag_parts s n s' n' h e =
    let a = tag_known s n h in
    let b = tag_known s' n' (subst (λ t. is_tag t ≡ true) e h) in
    let same : tag_text (tag_number s n) ≡ tag_text (tag_number s' n') = sym a.2 ∙ e ∙ b.2 in
    halves s n s' n' a.1 b.1 (some_parts (tag_number s n) (tag_number s' n')
    (sym (tag_of_text-tag_text (tag_number s n) (fits s n a.0 a.1)) ∙ ap tag_of_text same ∙ tag_of_text-tag_text (tag_number s' n') (fits s' n' b.0 b.1)))

-- ---- what texts are tags

spelled_is : (s : List ℕ) (m n : ℕ) → if_spelled s m ≡ Some n → s ≡ tag_text n
spelled_is s m n e = go (bytes_eq s (tag_text m)) refl e
  where
    go : (t : Bool) → bytes_eq s (tag_text m) ≡ t → (if t then Some m else None) ≡ Some n → s ≡ tag_text n
    go true t f = (bytes_eq-Decides s (tag_text m)).0 t ∙ ap tag_text (some_parts m n f)
    go false t f = cc

pub text_is : (s : List ℕ) (n : ℕ) → tag_of_text s ≡ Some n → s ≡ tag_text n
text_is s n e = go (parsed s) e
  where
    go : (o : Option (List ℕ)) → option_and_then (λ u. if_spelled s (from_be_bytes w128 u)) o ≡ Some n → s ≡ tag_text n
    go None f = cc
    go (Some u) f = spelled_is s (from_be_bytes w128 u) n f

pub text_read : (o : Option (List ℕ)) (n : ℕ) → option_and_then tag_of_text o ≡ Some n → is_tag (tag_text n) ≡ true
text_read None n e = cc
text_read (Some s) n e = subst (λ t. is_tag t ≡ true) (text_is s n e) (ap is_some e)
