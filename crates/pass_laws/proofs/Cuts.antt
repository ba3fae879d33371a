-- Where a return ends among calls is determined by their answers.
use Rattle.std.proofs.Common.{◌≡◌, List, [], ◌∷◌, ◌++◌, refl, sym, ap, ◌∙◌, subst}
use Rattle.command_blocks.specs.Calls.{Call}
use Rattle.command_blocks.specs.Scripts.{Script, Over, Off, after_call, rest_of}
use Rattle.block_laws.proofs.Talks.{off_not}

-- the first of some calls, or else another, and those after it
abbrev pub first_or : Call → List Call → Call
first_or c [] = c
first_or c (x ∷ xs) = x

abbrev pub others_of : List Call → List Call
others_of [] = []
others_of (x ∷ xs) = xs

off_still : (l : List Call) → rest_of Off l ≡ Off
off_still [] = refl
off_still (x ∷ xs) = off_still xs

-- a script that is over before a call isn't after it
never : (p : Script) (x : Call) (l : List Call) → p ≡ Over → rest_of (after_call p x) l ≡ Over → ⊥
never p x l over still = off_not (sym (off_still l) ∙ ap (λ q. rest_of (after_call q x) l) (sym over) ∙ still)

-- of two beginnings of the same calls, each of which says a script to its end, both are the same
pub cut : (p : Script) (a b x y : List Call) → a ++ x ≡ b ++ y → rest_of p a ≡ Over → rest_of p b ≡ Over → (a ≡ b) × (x ≡ y)
cut p [] [] x y e f g = (refl, e)
cut p [] (c ∷ b) x y e f g = absurd (never p c b f g)
cut p (c ∷ a) [] x y e f g = absurd (never p c a g f)
cut p (c ∷ a) (d ∷ b) x y e f g =
    let same : c ≡ d = ap (first_or c) e in
    let h = cut (after_call p c) a b x y (ap others_of e) f (subst (λ z. rest_of (after_call p z) b ≡ Over) (sym same) g) in
    ((λ i. same i ∷ h.0 i), h.1)
