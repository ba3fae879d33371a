-- Lists at their ends.
use Rattle.std.proofs.Common.{◌≡◌, List, [], ◌∷◌, ◌++◌, refl, sym, ap, ◌∙◌, length}
use Rattle.numerals.specs.Integers.{natural_of}
use Rattle.store_model.specs.Words.{Bytes, front, final, brpop_of, brpop_until}

pub not_empty : {A : Type 0} (ys : List A) (l : A) → [] ≡ ys ++ l ∷ [] → ⊥
not_empty [] l e = cc
not_empty (y ∷ ys) l e = cc

tail_of : {A : Type 0} (x y : A) (xs ys : List A) → x ∷ xs ≡ y ∷ ys → xs ≡ ys
tail_of x y xs ys e = cc

head_of : {A : Type 0} (x y : A) (xs ys : List A) → x ∷ xs ≡ y ∷ ys → x ≡ y
head_of x y xs ys e = cc

pub front_is : {A : Type 0} (z : A) (zs ys : List A) (l : A) → z ∷ zs ≡ ys ++ l ∷ [] → front z zs ≡ ys
front_is z [] [] l e = refl
front_is z [] (y ∷ ys) l e = absurd (not_empty ys l (tail_of z y _ _ e))
front_is z (w ∷ zs) [] l e = cc
front_is z (w ∷ zs) (y ∷ ys) l e = ap (λ t. t ∷ front w zs) (head_of z y _ _ e) ∙ ap (λ t. y ∷ t) (front_is w zs ys l (tail_of z y _ _ e))

pub final_is : {A : Type 0} (z : A) (zs ys : List A) (l : A) → z ∷ zs ≡ ys ++ l ∷ [] → final z zs ≡ l
final_is z [] [] l e = cc
final_is z [] (y ∷ ys) l e = absurd (not_empty ys l (tail_of z y _ _ e))
final_is z (w ∷ zs) [] l e = cc
final_is z (w ∷ zs) (y ∷ ys) l e = final_is w zs ys l (tail_of z y _ _ e)

-- the keys of BRPOP are all words but the last, which is the time
pub brpop_split : (args ys : List Bytes) (l : Bytes) → args ≡ ys ++ l ∷ [] → (length ys ≡ 0 → ⊥) → brpop_until ys (natural_of l) ≡ brpop_of args
brpop_split [] ys l e n = absurd (not_empty ys l e)
brpop_split (k ∷ []) [] l e n = absurd (n refl)
brpop_split (k ∷ []) (y ∷ ys) l e n = absurd (not_empty ys l (tail_of k y _ _ e))
brpop_split (k ∷ x ∷ xs) [] l e n = absurd (n refl)
brpop_split (k ∷ x ∷ xs) (y ∷ ys) l e n =
    let front' : k ∷ front x xs ≡ y ∷ ys = ap (λ t. t ∷ front x xs) (head_of k y _ _ e) ∙ ap (λ t. y ∷ t) (front_is x xs ys l (tail_of k y _ _ e)) in
    let final' = final_is x xs ys l (tail_of k y _ _ e) in
    sym (ap (λ ks. brpop_until ks (natural_of (final x xs))) front' ∙ ap (λ w. brpop_until (y ∷ ys) (natural_of w)) final')
