-- Tables of what messages are told with.
use Rattle.std.proofs.Common.{◌≡◌, ◌≢◌, ◌⊎◌, inl, inr, ℕ, zero, suc, ◌+◌, List, [], ◌∷◌, ◌++◌, Bool, true, false, cond, not, ◌&&◌, ◌==◌, if◌then◌else◌, refl, sym, ap, subst, ◌∙◌, arith, filter, Option, None, Some, is_some, length, drop, ◌≤◌}
use Rattle.std.proofs.lemmas.List.{append-nil, drop_all}
use Rattle.std.proofs.lemmas.Cmp.{nat_cmp_total}
use Rattle.std.specs.Ordering.{nat_cmp, eq_by_cmp}
use Rattle.std.specs.FinMap.{FinMap, empty, get, get-empty, get-insert, insert, nat_cmp-IsAntisymmetric}
use Rattle.store_tables.proofs.Lookups.{decided, tied_itself, untied}
use Rattle.message_acts.specs.Numbers.{times}
use Rattle.place_index.specs.Places.{first_of}
use Rattle.place_index.specs.Tallies.{first_numbers, tally}
use Rattle.queue_keys.proofs.Basics.{eqb-refl, eqb_true}

eq_is : (t n : ℕ) → eq_by_cmp nat_cmp t n ≡ (n == t)
eq_is t n = go (decided nat_cmp_total nat_cmp-IsAntisymmetric t n)
  where
    differ : (b : Bool) → t ≢ n → (n == t) ≡ b → (n == t) ≡ false
    differ true ne e = absurd (ne (sym (eqb_true n t e)))
    differ false ne e = e

    go : (t ≡ n) ⊎ (t ≢ n) → eq_by_cmp nat_cmp t n ≡ (n == t)
    go (inl e) = subst (λ m. eq_by_cmp nat_cmp t m ≡ (m == t)) e (tied_itself nat_cmp_total nat_cmp-IsAntisymmetric t ∙ sym (eqb-refl t))
    go (inr ne) = untied nat_cmp_total nat_cmp-IsAntisymmetric t n ne ∙ sym (differ (n == t) ne refl)

-- what is under a number after a value was put
pub get_put : {X : Type 0} (m : FinMap nat_cmp X) (n : ℕ) (v : X) (t : ℕ) → get (insert m n v) t ≡ (if n == t then Some v else get m t)
get_put m n v t = get-insert nat_cmp_total m n v t ∙ ap (λ b. cond b (Some v) (get m t)) (eq_is t n)

-- ---- how often

-- after these numbers are told too
abbrev pub told_too : FinMap nat_cmp Bool → List ℕ → FinMap nat_cmp Bool
told_too m [] = m
told_too m (n ∷ ns) = told_too (insert m n (is_some (get m n))) ns

-- what is told so often more
abbrev pub more : Option Bool → ℕ → Option Bool
more None k = tally k
more (Some b) zero = Some b
more (Some b) (suc k) = Some true

again : (o : Option Bool) (k : ℕ) → more (Some (is_some o)) k ≡ more o (suc k)
again None zero = refl
again None (suc k) = refl
again (Some b) zero = refl
again (Some b) (suc k) = refl

told_more : (t : ℕ) (m : FinMap nat_cmp Bool) (ns : List ℕ) → get (told_too m ns) t ≡ more (get m t) (times t ns)
told_more t m [] = none (get m t)
  where
    none : (o : Option Bool) → o ≡ more o 0
    none None = refl
    none (Some b) = refl
told_more t m (n ∷ ns) =
    told_more t (insert m n (is_some (get m n))) ns
    ∙ ap (λ o. more o (times t ns)) (get_put m n (is_some (get m n)) t)
    ∙ go (n == t) refl
  where
    one_more : (k : ℕ) → suc k ≡ 1 + k
    one_more k = omega arith

    no_more : (k : ℕ) → k ≡ 0 + k
    no_more k = omega arith

    go : (b : Bool) → (n == t) ≡ b → more (if b then Some (is_some (get m n)) else get m t) (times t ns) ≡ more (get m t) ((if b then 1 else 0) + times t ns)
    go true e =
        let s : n ≡ t = eqb_true n t e in
        ap (λ q. more (Some (is_some (get m q))) (times t ns)) s ∙ again (get m t) (times t ns) ∙ ap (more (get m t)) (one_more (times t ns))
    go false e = ap (more (get m t)) (no_more (times t ns))

-- each number with whether it is told more than once
pub tallied_is : (ns : List ℕ) (t : ℕ) → get (told_too empty ns) t ≡ tally (times t ns)
tallied_is ns t = told_more t empty ns ∙ ap (λ o. more o (times t ns)) (get-empty nat_cmp t)

-- at the end of the numbers
pub told_end : (m : FinMap nat_cmp Bool) (ns : List ℕ) (k : ℕ) → length ns ≤ k → told_too m (drop k ns) ≡ told_too empty ns → (t : ℕ) → get m t ≡ tally (times t ns)
told_end m ns k past so_far t = ap (λ q. get q t) (sym (ap (told_too m) (drop_all k ns past)) ∙ so_far) ∙ tallied_is ns t

-- ---- where first

-- those that aren't known yet, each once
abbrev pub fresh : FinMap nat_cmp (Unit {0}) → List ℕ → List ℕ
fresh m [] = []
fresh m (n ∷ ns) = if is_some (get m n) then fresh m ns else n ∷ fresh (insert m n tt) ns

-- whether it isn't known
abbrev unknown : FinMap nat_cmp (Unit {0}) → ℕ → Bool
unknown m n = not (is_some (get m n))

filter-filter : (p q : ℕ → Bool) (xs : List ℕ) → filter p (filter q xs) ≡ filter (λ x. q x && p x) xs
filter-filter p q [] = refl
filter-filter p q (x ∷ xs) = go (q x) (p x) refl (filter-filter p q xs)
  where
    go : (a b : Bool) → p x ≡ b → filter p (filter q xs) ≡ filter (λ x. q x && p x) xs → filter p (cond a (x ∷ filter q xs) (filter q xs)) ≡ cond (a && p x) (x ∷ filter (λ x. q x && p x) xs) (filter (λ x. q x && p x) xs)
    go true true e i = rw e (ap (λ (l : List ℕ). x ∷ l) i)
    go true false e i = rw e i
    go false b e i = i

filter_same : (p q : ℕ → Bool) → ((x : ℕ) → p x ≡ q x) → (xs : List ℕ) → filter p xs ≡ filter q xs
filter_same p q h [] = refl
filter_same p q h (x ∷ xs) = ap (λ b. cond b (x ∷ filter p xs) (filter p xs)) (h x) ∙ ap (λ l. cond (q x) (x ∷ l) l) (filter_same p q h xs)

filter_all : (p : ℕ → Bool) → ((x : ℕ) → p x ≡ true) → (xs : List ℕ) → filter p xs ≡ xs
filter_all p h [] = refl
filter_all p h (x ∷ xs) = ap (λ b. cond b (x ∷ filter p xs) (filter p xs)) (h x) ∙ ap (λ (l : List ℕ). x ∷ l) (filter_all p h xs)

fresh_is : (m : FinMap nat_cmp (Unit {0})) (ns : List ℕ) → fresh m ns ≡ filter (unknown m) (first_numbers ns)
fresh_is m [] = refl
fresh_is m (n ∷ ns) = go (fresh_is m ns) (fresh_is (insert m n tt) ns) (is_some (get m n)) refl
  where
    rest : List ℕ
    rest = first_numbers ns

    known_two : (b : Bool) → is_some (get m n) ≡ true → (x : ℕ) → (x == n) ≡ b → (not b && unknown m x) ≡ unknown m x
    known_two true k x e = let s : x ≡ n = eqb_true x n e in sym (ap (λ q. not (is_some (get m q))) s ∙ ap not k)
    known_two false k x e = refl

    put_two : (b c : Bool) (x : ℕ) → (n == x) ≡ b → (x == n) ≡ c → (not c && unknown m x) ≡ not (is_some (if b then Some tt else get m x))
    put_two true true x e f = refl
    put_two false false x e f = refl
    put_two true false x e f = let s : n ≡ x = eqb_true n x e in absurd (let g : (x == n) ≡ true = subst (λ q. (q == n) ≡ true) s (eqb-refl n) in cc)
    put_two false true x e f = let s : x ≡ n = eqb_true x n f in absurd (let g : (n == x) ≡ true = subst (λ q. (n == q) ≡ true) (sym s) (eqb-refl n) in cc)

    go : fresh m ns ≡ filter (unknown m) rest → fresh (insert m n tt) ns ≡ filter (unknown (insert m n tt)) rest → (b : Bool) → is_some (get m n) ≡ b → (if b then fresh m ns else n ∷ fresh (insert m n tt) ns) ≡ cond (not b) (n ∷ filter (unknown m) (filter (λ x. not (x == n)) rest)) (filter (unknown m) (filter (λ x. not (x == n)) rest))
    go i j true k =
        i
        ∙ sym (filter-filter (unknown m) (λ x. not (x == n)) rest ∙ filter_same (λ x. not (x == n) && unknown m x) (unknown m) (λ x. known_two (x == n) k x refl) rest)
    go i j false k =
        ap (λ (l : List ℕ). n ∷ l)
        (j
        ∙ sym (filter-filter (unknown m) (λ x. not (x == n)) rest
        ∙ filter_same (λ x. not (x == n) && unknown m x) (unknown (insert m n tt)) (λ x. put_two (n == x) (x == n) x refl refl ∙ sym (ap (λ o. not (is_some o)) (get_put m n tt x))) rest))

-- those that aren't known, where none is
pub fresh_first : (ns : List ℕ) → fresh empty ns ≡ first_numbers ns
fresh_first ns = fresh_is empty ns ∙ filter_all (unknown empty) (λ x. ap (λ o. not (is_some o)) (get-empty nat_cmp x)) (first_numbers ns)

-- at the end of the numbers
pub fresh_end : (fs : List ℕ) (m : FinMap nat_cmp (Unit {0})) (ns : List ℕ) (k : ℕ) → length ns ≤ k → fs ++ fresh m (drop k ns) ≡ fresh empty ns → fs ≡ first_numbers ns
fresh_end fs m ns k past so_far = sym (append-nil fs) ∙ sym (ap (λ l. fs ++ fresh m l) (drop_all k ns past)) ∙ so_far ∙ fresh_first ns

-- ---- with what first

-- the first of two
abbrev pub or_later : {X : Type 0} → Option X → Option X → Option X
or_later None o = o
or_later (Some x) o = Some x

module _ {X : Type 0} where
  first_of-push : (t : ℕ) (ps : List (ℕ × X)) (p : ℕ × X) → first_of t (ps ++ p ∷ []) ≡ or_later (first_of t ps) (if p.0 == t then Some p.1 else None)
  first_of-push t [] p = refl
  first_of-push t (q ∷ ps) p = go (q.0 == t) (first_of-push t ps p)
    where
      go : (b : Bool) → first_of t (ps ++ p ∷ []) ≡ or_later (first_of t ps) (if p.0 == t then Some p.1 else None) → (if b then Some q.1 else first_of t (ps ++ p ∷ [])) ≡ or_later (if b then Some q.1 else first_of t ps) (if p.0 == t then Some p.1 else None)
      go true i = refl
      go false i = i

  later : (o : Option X) (b : Bool) (v : X) (r : Option X) → or_later o (if b then Some v else r) ≡ or_later (or_later o (if b then Some v else None)) r
  later None true v r = refl
  later None false v r = refl
  later (Some x) b v r = refl

  -- the last that is told is put
  pub told_last : (t : ℕ) (ps qs : List (ℕ × X)) (n : ℕ) (v : X) (m : FinMap nat_cmp X) → ps ≡ qs ++ (n, v) ∷ [] → or_later (first_of t qs) (get (insert m n v) t) ≡ or_later (first_of t ps) (get m t)
  told_last t ps qs n v m e =
      ap (or_later (first_of t qs)) (get_put m n v t)
      ∙ later (first_of t qs) (n == t) v (get m t)
      ∙ sym (ap (λ l. or_later (first_of t l) (get m t)) e ∙ ap (λ o. or_later o (get m t)) (first_of-push t qs (n, v)))

  or_none : (o : Option X) → or_later o None ≡ o
  or_none None = refl
  or_none (Some x) = refl

  -- before anything is put
  pub told_none : (t : ℕ) (ps : List (ℕ × X)) → or_later (first_of t ps) (get (empty {X = X} {R = nat_cmp}) t) ≡ first_of t ps
  told_none t ps = ap (or_later (first_of t ps)) (get-empty nat_cmp t) ∙ or_none (first_of t ps)
