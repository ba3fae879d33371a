-- What a finite map has under a key after a change, and changes one after the other.
use Rattle.std.proofs.Common.{◌≡◌, ◌≢◌, ◌⊎◌, inl, inr, Bool, true, false, cond, refl, sym, ap, subst, ◌∙◌, None, Some}
use Rattle.std.specs.declared.cmp.Ordering.{Ordering}
use Rattle.std.specs.declared.cmp.Ordering.TheVariants.{Less, Equal, Greater}
use Rattle.std.specs.Ordering.{eq_by_cmp, is_eq, ordering_reverse}
use Rattle.std.specs.Cmp.{IsTotalOrder}
use Rattle.std.specs.FinMap.{FinMap, get, insert, remove, same_map, get-insert, get-remove, IsAntisymmetric}

equal : (r : Ordering) → is_eq r ≡ true → r ≡ Equal
equal Less h = cc
equal Equal h = refl
equal Greater h = cc

own_turn : (r : Ordering) → r ≡ ordering_reverse r → is_eq r ≡ true
own_turn Less e = cc
own_turn Equal e = refl
own_turn Greater e = cc

twice : {X : Type 0} (b : Bool) (x y z : X) → cond b x (cond b y z) ≡ cond b x z
twice true x y z = refl
twice false x y z = refl

module _ {K : Type 0} {R : K → K → Ordering} (o : IsTotalOrder R) (anti : IsAntisymmetric R) where
  pub tied_itself : (k : K) → eq_by_cmp R k k ≡ true
  tied_itself k = own_turn (R k k) (o.antisymm k k)

  pub tied_same : (q k : K) → eq_by_cmp R q k ≡ true → q ≡ k
  tied_same q k e = anti q k (equal (R q k) e)

  pub untied : (q k : K) → q ≢ k → eq_by_cmp R q k ≡ false
  untied q k n = go (eq_by_cmp R q k) refl
    where
      go : (b : Bool) → eq_by_cmp R q k ≡ b → b ≡ false
      go true e = absurd (n (tied_same q k e))
      go false e = refl

  pub decided : (q k : K) → (q ≡ k) ⊎ (q ≢ k)
  decided q k = go (eq_by_cmp R q k) refl
    where
      go : (b : Bool) → eq_by_cmp R q k ≡ b → (q ≡ k) ⊎ (q ≢ k)
      go true e = inl (tied_same q k e)
      go false e = inr (λ s. let t = tied_itself q in let u : eq_by_cmp R q k ≡ true = subst (λ x. eq_by_cmp R q x ≡ true) s t in cc)

module _ {K X : Type 0} {R : K → K → Ordering} (o : IsTotalOrder R) (anti : IsAntisymmetric R) where
  pub get-insert_same : (m : FinMap R X) (k : K) (v : X) → get (insert m k v) k ≡ Some v
  get-insert_same m k v = get-insert o m k v k ∙ ap (λ b. cond b (Some v) (get m k)) (tied_itself o anti k)

  pub get-insert_other : (m : FinMap R X) (k : K) (v : X) (q : K) → q ≢ k → get (insert m k v) q ≡ get m q
  get-insert_other m k v q n = get-insert o m k v q ∙ ap (λ b. cond b (Some v) (get m q)) (untied o anti q k n)

  pub get-remove_same : (m : FinMap R X) (k : K) → get (remove m k) k ≡ None
  get-remove_same m k = get-remove o m k k ∙ ap (λ b. cond b None (get m k)) (tied_itself o anti k)

  pub get-remove_other : (m : FinMap R X) (k q : K) → q ≢ k → get (remove m k) q ≡ get m q
  get-remove_other m k q n = get-remove o m k q ∙ ap (λ b. cond b None (get m q)) (untied o anti q k n)

  -- the later of two writes stays
  pub insert-insert : (m : FinMap R X) (k : K) (a b : X) → insert (insert m k a) k b ≡ insert m k b
  insert-insert m k a b = same_map o anti _ _ (λ q.
      get-insert o (insert m k a) k b q ∙ ap (cond (eq_by_cmp R q k) (Some b)) (get-insert o m k a q)
      ∙ twice (eq_by_cmp R q k) (Some b) (Some a) (get m q) ∙ sym (get-insert o m k b q))

  -- what was written is removed
  pub remove-insert : (m : FinMap R X) (k : K) (a : X) → remove (insert m k a) k ≡ remove m k
  remove-insert m k a = same_map o anti _ _ (λ q.
      get-remove o (insert m k a) k q ∙ ap (cond (eq_by_cmp R q k) None) (get-insert o m k a q)
      ∙ twice (eq_by_cmp R q k) None (Some a) (get m q) ∙ sym (get-remove o m k q))

  -- what was removed is put anew
  pub insert-remove : (m : FinMap R X) (k : K) (b : X) → insert (remove m k) k b ≡ insert m k b
  insert-remove m k b = same_map o anti _ _ (λ q.
      get-insert o (remove m k) k b q ∙ ap (cond (eq_by_cmp R q k) (Some b)) (get-remove o m k q)
      ∙ twice (eq_by_cmp R q k) (Some b) None (get m q) ∙ sym (get-insert o m k b q))

  same_there : (m : FinMap R X) (k q : K) (v : X) (b : Bool) → eq_by_cmp R q k ≡ b → get m k ≡ Some v → cond b (Some v) (get m q) ≡ get m q
  same_there m k q v false t e = refl
  same_there m k q v true t e = sym (ap (get m) (tied_same o anti q k t) ∙ e)

  -- to put what is there changes nothing
  pub insert_same : (m : FinMap R X) (k : K) (v : X) → get m k ≡ Some v → insert m k v ≡ m
  insert_same m k v e = same_map o anti _ _ (λ q. get-insert o m k v q ∙ same_there m k q v _ refl e)

  absent_there : (m : FinMap R X) (k q : K) (b : Bool) → eq_by_cmp R q k ≡ b → get m k ≡ None → cond b None (get m q) ≡ get m q
  absent_there m k q false t e = refl
  absent_there m k q true t e = sym (ap (get m) (tied_same o anti q k t) ∙ e)

  -- to remove what is not there changes nothing
  pub remove_same : (m : FinMap R X) (k : K) → get m k ≡ None → remove m k ≡ m
  remove_same m k e = same_map o anti _ _ (λ q. get-remove o m k q ∙ absent_there m k q _ refl e)
