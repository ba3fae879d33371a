-- A key is taken apart into what it was made of.
use Rattle.std.proofs.Common.{◌≡◌, inl, inr, ℕ, zero, suc, ◌+◌, List, [], ◌∷◌, ◌++◌, Bool, true, false, not, ◌&&◌, ◌==◌, if◌then◌else◌, refl, sym, ap, subst, ◌∙◌, arith, None, Some, Option, is_some, option_and_then, unwrap_or}
use Rattle.queue_keys.specs.Names.{Bytes, same, all_free, is_free, has_length, is_reserved, is_name}
use Rattle.queue_keys.specs.Layouts.{Layout, HasStep}
use Rattle.queue_keys.specs.QueueKeys.{step_mark, queue_key, after_front, name_part, mark_part, marked_step, if_name, split_rest, split_key, is_queue_key}
use Rattle.queue_keys.proofs.Basics.{same-refl, same_true, and_true, not_true, eqb-refl, eqb_true, none_some, false_true}

-- ---- fronts

pub rest_after-front : (p k : Bytes) → after_front p (p ++ k) ≡ Some k
rest_after-front [] k = refl
rest_after-front (x ∷ p) k = rw (eqb-refl x) (rest_after-front p k)

pub rest_after_is : (p k r : Bytes) → after_front p k ≡ Some r → k ≡ p ++ r
rest_after_is [] k r e = cc
rest_after_is (x ∷ p) [] r e = none_some _ r e
rest_after_is (x ∷ p) (b ∷ bs) r e =
    elim (x == b) as (λ t. (x == b) ≡ t → (if t then after_front p bs else None) ≡ Some r → b ∷ bs ≡ x ∷ p ++ r) [
      | true ↦ λ t f. let s : x ≡ b = eqb_true x b t in let i : bs ≡ p ++ r = rest_after_is p bs r f in cc
      | false ↦ λ t f. none_some _ r f
    ] refl e

-- ---- names and marks

pub name_free : (q : Bytes) → is_name q ≡ true → (is_reserved q ≡ false) × (all_free q ≡ true)
name_free q e = go (is_reserved q) refl e
  where
    go : (t : Bool) → is_reserved q ≡ t → (if t then false else all_free q && has_length q) ≡ true → (is_reserved q ≡ false) × (all_free q ≡ true)
    go true t f = false_true f
    go false t f = (t, (and_true (all_free q) (has_length q) f).0)

pub not_six : (b : ℕ) → is_free b ≡ true → (b == 6) ≡ false
not_six b e = not_true (b == 6) (and_true (not (b == 6)) (not (b == 22)) e).0

pub name_part-key : (q : Bytes) (s : ℕ) → all_free q ≡ true → name_part (q ++ step_mark s) ≡ q
name_part-key [] zero e = refl
name_part-key [] (suc s) e = refl
name_part-key (b ∷ q) s e = let f = and_true (is_free b) (all_free q) e in rw (not_six b f.0) (ap (λ (r : Bytes). b ∷ r) (name_part-key q s f.1))

pub mark_part-key : (q : Bytes) (s : ℕ) → all_free q ≡ true → mark_part (q ++ step_mark s) ≡ step_mark s
mark_part-key [] zero e = refl
mark_part-key [] (suc s) e = refl
mark_part-key (b ∷ q) s e = let f = and_true (is_free b) (all_free q) e in rw (not_six b f.0) (mark_part-key q s f.1)

pub name_and_mark : (r : Bytes) → name_part r ++ mark_part r ≡ r
name_and_mark [] = refl
name_and_mark (b ∷ r) =
    elim (b == 6) as (λ t. (if t then [] else b ∷ name_part r) ++ (if t then b ∷ r else mark_part r) ≡ b ∷ r) [
      | true ↦ refl
      | false ↦ ap (λ (x : Bytes). b ∷ x) (name_and_mark r)
    ]

pub step_mark_parts : (s t : ℕ) → step_mark s ≡ step_mark t → s ≡ t
step_mark_parts zero zero e = refl
step_mark_parts zero (suc t) e = cc
step_mark_parts (suc s) zero e = cc
step_mark_parts (suc s) (suc t) e = let f : 49 + s ≡ 49 + t = cc in omega arith

pub marked_step-mark : (ss : List ℕ) (s : ℕ) → HasStep ss s → marked_step ss (step_mark s) ≡ Some s
marked_step-mark [] s h = absurd h
marked_step-mark (t ∷ ts) s h =
    elim (same (step_mark t) (step_mark s)) as (λ b. same (step_mark t) (step_mark s) ≡ b → (if b then Some t else marked_step ts (step_mark s)) ≡ Some s) [
      | true ↦ λ e. ap (λ (n : ℕ). Some n) (step_mark_parts t s (same_true (step_mark t) (step_mark s) e))
      | false ↦ λ e. elim h as (λ x. marked_step ts (step_mark s) ≡ Some s) [
        | inl i ↦ let a : same (step_mark t) (step_mark s) ≡ true = subst (λ n. same (step_mark t) (step_mark n) ≡ true) i (same-refl (step_mark t)) in false_true (sym e ∙ a)
        | inr i ↦ marked_step-mark ts s i
      ]
    ] refl

pub marked_step_is : (ss : List ℕ) (m : Bytes) (s : ℕ) → marked_step ss m ≡ Some s → HasStep ss s × (m ≡ step_mark s)
marked_step_is [] m s e = none_some _ s e
marked_step_is (t ∷ ts) m s e =
    elim (same (step_mark t) m) as (λ b. same (step_mark t) m ≡ b → (if b then Some t else marked_step ts m) ≡ Some s → HasStep (t ∷ ts) s × (m ≡ step_mark s)) [
      | true ↦ λ i f. let a : step_mark t ≡ m = same_true (step_mark t) m i in let n : t ≡ s = cc in (inl n, sym a ∙ ap step_mark n)
      | false ↦ λ i f. let r = marked_step_is ts m s f in (inr r.0, r.1)
    ] refl e

-- ---- keys

rest_of_key : (ss : List ℕ) (q : Bytes) (s : ℕ) → is_name q ≡ true → HasStep ss s → split_rest ss (q ++ step_mark s) ≡ Some (q, s)
rest_of_key ss q s n h =
    let f = (name_free q n).1 in
    rw (name_part-key q s f, mark_part-key q s f, marked_step-mark ss s h, n) refl

-- a queue's key at a step of the layout is taken apart into the queue and the step
pub split_of_key : (l : Layout) (q : Bytes) (s : ℕ) → is_name q ≡ true → HasStep l.steps s → split_key l (queue_key l q s) ≡ Some (q, s)
unfolding split_key
split_of_key l q s n h = rw (rest_after-front l.prefix (q ++ step_mark s)) (rest_of_key l.steps q s n h)

pair_parts : (q q' : Bytes) (s s' : ℕ) → ◌≡◌ {A = Option (Bytes × ℕ)} (Some (q, s)) (Some (q', s')) → (q ≡ q') × (s ≡ s')
pair_parts q q' s s' e = (ap (λ (o : Option (Bytes × ℕ)). (unwrap_or o (q, s)).0) e, ap (λ (o : Option (Bytes × ℕ)). (unwrap_or o (q, s)).1) e)

named : (r : Bytes) (s' : ℕ) (q : Bytes) (s : ℕ) → if_name r s' ≡ Some (q, s) → (is_name q ≡ true) × (r ≡ q) × (s' ≡ s)
named r s' q s e = go (is_name r) refl e
  where
    go : (t : Bool) → is_name r ≡ t → if◌then◌else◌ {A = Option (Bytes × ℕ)} t (Some (r, s')) None ≡ Some (q, s) → (is_name q ≡ true) × (r ≡ q) × (s' ≡ s)
    go true t f = let p = pair_parts r q s' s f in (subst (λ x. is_name x ≡ true) p.0 t, p.0, p.1)
    go false t f = none_some _ _ f

key_of_rest : (ss : List ℕ) (r q : Bytes) (s : ℕ) → split_rest ss r ≡ Some (q, s) → (is_name q ≡ true) × HasStep ss s × (r ≡ q ++ step_mark s)
key_of_rest ss r q s e = go (marked_step ss (mark_part r)) refl e
  where
    go : (o : Option ℕ) → marked_step ss (mark_part r) ≡ o → option_and_then (if_name (name_part r)) o ≡ Some (q, s) → (is_name q ≡ true) × HasStep ss s × (r ≡ q ++ step_mark s)
    go None i f = none_some _ _ f
    go (Some s') i f =
        let n = named (name_part r) s' q s f in
        let m = marked_step_is ss (mark_part r) s' i in
        let a : mark_part r ≡ step_mark s = m.1 ∙ ap step_mark n.2 in
        (n.0, subst (λ x. HasStep ss x) n.2 m.0, sym (name_and_mark r) ∙ ap (λ x. x ++ mark_part r) n.1 ∙ ap (λ x. q ++ x) a)

-- and only such a key is taken apart
pub key_of_split : (l : Layout) (k q : Bytes) (s : ℕ) → split_key l k ≡ Some (q, s) → (is_name q ≡ true) × HasStep l.steps s × (k ≡ queue_key l q s)
unfolding split_key
key_of_split l k q s e = go (after_front l.prefix k) refl e
  where
    go : (o : Option Bytes) → after_front l.prefix k ≡ o → option_and_then (split_rest l.steps) o ≡ Some (q, s) → (is_name q ≡ true) × HasStep l.steps s × (k ≡ queue_key l q s)
    go None i f = none_some _ _ f
    go (Some r) i f = let h = key_of_rest l.steps r q s f in (h.0, h.1, rest_after_is l.prefix k r i ∙ ap (λ x. l.prefix ++ x) h.2)

-- the key tells the queue and the step
pub key_parts : (l : Layout) (q : Bytes) (s : ℕ) (q' : Bytes) (s' : ℕ) → is_name q ≡ true → is_name q' ≡ true → HasStep l.steps s → HasStep l.steps s' → queue_key l q s ≡ queue_key l q' s' → (q ≡ q') × (s ≡ s')
key_parts l q s q' s' n n' h h' e = pair_parts q q' s s' (sym (split_of_key l q s n h) ∙ ap (split_key l) e ∙ split_of_key l q' s' n' h')

pub key_is : (l : Layout) (q : Bytes) (s : ℕ) → is_name q ≡ true → HasStep l.steps s → is_queue_key l (queue_key l q s) ≡ true
key_is l q s n h = ap is_some (split_of_key l q s n h)

-- a key that the test passes is a queue's at a step of the layout
pub is_key : (l : Layout) (k : Bytes) → is_queue_key l k ≡ true → (q : Bytes) × (s : ℕ) × (is_name q ≡ true) × HasStep l.steps s × (k ≡ queue_key l q s)
is_key l k e = go (split_key l k) refl e
  where
    go : (o : Option (Bytes × ℕ)) → split_key l k ≡ o → is_some o ≡ true → (q : Bytes) × (s : ℕ) × (is_name q ≡ true) × HasStep l.steps s × (k ≡ queue_key l q s)
    go None i f = false_true f
    go (Some p) i f = let h = key_of_split l k p.0 p.1 i in (p.0, p.1, h.0, h.1, h.2)
