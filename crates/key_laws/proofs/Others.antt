-- No other key is a queue's.
use Rattle.std.proofs.Common.{◌≡◌, ℕ, zero, suc, ◌+◌, [], ◌∷◌, ◌++◌, reverse, Bool, true, false, ◌&&◌, ◌||◌, ◌==◌, if◌then◌else◌, refl, sym, ap, subst, ◌∙◌, None, Some, Option, append-nil}
use Rattle.std.proofs.lemmas.List.{reverse-append}
use Rattle.queue_keys.specs.Names.{Bytes, same, has_front, has_end, all_free, is_free, is_reserved, is_name, unacked_name, index_name, mutex_name, binding_front, result_front, reply_end}
use Rattle.queue_keys.specs.Layouts.{Layout}
use Rattle.queue_keys.specs.QueueKeys.{step_mark, key, unacked_key, index_key, mutex_key, binding_key, after_front, is_queue_key, is_reply_key, ends_as_reply}
use Rattle.queue_keys.proofs.Basics.{same-refl, same_false, and_true, eqb-refl, false_true}
use Rattle.queue_keys.proofs.Splits.{rest_after-front, rest_after_is, name_free, is_key}

-- the rest of a key with this prefix
rest_alike : (p a b : Bytes) → p ++ a ≡ p ++ b → a ≡ b
rest_alike p a b e = let f : Some a ≡ Some b = sym (rest_after-front p a) ∙ ap (after_front p) e ∙ rest_after-front p b in cc

-- a key is no queue's where no lawful name with a mark spells it
no_queue : (l : Layout) (k : Bytes) → ((q : Bytes) (s : ℕ) → is_name q ≡ true → k ≡ q ++ step_mark s → ⊥) → is_queue_key l (key l k) ≡ false
no_queue l k n = go (is_queue_key l (key l k)) refl
  where
    go : (t : Bool) → is_queue_key l (key l k) ≡ t → t ≡ false
    go true e = let h = is_key l (key l k) e in absurd (n h.0 h.1 h.2 (rest_alike l.prefix k (h.0 ++ step_mark h.1) h.4))
    go false e = refl

reserved_not : (q : Bytes) → is_reserved q ≡ true → is_name q ≡ true → ⊥
reserved_not q r n = let f : is_reserved q ≡ false = (name_free q n).0 in false_true (sym f ∙ r)

-- ---- a name that has no 06 is no marked key

name_only : (w q : Bytes) (s : ℕ) → all_free w ≡ true → w ≡ q ++ step_mark s → w ≡ q
name_only w q zero f e = e ∙ append-nil q
name_only w q (suc s) f e = absurd (not_free q (subst (λ x. all_free x ≡ true) e f))
  where
    not_free : (q : Bytes) → all_free (q ++ (6 ∷ 22 ∷ (49 + s) ∷ [])) ≡ true → ⊥
    not_free [] h = false_true h
    not_free (b ∷ q) h = not_free q (and_true (is_free b) (all_free (q ++ (6 ∷ 22 ∷ (49 + s) ∷ []))) h).1

plain_not : (l : Layout) (w : Bytes) → all_free w ≡ true → is_reserved w ≡ true → is_queue_key l (key l w) ≡ false
plain_not l w f r = no_queue l w (λ q s n e. reserved_not q (subst (λ x. is_reserved x ≡ true) (name_only w q s f e) r) n)

pub unacked_not : (l : Layout) → is_queue_key l (unacked_key l) ≡ false
unfolding same
unacked_not l = plain_not l unacked_name refl refl

pub index_not : (l : Layout) → is_queue_key l (index_key l) ≡ false
unfolding same
index_not l = plain_not l index_name refl refl

pub mutex_not : (l : Layout) → is_queue_key l (mutex_key l) ≡ false
unfolding same
mutex_not l = plain_not l mutex_name refl refl

-- ---- a front that has no 06 is a front of the name

front_of_name : (w e q : Bytes) (s : ℕ) → all_free w ≡ true → w ++ e ≡ q ++ step_mark s → has_front w q ≡ true
front_of_name [] e q s f i = refl
front_of_name (b ∷ w) e [] zero f i = cc
front_of_name (b ∷ w) e [] (suc s) f i = let a : b ≡ 6 = cc in false_true (subst (λ x. (is_free x && all_free w) ≡ true) a f)
front_of_name (b ∷ w) e (c ∷ q) s f i =
    let a : c ≡ b = cc in
    let r : w ++ e ≡ q ++ step_mark s = cc in
    rw (a, eqb-refl b) (front_of_name w e q s (and_true (is_free b) (all_free w) f).1 r)

or_true : (a b c d e f : Bool) → d ≡ true → (a || b || c || d || e || f) ≡ true
or_true true b c d e f h = refl
or_true false true c d e f h = refl
or_true false false true d e f h = refl
or_true false false false true e f h = refl
or_true false false false false e f h = false_true h

or_true_last : (a b c d e f : Bool) → f ≡ true → (a || b || c || d || e || f) ≡ true
or_true_last true b c d e f h = refl
or_true_last false true c d e f h = refl
or_true_last false false true d e f h = refl
or_true_last false false false true e f h = refl
or_true_last false false false false true f h = refl
or_true_last false false false false false f h = h

reserved_front : (q : Bytes) → has_front binding_front q ≡ true → is_reserved q ≡ true
reserved_front q h = or_true (same unacked_name q) (same index_name q) (same mutex_name q) (has_front binding_front q) (has_front result_front q) (has_end reply_end q) h

reserved_end : (q : Bytes) → has_end reply_end q ≡ true → is_reserved q ≡ true
reserved_end q h = or_true_last (same unacked_name q) (same index_name q) (same mutex_name q) (has_front binding_front q) (has_front result_front q) (has_end reply_end q) h

pub binding_not : (l : Layout) (e : Bytes) → is_queue_key l (binding_key l e) ≡ false
binding_not l e = no_queue l (binding_front ++ e) (λ q s n i. reserved_not q (reserved_front q (front_of_name binding_front e q s refl i)) n)

-- ---- keys of replies

marked_end : (q : Bytes) (s : ℕ) → has_end reply_end (q ++ step_mark s) ≡ true → has_end reply_end q ≡ true
marked_end q zero h = subst (λ x. has_end reply_end x ≡ true) (append-nil q) h
marked_end q (suc s) h =
    let a : reverse (q ++ step_mark (suc s)) ≡ (49 + s) ∷ 22 ∷ 6 ∷ reverse q = reverse-append q (step_mark (suc s)) in
    false_true (sym (off (49 + s) (reverse q)) ∙ subst (λ x. has_front (reverse reply_end) x ≡ true) a h)
  where
    off : (d : ℕ) (r : Bytes) → has_front (reverse reply_end) (d ∷ 22 ∷ 6 ∷ r) ≡ false
    off d r = elim (120 == d) as (λ t. (if t then false else false) ≡ false) [ true ↦ refl | false ↦ refl ]

reply_rest : (l : Layout) (k : Bytes) → is_reply_key l k ≡ true → (r : Bytes) × (k ≡ key l r) × (has_end reply_end r ≡ true)
reply_rest l k h = go (after_front l.prefix k) refl h
  where
    go : (o : Option Bytes) → after_front l.prefix k ≡ o → ends_as_reply o ≡ true → (r : Bytes) × (k ≡ key l r) × (has_end reply_end r ≡ true)
    go None e i = false_true i
    go (Some r) e i = (r, rest_after_is l.prefix k r e, i)

pub reply_not : (l : Layout) (k : Bytes) → is_reply_key l k ≡ true → is_queue_key l k ≡ false
reply_not l k h =
    let p = reply_rest l k h in
    subst (λ x. is_queue_key l x ≡ false) (sym p.1) (no_queue l p.0 (λ q s n e. reserved_not q (reserved_end q (marked_end q s (subst (λ x. has_end reply_end x ≡ true) e p.2))) n))

-- ---- the other keys among themselves

-- keys with one prefix are the same where what follows is
keys_differ : (l : Layout) (a b : Bytes) → (a ≡ b → ⊥) → same (key l a) (key l b) ≡ false
keys_differ l a b n = same_false (key l a) (key l b) (λ e. n (rest_alike l.prefix a b e))

names_differ : (l : Layout) (a b : Bytes) → same a b ≡ false → same (key l a) (key l b) ≡ false
names_differ l a b n = keys_differ l a b (λ e. false_true (sym n ∙ subst (λ x. same a x ≡ true) e (same-refl a)))

pub table_apart : (l : Layout) → same (unacked_key l) (index_key l) ≡ false
unfolding same
table_apart l = names_differ l unacked_name index_name refl

pub mutex_unacked : (l : Layout) → same (unacked_key l) (mutex_key l) ≡ false
unfolding same
mutex_unacked l = names_differ l unacked_name mutex_name refl

pub mutex_index : (l : Layout) → same (index_key l) (mutex_key l) ≡ false
unfolding same
mutex_index l = names_differ l index_name mutex_name refl

pub binding_unacked : (l : Layout) (e : Bytes) → same (unacked_key l) (binding_key l e) ≡ false
unfolding same
binding_unacked l e = names_differ l unacked_name (binding_front ++ e) refl

pub binding_index : (l : Layout) (e : Bytes) → same (index_key l) (binding_key l e) ≡ false
unfolding same
binding_index l e = names_differ l index_name (binding_front ++ e) refl

reply_off : (l : Layout) (w k : Bytes) → has_end reply_end w ≡ false → is_reply_key l k ≡ true → same (key l w) k ≡ false
reply_off l w k n h =
    let p = reply_rest l k h in
    subst (λ x. same (key l w) x ≡ false) (sym p.1) (keys_differ l w p.0 (λ e. false_true (sym n ∙ subst (λ x. has_end reply_end x ≡ true) (sym e) p.2)))

pub reply_unacked : (l : Layout) (k : Bytes) → is_reply_key l k ≡ true → same (unacked_key l) k ≡ false
reply_unacked l k h = reply_off l unacked_name k refl h

pub reply_index : (l : Layout) (k : Bytes) → is_reply_key l k ≡ true → same (index_key l) k ≡ false
reply_index l k h = reply_off l index_name k refl h
