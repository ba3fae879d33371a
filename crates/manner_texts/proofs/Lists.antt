-- Lists of words and of keys.
use Rattle.std.proofs.Common.{◌≡◌, ◌&&◌, ◌<◌, ◌+◌, ◌-◌, ◌∙◌, ◌==◌, ℕ, Bool, true, false, List, [], ◌∷◌, ◌++◌, Option, None, Some, append_assoc, ap, sym, refl, suc, arith, drop, take, length, get_or, if◌then◌else◌}
use Rattle.std.specs.Prelude.{nat_le}
use Rattle.std.proofs.lemmas.List.{drop_more}
use Rattle.store_model.specs.Words.{Words, front}
use Rattle.queue_keys.specs.Names.{Bytes}
use Rattle.queue_keys.specs.Layouts.{plain}
use Rattle.queue_keys.specs.QueueKeys.{pop_keys, split_key}
use Rattle.queue_keys.proofs.Splits.{key_of_split}
use Rattle.command_blocks.specs.EnvelopeTexts.{plain_setting}
use Rattle.manner_laws.specs.Cursor.{all_names, middle, onto_queues, queues_among, same_words}

front_is : (b : Bytes) (ws : Words) → take (length ws) (b ∷ ws) ≡ front b ws
front_is b [] = refl
front_is b (y ∷ ys) = ap (λ l. b ∷ l) (front_is y ys)

two_less : (n : ℕ) → suc (suc n) - 1 - 1 ≡ n
two_less n = omega arith

pub middle_is : (ws : Words) → take (length ws - 1 - 1) (drop 1 ws) ≡ middle ws
middle_is [] = refl
middle_is (a ∷ []) = refl
middle_is (a ∷ b ∷ ws) = ap (λ m. take m (b ∷ ws)) (two_less (length ws)) ∙ front_is b ws

either : (b : Bool) (q : Bytes) (qs : List Bytes) → (if b then q ∷ qs else qs) ≡ (if b then q ∷ [] else []) ++ qs
either true q qs = refl
either false q qs = refl

onto_apart : (o : Option (Bytes × ℕ)) (qs : List Bytes) → onto_queues o qs ≡ onto_queues o [] ++ qs
onto_apart None qs = refl
onto_apart (Some k) qs = either (k.1 == 0) k.0 qs

-- one more key is looked at
pub queues_more : (out longer whole ks : List Bytes) (i : ℕ) (k : Bytes) → i < length ks → k ≡ get_or ks i k → longer ≡ out ++ onto_queues (plain_setting.split k) [] → out ++ queues_among plain_setting (drop i ks) ≡ whole → longer ++ queues_among plain_setting (drop (i + 1) ks) ≡ whole
queues_more out longer whole ks i k lt read f so_far =
    let left = drop (i + 1) ks in
    let rest = queues_among plain_setting left in
    let next : drop i ks ≡ k ∷ left = drop_more ks i k lt ∙ ap (λ x. x ∷ left) (sym read) in
    ap (λ o. o ++ rest) f
    ∙ (append_assoc out (onto_queues (plain_setting.split k) []) rest
    ∙ (ap (λ xs. out ++ xs) (sym (onto_apart (plain_setting.split k) rest))
    ∙ (ap (λ xs. out ++ queues_among plain_setting xs) (sym next) ∙ so_far)))

-- the queues of keys have lawful names
names_with : (o : Option (Bytes × ℕ)) (k : Bytes) (qs : List Bytes) → split_key plain k ≡ o → all_names qs ≡ true → all_names (onto_queues o qs) ≡ true
names_with None k qs is lawful = lawful
names_with (Some p) k qs is lawful = by (p.1 == 0) where
  by : (b : Bool) → all_names (if b then p.0 ∷ qs else qs) ≡ true
  by true = rw (key_of_split plain k p.0 p.1 is).0 lawful
  by false = lawful

pub names_lawful : (ks : List Bytes) → all_names (queues_among plain_setting ks) ≡ true
names_lawful [] = refl
names_lawful (k ∷ ks) = names_with (split_key plain k) k (queues_among plain_setting ks) refl (names_lawful ks)

lawful_known : (a s n : Bool) → a ≡ true → (s && n) ≡ (a && s && n)
lawful_known true s n e = refl
lawful_known false s n e = cc

-- keys that are made of their queues are those of a pop
pub pop_known : (ks : List Bytes) → (same_words (pop_keys plain (queues_among plain_setting ks)) ks && nat_le (length ks) 4094) ≡ (all_names (queues_among plain_setting ks) && same_words (pop_keys plain (queues_among plain_setting ks)) ks && nat_le (length ks) 4094)
pop_known ks = lawful_known (all_names (queues_among plain_setting ks)) (same_words (pop_keys plain (queues_among plain_setting ks)) ks) (nat_le (length ks) 4094) (names_lawful ks)
