-- What a walk gathers by the numbers of tags is what the definitions count by their texts.
use Rattle.std.proofs.Common.{◌≡◌, ℕ, zero, suc, ◌+◌, List, [], ◌∷◌, ◌++◌, Bool, true, false, cond, ◌&&◌, ◌||◌, ◌==◌, if◌then◌else◌, refl, sym, ap, ◌∙◌, arith, filter, map, Option, None, Some}
use Rattle.wire_values.specs.declared.value.Value.{Value}
use Rattle.store_model.specs.declared.command.Command.{Command}
use Rattle.store_model.specs.declared.command.Command.TheVariants.{Brpop, Multi, Exec}
use Rattle.command_blocks.specs.Answers.{pair_of}
use Rattle.command_blocks.specs.Calls.{Call}
use Rattle.place_model.specs.Counts.{count, sum_of}
use Rattle.message_acts.specs.Numbers.{has, number_told, times}
use Rattle.message_acts.specs.Acts.{act_of, kind_of}
use Rattle.place_walk.specs.Gathered.{positive}
use Rattle.place_walk.specs.Walks.{acts_after, hand_after, hand_with}
use Rattle.queue_keys.specs.Names.{Bytes}
use Rattle.place_model.specs.Seen.{Seen, hand_by, hand_from, nothing_seen, seen, seen_by, seen_from, since_by}
use Rattle.command_blocks.specs.Setting.{Setting, is_queue}
use Rattle.queue_keys.proofs.Basics.{eqb_true}

-- ---- numbers and lists

pub positive-plus : (a b : ℕ) → positive (a + b) ≡ (positive a || positive b)
positive-plus zero b = ap positive (omega arith)
positive-plus (suc a) b = let e : suc a + b ≡ suc (a + b) = omega arith in ap positive e

-- whether the option has this number
abbrev pub is_number : ℕ → Option ℕ → Bool
is_number t None = false
is_number t (Some n) = n == t

one_of : (b : Bool) → (if b then 1 else 0) ≡ (if b then 1 else 0) + 0
one_of true = refl
one_of false = refl

pub times-append : (t : ℕ) (xs ys : List ℕ) → times t (xs ++ ys) ≡ times t xs + times t ys
times-append t [] ys = omega arith
times-append t (n ∷ xs) ys = let h = times-append t xs ys in omega (arith, h)

or_assoc : (a b c : Bool) → (a || (b || c)) ≡ ((a || b) || c)
or_assoc true b c = refl
or_assoc false b c = refl

pub has-append : (t : ℕ) (xs ys : List ℕ) → has t (xs ++ ys) ≡ (has t xs || has t ys)
has-append t [] ys = refl
has-append t (n ∷ xs) ys = ap (λ b. (n == t) || b) (has-append t xs ys) ∙ or_assoc (n == t) (has t xs) (has t ys)

-- a number is among them where it is there at least once
pub positive-times : (t : ℕ) (xs : List ℕ) → positive (times t xs) ≡ has t xs
positive-times t [] = refl
positive-times t (n ∷ xs) = positive-plus (if n == t then 1 else 0) (times t xs) ∙ one (n == t) ∙ ap (λ b. (n == t) || b) (positive-times t xs)
  where
    one : (b : Bool) → (positive (if b then 1 else 0) || positive (times t xs)) ≡ (b || positive (times t xs))
    one true = refl
    one false = refl

pub has-filter : (t : ℕ) (p : ℕ → Bool) (xs : List ℕ) → has t (filter p xs) ≡ (has t xs && p t)
has-filter t p [] = refl
has-filter t p (n ∷ xs) = go (has-filter t p xs) (n == t) refl (p n) refl
  where
    and_false : (a : Bool) → (a && false) ≡ false
    and_false true = refl
    and_false false = refl

    go : has t (filter p xs) ≡ (has t xs && p t) → (b : Bool) → (n == t) ≡ b → (q : Bool) → p n ≡ q → has t (cond (p n) (n ∷ filter p xs) (filter p xs)) ≡ (((n == t) || has t xs) && p t)
    go i true e true f = let s : n ≡ t = eqb_true n t e in let g : p t ≡ true = ap p (sym s) ∙ f in rw (f, e, g) refl
    go i true e false f = let s : n ≡ t = eqb_true n t e in let g : p t ≡ false = ap p (sym s) ∙ f in rw (f, e, g) (i ∙ ap (λ b. has t xs && b) g ∙ and_false (has t xs))
    go i false e true f = rw (f, e) i
    go i false e false f = rw (f, e) i

pub map-append : {A B : Type 0} (f : A → B) (xs : List A) (y : A) → map f (xs ++ y ∷ []) ≡ map f xs ++ f y ∷ []
map-append f [] y = refl
map-append f (x ∷ xs) y = ap (λ (l : List _). f x ∷ l) (map-append f xs y)

pub count-append : (x : Bytes) (xs ys : List Bytes) → count x (xs ++ ys) ≡ count x xs + count x ys
count-append x [] ys = omega arith
count-append x (u ∷ xs) ys = let h = count-append x xs ys in omega (arith, h)

pub sum_of-append : {A : Type 0} (f : A → ℕ) (xs ys : List A) → sum_of f (xs ++ ys) ≡ sum_of f xs + sum_of f ys
sum_of-append f [] ys = omega arith
sum_of-append f (x ∷ xs) ys = let h = sum_of-append f xs ys in omega (arith, h)

-- ---- a call more

seen_from-append : (σ : Setting) (s : Seen) (l : List Call) (y : Call) → seen_from σ s (l ++ y ∷ []) ≡ seen_from σ (seen_from σ s l) (y ∷ [])
seen_from-append σ s [] y = refl
seen_from-append σ s (x ∷ l) y = seen_from-append σ (seen_by σ s (Rattle.store_model.specs.Words.command_of x.words) x.answer) l y

pub seen_more : (σ : Setting) (l : List Call) (y : Call) → seen σ (l ++ y ∷ []) ≡ seen_by σ (seen σ l) (Rattle.store_model.specs.Words.command_of y.words) y.answer
unfolding seen
seen_more σ l y = seen_from-append σ nothing_seen l y

-- ---- hands and acts

pub hand_is : (σ : Setting) (o : Option Bytes) (c : Command) (r : Value) → number_told (hand_by σ o c r) ≡ hand_after σ (number_told o) (kind_of c) r
hand_is σ o Exec r = refl
hand_is σ o (Brpop ks) r = from (pair_of r)
  where
    by_queue : (p : Bytes × Bytes) (b : Bool) → number_told (if b then σ.tag_of p.1 else o) ≡ (if b then number_told (σ.tag_of p.1) else number_told o)
    by_queue p true = refl
    by_queue p false = refl

    from : (q : Option (Bytes × Bytes)) → number_told (hand_from σ o q) ≡ hand_with σ (number_told o) q
    from None = refl
    from (Some p) = by_queue p (is_queue σ p.0)
hand_is σ o other r = refl

pub acts_are : (σ : Setting) (l : List Command) (c : Command) → map (act_of σ) (since_by l c) ≡ acts_after (map (act_of σ) l) (kind_of c) (act_of σ c)
acts_are σ l Multi = refl
acts_are σ l other = map-append (act_of σ) l other
