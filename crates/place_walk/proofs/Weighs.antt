-- What a tag's number counts is what its text counts.
use Rattle.std.proofs.Common.{◌≡◌, ℕ, zero, suc, ◌+◌, List, [], ◌∷◌, Bool, true, false, not, ◌&&◌, ◌||◌, ◌==◌, if◌then◌else◌, nat_le, refl, sym, ap, ◌∙◌, arith, map, Option, None, Some}
use Rattle.std.proofs.lemmas.Grind.{common_steps}
use Rattle.wire_values.specs.declared.value.Value.{Value}
use Rattle.store_model.specs.declared.command.Command.{Command}
use Rattle.store_model.specs.declared.command.Command.TheVariants.{Lpush, Rpush, Exec, Hdel}
use Rattle.delivery_tags.specs.Tags.{tag_of_text}
use Rattle.command_blocks.specs.Answers.{is_one, items_of, number_of}
use Rattle.place_model.specs.Counts.{copy_one, count, end_one, one_if_more, one_if_none, sum_of}
use Rattle.message_acts.specs.Numbers.{has, listed, number_told, times}
use Rattle.message_acts.specs.Acts.{act_of, kind_of, push_act, push_at, push_of, push_told, take_act, take_at}
use Rattle.message_acts.specs.Transactions.{copied_by, copied_in, copied_with, ended_by, ended_in, ended_with, pushed, taken, taken_by}
use Rattle.queue_keys.specs.Names.{Bytes, same}
use Rattle.place_model.specs.Seen.{deletes, deletes_one, push_by, push_weight_at, push_with, queued_push, queued_pushes, ran_by, ran_with, tag_list, tag_weight}
use Rattle.command_blocks.specs.Setting.{Setting, is_queue}
use Rattle.message_acts.specs.declared.act.Act.{Act}
use Rattle.message_acts.specs.declared.act.Act.TheVariants.{Push, Take, Nothing}
use Rattle.place_walk.specs.Gathered.{positive}
use Rattle.place_walk.proofs.Gathers.{is_number, positive-times, has-append, has-filter}

one_of : (b : Bool) → (if b then 1 else 0) ≡ (if b then 1 else 0) + 0
one_of true = refl
one_of false = refl

plus_none : (n : ℕ) → n + 0 ≡ n
plus_none n = omega arith

pushed_more : (t : ℕ) (a : Act) (acts : List Act) → times t (pushed (a ∷ acts)) ≡ times t (pushed (a ∷ [])) + times t (pushed acts)
pushed_more t (Push n) acts = ap (λ m. m + times t (pushed acts)) (one_of (n == t))
pushed_more t (Take n) acts = omega arith
pushed_more t Nothing acts = omega arith

no_take : (t : ℕ) (o : Option ℕ) (r : Value) → has t (taken_by (push_act o) r) ≡ false
no_take t None r = refl
no_take t (Some n) r = refl

no_take_at : (σ : Setting) (t : ℕ) (k v : Bytes) (r : Value) → has t (taken_by (push_at σ k v) r) ≡ false
no_take_at σ t k v r = go (is_queue σ k)
  where
    go : (b : Bool) → has t (taken_by (if b then push_act (number_told (σ.tag_of v)) else Nothing) r) ≡ false
    go true = no_take t (number_told (σ.tag_of v)) r
    go false = refl

no_push : (t : ℕ) (o : Option ℕ) → times t (pushed (take_act o ∷ [])) ≡ 0
no_push t None = refl
no_push t (Some n) = refl

no_push_at : (σ : Setting) (t : ℕ) (k f : Bytes) → times t (pushed (take_at σ k f ∷ [])) ≡ 0
no_push_at σ t k f = go (same k σ.unacked)
  where
    go : (b : Bool) → times t (pushed ((if b then take_act (tag_of_text f) else Nothing) ∷ [])) ≡ 0
    go true = no_push t (tag_of_text f)
    go false = refl

if_push : (t : ℕ) (o : Option ℕ) → times t (listed o) ≡ times t (pushed (push_act o ∷ []))
if_push t None = refl
if_push t (Some n) = refl

took_one : (a b : Bool) (t n : ℕ) → (n == t) ≡ a → (a && b) ≡ has t (if b then n ∷ [] else [])
took_one true true t n e = rw e refl
took_one true false t n e = refl
took_one false true t n e = rw e refl
took_one false false t n e = refl

module _ (σ : Setting) (t : ℕ) (x : Bytes) (tells : (u : Bytes) → same u x ≡ is_number t (tag_of_text u)) where
  pub weight_is : (o : Option Bytes) → tag_weight x o ≡ times t (listed (number_told o))
  weight_is None = refl
  weight_is (Some u) = ap (λ b. if b then 1 else 0) (tells u) ∙ go (tag_of_text u)
    where
      go : (o : Option ℕ) → (if is_number t o then 1 else 0) ≡ times t (listed o)
      go None = refl
      go (Some n) = one_of (n == t)

  list_is : (o : Option Bytes) → count x (tag_list o) ≡ times t (listed (number_told o))
  list_is None = refl
  list_is (Some u) = plus_none (if same u x then 1 else 0) ∙ weight_is (Some u)

  pub push_is : (c : Command) (r : Value) → count x (push_by σ c r) ≡ times t (listed (push_of (kind_of c) (act_of σ c) r))
  push_is (Lpush k []) r = none_told (number_of r)
    where
      none_told : (o : Option Rattle.std.specs.Prelude.ℤ) → 0 ≡ times t (listed (push_told Nothing o))
      none_told None = refl
      none_told (Some z) = refl
  push_is (Lpush k (v ∷ [])) r = by (number_of r)
    where
      one : (z : Rattle.std.specs.Prelude.ℤ) (o : Option ℕ) → times t (listed o) ≡ times t (listed (push_told (push_act o) (Some z)))
      one z None = refl
      one z (Some n) = refl

      by_queue : (z : Rattle.std.specs.Prelude.ℤ) (b : Bool) → count x (if b then tag_list (σ.tag_of v) else []) ≡ times t (listed (push_told (if b then push_act (number_told (σ.tag_of v)) else Nothing) (Some z)))
      by_queue z true = list_is (σ.tag_of v) ∙ one z (number_told (σ.tag_of v))
      by_queue z false = refl

      by : (o : Option Rattle.std.specs.Prelude.ℤ) → count x (push_with σ k v o) ≡ times t (listed (push_told (push_at σ k v) o))
      by None = refl
      by (Some z) = by_queue z (is_queue σ k)
  push_is (Lpush k (v ∷ w ∷ vs)) r = none_told (number_of r)
    where
      none_told : (o : Option Rattle.std.specs.Prelude.ℤ) → 0 ≡ times t (listed (push_told Nothing o))
      none_told None = refl
      none_told (Some z) = refl
  push_is other r = refl

  at_queue : (k v : Bytes) → push_weight_at σ x k v ≡ times t (pushed (push_at σ k v ∷ []))
  at_queue k v = go (is_queue σ k)
    where
      go : (b : Bool) → (if b then tag_weight x (σ.tag_of v) else 0) ≡ times t (pushed ((if b then push_act (number_told (σ.tag_of v)) else Nothing) ∷ []))
      go true = weight_is (σ.tag_of v) ∙ if_push t (number_told (σ.tag_of v))
      go false = refl

  one_push : (c : Command) → queued_push σ x c ≡ times t (pushed (act_of σ c ∷ []))
  one_push (Lpush k []) = refl
  one_push (Lpush k (v ∷ [])) = at_queue k v
  one_push (Lpush k (v ∷ w ∷ vs)) = refl
  one_push (Rpush k []) = refl
  one_push (Rpush k (v ∷ [])) = at_queue k v
  one_push (Rpush k (v ∷ w ∷ vs)) = refl
  one_push (Hdel k []) = refl
  one_push (Hdel k (f ∷ [])) = sym (no_push_at σ t k f)
  one_push (Hdel k (f ∷ g ∷ fs)) = refl
  one_push other = refl

  pub pushes_are : (cs : List Command) → queued_pushes σ x cs ≡ times t (pushed (map (act_of σ) cs))
  pushes_are [] = refl
  pushes_are (c ∷ cs) =
      let a = one_push c in
      let b = pushes_are cs in
      let m = pushed_more t (act_of σ c) (map (act_of σ) cs) in
      omega (arith, a, b, m)

  at_table : (k f : Bytes) (r : Value) → (same k σ.unacked && (same f x && is_one (number_of r))) ≡ has t (taken_by (take_at σ k f) r)
  at_table k f r = rw (tells f) (go (same k σ.unacked) (tag_of_text f))
    where
      go : (b : Bool) (o : Option ℕ) → (b && (is_number t o && is_one (number_of r))) ≡ has t (taken_by (if b then take_act o else Nothing) r)
      go false o = refl
      go true None = refl
      go true (Some n) = took_one (n == t) (is_one (number_of r)) t n refl

  one_taken : (c : Command) (r : Value) → deletes_one σ x c r ≡ has t (taken_by (act_of σ c) r)
  one_taken (Lpush k []) r = refl
  one_taken (Lpush k (v ∷ [])) r = sym (no_take_at σ t k v r)
  one_taken (Lpush k (v ∷ w ∷ vs)) r = refl
  one_taken (Rpush k []) r = refl
  one_taken (Rpush k (v ∷ [])) r = sym (no_take_at σ t k v r)
  one_taken (Rpush k (v ∷ w ∷ vs)) r = refl
  one_taken (Hdel k []) r = refl
  one_taken (Hdel k (f ∷ [])) r = at_table k f r
  one_taken (Hdel k (f ∷ g ∷ fs)) r = refl
  one_taken other r = refl

  pub taken_is : (cs : List Command) (rs : List Value) → deletes σ x cs rs ≡ has t (taken (map (act_of σ) cs) rs)
  taken_is [] rs = refl
  taken_is (c ∷ cs) [] = refl
  taken_is (c ∷ cs) (r ∷ rs) =
      ap (λ b. b || deletes σ x cs rs) (one_taken c r) ∙ ap (λ b. has t (taken_by (act_of σ c) r) || b) (taken_is cs rs)
      ∙ sym (has-append t (taken_by (act_of σ c) r) (taken (map (act_of σ) cs) rs))

  pub ended_is : (cs : List Command) (rs : List Value) → positive (end_one σ x (record { commands = cs; answers = rs })) ≡ has t (ended_in (map (act_of σ) cs) rs)
  ended_is cs rs =
      let acts = map (act_of σ) cs in
      go (deletes σ x cs rs) (queued_pushes σ x cs) ∙ ap (λ b. b && not (positive (queued_pushes σ x cs))) (taken_is cs rs)
      ∙ ap (λ n. has t (taken acts rs) && not (positive n)) (pushes_are cs)
      ∙ ap (λ b. has t (taken acts rs) && not b) (positive-times t (pushed acts))
      ∙ sym (has-filter t (λ n. not (has n (pushed acts))) (taken acts rs))
    where
      go : (b : Bool) (n : ℕ) → positive (if b then one_if_none n else 0) ≡ (b && not (positive n))
      go true zero = refl
      go true (suc n) = refl
      go false n = refl

  pub copied_is : (cs : List Command) (rs : List Value) → positive (copy_one σ x (record { commands = cs; answers = rs })) ≡ has t (copied_in (map (act_of σ) cs))
  copied_is cs rs =
      let acts = map (act_of σ) cs in
      ap (λ n. positive (one_if_more n)) (pushes_are cs) ∙ more (times t (pushed acts))
      ∙ ap (λ b. b && nat_le 2 (times t (pushed acts))) (positive-times t (pushed acts))
      ∙ sym (has-filter t (λ n. nat_le 2 (times n (pushed acts))) (pushed acts))
    where
      two : (n : ℕ) → true ≡ nat_le 2 (suc (suc n))
      two n = grind (arith, common_steps)

      more : (n : ℕ) → positive (one_if_more n) ≡ (positive n && nat_le 2 n)
      more zero = refl
      more (suc zero) = refl
      more (suc (suc n)) = two n

  -- what a call ends, copies
  pub ends_by : (cs : List Command) (c : Command) (r : Value) → positive (sum_of (end_one σ x) (ran_by cs c r)) ≡ has t (ended_by (map (act_of σ) cs) (kind_of c) r)
  ends_by cs Exec r = by (items_of r)
    where
      by : (o : Option (List Value)) → positive (sum_of (end_one σ x) (ran_with cs o)) ≡ has t (ended_with (map (act_of σ) cs) o)
      by None = refl
      by (Some rs) = ap positive (plus_none (end_one σ x (record { commands = cs; answers = rs }))) ∙ ended_is cs rs
  ends_by cs other r = refl

  pub copies_by : (cs : List Command) (c : Command) (r : Value) → positive (sum_of (copy_one σ x) (ran_by cs c r)) ≡ has t (copied_by (map (act_of σ) cs) (kind_of c) r)
  copies_by cs Exec r = by (items_of r)
    where
      by : (o : Option (List Value)) → positive (sum_of (copy_one σ x) (ran_with cs o)) ≡ has t (copied_with (map (act_of σ) cs) o)
      by None = refl
      by (Some rs) = ap positive (plus_none (copy_one σ x (record { commands = cs; answers = rs }))) ∙ copied_is cs rs
  copies_by cs other r = refl
