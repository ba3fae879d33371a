-- A walk over a history's entries gathers what is counted after the history.
use Rattle.std.proofs.Common.{◌≡◌, ◌≢◌, ◌⊎◌, inl, inr, ℕ, ◌+◌, List, [], ◌∷◌, ◌++◌, Bool, true, false, cond, ◌&&◌, ◌||◌, refl, sym, ap, subst, ◌∙◌, arith, map, Option, None, Some, option_map, T}
use Rattle.std.proofs.lemmas.Cmp.{nat_cmp_total}
use Rattle.std.specs.Ordering.{nat_cmp, is_eq, is_lt}
use Rattle.std.specs.declared.cmp.Ordering.{Ordering}
use Rattle.std.specs.declared.cmp.Ordering.TheVariants.{Less, Equal, Greater}
use Rattle.std.specs.FinMap.{FinMap, empty, entries, entries-from_sorted, entries-insert, entries_sorted, from_sorted, get, get-empty, get-entries, get-from_sorted, insert, nat_cmp-IsAntisymmetric, same_map}
use Rattle.std.specs.FinMap.Entries.{below_all, by_order, find, is_sorted, put}
use Rattle.store_tables.proofs.Lookups.{decided, get-insert_other, get-insert_same}
use Rattle.store_model.specs.Store.{State, apply_of, gone_of}
use Rattle.store_model.specs.Words.{command_of}
use Rattle.delivery_tags.specs.Tags.{tag_of_text}
use Rattle.command_blocks.specs.Calls.{Call, call}
use Rattle.place_model.specs.Counts.{copy_one, copy_weight, count, end_one, end_weight, over_clients, push_weight, sum_of, total}
use Rattle.message_acts.specs.Numbers.{has, listed, number_told, times}
use Rattle.message_acts.specs.Acts.{act_of, kind_of, push_of}
use Rattle.message_acts.specs.Transactions.{copied_by, ended_by}
use Rattle.place_walk.specs.Seats.{seat_of}
use Rattle.place_walk.specs.Walks.{hand_after, seat_after, walk_called, walk_stopped, walked, walked_all}
use Rattle.place_model.specs.Histories.{Client, SystemState, after_entries, conn_of, next, next_of, with_client}
use Rattle.queue_keys.specs.Names.{Bytes, same}
use Rattle.place_model.specs.Seen.{Seen, push_by, ran_by, seen, seen_by}
use Rattle.command_blocks.specs.Setting.{Setting}
use Rattle.place_model.specs.declared.heard.Heard.{Heard}
use Rattle.place_model.specs.declared.history.Entry.{Entry}
use Rattle.place_model.specs.declared.history.Entry.TheVariants.{Call as Called, Heard as Noted, Stop}
use Rattle.place_walk.specs.declared.seat.ClientSeat.{ClientSeat}
use Rattle.place_walk.specs.declared.walk.HistoryWalk.{HistoryWalk}
use Rattle.place_walk.specs.Gathered.{positive}
use Rattle.place_walk.proofs.Gathers.{acts_are, count-append, hand_is, has-append, is_number, positive-plus, seen_more, sum_of-append, times-append}
use Rattle.place_walk.proofs.Weighs.{copies_by, ends_by, push_is}

-- ---- sums over a map

weight : {K X : Type 0} → (K → X → ℕ) → K → Option X → ℕ
weight f k None = 0
weight f k (Some x) = f k x

less : (r : Ordering) → T (is_lt r) → r ≡ Less
less Less p = refl
less Equal p = absurd p
less Greater p = absurd p

first : (a b : Bool) → T (a && b) → T a
first true b p = tt
first false b p = p

second : (a b : Bool) → T (a && b) → T b
second true b p = p
second false b p = absurd p

module _ {X : Type 0} where
  less_none : (k x : ℕ) (es : List (ℕ × X)) → nat_cmp k x ≡ Less → T (below_all nat_cmp x es) → find nat_cmp k es ≡ None
  less_none k x [] p h = refl
  less_none k x (e ∷ es) p h = ap (λ r. cond (is_eq r) (Some e.1) (find nat_cmp k es)) (nat_cmp_total.trans k x e.0 p (less _ (first _ _ h))) ∙ less_none k x es p (second _ _ h)

  total-put : (f : ℕ → X → ℕ) (k : ℕ) (v : X) (es : List (ℕ × X)) → T (is_sorted nat_cmp es) → total f (put nat_cmp k v es) + weight f k (find nat_cmp k es) ≡ total f es + f k v
  unfolding weight
  total-put f k v [] h = omega arith
  total-put f k v (e ∷ es) h =
      elim (nat_cmp k e.0) as (λ r. nat_cmp k e.0 ≡ r → total f (by_order r ((k, v) ∷ e ∷ es) ((e.0, v) ∷ es) (e ∷ put nat_cmp k v es)) + weight f k (cond (is_eq r) (Some e.1) (find nat_cmp k es)) ≡ (f e.0 e.1 + total f es) + f k v) [
        | Less ↦ λ p. let n : weight f k (find nat_cmp k es) ≡ 0 = ap (weight f k) (less_none k e.0 es p (first _ _ h)) in omega arith
        | Equal ↦ λ p. let s : k ≡ e.0 = nat_cmp-IsAntisymmetric k e.0 p in let a : f k v ≡ f e.0 v = ap (λ x. f x v) s in let b : f k e.1 ≡ f e.0 e.1 = ap (λ x. f x e.1) s in omega arith
        | Greater ↦ λ p. let r : total f (put nat_cmp k v es) + weight f k (find nat_cmp k es) ≡ total f es + f k v = total-put f k v es (second (below_all nat_cmp e.0 es) (is_sorted nat_cmp es) h) in omega (arith, r)
      ] refl

  total-insert : (f : ℕ → X → ℕ) (m : FinMap nat_cmp X) (k : ℕ) (v : X) → total f (entries (insert m k v)) + weight f k (get m k) ≡ total f (entries m) + f k v
  total-insert f m k v = rw (entries-insert nat_cmp_total m k v, get-entries m k) (total-put f k v (entries m) (entries_sorted m))

  -- what one client's change adds to the sum
  pub total_more : (f : ℕ → X → ℕ) (m : FinMap nat_cmp X) (k : ℕ) (old new : X) (d : ℕ) → get m k ≡ Some old → f k new ≡ f k old + d → total f (entries (insert m k new)) ≡ total f (entries m) + d
  unfolding weight
  total_more f m k old new d is more =
      let a = total-insert f m k new in
      let b : weight f k (get m k) ≡ f k old = ap (weight f k) is in
      omega (arith, a, b, more)

  none : entries (empty {X = X} {R = nat_cmp}) ≡ []
  none = ap entries (sym (same_map nat_cmp_total nat_cmp-IsAntisymmetric (from_sorted {R = nat_cmp} []) empty (λ q. get-from_sorted nat_cmp [] q tt ∙ sym (get-empty nat_cmp q)))) ∙ entries-from_sorted nat_cmp [] tt

  pub total_none : (f : ℕ → X → ℕ) → total f (entries (empty {X = X} {R = nat_cmp})) ≡ 0
  total_none f = ap (total f) none

  -- where each adds nothing, the sum stays nothing
  pub still_none : (f : ℕ → X → ℕ) (m : FinMap nat_cmp X) (k : ℕ) (v : X) → total f (entries m) ≡ 0 → f k v ≡ 0 → total f (entries (insert m k v)) ≡ 0
  still_none f m k v e g = let a = total-insert f m k v in omega (arith, a, e, g)

-- ---- the walk follows the world

-- what the walk has is what the world has, for the tag of number t and text x
pub record Follows (σ : Setting) (t : ℕ) (x : Bytes) (w : SystemState) (k : HistoryWalk) : Type 0 where
  pub seats : (c : ℕ) → get k.seats c ≡ option_map (seat_of σ) (get w.clients c)
  pub pushes : over_clients w (push_weight σ x) ≡ times t k.pushes
  pub ended : positive (over_clients w (end_weight σ x)) ≡ has t k.ended
  pub copied : positive (over_clients w (copy_weight σ x)) ≡ has t k.copied

-- a client with one more call
abbrev pub with_call : Client → Call → Client
with_call cl y = record cl { calls = cl.calls ++ y ∷ [] }

seat_more : (σ : Setting) (cl : Client) (y : Call) → seat_of σ (with_call cl y) ≡ seat_after σ (seat_of σ cl) (kind_of (command_of y.words)) (act_of σ (command_of y.words)) y.answer
seat_more σ cl y =
    let e = seen_more σ cl.calls y in
    ap (λ (s : Seen). record { hand = number_told s.hand; acts = map (act_of σ) s.since; stopped = cl.stopped }) e
    ∙ ap (λ h. record { hand = h; acts = map (act_of σ) (seen_by σ (seen σ cl.calls) (command_of y.words) y.answer).since; stopped = cl.stopped }) (hand_is σ (seen σ cl.calls).hand (command_of y.words) y.answer)
    ∙ ap (λ a. record { hand = hand_after σ (number_told (seen σ cl.calls).hand) (kind_of (command_of y.words)) y.answer; acts = a; stopped = cl.stopped }) (acts_are σ (seen σ cl.calls).since (command_of y.words))

module _ (σ : Setting) (t : ℕ) (x : Bytes) (tells : (u : Bytes) → same u x ≡ is_number t (tag_of_text u)) where
  seats_more : (w : SystemState) (k : HistoryWalk) (c : ℕ) (new : Client) (seat : ClientSeat) → ((q : ℕ) → get k.seats q ≡ option_map (seat_of σ) (get w.clients q)) → seat_of σ new ≡ seat → (q : ℕ) → get (insert k.seats c seat) q ≡ option_map (seat_of σ) (get (insert w.clients c new) q)
  seats_more w k c new seat h is q = go (decided nat_cmp_total nat_cmp-IsAntisymmetric q c)
    where
      go : (q ≡ c) ⊎ (q ≢ c) → get (insert k.seats c seat) q ≡ option_map (seat_of σ) (get (insert w.clients c new) q)
      go (inl e) = subst (λ y. get (insert k.seats c seat) y ≡ option_map (seat_of σ) (get (insert w.clients c new) y)) (sym e)
          (get-insert_same nat_cmp_total nat_cmp-IsAntisymmetric k.seats c seat ∙ ap (λ (s : ClientSeat). Some s) (sym is) ∙ ap (option_map (seat_of σ)) (sym (get-insert_same nat_cmp_total nat_cmp-IsAntisymmetric w.clients c new)))
      go (inr n) = get-insert_other nat_cmp_total nat_cmp-IsAntisymmetric k.seats c seat q n ∙ h q ∙ ap (option_map (seat_of σ)) (sym (get-insert_other nat_cmp_total nat_cmp-IsAntisymmetric w.clients c new q n))

  or_more : (a b : ℕ) (p q : Bool) → positive a ≡ p → positive b ≡ q → positive (a + b) ≡ (p || q)
  or_more a b p q e f = positive-plus a b ∙ ap (λ z. z || positive b) e ∙ ap (λ z. p || z) f

  called : (w : SystemState) (k : HistoryWalk) (s : State) (c : ℕ) (cl : Client) (y : Call) → Follows σ t x w k → get w.clients c ≡ Some cl
      → Follows σ t x (with_client s w c (with_call cl y)) (walk_called σ k c (kind_of (command_of y.words)) (act_of σ (command_of y.words)) y.answer (Some (seat_of σ cl)))
  called w k s c cl y h is =
      let m = seen_more σ cl.calls y in
      let old = seen σ cl.calls in
      let command = command_of y.words in
      let p : push_weight σ x c (with_call cl y) ≡ push_weight σ x c cl + times t (listed (push_of (kind_of command) (act_of σ command) y.answer)) =
      ap (λ (s : Seen). count x s.pushes) m ∙ count-append x old.pushes (push_by σ command y.answer) ∙ ap (λ n. count x old.pushes + n) (push_is σ t x tells command y.answer) in
      let e : end_weight σ x c (with_call cl y) ≡ end_weight σ x c cl + sum_of (end_one σ x) (ran_by old.since command y.answer) =
      ap (λ (s : Seen). sum_of (end_one σ x) s.ran) m ∙ sum_of-append (end_one σ x) old.ran (ran_by old.since command y.answer) in
      let d : copy_weight σ x c (with_call cl y) ≡ copy_weight σ x c cl + sum_of (copy_one σ x) (ran_by old.since command y.answer) =
      ap (λ (s : Seen). sum_of (copy_one σ x) s.ran) m ∙ sum_of-append (copy_one σ x) old.ran (ran_by old.since command y.answer) in
      record {
        seats = seats_more w k c (with_call cl y) (seat_after σ (seat_of σ cl) (kind_of command) (act_of σ command) y.answer) h.seats (seat_more σ cl y);
        pushes = total_more (push_weight σ x) w.clients c cl (with_call cl y) (times t (listed (push_of (kind_of command) (act_of σ command) y.answer))) is p
            ∙ ap (λ n. n + times t (listed (push_of (kind_of command) (act_of σ command) y.answer))) h.pushes ∙ sym (times-append t k.pushes (listed (push_of (kind_of command) (act_of σ command) y.answer)));
        ended = ap positive (total_more (end_weight σ x) w.clients c cl (with_call cl y) (sum_of (end_one σ x) (ran_by old.since command y.answer)) is e)
            ∙ or_more (over_clients w (end_weight σ x)) (sum_of (end_one σ x) (ran_by old.since command y.answer)) _ _ h.ended (ends_by σ t x tells old.since command y.answer)
            ∙ sym (has-append t k.ended (ended_by (map (act_of σ) old.since) (kind_of command) y.answer));
        copied = ap positive (total_more (copy_weight σ x) w.clients c cl (with_call cl y) (sum_of (copy_one σ x) (ran_by old.since command y.answer)) is d)
            ∙ or_more (over_clients w (copy_weight σ x)) (sum_of (copy_one σ x) (ran_by old.since command y.answer)) _ _ h.copied (copies_by σ t x tells old.since command y.answer)
            ∙ sym (has-append t k.copied (copied_by (map (act_of σ) old.since) (kind_of command) y.answer));
      }

  plus_none : (n : ℕ) → n ≡ n + 0
  plus_none n = omega arith

  less_none_of : (n : ℕ) → n + 0 ≡ n
  less_none_of n = omega arith

  stopped : (w : SystemState) (k : HistoryWalk) (s : State) (c : ℕ) (cl : Client) → Follows σ t x w k → get w.clients c ≡ Some cl
      → Follows σ t x (with_client s w c (record cl { stopped = true })) (walk_stopped k c (Some (seat_of σ cl)))
  stopped w k s c cl h is =
      let new = record cl { stopped = true } in
      record {
        seats = seats_more w k c new (record (seat_of σ cl) { stopped = true }) h.seats refl;
        pushes = total_more (push_weight σ x) w.clients c cl new 0 is (plus_none (push_weight σ x c cl)) ∙ less_none_of (over_clients w (push_weight σ x)) ∙ h.pushes;
        ended = ap positive (total_more (end_weight σ x) w.clients c cl new 0 is (plus_none (end_weight σ x c cl)) ∙ less_none_of (over_clients w (end_weight σ x))) ∙ h.ended;
        copied = ap positive (total_more (copy_weight σ x) w.clients c cl new 0 is (plus_none (copy_weight σ x c cl)) ∙ less_none_of (over_clients w (copy_weight σ x))) ∙ h.copied;
      }

  -- by what is known of the client
  step_by : (w : SystemState) (k : HistoryWalk) (e : Entry Heard) (o : Option Client) → Follows σ t x w k → get w.clients (conn_of e) ≡ o → Follows σ t x (next_of w e o) (walked σ k e)
  step_by w k (Noted c note) None h is = h
  step_by w k (Noted c note) (Some cl) h is = h
  step_by w k (Called c at words reply) None h is =
      subst (λ q. Follows σ t x w (walk_called σ k c (kind_of (command_of words)) (act_of σ (command_of words)) reply.answer q)) (sym (h.seats c ∙ ap (option_map (seat_of σ)) is))
      (record { seats = h.seats; pushes = h.pushes; ended = h.ended; copied = h.copied })
  step_by w k (Called c at words reply) (Some cl) h is =
      subst (λ q. Follows σ t x (next_of {N = Heard} w (Called c at words reply) (Some cl)) (walk_called σ k c (kind_of (command_of words)) (act_of σ (command_of words)) reply.answer q)) (sym (h.seats c ∙ ap (option_map (seat_of σ)) is))
      (called w k (apply_of w.store at c words).0 c cl (call at words reply.answer) h is)
  step_by w k (Stop c) None h is =
      subst (λ q. Follows σ t x w (walk_stopped k c q)) (sym (h.seats c ∙ ap (option_map (seat_of σ)) is)) h
  step_by w k (Stop c) (Some cl) h is =
      subst (λ q. Follows σ t x (next_of {N = Heard} w (Stop c) (Some cl)) (walk_stopped k c q)) (sym (h.seats c ∙ ap (option_map (seat_of σ)) is))
      (stopped w k (gone_of w.store c) c cl h is)

  pub step : (w : SystemState) (k : HistoryWalk) (e : Entry Heard) → Follows σ t x w k → Follows σ t x (next w e) (walked σ k e)
  unfolding next
  step w k e h = step_by w k e (get w.clients (conn_of e)) h refl

  pub steps : (es : List (Entry Heard)) (w : SystemState) (k : HistoryWalk) → Follows σ t x w k → Follows σ t x (after_entries w es) (walked_all σ k es)
  steps [] w k h = h
  steps (e ∷ es) w k h = steps es (next w e) (walked σ k e) (step w k e h)
