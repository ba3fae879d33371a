-- What the exact machine runs through, from a start to a start, is whole blocks.
use Rattle.std.proofs.Common.{arith, ◌≡◌, ◌⊎◌, inl, inr, ℕ, ℤ, suc, ◌<◌, ◌^◌, List, [], ◌∷◌, ◌++◌, Bool, true, false, refl, sym, ap, subst, ◌∙◌, None, Some, Option, append_assoc, codes, decimal}
use Rattle.wire_values.specs.declared.value.Value.{Value}
use Rattle.wire_values.specs.declared.value.Value.TheVariants.{Integer, Bulk, NullBulk, Array, NullArray}
use Rattle.store_model.specs.Replies.{done, queued, pair, bulks}
use Rattle.store_model.specs.Words.{Words}
use Rattle.queue_keys.specs.Names.{Bytes}
use Rattle.queue_keys.specs.Texts.{token}
use Rattle.command_blocks.specs.Answers.{integers}
use Rattle.command_blocks.specs.Setting.{Setting}
use Rattle.command_blocks.specs.Calls.{Call, call, push_word, concat}
use Rattle.command_blocks.specs.RouteBlocks.{Told, direct_calls, direct_keys, Plain, Named as Named_block, is_exchange, Asked}
use Rattle.command_blocks.specs.TakeBlocks.{IsPop, brpop_words, Empty, Unreadable as Unreadable_block, Popped as Popped_block, Acknowledged}
use Rattle.command_blocks.specs.ReturnBlocks.{ReturnEnd, Moved as Was_moved, Gone, Stayed, Contended as Was_contended, goes_on, queued_calls, queued_keys, reading, asking, leaving, Carries, Try, whole_try, IsTry, IsTries, Missing as Missing_tries, Useless as Useless_tries, Nowhere, Whole, Eighth, Again}
use Rattle.command_blocks.specs.PassBlocks.{PassEnd, Held, Stuck, Done, IsReturns, All_returned, Returned, Returned_until, Ended_early, IsRelease, Own as Own_release, Foreign as Foreign_release, lock_words, due_words, Is_held, Ran}
use Rattle.command_blocks.specs.Blocks.{Answered as Answered_block, CounterUse, Drawing, Passing, Other, drawn, passes_after, IsBlock, Declare, Undeclare, Publish, Publish_short, Pop, End, Return, Pass, Neutral, AreBlocks}
use Rattle.command_blocks.specs.declared.side.Side.{Side}
use Rattle.command_blocks.specs.declared.side.Side.TheVariants.{Left, Right}
use Rattle.manner_laws.specs.Spots.{Job, Open, Alone, Of_pass, job_tag, MayPush, sided, Spot, Free, Listed, Pushing, Popped, Pop_begun, Pop_indexed, End_begun, End_removed, Filled, Looking, Waiting, Watched, Leaving, Asking, Ready, Begun, Removed, Putting, Locked, Turning, Release_watched, Release_own, Release_begun, Release_deleted, Release_foreign, pushing, finished, gave_up, routed, Ask, Entry}
use Rattle.manner_laws.specs.Machine.{Begins, Declares, Undeclares, Publishes, Lists, Pops, Ends, Returns, Passes, Concerns_none, Asks, Starts, Starts_next, Pushes_first, Pushes, Pop_begins, Pop_indexes, Pop_sets, End_removes, End_deletes, Executes, Names, Tries, Reads, Leaves, Looks_up, Takes, Removes, Deletes, Puts, Moves, Looks, Turns, Lets_go, Inspects, Release_begins, Release_deletes, Release_ends, Leaves_foreign, TellsSpot, Runs}
use Rattle.manner_laws.proofs.Steps.{on_count, on_consent, on_queueing, on_counts, on_anything, on_bindings, on_message, on_entry, on_routes, on_move, on_lock, on_due, on_holder, on_release}

pub runs_join : (σ : Setting) (s : ℕ) (a b c : Spot) (xs ys : List Call) → Runs σ s a xs b → Runs σ s b ys c → Runs σ s a (xs ++ ys) c
runs_join σ s a b c [] ys r q = subst (λ x. Runs σ s x ys c) (sym r) q
runs_join σ s a b c (x ∷ xs) ys r q = (r.0, r.1, runs_join σ s r.0 b c xs ys r.2 q)

pub runs_split : (σ : Setting) (s : ℕ) (a b : Spot) (xs ys : List Call) → Runs σ s a (xs ++ ys) b → (mid : Spot) × Runs σ s a xs mid × Runs σ s mid ys b
runs_split σ s a b [] ys r = (a, refl, r)
runs_split σ s a b (x ∷ xs) ys r = let q = runs_split σ s r.0 b xs ys r.2 in (q.0, (r.0, r.1, q.1), q.2)

-- ---- what may follow a spot, so that all calls of its block with it are blocks

-- blocks
abbrev pub Rest : Setting → ℕ → ℕ → ℕ → List Call → Type 0
Rest σ s n p l = (bs : List (List Call)) × AreBlocks σ s n p bs × (concat bs ≡ l)

block_then : (σ : Setting) (s n p : ℕ) (kind : CounterUse) (b l : List Call) → IsBlock σ s n p kind b → Rest σ s (drawn kind n) (passes_after kind p) l → Rest σ s n p (b ++ l)
block_then σ s n p kind b l block rest = (b ∷ rest.0, (kind, block, rest.1), ap (λ z. b ++ z) rest.2)

-- pushes to these keys, and blocks
abbrev PushRest : Setting → ℕ → ℕ → ℕ → Bytes → List Bytes → List Call → Type 0
PushRest σ s n p v todo l = (ds : List (ℕ × Bytes × ℤ)) × (tail : List Call) × (direct_keys ds ≡ todo) × (direct_calls v ds ++ tail ≡ l) × Rest σ s (suc n) p tail

-- EXEC, and blocks
abbrev FillRest : Setting → ℕ → ℕ → ℕ → List Call → Type 0
FillRest σ s n p l = (e : ℕ) × (x : ℤ) × (y : ℤ) × (tail : List Call) × (call e (codes "EXEC" ∷ []) (integers (x ∷ y ∷ [])) ∷ tail ≡ l) × Rest σ s n p tail

-- the release of a pass, and blocks
abbrev ReleaseRest : Setting → ℕ → ℕ → ℕ → List Call → Type 0
ReleaseRest σ s n p l = (l₁ : List Call) × (l₂ : List Call) × IsRelease σ (token s (suc p)) l₁ × Rest σ s n (suc p) l₂ × (l₁ ++ l₂ ≡ l)

-- UNWATCH of such a release, and blocks
abbrev ForeignRest : Setting → ℕ → ℕ → ℕ → List Call → Type 0
ForeignRest σ s n p l = (c : ℕ) × (tail : List Call) × (call c (codes "UNWATCH" ∷ []) done ∷ tail ≡ l) × Rest σ s n (suc p) tail

-- the returns of these tags, and the release
abbrev TurnRest : Setting → ℕ → ℕ → ℕ → List Bytes → List Call → Type 0
TurnRest σ s n p ts l = (end : PassEnd) × (l₁ : List Call) × (l₂ : List Call) × IsReturns σ ts end l₁ × ReleaseRest σ s n p l₂ × (l₁ ++ l₂ ≡ l)

-- what follows the tries of a return; the mark tells whether a pass goes on
abbrev After : Setting → ℕ → ℕ → ℕ → Job → Bool → List Call → Type 0
After σ s n p (Open t) on l = Rest σ s n p l
After σ s n p (Alone side t) on l = Rest σ s n p l
After σ s n p (Of_pass t ts) true l = TurnRest σ s n p ts l
After σ s n p (Of_pass t ts) false l = ReleaseRest σ s n p l

-- tries at this side, and what follows
abbrev SideRest : Setting → ℕ → ℕ → ℕ → Job → Side → ℕ → List Call → Type 0
SideRest σ s n p j side k l = (end : ReturnEnd) × (l₁ : List Call) × (l₂ : List Call) × IsTries σ side (job_tag j) k end l₁ × After σ s n p j (goes_on end) l₂ × (l₁ ++ l₂ ≡ l)

-- tries, and what follows
abbrev JobRest : Setting → ℕ → ℕ → ℕ → Job → ℕ → List Call → Type 0
JobRest σ s n p j k l = (side : Side) × MayPush j side × SideRest σ s n p j side k l

-- what follows EXEC with this answer
abbrev EndRest : Setting → ℕ → ℕ → ℕ → Job → Side → ℕ → Value → List Call → Type 0
EndRest σ s n p j side k r l = ((zs : List ℤ) × (r ≡ integers zs) × After σ s n p j true l) ⊎ (((r ≡ NullArray) × (k < 7) × SideRest σ s n p j side (suc k) l) ⊎ ((r ≡ NullArray) × (k ≡ 7) × After σ s n p j false l))

-- pushes to these keys, EXEC, and what follows
abbrev PutRest : Setting → ℕ → ℕ → ℕ → Job → ℕ → Bytes → List Bytes → List Call → Type 0
PutRest σ s n p j k v todo l =
    (side : Side) × MayPush j side × (qs : List (ℕ × Bytes)) × (f : ℕ) × (r : Value) × (tail : List Call) × (queued_keys qs ≡ todo) × (queued_calls side v qs (call f (codes "EXEC" ∷ []) r ∷ tail) ≡ l) × EndRest σ s n p j side k r tail

abbrev DeleteRest : Setting → ℕ → ℕ → ℕ → Job → ℕ → Bytes → List Bytes → List Call → Type 0
DeleteRest σ s n p j k v todo l = (c : ℕ) × (rest : List Call) × (call c (codes "HDEL" ∷ σ.unacked ∷ job_tag j ∷ []) queued ∷ rest ≡ l) × PutRest σ s n p j k v todo rest

abbrev RemoveRest : Setting → ℕ → ℕ → ℕ → Job → ℕ → Bytes → List Bytes → List Call → Type 0
RemoveRest σ s n p j k v todo l = (b : ℕ) × (rest : List Call) × (call b (codes "ZREM" ∷ σ.index ∷ job_tag j ∷ []) queued ∷ rest ≡ l) × DeleteRest σ s n p j k v todo rest

abbrev TakeRest : Setting → ℕ → ℕ → ℕ → Job → ℕ → Bytes → List Bytes → List Call → Type 0
TakeRest σ s n p j k v todo l = (a : ℕ) × (rest : List Call) × (call a (codes "MULTI" ∷ []) done ∷ rest ≡ l) × RemoveRest σ s n p j k v todo rest

-- UNWATCH, and what follows
abbrev LeaveRest : Setting → ℕ → ℕ → ℕ → Job → List Call → Type 0
LeaveRest σ s n p j l = (d : ℕ) × (tail : List Call) × (call d (codes "UNWATCH" ∷ []) done ∷ tail ≡ l) × After σ s n p j true tail

abbrev Good : Setting → ℕ → Spot → List Call → Type 0
Good σ s (Free n p) l = Rest σ s n p l
Good σ s (Listed n p e ms) l = (a : ℕ) → σ.is_tag (σ.tag s (suc n)) ≡ true → is_exchange e ≡ true → Rest σ s n p (call a (codes "SMEMBERS" ∷ σ.binding e ∷ []) (bulks ms) ∷ l)
Good σ s (Pushing n p v k ks) l = PushRest σ s n p v (k ∷ ks) l
Good σ s (Popped n p v t) l = (a : ℕ) (names : List Bytes) (k : Bytes) (ks : List Bytes) (q : Bytes) → IsPop σ names (k ∷ ks) → σ.tag_of v ≡ Some t → Rest σ s n p (call a (brpop_words k ks) (pair q v) ∷ l)
Good σ s (Pop_begun n p v t) l = (a b : ℕ) (names : List Bytes) (k : Bytes) (ks : List Bytes) (q : Bytes) → IsPop σ names (k ∷ ks) → σ.tag_of v ≡ Some t → Rest σ s n p (call a (brpop_words k ks) (pair q v) ∷ call b (codes "MULTI" ∷ []) done ∷ l)
Good σ s (Pop_indexed n p v t) l = (a b c : ℕ) (names : List Bytes) (k : Bytes) (ks : List Bytes) (q : Bytes) → IsPop σ names (k ∷ ks) → σ.tag_of v ≡ Some t → c < 2 ^ 40
    → Rest σ s n p (call a (brpop_words k ks) (pair q v) ∷ call b (codes "MULTI" ∷ []) done ∷ call c (codes "ZADD" ∷ σ.index ∷ decimal c ∷ t ∷ []) queued ∷ l)
Good σ s (End_begun n p) l = (a : ℕ) → Rest σ s n p (call a (codes "MULTI" ∷ []) done ∷ l)
Good σ s (End_removed n p t) l = (a b : ℕ) → σ.is_tag t ≡ true → Rest σ s n p (call a (codes "MULTI" ∷ []) done ∷ call b (codes "ZREM" ∷ σ.index ∷ t ∷ []) queued ∷ l)
Good σ s (Filled n p) l = FillRest σ s n p l
Good σ s (Looking n p) l = (a : ℕ) → Rest σ s n p (call a (codes "WATCH" ∷ σ.unacked ∷ []) done ∷ l)
Good σ s (Waiting n p j k) l = JobRest σ s n p j k l
Good σ s (Watched n p j k) l = (a : ℕ) → JobRest σ s n p j k (call a (codes "WATCH" ∷ σ.unacked ∷ []) done ∷ l)
Good σ s (Leaving n p j) l = LeaveRest σ s n p j l
Good σ s (Asking n p j k u v e) l = (a b : ℕ) → Carries σ u (job_tag j) v → σ.exchange_in u ≡ Some e → JobRest σ s n p j k (reading σ (job_tag j) a b (Bulk u) l)
Good σ s (Ready n p j k v q qs) l = TakeRest σ s n p j k v (q ∷ qs) l
Good σ s (Begun n p j k v q qs) l = RemoveRest σ s n p j k v (q ∷ qs) l
Good σ s (Removed n p j k v q qs) l = DeleteRest σ s n p j k v (q ∷ qs) l
Good σ s (Putting n p j k v qs) l = PutRest σ s n p j k v qs l
Good σ s (Locked n p) l = (a : ℕ) → Rest σ s n p (call a (lock_words σ (token s (suc p))) done ∷ l)
Good σ s (Turning n p ts) l = TurnRest σ s n p ts l
Good σ s (Release_watched n p) l = (a : ℕ) → ReleaseRest σ s n p (call a (codes "WATCH" ∷ σ.mutex ∷ []) done ∷ l)
Good σ s (Release_own n p) l = (a b : ℕ) → ReleaseRest σ s n p (call a (codes "WATCH" ∷ σ.mutex ∷ []) done ∷ call b (codes "GET" ∷ σ.mutex ∷ []) (Bulk (token s (suc p))) ∷ l)
Good σ s (Release_begun n p) l = (a b c : ℕ) → ReleaseRest σ s n p (call a (codes "WATCH" ∷ σ.mutex ∷ []) done ∷ call b (codes "GET" ∷ σ.mutex ∷ []) (Bulk (token s (suc p))) ∷ call c (codes "MULTI" ∷ []) done ∷ l)
Good σ s (Release_deleted n p) l = (a b c d : ℕ)
    → ReleaseRest σ s n p (call a (codes "WATCH" ∷ σ.mutex ∷ []) done ∷ call b (codes "GET" ∷ σ.mutex ∷ []) (Bulk (token s (suc p))) ∷ call c (codes "MULTI" ∷ []) done ∷ call d (codes "DEL" ∷ σ.mutex ∷ []) queued ∷ l)
Good σ s (Release_foreign n p) l = ForeignRest σ s n p l

-- ---- passes

no_returns : (σ : Setting) (ts : List Bytes) (end : PassEnd) (l : List Call) → IsReturns σ ts end l → ts ≡ [] → l ≡ []
no_returns σ ts end l All_returned e = refl
no_returns σ ts end l (Returned t us x xs k k' h on more) e = absurd (cc e)
no_returns σ ts end l (Returned_until t us x b k k' h on more) e = absurd (cc e)
no_returns σ ts end l (Ended_early t us k h) e = absurd (cc e)

not_held : (σ : Setting) (ts : List Bytes) (end : PassEnd) (l : List Call) → IsReturns σ ts end l → end ≡ Held → ⊥
not_held σ ts end l All_returned e = cc e
not_held σ ts end l (Returned t us x xs k k' h on more) e = cc e
not_held σ ts end l (Returned_until t us x b k k' h on more) e = cc e
not_held σ ts end l (Ended_early t us k h) e = cc e

-- one more return, after which the pass goes on
returned : (σ : Setting) (t : Bytes) (ts : List Bytes) (end : ReturnEnd) (after : PassEnd) (l l' : List Call) → IsTries σ Right t 0 end l → goes_on end ≡ true → IsReturns σ ts after l' → (all : PassEnd) × IsReturns σ (t ∷ ts) all (l ++ l')
returned σ t ts end Held l l' tries on more = absurd (not_held σ ts Held l' more refl)
returned σ t ts end (Stuck b) l l' tries on more = (Stuck b, Returned_until t ts end b l l' tries on more)
returned σ t ts end (Done ends) l l' tries on more = (Done (end ∷ ends), Returned t ts end ends l l' tries on more)

module _ (σ : Setting) (s : ℕ) where
  done_after : (n p : ℕ) (j : Job) (l : List Call) → Good σ s (finished n p j) l → After σ s n p j true l
  done_after n p (Open t) l h = h
  done_after n p (Alone side t) l h = h
  done_after n p (Of_pass t ts) l h = h

  no_turns : (n p : ℕ) (l : List Call) → TurnRest σ s n p [] l → ReleaseRest σ s n p l
  no_turns n p l h = subst (ReleaseRest σ s n p) ((λ i. sym (no_returns σ [] h.0 h.1 h.3 refl) i ++ h.2) ∙ h.5) h.4

  stuck_after : (n p : ℕ) (j : Job) (l : List Call) → Good σ s (gave_up n p j) l → After σ s n p j false l
  stuck_after n p (Open t) l h = h
  stuck_after n p (Alone side t) l h = h
  stuck_after n p (Of_pass t ts) l h = no_turns n p l h

  -- a side at which it may push
  some_side : (j : Job) → (side : Side) × MayPush j side
  some_side (Open t) = (Left, tt)
  some_side (Alone own t) = (own, refl)
  some_side (Of_pass t ts) = (Right, refl)

  pushed : (n p : ℕ) (v : Bytes) (ks : List Bytes) (l : List Call) → Good σ s (pushing n p v ks) l → PushRest σ s n p v ks l
  pushed n p v [] l h = ([], l, refl, refl, h)
  pushed n p v (k ∷ ks) l h = h

  asking_append : (o : Option Bytes) (c : ℕ) (ms : List Bytes) (xs ys : List Call) → asking σ o c ms xs ++ ys ≡ asking σ o c ms (xs ++ ys)
  asking_append None c ms xs ys = refl
  asking_append (Some e) c ms xs ys = refl

  queued_append : (side : Side) (v : Bytes) (qs : List (ℕ × Bytes)) (xs ys : List Call) → queued_calls side v qs xs ++ ys ≡ queued_calls side v qs (xs ++ ys)
  queued_append side v [] xs ys = refl
  queued_append side v (q ∷ qs) xs ys = ap (λ z. call q.0 (push_word side ∷ q.1 ∷ v ∷ []) queued ∷ z) (queued_append side v qs xs ys)

  -- a try up to its first push, and then the rest
  abbrev tried : Bytes → Try → List Call → List Call
  tried t y z = reading σ t y.a y.b (Bulk y.entry) (asking σ (σ.exchange_in y.entry) y.c y.members (call y.d (codes "MULTI" ∷ []) done ∷ call y.e (codes "ZREM" ∷ σ.index ∷ t ∷ []) queued ∷ call y.f (codes "HDEL" ∷ σ.unacked ∷ t ∷ []) queued ∷ z))

  whole_append : (side : Side) (t : Bytes) (y : Try) (r : Value) (xs ys : List Call) → whole_try σ side t y r xs ++ ys ≡ whole_try σ side t y r (xs ++ ys)
  whole_append side t y r xs ys =
      ap (reading σ t y.a y.b (Bulk y.entry)) (asking_append (σ.exchange_in y.entry) y.c y.members _ ys)
      ∙ ap (tried t y) (queued_append side y.envelope (y.first ∷ y.others) (call y.g (codes "EXEC" ∷ []) r ∷ xs) ys)

  -- the try is whole
  made : (n p : ℕ) (j : Job) (side : Side) (k : ℕ) (y : Try) (r : Value) (tail : List Call) → IsTry σ (job_tag j) y → EndRest σ s n p j side k r tail → SideRest σ s n p j side k (whole_try σ side (job_tag j) y r tail)
  made n p j side k y r tail ok (inl h) =
      (Was_moved, whole_try σ side (job_tag j) y (integers h.0) [], tail, Whole k y h.0 ok, h.2, whole_append side (job_tag j) y (integers h.0) [] tail ∙ ap (λ z. whole_try σ side (job_tag j) y z tail) (sym h.1))
  made n p j side k y r tail ok (inr (inl h)) =
      let q = h.2 in
      (q.0, whole_try σ side (job_tag j) y NullArray q.1, q.2, Again k y q.0 q.1 h.1 ok q.3, q.4, whole_append side (job_tag j) y NullArray q.1 q.2 ∙ (λ i. whole_try σ side (job_tag j) y (sym h.0 i) (q.5 i)))
  made n p j side k y r tail ok (inr (inr h)) = (
    Was_contended,
    whole_try σ side (job_tag j) y NullArray [],
    tail,
    subst (λ z. IsTries σ side (job_tag j) z Was_contended (whole_try σ side (job_tag j) y NullArray [])) (sym h.1) (Eighth y ok),
    h.2,
    whole_append side (job_tag j) y NullArray [] tail ∙ ap (λ z. whole_try σ side (job_tag j) y z tail) (sym h.0),
  )

  -- the keys are known to which it returns
  went : (n p : ℕ) (j : Job) (k a b c : ℕ) (u v : Bytes) (ms : List Bytes) (l : List Call) (keys : List Bytes) → Carries σ u (job_tag j) v → σ.keys_in u ms ≡ keys → Good σ s (routed n p j k v keys) l
      → JobRest σ s n p j k (reading σ (job_tag j) a b (Bulk u) (asking σ (σ.exchange_in u) c ms l))
  went n p j k a b c u v ms l [] carries none h =
      let side = some_side j in (
        side.0,
        side.1,
        (
          Stayed,
          reading σ (job_tag j) a b (Bulk u) (asking σ (σ.exchange_in u) c ms (leaving h.0)),
          h.1,
          Nowhere k a b c h.0 u v ms carries none,
          h.3,
          ap (reading σ (job_tag j) a b (Bulk u)) (asking_append (σ.exchange_in u) c ms (leaving h.0) h.1 ∙ ap (asking σ (σ.exchange_in u) c ms) h.2),
        ),
      )
  went n p j k a b c u v ms l (q ∷ qs) carries some h =
      let r = h.3 in
      let d = r.3 in
      let x = d.3 in
      go x.2 x.6 x.7
    where
      go : (ps : List (ℕ × Bytes)) → queued_keys ps ≡ q ∷ qs → queued_calls h.3.3.3.0 v ps (call h.3.3.3.3 (codes "EXEC" ∷ []) h.3.3.3.4 ∷ h.3.3.3.5) ≡ h.3.3.1
          → JobRest σ s n p j k (reading σ (job_tag j) a b (Bulk u) (asking σ (σ.exchange_in u) c ms l))
      go [] keys eq = absurd (cc keys)
      go (first ∷ others) keys eq =
          let r = h.3 in
          let d = r.3 in
          let x = d.3 in
          let y : Try = record { a = a; b = b; c = c; d = h.0; e = r.0; f = d.0; g = x.3; entry = u; envelope = v; members = ms; first = first; others = others } in
          let whole = ap (λ z. call h.0 (codes "MULTI" ∷ []) done ∷ call r.0 (codes "ZREM" ∷ σ.index ∷ job_tag j ∷ []) queued ∷ call d.0 (codes "HDEL" ∷ σ.unacked ∷ job_tag j ∷ []) queued ∷ z) eq
          ∙ ap (λ z. call h.0 (codes "MULTI" ∷ []) done ∷ call r.0 (codes "ZREM" ∷ σ.index ∷ job_tag j ∷ []) queued ∷ z) d.2
          ∙ ap (λ z. call h.0 (codes "MULTI" ∷ []) done ∷ z) r.2
          ∙ h.2 in
          (x.0, x.1, subst (λ z. SideRest σ s n p j x.0 k (reading σ (job_tag j) a b (Bulk u) (asking σ (σ.exchange_in u) c ms z))) whole (made n p j x.0 k y x.4 x.5 (carries, keys ∙ sym some) x.8))

  -- the entry was read
  entry_before : (n p : ℕ) (j : Job) (k a b : ℕ) (r : Value) (c' : Spot) (l : List Call) → TellsSpot σ s (Entry n p j k) r c' → Good σ s c' l → JobRest σ s n p j k (reading σ (job_tag j) a b r l)
  entry_before n p j k a b r c' l tells =
      on_entry σ s (λ r c'. Good σ s c' l → JobRest σ s n p j k (reading σ (job_tag j) a b r l)) n p j k
      (λ h. let side = some_side j in (side.0, side.1, (Gone, reading σ (job_tag j) a b NullBulk (leaving h.0), h.1, Missing_tries k a b h.0, h.3, ap (reading σ (job_tag j) a b NullBulk) h.2)))
      (λ u useless h. let side = some_side j in (side.0, side.1, (Stayed, reading σ (job_tag j) a b (Bulk u) (leaving h.0), h.1, Useless_tries k a b h.0 u useless, h.3, ap (reading σ (job_tag j) a b (Bulk u)) h.2)))
      (λ u v carries none h. subst (λ o. JobRest σ s n p j k (reading σ (job_tag j) a b (Bulk u) (asking σ o 0 [] l))) none (went n p j k a b 0 u v [] l (σ.keys_in u []) carries refl h))
      (λ u v e carries some h. h a b carries some)
      r c' tells

  -- a return of its own
  alone : (n p : ℕ) (t : Bytes) (l : List Call) → σ.is_tag t ≡ true → JobRest σ s n p (Open t) 0 l → Rest σ s n p l
  alone n p t l is h = let q = h.2 in subst (Rest σ s n p) q.5 (block_then σ s n p Other q.1 q.2 (Return t h.0 q.0 q.1 (is, q.3)) q.4)

  -- one of a pass
  turned : (n p : ℕ) (t : Bytes) (ts : List Bytes) (l : List Call) → JobRest σ s n p (Of_pass t ts) 0 l → TurnRest σ s n p (t ∷ ts) l
  turned n p t ts l h = let q = h.2 in go q.0 (subst (λ z. IsTries σ z t 0 q.0 q.1) (sym h.1) q.3) q.4
    where
      on : (end : ReturnEnd) → goes_on end ≡ true → IsTries σ Right t 0 end h.2.1 → TurnRest σ s n p ts h.2.2 → TurnRest σ s n p (t ∷ ts) l
      on end is tries after =
          let q = h.2 in
          let r = returned σ t ts end after.0 q.1 after.1 tries is after.3 in
          (r.0, q.1 ++ after.1, after.2, r.1, after.4, append_assoc q.1 after.1 after.2 ∙ ap (λ z. q.1 ++ z) after.5 ∙ q.5)

      go : (end : ReturnEnd) → IsTries σ Right t 0 end h.2.1 → After σ s n p (Of_pass t ts) (goes_on end) h.2.2 → TurnRest σ s n p (t ∷ ts) l
      go Was_contended tries after = let q = h.2 in (Stuck t, q.1, q.2, Ended_early t ts q.1 tries, after, q.5)
      go Was_moved tries after = on Was_moved refl tries after
      go Gone tries after = on Gone refl tries after
      go Stayed tries after = on Stayed refl tries after

  -- a push of a return, which shows its side
  put_before : (n p : ℕ) (j : Job) (k : ℕ) (v q : Bytes) (qs : List Bytes) (side : Side) (a : ℕ) (l : List Call) → MayPush j side → PutRest σ s n p (sided j side) k v qs l
      → PutRest σ s n p j k v (q ∷ qs) (call a (push_word side ∷ q ∷ v ∷ []) queued ∷ l)
  put_before n p (Open t) k v q qs side a l may h =
      (h.0, tt, (a, q) ∷ h.2, h.3, h.4, h.5, ap (λ z. q ∷ z) h.6, (λ i. call a (push_word (sym h.1 i) ∷ q ∷ v ∷ []) queued ∷ h.7 i), h.8)
  put_before n p (Alone own t) k v q qs side a l may h =
      (h.0, h.1, (a, q) ∷ h.2, h.3, h.4, h.5, ap (λ z. q ∷ z) h.6, (λ i. call a (push_word ((sym h.1 ∙ may) i) ∷ q ∷ v ∷ []) queued ∷ h.7 i), h.8)
  put_before n p (Of_pass t ts) k v q qs side a l may h =
      (h.0, h.1, (a, q) ∷ h.2, h.3, h.4, h.5, ap (λ z. q ∷ z) h.6, (λ i. call a (push_word ((sym h.1 ∙ may) i) ∷ q ∷ v ∷ []) queued ∷ h.7 i), h.8)

  -- ---- one call before what is good

  abbrev Before : ℕ → ℕ → ℕ → Words → List Call → Value → Spot → Type 0
  Before n p a words l r c' = Good σ s c' l → Rest σ s n p (call a words r ∷ l)

  start_before : (n p a : ℕ) (words : Words) (q : Ask) (r : Value) (c' : Spot) (l : List Call) → Begins σ s n p words q → TellsSpot σ s q r c' → Before n p a words l r c'
  start_before n p a words q r c' l (Declares e b x t u v w y) tells = on_count σ s (Before n p a words l) (Free n p) (λ z. block_then σ s n p Other _ l (Declare e b x t _ (Told a z u v w y))) r c' tells
  start_before n p a words q r c' l (Undeclares e b x t u v w y) tells = on_count σ s (Before n p a words l) (Free n p) (λ z. block_then σ s n p Other _ l (Undeclare e b x t _ (Told a z u v w y))) r c' tells
  start_before n p a words q r c' l (Publishes k v tag none one) tells = on_count σ s (Before n p a words l) (Free (suc n) p) (λ z. block_then σ s n p Drawing _ l (Publish v _ (Plain a k z tag none one))) r c' tells
  start_before n p a words q r c' l (Lists e is ex) tells = on_bindings σ s (Before n p a words l) n p e (λ ms h. h a is ex) r c' tells
  start_before n p a words q r c' l (Pops names k ks pop) tells =
      on_message σ s (Before n p a words l) n p
      (block_then σ s n p Other _ l (Pop names _ (Empty a k ks pop)))
      (λ q v none. block_then σ s n p Other _ l (Pop names _ (Unreadable_block a k ks q v pop none)))
      (λ q v t tag h. h a names k ks q pop tag)
      r c' tells
  start_before n p a words q r c' l Ends tells = on_consent σ s (Before n p a words l) (End_begun n p) (λ h. h a) r c' tells
  start_before n p a words q r c' l Returns tells = on_consent σ s (Before n p a words l) (Looking n p) (λ h. h a) r c' tells
  start_before n p a words q r c' l Passes tells = on_lock σ s (Before n p a words l) n p (block_then σ s n p Passing _ l (Pass 0 Held _ (omega arith) (Is_held a))) (λ h. h a) r c' tells
  start_before n p a words q r c' l (Concerns_none w neutral) tells = on_anything σ s (Before n p a words l) (Free n p) (λ r right. block_then σ s n p Other _ l (Neutral words _ (Answered_block a r neutral right))) r c' tells

  abbrev Next : Spot → ℕ → Words → List Call → Value → Spot → Type 0
  Next c a words l r c' = Good σ s c' l → Good σ s c (call a words r ∷ l)

  before : (c : Spot) (a : ℕ) (words : Words) (q : Ask) (r : Value) (c' : Spot) (l : List Call) → Asks σ s c a words q → TellsSpot σ s q r c' → Next c a words l r c'
  before c a words q r c' l (Starts n p b w x begins) tells = start_before n p a words q r c' l begins tells
  before c a words q r c' l (Starts_next n p e ms b w x begins) tells = λ h d is ex.
      block_then σ s n p Drawing (call d (codes "SMEMBERS" ∷ σ.binding e ∷ []) (bulks ms) ∷ []) (call a words r ∷ l) (Publish_short _ (Asked d e ms is ex)) (start_before (suc n) p a words q r c' l begins tells h)
  before c a words q r c' l (Pushes_first n p e ms b k v ks tag ex keys) tells = on_count σ s (Next c a words l) (pushing n p v ks) (λ z h d is some.
      let x = pushed n p v ks l h in
      subst (λ z. Rest σ s n p (z)) (ap (λ y. call d (codes "SMEMBERS" ∷ σ.binding e ∷ []) (bulks ms) ∷ call a (codes "LPUSH" ∷ k ∷ v ∷ []) (Integer z) ∷ y) x.3)
      (block_then σ s n p Drawing _ x.1 (Publish v _ (Named_block d e ms ((a, k, z) ∷ x.0) tag ex (ap (λ y. k ∷ y) x.2 ∙ sym keys))) x.4)) r c' tells
  before c a words q r c' l (Pushes n p b v k ks) tells = on_count σ s (Next c a words l) (pushing n p v ks) (λ z h.
      let x = pushed n p v ks l h in
      ((a, k, z) ∷ x.0, x.1, ap (λ y. k ∷ y) x.2, ap (λ y. call a (codes "LPUSH" ∷ k ∷ v ∷ []) (Integer z) ∷ y) x.3, x.4)) r c' tells
  before c a words q r c' l (Pop_begins n p b v t) tells = on_consent σ s (Next c a words l) (Pop_begun n p v t) (λ h d names k ks q pop tag. h d a names k ks q pop tag) r c' tells
  before c a words q r c' l (Pop_indexes n p b v t lt) tells = on_queueing σ s (Next c a words l) (Pop_indexed n p v t) (λ h d e names k ks q pop tag. h d e a names k ks q pop tag lt) r c' tells
  before c a words q r c' l (Pop_sets n p b v t) tells = on_queueing σ s (Next c a words l) (Filled n p) (λ h d e f names k ks q pop tag lt.
      subst (λ z. Rest σ s n p (call d (brpop_words k ks) (pair q v) ∷ call e (codes "MULTI" ∷ []) done ∷ call f (codes "ZADD" ∷ σ.index ∷ decimal f ∷ t ∷ []) queued ∷ call a (codes "HSET" ∷ σ.unacked ∷ t ∷ σ.entry_of v ∷ []) queued ∷ z)) h.4
      (block_then σ s n p Other _ h.3 (Pop names _ (Popped_block d e f a h.0 k ks q v t h.1 h.2 pop tag lt)) h.5)) r c' tells
  before c a words q r c' l (End_removes n p b t is) tells = on_queueing σ s (Next c a words l) (End_removed n p t) (λ h d. h d a is) r c' tells
  before c a words q r c' l (End_deletes n p b t) tells = on_queueing σ s (Next c a words l) (Filled n p) (λ h d e is.
      subst (λ z. Rest σ s n p (call d (codes "MULTI" ∷ []) done ∷ call e (codes "ZREM" ∷ σ.index ∷ t ∷ []) queued ∷ call a (codes "HDEL" ∷ σ.unacked ∷ t ∷ []) queued ∷ z)) h.4
      (block_then σ s n p Other _ h.3 (End t _ (Acknowledged d e a h.0 h.1 h.2 is)) h.5)) r c' tells
  before c a words q r c' l (Executes n p b) tells = on_counts σ s (Next c a words l) (Free n p) (λ x y h. (a, x, y, l, refl, h)) r c' tells
  before c a words q r c' l (Names n p b t is) tells = λ h d. alone n p t _ is (entry_before n p (Open t) 0 d a r c' l tells h)
  before c a words q r c' l (Tries n p b j k) tells = on_consent σ s (Next c a words l) (Watched n p j k) (λ h. h a) r c' tells
  before c a words q r c' l (Reads n p b j k) tells = λ h d. entry_before n p j k d a r c' l tells h
  before c a words q r c' l (Leaves n p b j) tells = on_consent σ s (Next c a words l) (finished n p j) (λ h. (a, l, refl, done_after n p j l h)) r c' tells
  before c a words q r c' l (Looks_up n p b j k u v e) tells = on_routes σ s (Next c a words l) n p j k u v (λ ms h d f carries some.
      subst (λ o. JobRest σ s n p j k (reading σ (job_tag j) d f (Bulk u) (asking σ o a ms l))) some (went n p j k d f a u v ms l (σ.keys_in u ms) carries refl h)) r c' tells
  before c a words q r c' l (Takes n p b j k v x xs) tells = on_consent σ s (Next c a words l) (Begun n p j k v x xs) (λ h. (a, l, refl, h)) r c' tells
  before c a words q r c' l (Removes n p b j k v x xs) tells = on_queueing σ s (Next c a words l) (Removed n p j k v x xs) (λ h. (a, l, refl, h)) r c' tells
  before c a words q r c' l (Deletes n p b j k v x xs) tells = on_queueing σ s (Next c a words l) (Putting n p j k v (x ∷ xs)) (λ h. (a, l, refl, h)) r c' tells
  before c a words q r c' l (Puts n p b j k v x xs side may) tells = on_queueing σ s (Next c a words l) (Putting n p (sided j side) k v xs) (λ h. put_before n p j k v x xs side a l may h) r c' tells
  before c a words q r c' l (Moves n p b j k v) tells =
      let side = some_side j in
      on_move σ s (Next c a words l) n p j k
      (λ zs h. (side.0, side.1, [], a, integers zs, l, refl, refl, inl (zs, refl, done_after n p j l h)))
      (λ lt h. (h.0, h.1, [], a, NullArray, l, refl, refl, inr (inl (refl, lt, h.2))))
      (λ is h. (side.0, side.1, [], a, NullArray, l, refl, refl, inr (inr (refl, is, stuck_after n p j l h))))
      r c' tells
  before c a words q r c' l (Looks n p b v lt) tells = on_due σ s (Next c a words l) n p (λ ms h d.
      let x = h.4 in
      subst (λ z. Rest σ s n p (call d (lock_words σ (token s (suc p))) done ∷ call a (due_words σ a v) (bulks ms) ∷ z))
      (append_assoc h.1 x.0 x.1 ∙ ap (λ z. h.1 ++ z) x.4 ∙ h.5)
      (block_then σ s n p Passing _ x.1 (Pass v h.0 _ lt (Ran d a ms h.0 h.1 x.0 h.3 x.2)) x.3)) r c' tells
  before c a words q r c' l (Turns n p b t ts) tells = on_consent σ s (Next c a words l) (Watched n p (Of_pass t ts) 0) (λ h. turned n p t ts _ (h a)) r c' tells
  before c a words q r c' l (Lets_go n p b) tells = on_consent σ s (Next c a words l) (Release_watched n p) (λ h. (Done [], [], _, All_returned, h a, refl)) r c' tells
  before c a words q r c' l (Inspects n p b) tells =
      on_holder σ s (Next c a words l) n p
      (λ h d. h d a)
      (λ u other h d. (_, h.1, Foreign_release d a h.0 (Bulk u) (inl (u, refl, other)), h.3, ap (λ z. call d (codes "WATCH" ∷ σ.mutex ∷ []) done ∷ call a (codes "GET" ∷ σ.mutex ∷ []) (Bulk u) ∷ z) h.2))
      (λ h d. (_, h.1, Foreign_release d a h.0 NullBulk (inr refl), h.3, ap (λ z. call d (codes "WATCH" ∷ σ.mutex ∷ []) done ∷ call a (codes "GET" ∷ σ.mutex ∷ []) NullBulk ∷ z) h.2))
      r c' tells
  before c a words q r c' l (Release_begins n p b) tells = on_consent σ s (Next c a words l) (Release_begun n p) (λ h d e. h d e a) r c' tells
  before c a words q r c' l (Release_deletes n p b) tells = on_queueing σ s (Next c a words l) (Release_deleted n p) (λ h d e f. h d e f a) r c' tells
  before c a words q r c' l (Release_ends n p b) tells =
      on_release σ s (Next c a words l) n p
      (λ rs h d e f g. (_, l, Own_release d e f g a (Array rs) (inl (rs, refl)), h, refl))
      (λ h d e f g. (_, l, Own_release d e f g a NullArray (inr refl), h, refl))
      r c' tells
  before c a words q r c' l (Leaves_foreign n p b) tells = on_consent σ s (Next c a words l) (Free n (suc p)) (λ h. (a, l, refl, h)) r c' tells

  pub good : (c : Spot) (l : List Call) (n p : ℕ) → Runs σ s c l (Free n p) → Good σ s c l
  good c [] n p r = subst (λ z. Good σ s z []) (sym r) ([], tt, refl)
  good c (x ∷ l) n p r = let g = r.1 in before c x.at x.words g.ask x.answer r.0 l g.asks g.tells (good r.0 l n p r.2)
