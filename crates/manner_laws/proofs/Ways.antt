-- Blocks run through the exact machine, and from each spot there is a way to a start.
use Rattle.std.proofs.Common.{arith, ◌≡◌, ◌⊎◌, inl, inr, ℕ, ℤ, suc, ◌^◌, ◌<◌, List, [], ◌∷◌, ◌++◌, Bool, true, false, refl, sym, subst, ◌∙◌, None, Some, Option, codes}
use Rattle.wire_values.specs.declared.value.Value.{Value}
use Rattle.wire_values.specs.declared.value.Value.TheVariants.{Bulk, NullBulk, Array, NullArray}
use Rattle.wire_values.specs.Layer.{layer}
use Rattle.store_model.specs.Replies.{done}
use Rattle.store_model.specs.Words.{Words}
use Rattle.queue_keys.specs.Names.{Bytes}
use Rattle.queue_keys.specs.Texts.{token}
use Rattle.command_blocks.specs.Answers.{integers, is_error}
use Rattle.command_blocks.specs.Setting.{Setting, IsLawful}
use Rattle.command_blocks.specs.Calls.{Call, call, concat}
use Rattle.command_blocks.specs.RouteBlocks.{IsDeclareBlock, IsPublishBlock, IsShortPublish, Told, direct_calls, direct_keys, Plain, Named as Named_block, Asked}
use Rattle.command_blocks.specs.TakeBlocks.{IsPopBlock, Empty, Unreadable as Unreadable_block, Popped as Popped_block, IsEndBlock, Acknowledged}
use Rattle.command_blocks.specs.ReturnBlocks.{ReturnEnd, Contended as Was_contended, goes_on, queued_calls, queued_keys, reading, asking, leaving, taking, Carries, Try, whole_try, IsTry, IsTries, Missing as Missing_tries, Useless as Useless_tries, Nowhere, Whole, Eighth, Again}
use Rattle.command_blocks.specs.PassBlocks.{PassEnd, IsReturns, All_returned, Returned, Returned_until, Ended_early, IsRelease, Own as Own_release, Foreign as Foreign_release, IsPassBlock, tags_among, Is_held, Ran}
use Rattle.command_blocks.specs.Blocks.{Pings, IsNeutralBlock, Answered as Answered_block, CounterUse, drawn, passes_after, IsBlock, Declare, Undeclare, Publish, Publish_short, Pop, End, Return, Pass, Neutral, AreBlocks, IsFrontOfBlocks, IsMannered}
use Rattle.command_blocks.specs.declared.side.Side.{Side}
use Rattle.command_blocks.specs.declared.side.Side.TheVariants.{Left, Right}
use Rattle.manner_laws.specs.Spots.{Job, Open, Alone, Of_pass, job_tag, MayPush, sided, Spot, Free, Listed, Pushing, Popped, Pop_begun, Pop_indexed, End_begun, End_removed, Filled, Looking, Waiting, Watched, Leaving, Asking, Ready, Begun, Removed, Putting, Locked, Turning, Release_watched, Release_own, Release_begun, Release_deleted, Release_foreign, pushing, finished, gave_up, routed, Ask, Consent, Entry}
use Rattle.manner_laws.specs.Machine.{Begins, Declares, Undeclares, Publishes, Lists, Pops, Ends, Returns, Passes, Concerns_none, Asks, Starts, Starts_next, Pushes_first, Pushes, Pop_begins, Pop_indexes, Pop_sets, End_removes, End_deletes, Executes, Names, Tries, Reads, Leaves, Looks_up, Takes, Removes, Deletes, Puts, Moves, Looks, Turns, Lets_go, Inspects, Release_begins, Release_deletes, Release_ends, Leaves_foreign, TellsSpot, Counted, Consented, Was_queued, Counted_both, Answered, Bound, Nothing_there, Unreadable, Readable, Missing, Useless, Unnamed, Named, Looked_up, Moved, Failed, Contended, Taken, Given, Members, Own, Foreign, Nobody, Released, Altered, Goes, Runs, RunsThrough, RunsOff, TellsExchanges}
use Rattle.std.specs.Prelude.{pos}
use Rattle.manner_laws.proofs.Steps.{by}
use Rattle.manner_laws.proofs.Made.{runs_join, runs_split, good}

-- a spot at which a block may begin, with its counters
data IsStart : Spot → ℕ → ℕ → Type 0 where
  Here : (n p : ℕ) → IsStart (Free n p) n p
  There : (n p : ℕ) (e : Bytes) (ms : List Bytes) → IsStart (Listed n p e ms) (suc n) p

-- after tries
abbrev ended : ℕ → ℕ → Job → Bool → Spot
ended n p j true = finished n p j
ended n p j false = gave_up n p j

alone_end : (n p : ℕ) (t : Bytes) (on : Bool) → ended n p (Open t) on ≡ Free n p
alone_end n p t true = refl
alone_end n p t false = refl

settled_finished : (n p : ℕ) (j : Job) (side : Side) → finished n p (sided j side) ≡ finished n p j
settled_finished n p (Open t) side = refl
settled_finished n p (Alone own t) side = refl
settled_finished n p (Of_pass t ts) side = refl

settled_gave_up : (n p : ℕ) (j : Job) (side : Side) → gave_up n p (sided j side) ≡ gave_up n p j
settled_gave_up n p (Open t) side = refl
settled_gave_up n p (Alone own t) side = refl
settled_gave_up n p (Of_pass t ts) side = refl

settled_still : (j : Job) (side : Side) → sided (sided j side) side ≡ sided j side
settled_still (Open t) side = refl
settled_still (Alone own t) side = refl
settled_still (Of_pass t ts) side = refl

settled_may : (j : Job) (side : Side) → MayPush j side → MayPush (sided j side) side
settled_may (Open t) side may = refl
settled_may (Alone own t) side may = may
settled_may (Of_pass t ts) side may = may

-- OK is no error
pub done_right : is_error done ≡ false
unfolding layer
done_right = refl

module _ (σ : Setting) (s : ℕ) where
  start : {c : Spot} {n p a : ℕ} {words : Words} {q : Ask} → IsStart c n p → Begins σ s n p words q → Asks σ s c a words q
  start {a = a} (Here n p) begins = Starts n p a _ _ begins
  start {a = a} (There n p e ms) begins = Starts_next n p e ms a _ _ begins

  -- a run from a start, to a start with these counters
  abbrev BlockRuns : Spot → List Call → ℕ → ℕ → Type 0
  BlockRuns c l n p = (c' : Spot) × IsStart c' n p × Runs σ s c l c'

  -- ---- publications

  direct_runs : (n p : ℕ) (v : Bytes) (d : ℕ × Bytes × ℤ) (ds : List (ℕ × Bytes × ℤ)) → Runs σ s (Pushing n p v d.1 (direct_keys ds)) (direct_calls v (d ∷ ds)) (Free (suc n) p)
  direct_runs n p v d [] = (Free (suc n) p, by σ s (Pushes n p d.0 v d.1 []) (Counted _ d.2), refl)
  direct_runs n p v d (e ∷ ds) = (Pushing n p v e.1 (direct_keys ds), by σ s (Pushes n p d.0 v d.1 (e.1 ∷ direct_keys ds)) (Counted _ d.2), direct_runs n p v e ds)

  named_runs : (n p : ℕ) (e : Bytes) (ms : List Bytes) (v : Bytes) (ds : List (ℕ × Bytes × ℤ)) → σ.written_tag v ≡ Some (σ.tag s (suc n)) → σ.exchange_of v ≡ Some e → direct_keys ds ≡ σ.keys_for v ms → BlockRuns (Listed n p e ms) (direct_calls v ds) (suc n) p
  named_runs n p e ms v [] tag ex keys = (Listed n p e ms, There n p e ms, refl)
  named_runs n p e ms v (d ∷ []) tag ex keys = (Free (suc n) p, Here (suc n) p, (Free (suc n) p, by σ s (Pushes_first n p e ms d.0 d.1 v [] tag ex (sym keys)) (Counted _ d.2), refl))
  named_runs n p e ms v (d ∷ f ∷ ds) tag ex keys =
      (Free (suc n) p, Here (suc n) p, (Pushing n p v f.1 (direct_keys ds), by σ s (Pushes_first n p e ms d.0 d.1 v (f.1 ∷ direct_keys ds) tag ex (sym keys)) (Counted _ d.2), direct_runs n p v f ds))

  -- ---- tries

  put_runs : (n p : ℕ) (j : Job) (k : ℕ) (v : Bytes) (side : Side) (b : Spot) (rest : List Call) (qs : List (ℕ × Bytes)) → MayPush j side → sided j side ≡ j → Runs σ s (Putting n p j k v []) rest b
      → Runs σ s (Putting n p j k v (queued_keys qs)) (queued_calls side v qs rest) b
  put_runs n p j k v side b rest [] may same run = run
  put_runs n p j k v side b rest (q ∷ qs) may same run = (
    Putting n p (sided j side) k v (queued_keys qs),
    by σ s (Puts n p q.0 j k v q.1 (queued_keys qs) side may) (Was_queued _),
    subst (λ z. Runs σ s (Putting n p z k v (queued_keys qs)) (queued_calls side v qs rest) b) (sym same) (put_runs n p j k v side b rest qs may same run),
  )

  -- the transaction of a try, once its keys are known
  taking_runs : (n p : ℕ) (j : Job) (k : ℕ) (side : Side) (y : Try) (x : Value) (rest : List Call) (b : Spot) (keys : List Bytes) → MayPush j side → queued_keys (y.first ∷ y.others) ≡ keys → Runs σ s (Putting n p (sided j side) k y.envelope []) (call y.g (codes "EXEC" ∷ []) x ∷ rest) b
      → Runs σ s (routed n p j k y.envelope keys) (taking σ side (job_tag j) y.d y.e y.f y.g y.envelope (y.first ∷ y.others) x rest) b
  taking_runs n p j k side y x rest b keys may is run = subst (λ z. Runs σ s (routed n p j k y.envelope z) (taking σ side (job_tag j) y.d y.e y.f y.g y.envelope (y.first ∷ y.others) x rest) b) is
      let q = y.first.1 in
      let qs = queued_keys y.others in (
        Begun n p j k y.envelope q qs,
        by σ s (Takes n p y.d j k y.envelope q qs) (Consented _),
        (
          Removed n p j k y.envelope q qs,
          by σ s (Removes n p y.e j k y.envelope q qs) (Was_queued _),
          (
            Putting n p j k y.envelope (q ∷ qs),
            by σ s (Deletes n p y.f j k y.envelope q qs) (Was_queued _),
            (
              Putting n p (sided j side) k y.envelope qs,
              by σ s (Puts n p y.first.0 j k y.envelope q qs side may) (Was_queued _),
              put_runs n p (sided j side) k y.envelope side b _ y.others (settled_may j side may) (settled_still j side) run,
            ),
          ),
        ),
      )

  -- the answer to HGET, and what follows
  abbrev EntryRuns : ℕ → ℕ → Job → ℕ → Value → List Call → Spot → Type 0
  EntryRuns n p j k r l b = (mid : Spot) × TellsSpot σ s (Entry n p j k) r mid × Runs σ s mid l b

  asking_runs : IsLawful σ → (n p : ℕ) (j : Job) (k : ℕ) (side : Side) (y : Try) (x : Value) (rest : List Call) (b : Spot) (o : Option Bytes) → σ.exchange_in y.entry ≡ o → MayPush j side → IsTry σ (job_tag j) y
      → Runs σ s (Putting n p (sided j side) k y.envelope []) (call y.g (codes "EXEC" ∷ []) x ∷ rest) b
      → EntryRuns n p j k (Bulk y.entry) (asking σ o y.c y.members (taking σ side (job_tag j) y.d y.e y.f y.g y.envelope (y.first ∷ y.others) x rest)) b
  asking_runs laws n p j k side y x rest b None is may ok run =
      (routed n p j k y.envelope (σ.keys_in y.entry []), Unnamed n p j k y.entry y.envelope ok.0 is, taking_runs n p j k side y x rest b (σ.keys_in y.entry []) may (ok.1 ∙ laws.keys_in_alone y.entry y.members is) run)
  asking_runs laws n p j k side y x rest b (Some e) is may ok run = (
    Asking n p j k y.entry y.envelope e,
    Named n p j k y.entry y.envelope e ok.0 is,
    (routed n p j k y.envelope (σ.keys_in y.entry y.members), by σ s (Looks_up n p y.c j k y.entry y.envelope e) (Looked_up n p j k y.entry y.envelope y.members), taking_runs n p j k side y x rest b (σ.keys_in y.entry y.members) may ok.1 run),
  )

  left : (n p : ℕ) (j : Job) (d : ℕ) → Runs σ s (Leaving n p j) (leaving d) (finished n p j)
  left n p j d = (finished n p j, by σ s (Leaves n p d j) (Consented _), refl)

  nowhere_runs : IsLawful σ → (n p : ℕ) (j : Job) (k a d : ℕ) (u v : Bytes) (ms : List Bytes) (o : Option Bytes) → σ.exchange_in u ≡ o → Carries σ u (job_tag j) v → σ.keys_in u ms ≡ []
      → EntryRuns n p j k (Bulk u) (asking σ o a ms (leaving d)) (finished n p j)
  nowhere_runs laws n p j k a d u v ms None is carries none =
      (routed n p j k v (σ.keys_in u []), Unnamed n p j k u v carries is, subst (λ z. Runs σ s (routed n p j k v z) (leaving d) (finished n p j)) (sym none ∙ laws.keys_in_alone u ms is) (left n p j d))
  nowhere_runs laws n p j k a d u v ms (Some e) is carries none = (
    Asking n p j k u v e,
    Named n p j k u v e carries is,
    (routed n p j k v (σ.keys_in u ms), by σ s (Looks_up n p a j k u v e) (Looked_up n p j k u v ms), subst (λ z. Runs σ s (routed n p j k v z) (leaving d) (finished n p j)) (sym none) (left n p j d)),
  )

  -- the tries after their first two calls
  abbrev TriesRun : ℕ → ℕ → Job → ℕ → Bool → List Call → Type 0
  TriesRun n p j k on l = (a : ℕ) × (b : ℕ) × (r : Value) × (rest : List Call) × (reading σ (job_tag j) a b r rest ≡ l) × EntryRuns n p j k r rest (ended n p j on)

  moved_runs : IsLawful σ → (n p : ℕ) (j : Job) (k : ℕ) (side : Side) (y : Try) (zs : List ℤ) → MayPush j side → IsTry σ (job_tag j) y → TriesRun n p j k true (whole_try σ side (job_tag j) y (integers zs) [])
  moved_runs laws n p j k side y zs may ok = (
    y.a,
    y.b,
    Bulk y.entry,
    _,
    refl,
    asking_runs laws n p j k side y (integers zs) [] (finished n p j) (σ.exchange_in y.entry) refl may ok
        (finished n p (sided j side), by σ s (Moves n p y.g (sided j side) k y.envelope) (Moved n p (sided j side) k zs), settled_finished n p j side),
  )

  eighth_runs : IsLawful σ → (n p : ℕ) (j : Job) (side : Side) (y : Try) → MayPush j side → IsTry σ (job_tag j) y → TriesRun n p j 7 false (whole_try σ side (job_tag j) y NullArray [])
  eighth_runs laws n p j side y may ok = (
    y.a,
    y.b,
    Bulk y.entry,
    _,
    refl,
    asking_runs laws n p j 7 side y NullArray [] (gave_up n p j) (σ.exchange_in y.entry) refl may ok
        (gave_up n p (sided j side), by σ s (Moves n p y.g (sided j side) 7 y.envelope) (Contended n p (sided j side) 7 refl), settled_gave_up n p j side),
  )

  again_runs : IsLawful σ → (n p : ℕ) (j : Job) (k : ℕ) (side : Side) (y : Try) (l : List Call) (b : Spot) → k < 7 → MayPush j side → IsTry σ (job_tag j) y → Runs σ s (Waiting n p (sided j side) (suc k)) l b
      → EntryRuns n p j k (Bulk y.entry) (asking σ (σ.exchange_in y.entry) y.c y.members (taking σ side (job_tag j) y.d y.e y.f y.g y.envelope (y.first ∷ y.others) NullArray l)) b
  again_runs laws n p j k side y l b lt may ok run =
      asking_runs laws n p j k side y NullArray l b (σ.exchange_in y.entry) refl may ok (Waiting n p (sided j side) (suc k), by σ s (Moves n p y.g (sided j side) k y.envelope) (Failed n p (sided j side) k lt), run)

  -- the tries from their first call on
  waiting_runs : (n p : ℕ) (j : Job) (k : ℕ) (on : Bool) (l : List Call) → TriesRun n p j k on l → Runs σ s (Waiting n p j k) l (ended n p j on)
  waiting_runs n p j k on l r = subst (λ z. Runs σ s (Waiting n p j k) z (ended n p j on)) r.4 (Watched n p j k, by σ s (Tries n p r.0 j k) (Consented _), (r.5.0, by σ s (Reads n p r.1 j k) r.5.1, r.5.2))

  -- of a job that has shown its side
  tries_run : IsLawful σ → (n p : ℕ) (j : Job) (side : Side) (k : ℕ) (end : ReturnEnd) (l : List Call) → MayPush j side → sided j side ≡ j → IsTries σ side (job_tag j) k end l → TriesRun n p j k (goes_on end) l
  tries_run laws n p j side k end l may same (Missing_tries m a b c) = (a, b, NullBulk, leaving c, refl, (Leaving n p j, Missing n p j k, left n p j c))
  tries_run laws n p j side k end l may same (Useless_tries m a b c u useless) = (a, b, Bulk u, leaving c, refl, (Leaving n p j, Useless n p j k u useless, left n p j c))
  tries_run laws n p j side k end l may same (Nowhere m a b c d u v ms carries none) = (a, b, Bulk u, _, refl, nowhere_runs laws n p j k c d u v ms (σ.exchange_in u) refl carries none)
  tries_run laws n p j side k end l may same (Whole m y zs ok) = moved_runs laws n p j k side y zs may ok
  tries_run laws n p j side k end l may same (Eighth y ok) = eighth_runs laws n p j side y may ok
  tries_run laws n p j side k end l may same (Again m y end' l' lt ok next) = (
    y.a,
    y.b,
    Bulk y.entry,
    _,
    refl,
    again_runs laws n p j k side y l' (ended n p j (goes_on end)) lt may ok
        (subst (λ z. Runs σ s (Waiting n p z (suc k)) l' (ended n p j (goes_on end))) (sym same) (waiting_runs n p j (suc k) (goes_on end) l' (tries_run laws n p j side (suc k) end l' may same next))),
  )

  -- of a return of its own, from its first try on
  open_run : IsLawful σ → (n p : ℕ) (t : Bytes) (side : Side) (end : ReturnEnd) (l : List Call) → IsTries σ side t 0 end l → TriesRun n p (Open t) 0 (goes_on end) l
  open_run laws n p t side end l h = go 0 end l h
    where
      go : (k : ℕ) (end : ReturnEnd) (l : List Call) → IsTries σ side t k end l → TriesRun n p (Open t) k (goes_on end) l
      go k end l (Missing_tries m a b c) = (a, b, NullBulk, leaving c, refl, (Leaving n p (Open t), Missing n p (Open t) k, left n p (Open t) c))
      go k end l (Useless_tries m a b c u useless) = (a, b, Bulk u, leaving c, refl, (Leaving n p (Open t), Useless n p (Open t) k u useless, left n p (Open t) c))
      go k end l (Nowhere m a b c d u v ms carries none) = (a, b, Bulk u, _, refl, nowhere_runs laws n p (Open t) k c d u v ms (σ.exchange_in u) refl carries none)
      go k end l (Whole m y zs ok) = moved_runs laws n p (Open t) k side y zs tt ok
      go k end l (Eighth y ok) = eighth_runs laws n p (Open t) side y tt ok
      go k end l (Again m y end' l' lt ok next) =
          let shown = tries_run laws n p (Alone side t) side (suc k) end l' refl refl next in
          (y.a, y.b, Bulk y.entry, _, refl, again_runs laws n p (Open t) k side y l' (ended n p (Open t) (goes_on end)) lt tt ok (shown_runs (goes_on end) l' k shown))
        where
          shown_runs : (on : Bool) (l' : List Call) (k : ℕ) → TriesRun n p (Alone side t) (suc k) on l' → Runs σ s (Waiting n p (Alone side t) (suc k)) l' (ended n p (Open t) on)
          shown_runs true l' k r = waiting_runs n p (Alone side t) (suc k) true l' r
          shown_runs false l' k r = waiting_runs n p (Alone side t) (suc k) false l' r

  -- ---- passes

  turn_runs : IsLawful σ → (n p : ℕ) (t : Bytes) (ts : List Bytes) (end : ReturnEnd) (l : List Call) → IsTries σ Right t 0 end l → Runs σ s (Turning n p (t ∷ ts)) l (ended n p (Of_pass t ts) (goes_on end))
  turn_runs laws n p t ts end l h =
      let r = tries_run laws n p (Of_pass t ts) Right 0 end l refl refl h in
      subst (λ z. Runs σ s (Turning n p (t ∷ ts)) z (ended n p (Of_pass t ts) (goes_on end))) r.4 (Watched n p (Of_pass t ts) 0, by σ s (Turns n p r.0 t ts) (Consented _), (r.5.0, by σ s (Reads n p r.1 (Of_pass t ts) 0) r.5.1, r.5.2))

  returns_run : IsLawful σ → (n p : ℕ) (ts : List Bytes) (end : PassEnd) (l : List Call) → IsReturns σ ts end l → Runs σ s (Turning n p ts) l (Turning n p [])
  returns_run laws n p ts end l All_returned = refl
  returns_run laws n p ts end l (Returned t us x xs k k' h on more) =
      runs_join σ s (Turning n p (t ∷ us)) (Turning n p us) (Turning n p []) k k' (subst (λ z. Runs σ s (Turning n p (t ∷ us)) k (ended n p (Of_pass t us) z)) on (turn_runs laws n p t us x k h)) (returns_run laws n p us _ k' more)
  returns_run laws n p ts end l (Returned_until t us x b k k' h on more) =
      runs_join σ s (Turning n p (t ∷ us)) (Turning n p us) (Turning n p []) k k' (subst (λ z. Runs σ s (Turning n p (t ∷ us)) k (ended n p (Of_pass t us) z)) on (turn_runs laws n p t us x k h)) (returns_run laws n p us _ k' more)
  returns_run laws n p ts end l (Ended_early t us k h) = turn_runs laws n p t us Was_contended k h

  release_runs : (n p : ℕ) (l : List Call) → IsRelease σ (token s (suc p)) l → Runs σ s (Turning n p []) l (Free n (suc p))
  release_runs n p l (Own_release a b c d e r any) =
      (Release_watched n p, by σ s (Lets_go n p a) (Consented _), (Release_own n p, by σ s (Inspects n p b) (Own n p), (Release_begun n p, by σ s (Release_begins n p c) (Consented _), (Release_deleted n p, by σ s (Release_deletes n p d) (Was_queued _), (Free n (suc p), by σ s (Release_ends n p e) (ends any), refl)))))
    where
      ends : ((rs : List Value) × (r ≡ Array rs)) ⊎ (r ≡ NullArray) → TellsSpot σ s (Rattle.manner_laws.specs.Spots.Release n p) r (Free n (suc p))
      ends (inl h) = subst (λ z. TellsSpot σ s (Rattle.manner_laws.specs.Spots.Release n p) z (Free n (suc p))) (sym h.1) (Released n p h.0)
      ends (inr h) = subst (λ z. TellsSpot σ s (Rattle.manner_laws.specs.Spots.Release n p) z (Free n (suc p))) (sym h) (Altered n p)
  release_runs n p l (Foreign_release a b c r foreign) =
      (Release_watched n p, by σ s (Lets_go n p a) (Consented _), (Release_foreign n p, by σ s (Inspects n p b) (holds foreign), (Free n (suc p), by σ s (Leaves_foreign n p c) (Consented _), refl)))
    where
      holds : ((u : Bytes) × (r ≡ Bulk u) × (u ≡ token s (suc p) → ⊥)) ⊎ (r ≡ NullBulk) → TellsSpot σ s (Rattle.manner_laws.specs.Spots.Holder n p) r (Release_foreign n p)
      holds (inl h) = subst (λ z. TellsSpot σ s (Rattle.manner_laws.specs.Spots.Holder n p) z (Release_foreign n p)) (sym h.1) (Foreign n p h.0 h.2)
      holds (inr h) = subst (λ z. TellsSpot σ s (Rattle.manner_laws.specs.Spots.Holder n p) z (Release_foreign n p)) (sym h) (Nobody n p)

  -- ---- blocks

  declare_runs : (c : Spot) (n p : ℕ) (e r x q : Bytes) (l : List Call) → IsStart c n p → IsDeclareBlock σ (codes "SADD") e r x q l → BlockRuns c l n p
  declare_runs c n p e r x q l at (Told a z t u v w) = (Free n p, Here n p, (Free n p, by σ s (start at (Declares e r x q t u v w)) (Counted _ z), refl))

  undeclare_runs : (c : Spot) (n p : ℕ) (e r x q : Bytes) (l : List Call) → IsStart c n p → IsDeclareBlock σ (codes "SREM") e r x q l → BlockRuns c l n p
  undeclare_runs c n p e r x q l at (Told a z t u v w) = (Free n p, Here n p, (Free n p, by σ s (start at (Undeclares e r x q t u v w)) (Counted _ z), refl))

  neutral_runs : (c : Spot) (n p : ℕ) (words : Words) (l : List Call) → IsStart c n p → IsNeutralBlock σ words l → BlockRuns c l n p
  neutral_runs c n p words l at (Answered_block a r neutral right) = (Free n p, Here n p, (Free n p, by σ s (start at (Concerns_none words neutral)) (Answered _ r right), refl))

  short_runs : (c : Spot) (n p : ℕ) (l : List Call) → IsStart c n p → IsShortPublish σ (σ.tag s (suc n)) l → BlockRuns c l (suc n) p
  short_runs c n p l at (Asked a e ms is ex) = (Listed n p e ms, There n p e ms, (Listed n p e ms, by σ s (start at (Lists e is ex)) (Bound n p e ms), refl))

  publish_runs : IsLawful σ → TellsExchanges σ → (c : Spot) (n p : ℕ) (v : Bytes) (l : List Call) → IsStart c n p → IsPublishBlock σ (σ.tag s (suc n)) v l → BlockRuns c l (suc n) p
  publish_runs laws told c n p v l at (Plain a k z tag none one) = (Free (suc n) p, Here (suc n) p, (Free (suc n) p, by σ s (start at (Publishes k v tag none one)) (Counted _ z), refl))
  publish_runs laws told c n p v l at (Named_block a e ms ds tag ex keys) =
      let r = named_runs n p e ms v ds tag ex keys in
      (r.0, r.1, (Listed n p e ms, by σ s (start at (Lists e (laws.tag_text v (σ.tag s (suc n)) (laws.written_is v (σ.tag s (suc n)) tag)) (told v e ex))) (Bound n p e ms), r.2))

  pop_runs : (c : Spot) (n p : ℕ) (names : List Bytes) (l : List Call) → IsStart c n p → IsPopBlock σ names l → BlockRuns c l n p
  pop_runs c n p names l at (Empty a k ks pop) = (Free n p, Here n p, (Free n p, by σ s (start at (Pops names k ks pop)) (Nothing_there n p), refl))
  pop_runs c n p names l at (Unreadable_block a k ks q v pop none) = (Free n p, Here n p, (Free n p, by σ s (start at (Pops names k ks pop)) (Unreadable n p q v none), refl))
  pop_runs c n p names l at (Popped_block a b d e f k ks q v t x y pop tag lt) = (
    Free n p,
    Here n p,
    (
      Popped n p v t,
      by σ s (start at (Pops names k ks pop)) (Readable n p q v t tag),
      (Pop_begun n p v t, by σ s (Pop_begins n p b v t) (Consented _), (Pop_indexed n p v t, by σ s (Pop_indexes n p d v t lt) (Was_queued _), (Filled n p, by σ s (Pop_sets n p e v t) (Was_queued _), (Free n p, by σ s (Executes n p f) (Counted_both _ x y), refl)))),
    ),
  )

  end_runs : (c : Spot) (n p : ℕ) (t : Bytes) (l : List Call) → IsStart c n p → IsEndBlock σ t l → BlockRuns c l n p
  end_runs c n p t l at (Acknowledged a b d e x y is) = (
    Free n p,
    Here n p,
    (
      End_begun n p,
      by σ s (start at Ends) (Consented _),
      (End_removed n p t, by σ s (End_removes n p b t is) (Was_queued _), (Filled n p, by σ s (End_deletes n p d t) (Was_queued _), (Free n p, by σ s (Executes n p e) (Counted_both _ x y), refl))),
    ),
  )

  return_runs : IsLawful σ → (c : Spot) (n p : ℕ) (t : Bytes) (side : Side) (end : ReturnEnd) (l : List Call) → IsStart c n p → σ.is_tag t ≡ true → IsTries σ side t 0 end l → BlockRuns c l n p
  return_runs laws c n p t side end l at is h =
      let r = open_run laws n p t side end l h in (
        Free n p,
        Here n p,
        subst (λ z. Runs σ s c l z) (alone_end n p t (goes_on end)) (subst (λ z. Runs σ s c z (ended n p (Open t) (goes_on end))) r.4 (Looking n p, by σ s (start at Returns) (Consented _), (r.5.0, by σ s (Names n p r.1 t is) r.5.1, r.5.2))),
      )

  pass_runs : IsLawful σ → (c : Spot) (n p v : ℕ) (end : PassEnd) (l : List Call) → v < 2 ^ 32 → IsStart c n p → IsPassBlock σ (token s (suc p)) v end l → BlockRuns c l n (suc p)
  pass_runs laws c n p v end l lt at (Is_held a) = (Free n (suc p), Here n (suc p), (Free n (suc p), by σ s (start at Passes) (Taken n p), refl))
  pass_runs laws c n p v end l lt at (Ran a b ms e k k' h free) = (
    Free n (suc p),
    Here n (suc p),
    (
      Locked n p,
      by σ s (start at Passes) (Given n p),
      (Turning n p (tags_among σ ms), by σ s (Looks n p b v lt) (Members n p ms), runs_join σ s _ (Turning n p []) (Free n (suc p)) k k' (returns_run laws n p (tags_among σ ms) e k h) (release_runs n p k' free)),
    ),
  )

  block_runs : IsLawful σ → TellsExchanges σ → (c : Spot) (n p : ℕ) (kind : CounterUse) (l : List Call) → IsStart c n p → IsBlock σ s n p kind l → BlockRuns c l (drawn kind n) (passes_after kind p)
  block_runs laws told c n p kind l at (Declare e r x q l' h) = declare_runs c n p e r x q l at h
  block_runs laws told c n p kind l at (Undeclare e r x q l' h) = undeclare_runs c n p e r x q l at h
  block_runs laws told c n p kind l at (Publish v l' h) = publish_runs laws told c n p v l at h
  block_runs laws told c n p kind l at (Publish_short l' h) = short_runs c n p l at h
  block_runs laws told c n p kind l at (Pop names l' h) = pop_runs c n p names l at h
  block_runs laws told c n p kind l at (End t l' h) = end_runs c n p t l at h
  block_runs laws told c n p kind l at (Return t side end l' h) = return_runs laws c n p t side end l at h.0 h.1
  block_runs laws told c n p kind l at (Pass v end l' lt h) = pass_runs laws c n p v end l lt at h
  block_runs laws told c n p kind l at (Neutral words l' h) = neutral_runs c n p words l at h

  blocks_run : IsLawful σ → TellsExchanges σ → (c : Spot) (n p : ℕ) (bs : List (List Call)) → IsStart c n p → AreBlocks σ s n p bs → (c' : Spot) × Runs σ s c (concat bs) c'
  blocks_run laws told c n p [] at h = (c, refl)
  blocks_run laws told c n p (b ∷ bs) at h =
      let q = block_runs laws told c n p h.0 b at h.1 in
      let r = blocks_run laws told q.0 (drawn h.0 n) (passes_after h.0 p) bs q.1 h.2 in
      (r.0, runs_join σ s c q.0 r.0 b (concat bs) q.2 r.1)

  pub front_runs : IsLawful σ → TellsExchanges σ → (l : List Call) → IsFrontOfBlocks σ s l → RunsThrough σ s l
  front_runs laws told l h =
      let r = blocks_run laws told (Free 0 0) 0 0 h.0 (Here 0 0) h.1 in
      let q = runs_split σ s (Free 0 0) r.0 l h.2.0 (subst (λ z. Runs σ s (Free 0 0) z r.0) (sym h.2.1) r.1) in
      (q.0, q.1)

  -- ---- from each spot there is a way to a start

  abbrev EndsSoon : Spot → Type 0
  EndsSoon c = (rest : List Call) × (n : ℕ) × (p : ℕ) × Runs σ s c rest (Free n p)

  next : (c c' : Spot) (x : Call) → Goes σ s c x c' → EndsSoon c' → EndsSoon c
  next c c' x st e = (x ∷ e.0, e.1, e.2, (c', st, e.3))

  at_free : (n p : ℕ) → EndsSoon (Free n p)
  at_free n p = ([], n, p, refl)

  at_listed : (n p : ℕ) (e : Bytes) (ms : List Bytes) → EndsSoon (Listed n p e ms)
  at_listed n p e ms = next _ _ (call 0 (codes "PING" ∷ []) done) (by σ s (Starts_next n p e ms 0 _ _ (Concerns_none _ Pings)) (Answered _ done done_right)) (at_free (suc n) p)

  at_pushing : (n p : ℕ) (v k : Bytes) (ks : List Bytes) → EndsSoon (Pushing n p v k ks)
  at_pushing n p v k [] = next _ _ _ (by σ s (Pushes n p 0 v k []) (Counted _ (pos 0))) (at_free (suc n) p)
  at_pushing n p v k (k' ∷ ks) = next _ _ _ (by σ s (Pushes n p 0 v k (k' ∷ ks)) (Counted _ (pos 0))) (at_pushing n p v k' ks)

  at_foreign : (n p : ℕ) → EndsSoon (Release_foreign n p)
  at_foreign n p = next _ _ _ (by σ s (Leaves_foreign n p 0) (Consented _)) (at_free n (suc p))

  at_released : (n p : ℕ) → EndsSoon (Release_watched n p)
  at_released n p = next _ _ _ (by σ s (Inspects n p 0) (Nobody n p)) (at_foreign n p)

  at_turning : (n p : ℕ) (ts : List Bytes) → EndsSoon (Turning n p ts)
  at_turning n p [] = next _ _ _ (by σ s (Lets_go n p 0) (Consented _)) (at_released n p)
  at_turning n p (t ∷ ts) = next _ _ _ (by σ s (Turns n p 0 t ts) (Consented _)) (next _ _ _ (by σ s (Reads n p 0 (Of_pass t ts) 0) (Missing n p (Of_pass t ts) 0)) (next _ _ _ (by σ s (Leaves n p 0 (Of_pass t ts)) (Consented _)) (at_turning n p ts)))

  at_finished : (n p : ℕ) (j : Job) → EndsSoon (finished n p j)
  at_finished n p (Open t) = at_free n p
  at_finished n p (Alone side t) = at_free n p
  at_finished n p (Of_pass t ts) = at_turning n p ts

  at_leaving : (n p : ℕ) (j : Job) → EndsSoon (Leaving n p j)
  at_leaving n p j = next _ _ _ (by σ s (Leaves n p 0 j) (Consented _)) (at_finished n p j)

  a_side : (j : Job) → (side : Side) × MayPush j side
  a_side (Open t) = (Left, tt)
  a_side (Alone own t) = (own, refl)
  a_side (Of_pass t ts) = (Right, refl)

  at_putting : (n p : ℕ) (k : ℕ) (v : Bytes) (ks : List Bytes) (j : Job) → EndsSoon (Putting n p j k v ks)
  at_putting n p k v [] j = next _ _ _ (by σ s (Moves n p 0 j k v) (Moved n p j k [])) (at_finished n p j)
  at_putting n p k v (q ∷ qs) j = let side = a_side j in next _ _ _ (by σ s (Puts n p 0 j k v q qs side.0 side.1) (Was_queued _)) (at_putting n p k v qs (sided j side.0))

  at_removed : (n p : ℕ) (j : Job) (k : ℕ) (v q : Bytes) (qs : List Bytes) → EndsSoon (Removed n p j k v q qs)
  at_removed n p j k v q qs = next _ _ _ (by σ s (Deletes n p 0 j k v q qs) (Was_queued _)) (at_putting n p k v (q ∷ qs) j)

  at_begun : (n p : ℕ) (j : Job) (k : ℕ) (v q : Bytes) (qs : List Bytes) → EndsSoon (Begun n p j k v q qs)
  at_begun n p j k v q qs = next _ _ _ (by σ s (Removes n p 0 j k v q qs) (Was_queued _)) (at_removed n p j k v q qs)

  at_routed : (n p : ℕ) (j : Job) (k : ℕ) (v : Bytes) (ks : List Bytes) → EndsSoon (routed n p j k v ks)
  at_routed n p j k v [] = at_leaving n p j
  at_routed n p j k v (q ∷ qs) = next _ _ _ (by σ s (Takes n p 0 j k v q qs) (Consented _)) (at_begun n p j k v q qs)

  at_watched : (n p : ℕ) (j : Job) (k : ℕ) → EndsSoon (Watched n p j k)
  at_watched n p j k = next _ _ _ (by σ s (Reads n p 0 j k) (Missing n p j k)) (at_leaving n p j)

  at_filled : (n p : ℕ) → EndsSoon (Filled n p)
  at_filled n p = next _ _ _ (by σ s (Executes n p 0) (Counted_both _ (pos 0) (pos 0))) (at_free n p)

  at_pop_indexed : (n p : ℕ) (v t : Bytes) → EndsSoon (Pop_indexed n p v t)
  at_pop_indexed n p v t = next _ _ _ (by σ s (Pop_sets n p 0 v t) (Was_queued _)) (at_filled n p)

  at_pop_begun : (n p : ℕ) (v t : Bytes) → EndsSoon (Pop_begun n p v t)
  at_pop_begun n p v t = next _ _ _ (by σ s (Pop_indexes n p 0 v t (omega arith)) (Was_queued _)) (at_pop_indexed n p v t)

  at_end_removed : (n p : ℕ) (t : Bytes) → EndsSoon (End_removed n p t)
  at_end_removed n p t = next _ _ _ (by σ s (End_deletes n p 0 t) (Was_queued _)) (at_filled n p)

  at_release_deleted : (n p : ℕ) → EndsSoon (Release_deleted n p)
  at_release_deleted n p = next _ _ _ (by σ s (Release_ends n p 0) (Altered n p)) (at_free n (suc p))

  at_release_begun : (n p : ℕ) → EndsSoon (Release_begun n p)
  at_release_begun n p = next _ _ _ (by σ s (Release_deletes n p 0) (Was_queued _)) (at_release_deleted n p)

  ends_soon : IsLawful σ → (c : Spot) → EndsSoon c
  ends_soon laws (Free n p) = at_free n p
  ends_soon laws (Listed n p e ms) = at_listed n p e ms
  ends_soon laws (Pushing n p v k ks) = at_pushing n p v k ks
  ends_soon laws (Popped n p v t) = next _ _ _ (by σ s (Pop_begins n p 0 v t) (Consented _)) (at_pop_begun n p v t)
  ends_soon laws (Pop_begun n p v t) = at_pop_begun n p v t
  ends_soon laws (Pop_indexed n p v t) = at_pop_indexed n p v t
  ends_soon laws (End_begun n p) = next _ _ _ (by σ s (End_removes n p 0 (σ.tag 0 0) (laws.tag_is 0 0 (omega arith) (omega arith))) (Was_queued _)) (at_end_removed n p (σ.tag 0 0))
  ends_soon laws (End_removed n p t) = at_end_removed n p t
  ends_soon laws (Filled n p) = at_filled n p
  ends_soon laws (Looking n p) = next _ _ _ (by σ s (Names n p 0 (σ.tag 0 0) (laws.tag_is 0 0 (omega arith) (omega arith))) (Missing n p (Open (σ.tag 0 0)) 0)) (at_leaving n p (Open (σ.tag 0 0)))
  ends_soon laws (Waiting n p j k) = next _ _ _ (by σ s (Tries n p 0 j k) (Consented _)) (at_watched n p j k)
  ends_soon laws (Watched n p j k) = at_watched n p j k
  ends_soon laws (Leaving n p j) = at_leaving n p j
  ends_soon laws (Asking n p j k u v e) = next _ _ _ (by σ s (Looks_up n p 0 j k u v e) (Looked_up n p j k u v [])) (at_routed n p j k v (σ.keys_in u []))
  ends_soon laws (Ready n p j k v q qs) = at_routed n p j k v (q ∷ qs)
  ends_soon laws (Begun n p j k v q qs) = at_begun n p j k v q qs
  ends_soon laws (Removed n p j k v q qs) = at_removed n p j k v q qs
  ends_soon laws (Putting n p j k v ks) = at_putting n p k v ks j
  ends_soon laws (Locked n p) = next _ _ _ (by σ s (Looks n p 0 0 (omega arith)) (Members n p [])) (at_turning n p [])
  ends_soon laws (Turning n p ts) = at_turning n p ts
  ends_soon laws (Release_watched n p) = at_released n p
  ends_soon laws (Release_own n p) = next _ _ _ (by σ s (Release_begins n p 0) (Consented _)) (at_release_begun n p)
  ends_soon laws (Release_begun n p) = at_release_begun n p
  ends_soon laws (Release_deleted n p) = at_release_deleted n p
  ends_soon laws (Release_foreign n p) = at_foreign n p

  pub runs_front : IsLawful σ → (l : List Call) → RunsThrough σ s l → IsFrontOfBlocks σ s l
  runs_front laws l r =
      let e = ends_soon laws r.0 in
      let g = good σ s (Free 0 0) (l ++ e.0) e.1 e.2 (runs_join σ s (Free 0 0) r.0 (Free e.1 e.2) l e.0 r.1 e.3) in
      (g.0, g.1, (e.0, sym g.2))

pub exact_machine : (σ : Setting) → IsLawful σ → TellsExchanges σ → (s : ℕ) (l : List Call) → (IsFrontOfBlocks σ s l → RunsThrough σ s l) × (RunsThrough σ s l → IsFrontOfBlocks σ s l)
exact_machine σ laws told s l = (front_runs σ s laws told l, runs_front σ s laws l)

-- and the same with a last answer that isn't listed
pub exact_manner : (σ : Setting) → IsLawful σ → TellsExchanges σ → (s : ℕ) (l : List Call) → (IsMannered σ s l → RunsThrough σ s l ⊎ RunsOff σ s l) × (RunsThrough σ s l ⊎ RunsOff σ s l → IsMannered σ s l)
exact_manner σ laws told s l = (there, back)
  where
    there : IsMannered σ s l → RunsThrough σ s l ⊎ RunsOff σ s l
    there (inl h) = inl (front_runs σ s laws told l h)
    there (inr h) = inr (record { before = h.0; at = h.1; words = h.2; listed = h.3; answer = h.4; is = h.5; runs = front_runs σ s laws told (h.0 ++ call h.1 h.2 h.3 ∷ []) h.6; off = λ r. h.7 (runs_front σ s laws l r) })

    back : RunsThrough σ s l ⊎ RunsOff σ s l → IsMannered σ s l
    back (inl r) = inl (runs_front σ s laws l r)
    back (inr o) = inr (o.before, o.at, o.words, o.listed, o.answer, o.is, runs_front σ s laws (o.before ++ call o.at o.words o.listed ∷ []) o.runs, λ m. o.off (front_runs σ s laws told l m))
