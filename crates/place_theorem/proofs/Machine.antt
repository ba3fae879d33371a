-- The blocks as a machine of one command at a time. It is coarser than the blocks: it knows what a client has queued, watches, holds and has read.
use Rattle.std.proofs.Common.{◌≡◌, ◌⊎◌, ℕ, suc, ◌<◌, ◌^◌, List, [], ◌∷◌, ◌++◌, Bool, true, false, refl, sym, ap, subst, ◌∙◌, None, Some, Option, inl, inr, append_assoc, arith, codes, decimal}
use Rattle.std.specs.Prelude.{ℤ, pos}
use Rattle.std.proofs.lemmas.List.{append-nil}
use Rattle.wire_values.specs.declared.value.Value.{Value}
use Rattle.wire_values.specs.declared.value.Value.TheVariants.{Integer, Bulk, Array, NullArray}
use Rattle.numerals.specs.Integers.{integer_of, natural_of}
use Rattle.store_model.specs.Seconds.{seconds_of}
use Rattle.store_model.specs.Words.{Words, command_of, front, final, brpop_of, brpop_until, expire_of, range_of, zadd_of}
use Rattle.store_model.specs.Replies.{done, queued, pair, bulks}
use Rattle.store_model.specs.Commands.{is_queued}
use Rattle.store_model.specs.declared.command.Command.{Command}
use Rattle.store_model.specs.declared.command.Command.TheVariants.{Lpush, Brpop, Multi, Exec, Zadd, Hset, Zrem, Hget, Watch, Unwatch, Smembers, Sadd, Srem, Set, Get, Del, Expire, Zrevrangebyscore, Llen, Ping, Select, Subscribe, Unsubscribe, Publish as Announce, Faulty}
use Rattle.store_laws.proofs.Law.{altering}
use Rattle.queue_keys.specs.Names.{Bytes}
use Rattle.queue_keys.specs.Texts.{difference, token}
use Rattle.command_blocks.specs.Answers.{integers}
use Rattle.command_blocks.specs.Setting.{is_queue, IsApart}
use Rattle.command_blocks.specs.Calls.{Call, call, push_word, concat}
use Rattle.command_blocks.specs.RouteBlocks.{IsDeclareBlock, Told, direct_calls, direct_keys, IsPublishBlock, Plain, Named, IsShortPublish, Asked}
use Rattle.command_blocks.specs.TakeBlocks.{IsPop, brpop_words, IsPopBlock, Empty, Unreadable, Popped, IsEndBlock, Acknowledged}
use Rattle.command_blocks.specs.ReturnBlocks.{ReturnEnd, queued_calls, queued_keys, asking, leaving, Carries, Try, whole_try, IsTry, IsTries, Missing, Useless, Nowhere, Whole as Whole_try, Eighth, Again}
use Rattle.command_blocks.specs.PassBlocks.{PassEnd, IsReturns, All_returned, Returned, Returned_until, Ended_early, IsRelease, Own, Foreign, tags_among, due_words, IsPassBlock, Is_held, Ran as Ran_pass}
use Rattle.command_blocks.specs.Blocks.{IsNeutral, Pings, Selects, Measures, Subscribes, Unsubscribes, Announces, Replies, Receives, Limits, IsNeutralBlock, Answered, CounterUse, drawn, passes_after, IsBlock, Declare, Undeclare, Publish, Publish_short, Pop, End, Return, Pass, Neutral, AreBlocks, IsFrontOfBlocks, IsMannered}
use Rattle.place_model.specs.Returns.{push_command, push_commands, take_out}
use Rattle.command_blocks.specs.declared.side.Side.{Side}
use Rattle.command_blocks.specs.declared.side.Side.TheVariants.{Left, Right}
use Rattle.place_theorem.proofs.Full.{Full, QueueKeys}
use Rattle.place_theorem.proofs.Numerals.{integer_of-decimal}

-- no place is read from any of these keys
abbrev pub AllApart : Full → List Bytes → Type 0
AllApart σ [] = Unit {0}
AllApart σ (k ∷ ks) = IsApart σ.names k × AllApart σ ks

-- commands that change nothing but their own keys, outside a transaction
abbrev pub is_aside : Command → Bool
is_aside (Lpush k vs) = true
is_aside (Brpop ks) = true
is_aside (Hget k f) = true
is_aside (Smembers k) = true
is_aside (Sadd k xs) = true
is_aside (Srem k xs) = true
is_aside (Set k v absent life) = true
is_aside (Get k) = true
is_aside (Expire k s) = true
is_aside (Zrevrangebyscore k high low skip most) = true
is_aside (Llen k) = true
is_aside Ping = true
is_aside (Select n) = true
is_aside (Announce c x) = true
is_aside (Faulty fault heard) = true
is_aside other = false

-- a command that changes only its keys, none of which a place is read from
abbrev pub IsAside : Full → Command → Type 0
IsAside σ c = AllApart σ (altering c) × (is_aside c ≡ true)

-- commands on channels
abbrev pub IsTalk : Command → Type 0
IsTalk (Subscribe c) = Unit {0}
IsTalk (Unsubscribe c) = Unit {0}
IsTalk other = ⊥

-- the transactions that may run, by what the client watches, has in hand and has read
pub data Whole (σ : Full) : List Command → List Bytes → Option (Bytes × Bytes) → Option (Bytes × Bytes × Option Value) → Type 0 where
  Whole_pop : (t v : Bytes) (n : ℤ) → σ.names.tag_of v ≡ Some t → Whole σ (Zadd σ.names.index n t ∷ Hset σ.names.unacked t (σ.names.entry_of v) ∷ []) [] (Some (t, v)) None
  Whole_end : (t : Bytes) → Whole σ (take_out σ.names t []) [] None None
  Whole_return : (side : Side) (t u v : Bytes) (ms : List Bytes) (a : Option Value) → Carries σ.names u t v → (σ.names.exchange_in u ≡ None) ⊎ (a ≡ Some (bulks ms))
      → Whole σ (take_out σ.names t (push_commands side v (σ.names.keys_in u ms))) (σ.names.unacked ∷ []) None (Some (t, u, a))
  Whole_free : (ks : List Bytes) (w : List Bytes) → AllApart σ ks → Whole σ (Del ks ∷ []) w None None

-- what a client has queued and watches, the tag and envelope in its hand, the tag and entry that it has read from the table with what it asked then; or a reply wasn't listed
pub data Cursor : Type 0 where
  At : Option (List Command) → List Bytes → Option (Bytes × Bytes) → Option (Bytes × Bytes × Option Value) → Cursor
  Halted : Cursor

-- between blocks
abbrev pub Idle : Cursor
Idle = At None [] None None

-- one command with its reply
pub data Step (σ : Full) : Cursor → Command → Value → Cursor → Type 0 where
  Passes_by : (w : List Bytes) (h : Option (Bytes × Bytes)) (c : Command) (x : Value) → IsAside σ c → Step σ (At None w h None) c x (At None w h None)
  Asks : (t u e : Bytes) (x : Value) → σ.names.exchange_in u ≡ Some e → Step σ (At None (σ.names.unacked ∷ []) None (Some (t, u, None))) (Smembers (σ.names.binding e)) x (At None (σ.names.unacked ∷ []) None (Some (t, u, Some x)))
  Talks : (c : Command) (x : Value) → IsTalk c → Step σ Idle c x Idle
  Publishes : (k v : Bytes) (z : ℤ) → is_queue σ.names k ≡ true → Step σ Idle (Lpush k (v ∷ [])) (Integer z) Idle
  Finds_none : (ks : List Bytes) → QueueKeys σ ks → Step σ Idle (Brpop ks) NullArray Idle
  Finds_other : (ks : List Bytes) (q v : Bytes) → QueueKeys σ ks → σ.names.tag_of v ≡ None → Step σ Idle (Brpop ks) (pair q v) Idle
  Finds : (ks : List Bytes) (q v t : Bytes) → QueueKeys σ ks → σ.names.tag_of v ≡ Some t → Step σ Idle (Brpop ks) (pair q v) (At None [] (Some (t, v)) None)
  Begins : (w : List Bytes) (h : Option (Bytes × Bytes)) (r : Option (Bytes × Bytes × Option Value)) → Step σ (At None w h r) Multi done (At (Some []) w h r)
  Queues : (cs : List Command) (w : List Bytes) (h : Option (Bytes × Bytes)) (r : Option (Bytes × Bytes × Option Value)) (c : Command) → is_queued c ≡ true → Step σ (At (Some cs) w h r) c queued (At (Some (cs ++ c ∷ [])) w h r)
  Ends : (cs : List Command) (w : List Bytes) (h : Option (Bytes × Bytes)) (r : Option (Bytes × Bytes × Option Value)) (xs : List Value) → Whole σ cs w h r → Step σ (At (Some cs) w h r) Exec (Array xs) Idle
  Fails : (cs : List Command) (w : List Bytes) (h : Option (Bytes × Bytes)) (r : Option (Bytes × Bytes × Option Value)) → Whole σ cs w h r → Step σ (At (Some cs) w h r) Exec NullArray Idle
  Watches : (k : Bytes) → Step σ Idle (Watch (k ∷ [])) done (At None (k ∷ []) None None)
  Reads : (t u : Bytes) → Step σ (At None (σ.names.unacked ∷ []) None None) (Hget σ.names.unacked t) (Bulk u) (At None (σ.names.unacked ∷ []) None (Some (t, u, None)))
  Leaves : (w : List Bytes) (r : Option (Bytes × Bytes × Option Value)) → Step σ (At None w None r) Unwatch done Idle
  -- a reply that isn't listed: nothing follows it
  Refuses : (from to : Cursor) (c : Command) (listed reply : Value) → Step σ from c listed to → Step σ from c reply Halted

-- all replies so far were listed
abbrev pub Live : Cursor → Type 0
Live Halted = ⊥
Live other = Unit {0}

-- nothing follows a reply that isn't listed
pub step_live : (σ : Full) (from to : Cursor) (c : Command) (reply : Value) → Step σ from c reply to → Live from
step_live σ from to c reply (Passes_by w h cm x a) = tt
step_live σ from to c reply (Asks t u e x is) = tt
step_live σ from to c reply (Talks cm x a) = tt
step_live σ from to c reply (Publishes k v n q) = tt
step_live σ from to c reply (Finds_none ks qs) = tt
step_live σ from to c reply (Finds_other ks q v qs none) = tt
step_live σ from to c reply (Finds ks q v t qs tag) = tt
step_live σ from to c reply (Begins w h r) = tt
step_live σ from to c reply (Queues cs w h r cm q) = tt
step_live σ from to c reply (Ends cs w h r xs a) = tt
step_live σ from to c reply (Fails cs w h r a) = tt
step_live σ from to c reply (Watches k) = tt
step_live σ from to c reply (Reads t u) = tt
step_live σ from to c reply (Leaves w r) = tt
step_live σ from to c reply (Refuses f g cm listed x st) = step_live σ f g cm listed st

-- calls in a row
abbrev pub Runs : Full → Cursor → List Call → Cursor → Type 0
Runs σ a [] b = a ≡ b
Runs σ a (x ∷ xs) b = (mid : Cursor) × Step σ a (command_of x.words) x.answer mid × Runs σ mid xs b

-- a run is parted where its calls are
pub runs_split : (σ : Full) (a b : Cursor) (xs ys : List Call) → Runs σ a (xs ++ ys) b → (mid : Cursor) × Runs σ a xs mid × Runs σ mid ys b
runs_split σ a b [] ys r = (a, refl, r)
runs_split σ a b (x ∷ xs) ys r = let s = runs_split σ r.0 b xs ys r.2 in (s.0, (r.0, r.1, s.1), s.2)

-- and joined
pub runs_join : (σ : Full) (a b c : Cursor) (xs ys : List Call) → Runs σ a xs b → Runs σ b ys c → Runs σ a (xs ++ ys) c
runs_join σ a b c [] ys r s = subst (λ x. Runs σ x ys c) (sym r) s
runs_join σ a b c (x ∷ xs) ys r s = (r.0, r.1, runs_join σ r.0 b c xs ys r.2 s)

-- ---- the words spell these commands

front-push : {A : Type 0} (x : A) (xs : List A) (w y : A) → front w (x ∷ xs ++ y ∷ []) ≡ w ∷ x ∷ xs
front-push x [] w y = refl
front-push x (z ∷ xs) w y = ap (λ l. w ∷ l) (front-push z xs x y)

final-push : {A : Type 0} (xs : List A) (w y : A) → final w (xs ++ y ∷ []) ≡ y
final-push [] w y = refl
final-push (z ∷ xs) w y = final-push xs z y

brpop_of-push : (k : Bytes) (ks : List Bytes) (w : Bytes) → brpop_of (k ∷ ks ++ w ∷ []) ≡ brpop_until (k ∷ ks) (natural_of w)
brpop_of-push k [] w = refl
brpop_of-push k (x ∷ []) w = refl
brpop_of-push k (x ∷ y ∷ ks) w = λ i. brpop_until (k ∷ front-push y ks x w i) (natural_of (final-push ks y w i))

-- BRPOP with a time of one second
pub reads_brpop : (k : Bytes) (ks : List Bytes) → command_of (brpop_words k ks) ≡ Brpop (k ∷ ks)
unfolding command_of
reads_brpop k ks = brpop_of-push k ks (codes "1")

reads_push : (side : Side) (k v : Bytes) → command_of (push_word side ∷ k ∷ v ∷ []) ≡ push_command side k v
unfolding command_of
reads_push Left k v = refl
reads_push Right k v = refl

push_queued : (side : Side) (k v : Bytes) → is_queued (push_command side k v) ≡ true
push_queued Left k v = refl
push_queued Right k v = refl

-- the score of a moment
reads_zadd : (k : Bytes) (c : ℕ) (t : Bytes) → c < 2 ^ 40 → command_of (codes "ZADD" ∷ k ∷ decimal c ∷ t ∷ []) ≡ Zadd k (pos c) t
unfolding command_of
reads_zadd k c t h = ap (zadd_of k t) (integer_of-decimal c (omega (arith, h)))

-- ---- each block takes the machine from Idle to Idle

module _ (σ : Full) where
  pops : (k : Bytes) (ks : List Bytes) (x : Value) (to : Cursor) → Step σ Idle (Brpop (k ∷ ks)) x to → Step σ Idle (command_of (brpop_words k ks)) x to
  pops k ks x to st = subst (λ c. Step σ Idle c x to) (sym (reads_brpop k ks)) st

  direct_run : (v : Bytes) (ds : List (ℕ × Bytes × ℤ)) → QueueKeys σ (direct_keys ds) → Runs σ Idle (direct_calls v ds) Idle
  unfolding command_of
  direct_run v [] qs = refl
  direct_run v (d ∷ ds) qs = (Idle, Publishes d.1 v d.2 qs.0, direct_run v ds qs.1)

  -- what a try knows of the bindings once it asked for them
  abbrev asked : Option Bytes → List Bytes → Option Value
  asked None ms = None
  asked (Some e) ms = Some (bulks ms)

  asked_is : (u : Bytes) (ms : List Bytes) (o : Option Bytes) → σ.names.exchange_in u ≡ o → (σ.names.exchange_in u ≡ None) ⊎ (asked o ms ≡ Some (bulks ms))
  asked_is u ms None e = inl e
  asked_is u ms (Some x) e = inr refl

  asking_run : (t u : Bytes) (b : Cursor) (o : Option Bytes) (a : ℕ) (ms : List Bytes) (rest : List Call) → σ.names.exchange_in u ≡ o → Runs σ (At None (σ.names.unacked ∷ []) None (Some (t, u, asked o ms))) rest b → Runs σ (At None (σ.names.unacked ∷ []) None (Some (t, u, None))) (asking σ.names o a ms rest) b
  unfolding command_of
  asking_run t u b None a ms rest is run = run
  asking_run t u b (Some e) a ms rest is run = (At None (σ.names.unacked ∷ []) None (Some (t, u, Some (bulks ms))), Asks t u e (bulks ms) is, run)

  -- the commands with those of the pushes
  gathered : Side → Bytes → List Command → List Bytes → List Command
  gathered side v cs [] = cs
  gathered side v cs (k ∷ ks) = gathered side v (cs ++ push_command side k v ∷ []) ks

  gathered_is : (side : Side) (v : Bytes) (cs : List Command) (ks : List Bytes) → gathered side v cs ks ≡ cs ++ push_commands side v ks
  unfolding gathered
  gathered_is side v cs [] = sym (append-nil cs)
  gathered_is side v cs (k ∷ ks) = gathered_is side v (cs ++ push_command side k v ∷ []) ks ∙ append_assoc cs (push_command side k v ∷ []) (push_commands side v ks)

  gathering_run : (side : Side) (v : Bytes) (w : List Bytes) (h : Option (Bytes × Bytes)) (r : Option (Bytes × Bytes × Option Value)) (b : Cursor) (rest : List Call) (qs : List (ℕ × Bytes)) (cs : List Command)
      → Runs σ (At (Some (gathered side v cs (queued_keys qs))) w h r) rest b → Runs σ (At (Some cs) w h r) (queued_calls side v qs rest) b
  unfolding gathered
  gathering_run side v w h r b rest [] cs run = run
  gathering_run side v w h r b rest (q ∷ qs) cs run = (
    At (Some (cs ++ push_command side q.1 v ∷ [])) w h r,
    subst (λ c. Step σ (At (Some cs) w h r) c queued (At (Some (cs ++ push_command side q.1 v ∷ [])) w h r)) (sym (reads_push side q.1 v)) (Queues cs w h r (push_command side q.1 v) (push_queued side q.1 v)),
    gathering_run side v w h r b rest qs (cs ++ push_command side q.1 v ∷ []) run,
  )

  pushing_run : (side : Side) (v : Bytes) (w : List Bytes) (h : Option (Bytes × Bytes)) (r : Option (Bytes × Bytes × Option Value)) (b : Cursor) (rest : List Call) (qs : List (ℕ × Bytes)) (cs : List Command)
      → Runs σ (At (Some (cs ++ push_commands side v (queued_keys qs))) w h r) rest b → Runs σ (At (Some cs) w h r) (queued_calls side v qs rest) b
  pushing_run side v w h r b rest qs cs run = gathering_run side v w h r b rest qs cs (subst (λ l. Runs σ (At (Some l) w h r) rest b) (sym (gathered_is side v cs (queued_keys qs))) run)

  -- a try up to its EXEC
  abbrev cursor_of : Side → Bytes → Try → Cursor
  cursor_of side t y = At (Some (take_out σ.names t (push_commands side y.envelope (σ.names.keys_in y.entry y.members)))) (σ.names.unacked ∷ []) None (Some (t, y.entry, asked (σ.names.exchange_in y.entry) y.members))

  try_run : (side : Side) (t : Bytes) (y : Try) (x : Value) (rest : List Call) (b : Cursor) → IsTry σ.names t y
      → (Whole σ (take_out σ.names t (push_commands side y.envelope (σ.names.keys_in y.entry y.members))) (σ.names.unacked ∷ []) None (Some (t, y.entry, asked (σ.names.exchange_in y.entry) y.members)) → Step σ (cursor_of side t y) Exec x Idle)
      → Runs σ Idle rest b → Runs σ Idle (whole_try σ.names side t y x rest) b
  unfolding command_of
  try_run side t y x rest b ok exec more =
      let w : List Bytes = σ.names.unacked ∷ [] in
      let q : Option Value = asked (σ.names.exchange_in y.entry) y.members in
      let r : Option (Bytes × Bytes × Option Value) = Some (t, y.entry, q) in
      let whole = Whole_return side t y.entry y.envelope y.members q ok.0 (asked_is y.entry y.members (σ.names.exchange_in y.entry) refl) in (
        At None w None None,
        Watches σ.names.unacked,
        (
          At None w None (Some (t, y.entry, None)),
          Reads t y.entry,
          asking_run t y.entry b (σ.names.exchange_in y.entry) y.c y.members _ refl (
            At (Some []) w None r,
            Begins w None r,
            (
              At (Some (Zrem σ.names.index (t ∷ []) ∷ [])) w None r,
              Queues [] w None r _ refl,
              (
                At (Some (take_out σ.names t [])) w None r,
                Queues (Zrem σ.names.index (t ∷ []) ∷ []) w None r _ refl,
                pushing_run side y.envelope w None r b _ (y.first ∷ y.others) (take_out σ.names t [])
                    (subst (λ ks. Runs σ (At (Some (take_out σ.names t (push_commands side y.envelope ks))) w None r) (call y.g (codes "EXEC" ∷ []) x ∷ rest) b) (sym ok.1) (Idle, exec whole, more)),
              ),
            ),
          ),
        ),
      )

  tries_run : (side : Side) (t : Bytes) (n : ℕ) (end : ReturnEnd) (l : List Call) → IsTries σ.names side t n end l → Runs σ Idle l Idle
  unfolding command_of
  tries_run side t n end l (Missing m a b c) = (At None (σ.names.unacked ∷ []) None None, Watches σ.names.unacked, (At None (σ.names.unacked ∷ []) None None, Passes_by _ _ _ _ (tt, refl), (Idle, Leaves (σ.names.unacked ∷ []) None, refl)))
  tries_run side t n end l (Useless m a b c u never) = (At None (σ.names.unacked ∷ []) None None, Watches σ.names.unacked, (At None (σ.names.unacked ∷ []) None (Some (t, u, None)), Reads t u, (Idle, Leaves (σ.names.unacked ∷ []) (Some (t, u, None)), refl)))
  tries_run side t n end l (Nowhere m a b c d u v ms is none) = (
    At None (σ.names.unacked ∷ []) None None,
    Watches σ.names.unacked,
    (
      At None (σ.names.unacked ∷ []) None (Some (t, u, None)),
      Reads t u,
      asking_run t u Idle (σ.names.exchange_in u) c ms (leaving d) refl (Idle, Leaves (σ.names.unacked ∷ []) (Some (t, u, asked (σ.names.exchange_in u) ms)), refl),
    ),
  )
  tries_run side t n end l (Whole_try m y zs ok) = try_run side t y (integers zs) [] Idle ok (λ whole. Ends _ _ _ _ _ whole) refl
  tries_run side t n end l (Eighth y ok) = try_run side t y NullArray [] Idle ok (λ whole. Fails _ _ _ _ whole) refl
  tries_run side t n end l (Again m y more l' lt ok next) = try_run side t y NullArray l' Idle ok (λ whole. Fails _ _ _ _ whole) (tries_run side t (suc m) more l' next)

  returns_run : (ts : List Bytes) (end : PassEnd) (l : List Call) → IsReturns σ.names ts end l → Runs σ Idle l Idle
  returns_run ts end l All_returned = refl
  returns_run ts end l (Returned t us e es k k' h on more) = runs_join σ Idle Idle Idle k k' (tries_run Right t 0 e k h) (returns_run us _ k' more)
  returns_run ts end l (Returned_until t us e b k k' h on more) = runs_join σ Idle Idle Idle k k' (tries_run Right t 0 e k h) (returns_run us _ k' more)
  returns_run ts end l (Ended_early t us k h) = tries_run Right t 0 _ k h

  release_exec : (r : Value) → ((rs : List Value) × (r ≡ Array rs)) ⊎ (r ≡ NullArray) → Step σ (At (Some (Del (σ.names.mutex ∷ []) ∷ [])) (σ.names.mutex ∷ []) None None) Exec r Idle
  release_exec r (inl e) = subst (λ x. Step σ (At (Some (Del (σ.names.mutex ∷ []) ∷ [])) (σ.names.mutex ∷ []) None None) Exec x Idle) (sym e.1) (Ends _ _ _ _ e.0 (Whole_free (σ.names.mutex ∷ []) (σ.names.mutex ∷ []) (σ.laws.mutex_apart, tt)))
  release_exec r (inr e) = subst (λ x. Step σ (At (Some (Del (σ.names.mutex ∷ []) ∷ [])) (σ.names.mutex ∷ []) None None) Exec x Idle) (sym e) (Fails _ _ _ _ (Whole_free (σ.names.mutex ∷ []) (σ.names.mutex ∷ []) (σ.laws.mutex_apart, tt)))

  release_run : (token : Bytes) (l : List Call) → IsRelease σ.names token l → Runs σ Idle l Idle
  unfolding command_of
  release_run token l (Own a b c d e r h) =
      let w : List Bytes = σ.names.mutex ∷ [] in
      (At None w None None, Watches σ.names.mutex, (At None w None None, Passes_by _ _ _ _ (tt, refl), (At (Some []) w None None, Begins w None None, (At (Some (Del (σ.names.mutex ∷ []) ∷ [])) w None None, Queues [] w None None _ refl, (Idle, release_exec r h, refl)))))
  release_run token l (Foreign a b c r h) =
      let w : List Bytes = σ.names.mutex ∷ [] in
      (At None w None None, Watches σ.names.mutex, (At None w None None, Passes_by _ _ _ _ (tt, refl), (Idle, Leaves w None, refl)))

  -- ---- commands of which a number may be faulty

  brpop_aside : (k : Bytes) (o : Option ℕ) → IsApart σ.names k → IsAside σ (brpop_until (k ∷ []) o)
  brpop_aside k None far = (tt, refl)
  brpop_aside k (Some n) far = ((far, tt), refl)

  expire_aside : (k : Bytes) (o : Option ℕ) → IsApart σ.names k → IsAside σ (expire_of k o)
  expire_aside k None far = (tt, refl)
  expire_aside k (Some n) far = ((far, tt), refl)

  range_aside : (k : Bytes) (o : Option ℤ) → IsAside σ (range_of k o (Some (pos 0)) (Some 0) (Some 10))
  range_aside k None = (tt, refl)
  range_aside k (Some z) = (tt, refl)

  due_aside : (at v : ℕ) → IsAside σ (command_of (due_words σ.names at v))
  unfolding command_of
  due_aside at v = range_aside σ.names.index (integer_of (difference at v))

  neutral_step : (words : Words) (x : Value) → IsNeutral σ.names words → Step σ Idle (command_of words) x Idle
  unfolding command_of
  neutral_step words x Pings = Passes_by _ _ _ _ (tt, refl)
  neutral_step words x Selects = Passes_by _ _ _ _ (tt, refl)
  neutral_step words x (Measures k) = Passes_by _ _ _ _ (tt, refl)
  neutral_step words x Subscribes = Talks _ _ tt
  neutral_step words x Unsubscribes = Talks _ _ tt
  neutral_step words x (Announces m) = Passes_by _ _ _ _ (tt, refl)
  neutral_step words x (Replies k v vs is) = Passes_by _ _ _ _ ((σ.laws.reply_apart k is, tt), refl)
  neutral_step words x (Receives k w is) = Passes_by _ _ _ _ (brpop_aside k (natural_of w) (σ.laws.reply_apart k is))
  neutral_step words x (Limits k s is) = Passes_by _ _ _ _ (expire_aside k (seconds_of s) (σ.laws.reply_apart k is))

  pop_queues : (names ks : List Bytes) → IsPop σ.names names ks → QueueKeys σ ks
  pop_queues names ks h = subst (QueueKeys σ) h.1 (σ.laws.pops_are names h.0)

  one_key : (v k : Bytes) → σ.names.keys_for v [] ≡ k ∷ [] → is_queue σ.names k ≡ true
  one_key v k e = let q : QueueKeys σ (k ∷ []) = subst (QueueKeys σ) e (σ.laws.keys_are v []) in q.0

  add_run : (e r x q : Bytes) (l : List Call) → IsDeclareBlock σ.names (codes "SADD") e r x q l → Runs σ Idle l Idle
  unfolding command_of
  add_run e r x q l (Told a z pe pr px n) = (Idle, Passes_by _ _ _ _ ((σ.laws.binding_apart e, tt), refl), refl)

  remove_run : (e r x q : Bytes) (l : List Call) → IsDeclareBlock σ.names (codes "SREM") e r x q l → Runs σ Idle l Idle
  unfolding command_of
  remove_run e r x q l (Told a z pe pr px n) = (Idle, Passes_by _ _ _ _ ((σ.laws.binding_apart e, tt), refl), refl)

  publish_run : (t v : Bytes) (l : List Call) → IsPublishBlock σ.names t v l → Runs σ Idle l Idle
  unfolding command_of
  publish_run t v l (Plain a k z tag none one) = (Idle, Publishes k v z (one_key v k one), refl)
  publish_run t v l (Named a e ms ds tag some keys) = (Idle, Passes_by _ _ _ _ (tt, refl), direct_run v ds (subst (QueueKeys σ) (sym keys) (σ.laws.keys_are v ms)))

  short_run : (t : Bytes) (l : List Call) → IsShortPublish σ.names t l → Runs σ Idle l Idle
  unfolding command_of
  short_run t l (Asked a e ms is named) = (Idle, Passes_by _ _ _ _ (tt, refl), refl)

  pop_run : (names : List Bytes) (l : List Call) → IsPopBlock σ.names names l → Runs σ Idle l Idle
  unfolding command_of
  pop_run names l (Empty a k ks qs) = (Idle, pops k ks _ _ (Finds_none (k ∷ ks) (pop_queues names (k ∷ ks) qs)), refl)
  pop_run names l (Unreadable a k ks q v qs none) = (Idle, pops k ks _ _ (Finds_other (k ∷ ks) q v (pop_queues names (k ∷ ks) qs) none), refl)
  pop_run names l (Popped a b c d e k ks q v t x y qs tag early) = (
    At None [] (Some (t, v)) None,
    pops k ks _ _ (Finds (k ∷ ks) q v t (pop_queues names (k ∷ ks) qs) tag),
    (
      At (Some []) [] (Some (t, v)) None,
      Begins [] (Some (t, v)) None,
      (
        At (Some (Zadd σ.names.index (pos c) t ∷ [])) [] (Some (t, v)) None,
        subst (λ cm. Step σ (At (Some []) [] (Some (t, v)) None) cm queued (At (Some (Zadd σ.names.index (pos c) t ∷ [])) [] (Some (t, v)) None)) (sym (reads_zadd σ.names.index c t early)) (Queues [] _ _ _ _ refl),
        (
          At (Some (Zadd σ.names.index (pos c) t ∷ Hset σ.names.unacked t (σ.names.entry_of v) ∷ [])) [] (Some (t, v)) None,
          Queues (Zadd σ.names.index (pos c) t ∷ []) _ _ _ _ refl,
          (Idle, Ends _ _ _ _ _ (Whole_pop t v (pos c) tag), refl),
        ),
      ),
    ),
  )

  end_run : (t : Bytes) (l : List Call) → IsEndBlock σ.names t l → Runs σ Idle l Idle
  unfolding command_of
  end_run t l (Acknowledged a b c d x y is) = (
    At (Some []) [] None None,
    Begins [] None None,
    (
      At (Some (Zrem σ.names.index (t ∷ []) ∷ [])) [] None None,
      Queues [] _ _ _ _ refl,
      (At (Some (take_out σ.names t [])) [] None None, Queues (Zrem σ.names.index (t ∷ []) ∷ []) _ _ _ _ refl, (Idle, Ends _ _ _ _ _ (Whole_end t), refl)),
    ),
  )

  pass_run : (token : Bytes) (v : ℕ) (end : PassEnd) (l : List Call) → IsPassBlock σ.names token v end l → Runs σ Idle l Idle
  unfolding command_of
  pass_run token v end l (Is_held a) = (Idle, Passes_by _ _ _ _ ((σ.laws.mutex_apart, tt), refl), refl)
  pass_run token v end l (Ran_pass a b ms e k k' h free) =
      (Idle, Passes_by _ _ _ _ ((σ.laws.mutex_apart, tt), refl), (Idle, Passes_by _ _ _ _ (due_aside b v), runs_join σ Idle Idle Idle k k' (returns_run (tags_among σ.names ms) end k h) (release_run token k' free)))

  neutral_run : (words : Words) (l : List Call) → IsNeutralBlock σ.names words l → Runs σ Idle l Idle
  neutral_run words l (Answered a r h right) = (Idle, neutral_step words r h, refl)

  pub block_run : (s n p : ℕ) (kind : CounterUse) (l : List Call) → IsBlock σ.names s n p kind l → Runs σ Idle l Idle
  block_run s n p kind l (Declare e r x q l' h) = add_run e r x q l' h
  block_run s n p kind l (Undeclare e r x q l' h) = remove_run e r x q l' h
  block_run s n p kind l (Publish v l' h) = publish_run _ v l' h
  block_run s n p kind l (Publish_short l' h) = short_run _ l' h
  block_run s n p kind l (Pop names l' h) = pop_run names l' h
  block_run s n p kind l (End t l' h) = end_run t l' h
  block_run s n p kind l (Return t side end l' h) = tries_run side t 0 end l' h.1
  block_run s n p kind l (Pass v end l' in_range h) = pass_run _ v end l' h
  block_run s n p kind l (Neutral words l' h) = neutral_run words l' h

  pub blocks_run : (s n p : ℕ) (bs : List (List Call)) → AreBlocks σ.names s n p bs → Runs σ Idle (concat bs) Idle
  blocks_run s n p [] h = refl
  blocks_run s n p (b ∷ bs) h = runs_join σ Idle Idle Idle b (concat bs) (block_run s n p h.0 b h.1) (blocks_run s (drawn h.0 n) (passes_after h.0 p) bs h.2)

  runs_live : (a : Cursor) (xs : List Call) → Runs σ a xs Idle → Live a
  runs_live a [] r = subst Live (sym r) tt
  runs_live a (x ∷ xs) r = step_live σ a r.0 (command_of x.words) x.answer r.1

  -- a client in its blocks is somewhere in the machine
  pub front_runs : (s : ℕ) (l : List Call) → IsFrontOfBlocks σ.names s l → (c : Cursor) × Runs σ Idle l c × Live c
  front_runs s l h =
      let r = runs_split σ Idle Idle l h.2.0 (subst (λ x. Runs σ Idle x Idle) (sym h.2.1) (blocks_run s 0 0 h.0 h.1)) in
      (r.0, r.1, runs_live r.0 h.2.0 r.2)

  -- the calls so far and one whose words a block allows
  refused_runs : (s : ℕ) (l : List Call) (a : ℕ) (words : Words) (reply x : Value) → IsFrontOfBlocks σ.names s (l ++ call a words x ∷ []) → Runs σ Idle (l ++ call a words reply ∷ []) Halted
  refused_runs s l a words reply x h =
      let r = front_runs s (l ++ call a words x ∷ []) h in
      let p = runs_split σ Idle r.0 l (call a words x ∷ []) r.1 in
      runs_join σ Idle p.0 Halted l (call a words reply ∷ []) p.1 (Halted, Refuses p.0 p.2.0 (command_of words) x reply p.2.1, refl)

  pub manner_runs : (s : ℕ) (l : List Call) → IsMannered σ.names s l → (c : Cursor) × Runs σ Idle l c
  manner_runs s l (inl h) = let r = front_runs s l h in (r.0, r.1)
  manner_runs s l (inr h) = (Halted, subst (λ y. Runs σ Idle y Halted) (sym h.5) (refused_runs s h.0 h.1 h.2 h.4 h.3 h.6))
