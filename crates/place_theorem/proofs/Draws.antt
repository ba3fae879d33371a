-- The tags that a client draws: a second machine, which knows how many it has drawn and what it published under the last.
use Rattle.std.proofs.Common.{◌++◌, List, None, Option, Some, [], ap, append-nil, append_assoc, arith, codes, decimal, false, inl, inr, pos, refl, subst, suc, sym, true, ℕ, ℤ, ◌∙◌, ◌∷◌, ◌≡◌, ◌≤◌, ◌⊎◌}
use Rattle.wire_values.specs.declared.value.Value.{Value}
use Rattle.wire_values.specs.declared.value.Value.TheVariants.{Integer, NullArray}
use Rattle.numerals.specs.Integers.{integer_of, natural_of}
use Rattle.store_model.specs.Seconds.{seconds_of}
use Rattle.store_model.specs.Replies.{queued}
use Rattle.store_model.specs.Store.{quiet}
use Rattle.store_model.specs.Words.{Words, brpop_until, command_of, expire_of, named, range_of, zadd_of}
use Rattle.store_model.specs.declared.command.Command.{Command}
use Rattle.store_model.specs.declared.command.Command.TheVariants.{Lpush}
use Rattle.command_blocks.specs.Answers.{integers, number_of}
use Rattle.queue_keys.specs.Bindings.{member}
use Rattle.command_blocks.specs.Blocks.{Announces, Answered, AreBlocks, Declare, End, IsBlock, IsNeutral, IsNeutralBlock, CounterUse, Limits, Measures, Neutral, Pass, Pings, Pop, Publish, Publish_short, Receives, Replies, Return, Selects, Subscribes, Undeclare, Unsubscribes, drawn, drawn_by, passes_after}
use Rattle.command_blocks.specs.Calls.{Call, call, concat}
use Rattle.place_model.specs.Histories.{next}
use Rattle.place_model.specs.Identity.{IsPush, PushedIn}
use Rattle.queue_keys.specs.Names.{Bytes}
use Rattle.command_blocks.specs.PassBlocks.{All_returned, Ended_early, Foreign, IsPassBlock, IsRelease, IsReturns, Is_held, Own, PassEnd, Ran as Ran_pass, Returned, Returned_until, tags_among}
use Rattle.command_blocks.specs.ReturnBlocks.{Again, Eighth, IsTries, Missing, Nowhere, ReturnEnd, Try, Useless, Whole as Whole_try, asking, leaving, queued_calls, whole_try}
use Rattle.command_blocks.specs.RouteBlocks.{Asked, IsDeclareBlock, IsPublishBlock, IsShortPublish, Named, Plain, Told, direct_calls}
use Rattle.place_model.specs.Seen.{seen}
use Rattle.command_blocks.specs.Setting.{is_queue}
use Rattle.command_blocks.specs.TakeBlocks.{Acknowledged, Empty, IsEndBlock, IsPopBlock, Popped, Unreadable, brpop_words}
use Rattle.queue_keys.specs.Texts.{difference, token}
use Rattle.command_blocks.specs.declared.side.Side.{Side}
use Rattle.command_blocks.specs.declared.side.Side.TheVariants.{Left, Right}
use Rattle.place_theorem.proofs.Full.{Full}
use Rattle.place_theorem.proofs.Machine.{reads_brpop}
use Rattle.place_theorem.proofs.Values.{number_of-Status}

-- the call publishes nothing
abbrev pub NoPushBy : Full → Bytes → Option ℤ → Type 0
NoPushBy σ k None = Unit {0}
NoPushBy σ k (Some n) = is_queue σ.names k ≡ false

-- the same, by the command
abbrev pub NoPush : Full → Command → Value → Type 0
NoPush σ (Lpush k (v ∷ [])) x = NoPushBy σ k (number_of x)
NoPush σ other x = Unit {0}

-- and so is no publication
pub no_push : (σ : Full) (t b : Bytes) (c : Command) (x : Value) → NoPush σ c x → IsPush σ.names t b c x → ⊥
no_push σ t b c x quiet p =
    let y : NoPushBy σ p.key (number_of x) = subst (λ y. NoPush σ y x) p.pushes quiet in
    let z : is_queue σ.names p.key ≡ false = subst (NoPushBy σ p.key) p.answered y in
    cc (z, p.queue)

-- how many tags were drawn, and what was published under the last
pub data Draw (σ : Full) (s : ℕ) : ℕ → Option Bytes → Command → Value → ℕ → Option Bytes → Type 0 where
  Passes : (n : ℕ) (o : Option Bytes) (c : Command) (x : Value) → NoPush σ c x → Draw σ s n o c x n o
  Draws : (n : ℕ) (o : Option Bytes) (c : Command) (x : Value) → NoPush σ c x → Draw σ s n o c x (suc n) None
  Draws_and_shows : (n : ℕ) (o : Option Bytes) (k v : Bytes) (x : ℤ) → σ.names.tag_of v ≡ Some (σ.names.tag s (suc n)) → Draw σ s n o (Lpush k (v ∷ [])) (Integer x) (suc n) (Some v)
  Shows : (n : ℕ) (o : Option Bytes) (k v : Bytes) (x : ℤ) → (o ≡ None) ⊎ (o ≡ Some v) → σ.names.tag_of v ≡ Some (σ.names.tag s n) → Draw σ s n o (Lpush k (v ∷ [])) (Integer x) n (Some v)

-- calls in a row
abbrev pub DrawRuns : Full → ℕ → ℕ → Option Bytes → List Call → ℕ → Option Bytes → Type 0
DrawRuns σ s n o [] n' o' = (n ≡ n') × (o ≡ o')
DrawRuns σ s n o (x ∷ xs) n' o' = (i : ℕ) × (a : Option Bytes) × Draw σ s n o (command_of x.words) x.answer i a × DrawRuns σ s i a xs n' o'

-- one after the other
pub draws_join : (σ : Full) (s n : ℕ) (o : Option Bytes) (xs : List Call) (i : ℕ) (a : Option Bytes) (ys : List Call) (n' : ℕ) (o' : Option Bytes) → DrawRuns σ s n o xs i a → DrawRuns σ s i a ys n' o' → DrawRuns σ s n o (xs ++ ys) n' o'
draws_join σ s n o [] i a ys n' o' r q = subst (λ z. DrawRuns σ s z o ys n' o') (sym r.0) (subst (λ z. DrawRuns σ s i z ys n' o') (sym r.1) q)
draws_join σ s n o (x ∷ xs) i a ys n' o' r q = (r.0, r.1, r.2, draws_join σ s r.0 r.1 xs i a ys n' o' r.3 q)

-- and apart again
pub draws_split : (σ : Full) (s n : ℕ) (o : Option Bytes) (xs ys : List Call) (n' : ℕ) (o' : Option Bytes) → DrawRuns σ s n o (xs ++ ys) n' o' → (i : ℕ) × (a : Option Bytes) × DrawRuns σ s n o xs i a × DrawRuns σ s i a ys n' o'
draws_split σ s n o [] ys n' o' r = (n, o, (refl, refl), r)
draws_split σ s n o (x ∷ xs) ys n' o' r = let q = draws_split σ s r.0 r.1 xs ys n' o' r.3 in (q.0, q.1, (r.0, r.1, r.2, q.2), q.3)

-- how many were drawn never falls
draw_grows : (σ : Full) (s n : ℕ) (o : Option Bytes) (c : Command) (x : Value) (i : ℕ) (a : Option Bytes) → Draw σ s n o c x i a → n ≤ i
draw_grows σ s n o c x i a (Passes n' o' c' x' quiet) = omega arith
draw_grows σ s n o c x i a (Draws n' o' c' x' quiet) = omega arith
draw_grows σ s n o c x i a (Draws_and_shows n' o' k v x' tag) = omega arith
draw_grows σ s n o c x i a (Shows n' o' k v x' seen tag) = omega arith

pub draws_grow : (σ : Full) (s n : ℕ) (o : Option Bytes) (xs : List Call) (n' : ℕ) (o' : Option Bytes) → DrawRuns σ s n o xs n' o' → n ≤ n'
draws_grow σ s n o [] n' o' r = let same : n ≡ n' = r.0 in omega (arith, same)
draws_grow σ s n o (x ∷ xs) n' o' r =
    let first : n ≤ r.0 = draw_grows σ s n o (command_of x.words) x.answer r.0 r.1 r.2 in
    let later : r.0 ≤ n' = draws_grow σ s r.0 r.1 xs n' o' r.3 in
    omega (arith, first, later)

-- ---- blocks that draw nothing

-- each of the calls publishes nothing
abbrev pub AllQuiet : Full → List Call → Type 0
AllQuiet σ [] = Unit {0}
AllQuiet σ (x ∷ xs) = NoPush σ (command_of x.words) x.answer × AllQuiet σ xs

module _ (σ : Full) where
  quiet_runs : (s n : ℕ) (o : Option Bytes) (l : List Call) → AllQuiet σ l → DrawRuns σ s n o l n o
  quiet_runs s n o [] q = (refl, refl)
  quiet_runs s n o (x ∷ xs) q = (n, o, Passes n o _ _ q.0, quiet_runs s n o xs q.1)

  quiet_append : (xs ys : List Call) → AllQuiet σ xs → AllQuiet σ ys → AllQuiet σ (xs ++ ys)
  quiet_append [] ys p q = q
  quiet_append (x ∷ xs) ys p q = (p.0, quiet_append xs ys p.1 q)

  quiet_queued : (k v : Bytes) → NoPush σ (Lpush k (v ∷ [])) queued
  quiet_queued k v = subst (NoPushBy σ k) (sym (number_of-Status _)) tt

  quiet_pushes : (side : Side) (v : Bytes) (qs : List (ℕ × Bytes)) (rest : List Call) → AllQuiet σ rest → AllQuiet σ (queued_calls side v qs rest)
  unfolding command_of
  quiet_pushes side v [] rest h = h
  quiet_pushes Left v (q ∷ qs) rest h = (quiet_queued q.1 v, quiet_pushes Left v qs rest h)
  quiet_pushes Right v (q ∷ qs) rest h = (tt, quiet_pushes Right v qs rest h)

  quiet_asking : (o : Option Bytes) (a : ℕ) (ms : List Bytes) (rest : List Call) → AllQuiet σ rest → AllQuiet σ (asking σ.names o a ms rest)
  unfolding command_of
  quiet_asking None a ms rest h = h
  quiet_asking (Some e) a ms rest h = (tt, h)

  quiet_leaving : (a : ℕ) → AllQuiet σ (leaving a)
  unfolding command_of
  quiet_leaving a = (tt, tt)

  quiet_try : (side : Side) (t : Bytes) (y : Try) (x : Value) (rest : List Call) → AllQuiet σ rest → AllQuiet σ (whole_try σ.names side t y x rest)
  unfolding command_of
  quiet_try side t y x rest h = (tt, (tt, quiet_asking (σ.names.exchange_in y.entry) y.c y.members _ (tt, (tt, (tt, quiet_pushes side y.envelope (y.first ∷ y.others) _ (tt, h))))))

  quiet_tries : (side : Side) (t : Bytes) (n : ℕ) (end : ReturnEnd) (l : List Call) → IsTries σ.names side t n end l → AllQuiet σ l
  unfolding command_of
  quiet_tries side t n end l (Missing m a b c) = (tt, (tt, quiet_leaving c))
  quiet_tries side t n end l (Useless m a b c u never) = (tt, (tt, quiet_leaving c))
  quiet_tries side t n end l (Nowhere m a b c d u v ms is none) = (tt, (tt, quiet_asking (σ.names.exchange_in u) c ms (leaving d) (quiet_leaving d)))
  quiet_tries side t n end l (Whole_try m y zs ok) = quiet_try side t y (integers zs) [] tt
  quiet_tries side t n end l (Eighth y ok) = quiet_try side t y NullArray [] tt
  quiet_tries side t n end l (Again m y more l' lt ok next) = quiet_try side t y NullArray l' (quiet_tries side t (suc m) more l' next)

  quiet_returns : (ts : List Bytes) (end : PassEnd) (l : List Call) → IsReturns σ.names ts end l → AllQuiet σ l
  quiet_returns ts end l All_returned = tt
  quiet_returns ts end l (Returned t us e es k k' h on more) = quiet_append k k' (quiet_tries Right t 0 e k h) (quiet_returns us _ k' more)
  quiet_returns ts end l (Returned_until t us e b k k' h on more) = quiet_append k k' (quiet_tries Right t 0 e k h) (quiet_returns us _ k' more)
  quiet_returns ts end l (Ended_early t us k h) = quiet_tries Right t 0 _ k h

  quiet_release : (token : Bytes) (l : List Call) → IsRelease σ.names token l → AllQuiet σ l
  unfolding command_of
  quiet_release token l (Own a b c d e r h) = (tt, (tt, (tt, (tt, (tt, tt)))))
  quiet_release token l (Foreign a b c r h) = (tt, (tt, quiet_leaving c))

  quiet_by : (k : Bytes) (o : Option ℤ) → is_queue σ.names k ≡ false → NoPushBy σ k o
  quiet_by k None far = tt
  quiet_by k (Some n) far = far

  quiet_apart : (k v : Bytes) (vs : List Bytes) (x : Value) → is_queue σ.names k ≡ false → NoPush σ (Lpush k (v ∷ vs)) x
  quiet_apart k v [] x far = quiet_by k (number_of x) far
  quiet_apart k v (w ∷ ws) x far = tt

  quiet_until : (ks : List Bytes) (o : Option ℕ) (x : Value) → NoPush σ (brpop_until ks o) x
  quiet_until ks None x = tt
  quiet_until ks (Some n) x = tt

  quiet_expire : (k : Bytes) (o : Option ℕ) (x : Value) → NoPush σ (expire_of k o) x
  quiet_expire k None x = tt
  quiet_expire k (Some n) x = tt

  quiet_range : (k : Bytes) (o : Option ℤ) (x : Value) → NoPush σ (range_of k o (Some (pos 0)) (Some 0) (Some 10)) x
  quiet_range k None x = tt
  quiet_range k (Some z) x = tt

  quiet_zadd : (k t : Bytes) (o : Option ℤ) (x : Value) → NoPush σ (zadd_of k t o) x
  quiet_zadd k t None x = tt
  quiet_zadd k t (Some z) x = tt

  quiet_neutral : (words : Words) (x : Value) → IsNeutral σ.names words → NoPush σ (command_of words) x
  unfolding command_of
  quiet_neutral words x Pings = tt
  quiet_neutral words x Selects = tt
  quiet_neutral words x (Measures k) = tt
  quiet_neutral words x Subscribes = tt
  quiet_neutral words x Unsubscribes = tt
  quiet_neutral words x (Announces m) = tt
  quiet_neutral words x (Replies k v vs is) = quiet_apart k v vs x (σ.laws.reply_apart k is).0
  quiet_neutral words x (Receives k w is) = quiet_until (k ∷ []) (natural_of w) x
  quiet_neutral words x (Limits k s is) = quiet_expire k (seconds_of s) x

  quiet_pop : (k : Bytes) (ks : List Bytes) (x : Value) → NoPush σ (command_of (brpop_words k ks)) x
  quiet_pop k ks x = subst (λ c. NoPush σ c x) (sym (reads_brpop k ks)) tt

  -- ---- all blocks

  shows_run : (s n : ℕ) (o : Option Bytes) (v : Bytes) (ds : List (ℕ × Bytes × ℤ)) → (o ≡ None) ⊎ (o ≡ Some v) → σ.names.tag_of v ≡ Some (σ.names.tag s n) → (a : Option Bytes) × DrawRuns σ s n o (direct_calls v ds) n a
  unfolding command_of
  shows_run s n o v [] seen tag = (o, (refl, refl))
  shows_run s n o v (d ∷ ds) seen tag = let r = shows_run s n (Some v) v ds (inr refl) tag in (r.0, (n, Some v, Shows n o d.1 v d.2 seen tag, r.1))

  quiet_declare : (word e r x q : Bytes) (l : List Call) → (word ≡ codes "SADD") ⊎ (word ≡ codes "SREM") → IsDeclareBlock σ.names word e r x q l → AllQuiet σ l
  unfolding command_of
  quiet_declare word e r x q l (inl i) (Told a z pe pr px n) = subst (λ w. AllQuiet σ (call a (w ∷ σ.names.binding e ∷ member r x q ∷ []) (Integer z) ∷ [])) (sym i) (tt, tt)
  quiet_declare word e r x q l (inr i) (Told a z pe pr px n) = subst (λ w. AllQuiet σ (call a (w ∷ σ.names.binding e ∷ member r x q ∷ []) (Integer z) ∷ [])) (sym i) (tt, tt)

  quiet_popped : (names : List Bytes) (l : List Call) → IsPopBlock σ.names names l → AllQuiet σ l
  unfolding command_of
  quiet_popped names l (Empty a k ks qs) = (quiet_pop k ks _, tt)
  quiet_popped names l (Unreadable a k ks q v qs none) = (quiet_pop k ks _, tt)
  quiet_popped names l (Popped a b c d e k ks q v t x y qs tag early) = (quiet_pop k ks _, (tt, (quiet_zadd σ.names.index t (integer_of (decimal c)) queued, (tt, (tt, tt)))))

  quiet_end : (t : Bytes) (l : List Call) → IsEndBlock σ.names t l → AllQuiet σ l
  unfolding command_of
  quiet_end t l (Acknowledged a b c d x y is) = (tt, (tt, (tt, (tt, tt))))

  quiet_pass : (token : Bytes) (v : ℕ) (end : PassEnd) (l : List Call) → IsPassBlock σ.names token v end l → AllQuiet σ l
  unfolding command_of
  quiet_pass token v end l (Is_held a) = (tt, tt)
  quiet_pass token v end l (Ran_pass a b ms e k k' h free) = (tt, (quiet_range σ.names.index (integer_of (difference b v)) _, quiet_append k k' (quiet_returns (tags_among σ.names ms) end k h) (quiet_release token k' free)))

  quiet_neutral_block : (words : Words) (l : List Call) → IsNeutralBlock σ.names words l → AllQuiet σ l
  quiet_neutral_block words l (Answered a r h right) = (quiet_neutral words r h, tt)

  publish_draws : (s n : ℕ) (v : Bytes) (l : List Call) (o : Option Bytes) → IsPublishBlock σ.names (σ.names.tag s (suc n)) v l → (a : Option Bytes) × DrawRuns σ s n o l (suc n) a
  unfolding command_of
  publish_draws s n v l o (Plain a k z tag none one) = (Some v, (suc n, Some v, Draws_and_shows n o k v z (σ.laws.written_is v (σ.names.tag s (suc n)) tag), (refl, refl)))
  publish_draws s n v l o (Named a e ms ds tag some keys) = let r = shows_run s (suc n) None v ds (inl refl) (σ.laws.written_is v (σ.names.tag s (suc n)) tag) in (r.0, (suc n, None, Draws n o _ _ tt, r.1))

  short_draws : (s n : ℕ) (l : List Call) (o : Option Bytes) → IsShortPublish σ.names (σ.names.tag s (suc n)) l → (a : Option Bytes) × DrawRuns σ s n o l (suc n) a
  unfolding command_of
  short_draws s n l o (Asked a e ms is named) = (None, (suc n, None, Draws n o _ _ tt, (refl, refl)))

  pub block_draws : (s n p : ℕ) (kind : CounterUse) (l : List Call) (o : Option Bytes) → IsBlock σ.names s n p kind l → (a : Option Bytes) × DrawRuns σ s n o l (drawn kind n) a
  block_draws s n p kind l o (Declare e r x q l' h) = (o, quiet_runs s n o l (quiet_declare _ e r x q l' (inl refl) h))
  block_draws s n p kind l o (Undeclare e r x q l' h) = (o, quiet_runs s n o l (quiet_declare _ e r x q l' (inr refl) h))
  block_draws s n p kind l o (Publish v l' h) = publish_draws s n v l' o h
  block_draws s n p kind l o (Publish_short l' h) = short_draws s n l' o h
  block_draws s n p kind l o (Pop names l' h) = (o, quiet_runs s n o l (quiet_popped names l' h))
  block_draws s n p kind l o (End t l' h) = (o, quiet_runs s n o l (quiet_end t l' h))
  block_draws s n p kind l o (Return t side end l' h) = (o, quiet_runs s n o l (quiet_tries side t 0 end l' h.1))
  block_draws s n p kind l o (Pass v end l' small h) = (o, quiet_runs s n o l (quiet_pass _ v end l' h))
  block_draws s n p kind l o (Neutral words l' h) = (o, quiet_runs s n o l (quiet_neutral_block words l' h))

  pub blocks_draw : (s n p : ℕ) (o : Option Bytes) (bs : List (List Call)) (h : AreBlocks σ.names s n p bs) → (a : Option Bytes) × DrawRuns σ s n o (concat bs) (drawn_by σ.names s n p bs h) a
  blocks_draw s n p o [] h = (o, (refl, refl))
  blocks_draw s n p o (b ∷ bs) h =
      let r = block_draws s n p h.0 b o h.1 in
      let q = blocks_draw s (drawn h.0 n) (passes_after h.0 p) r.0 bs h.2 in
      (q.0, draws_join σ s n o b (drawn h.0 n) r.0 (concat bs) (drawn_by σ.names s (drawn h.0 n) (passes_after h.0 p) bs h.2) q.0 r.1 q.1)

-- ---- what the draws say of the pushes

-- every push so far has a tag that was drawn, and those of one tag have one body
pub record HasDrawn (σ : Full) (s n : ℕ) (o : Option Bytes) (l : List Call) : Type 0 where
  pub own : (t b : Bytes) → PushedIn σ.names t b l → (j : ℕ) × (j ≤ n) × (t ≡ σ.names.tag s j)
  pub last : (b : Bytes) → PushedIn σ.names (σ.names.tag s n) b l → (v : Bytes) × (o ≡ Some v) × (σ.names.body_of v ≡ b)
  pub once : (t b b' : Bytes) → PushedIn σ.names t b l → PushedIn σ.names t b' l → b ≡ b'

-- a publication among calls is among the earlier ones or the last
pub pushed_split : (σ : Full) (t b : Bytes) (l : List Call) (x : Call) → PushedIn σ.names t b (l ++ x ∷ []) → PushedIn σ.names t b l ⊎ IsPush σ.names t b (command_of x.words) x.answer
pushed_split σ t b [] x (inl p) = inr p
pushed_split σ t b [] x (inr p) = absurd p
pushed_split σ t b (y ∷ l) x (inl p) = inl (inl p)
pushed_split σ t b (y ∷ l) x (inr p) = elim (pushed_split σ t b l x p) [ inl q ↦ inl (inr q) | inr q ↦ inr q ]

-- a push of these bytes
push_is : (σ : Full) (t b k v : Bytes) (y : ℕ) (c : Command) (x : Value) → c ≡ Lpush k (v ∷ []) → IsPush σ.names t b c x → (σ.names.tag_of v ≡ Some t) × (σ.names.body_of v ≡ b)
push_is σ t b k v y c x is p =
    let same : p.bytes ≡ v = cc (is, p.pushes) in
    (ap σ.names.tag_of (sym same) ∙ p.tag, ap σ.names.body_of (sym same) ∙ p.body)

-- what is published has a tag's text
pub pushed_tag : (σ : Full) (t b : Bytes) (l : List Call) → PushedIn σ.names t b l → σ.names.is_tag t ≡ true
pushed_tag σ t b [] p = absurd p
pushed_tag σ t b (y ∷ l) (inl p) = σ.laws.tag_text p.bytes t p.tag
pushed_tag σ t b (y ∷ l) (inr p) = pushed_tag σ t b l p

module _ (σ : Full) (s : ℕ) where
  tag_is_same : (t t' : Bytes) → Some t ≡ Some t' → t ≡ t'
  tag_is_same t t' e = cc e

  beyond : (n : ℕ) (o : Option Bytes) (l : List Call) (b : Bytes) → HasDrawn σ s n o l → PushedIn σ.names (σ.names.tag s (suc n)) b l → ⊥
  beyond n o l b d p =
      let j = d.own (σ.names.tag s (suc n)) b p in
      let e : suc n ≡ j.0 = (σ.laws.tag_parts s (suc n) s j.0 (pushed_tag σ (σ.names.tag s (suc n)) b l p) j.2).1 in
      omega (arith, e, j.1)

  -- after a call that publishes v
  shown : (n i : ℕ) (o : Option Bytes) (l : List Call) (x : Call) (k v : Bytes) → command_of x.words ≡ Lpush k (v ∷ []) → σ.names.tag_of v ≡ Some (σ.names.tag s i) → n ≤ i → HasDrawn σ s n o l
      → ((b : Bytes) → PushedIn σ.names (σ.names.tag s i) b l → σ.names.body_of v ≡ b) → HasDrawn σ s i (Some v) (l ++ x ∷ [])
  shown n i o l x k v is tag le d old = record {
    own = λ t b p. elim (pushed_split σ t b l x p) [
      | inl q ↦ let j = d.own t b q in (j.0, omega (arith, j.1, le), j.2)
      | inr q ↦ (i, omega arith, tag_is_same t (σ.names.tag s i) (sym (push_is σ t b k v 0 _ _ is q).0 ∙ tag))
    ];
    last = λ b p. elim (pushed_split σ (σ.names.tag s i) b l x p) [
      | inl q ↦ (v, refl, old b q)
      | inr q ↦ (v, refl, (push_is σ (σ.names.tag s i) b k v 0 _ _ is q).1)
    ];
    once = λ t b b' p p'. go t b b' (pushed_split σ t b l x p) (pushed_split σ t b' l x p');
  }
    where
      at : (t b : Bytes) → IsPush σ.names t b (command_of x.words) x.answer → t ≡ σ.names.tag s i
      at t b q = tag_is_same t (σ.names.tag s i) (sym (push_is σ t b k v 0 _ _ is q).0 ∙ tag)

      go : (t b b' : Bytes) → PushedIn σ.names t b l ⊎ IsPush σ.names t b (command_of x.words) x.answer → PushedIn σ.names t b' l ⊎ IsPush σ.names t b' (command_of x.words) x.answer → b ≡ b'
      go t b b' (inl p) (inl q) = d.once t b b' p q
      go t b b' (inl p) (inr q) = sym (old b (subst (λ z. PushedIn σ.names z b l) (at t b' q) p)) ∙ (push_is σ t b' k v 0 _ _ is q).1
      go t b b' (inr p) (inl q) = sym (push_is σ t b k v 0 _ _ is p).1 ∙ old b' (subst (λ z. PushedIn σ.names z b' l) (at t b p) q)
      go t b b' (inr p) (inr q) = sym (push_is σ t b k v 0 _ _ is p).1 ∙ (push_is σ t b' k v 0 _ _ is q).1

  -- after a call that publishes nothing
  kept : (n i : ℕ) (o a : Option Bytes) (l : List Call) (x : Call) → NoPush σ (command_of x.words) x.answer → n ≤ i → HasDrawn σ s n o l → ((b : Bytes) → PushedIn σ.names (σ.names.tag s i) b l → (v : Bytes) × (a ≡ Some v) × (σ.names.body_of v ≡ b)) → HasDrawn σ s i a (l ++ x ∷ [])
  kept n i o a l x no' le d old = record {
    own = λ t b p. let j = d.own t b (before t b p) in (j.0, omega (arith, j.1, le), j.2);
    last = λ b p. old b (before (σ.names.tag s i) b p);
    once = λ t b b' p p'. d.once t b b' (before t b p) (before t b' p');
  }
    where
      before : (t b : Bytes) → PushedIn σ.names t b (l ++ x ∷ []) → PushedIn σ.names t b l
      before t b p = elim (pushed_split σ t b l x p) [ inl q ↦ q | inr q ↦ absurd (no_push σ t b (command_of x.words) x.answer no' q) ]

  drawn_step : (n i : ℕ) (o a : Option Bytes) (l : List Call) (x : Call) (c : Command) (y : Value) → command_of x.words ≡ c → x.answer ≡ y → Draw σ s n o c y i a → HasDrawn σ s n o l → HasDrawn σ s i a (l ++ x ∷ [])
  drawn_step n i o a l x c y is ans (Passes n' o' c' x' quiet) d = kept n n o o l x (subst (λ z. NoPush σ z x.answer) (sym is) (subst (λ z. NoPush σ c z) (sym ans) quiet)) (omega arith) d d.last
  drawn_step n i o a l x c y is ans (Draws n' o' c' x' quiet) d = kept n (suc n) o None l x (subst (λ z. NoPush σ z x.answer) (sym is) (subst (λ z. NoPush σ c z) (sym ans) quiet)) (omega arith) d (λ b p. absurd (beyond n o l b d p))
  drawn_step n i o a l x c y is ans (Draws_and_shows n' o' k v x' tag) d = shown n (suc n) o l x k v is tag (omega arith) d (λ b p. absurd (beyond n o l b d p))
  drawn_step n i o a l x c y is ans (Shows n' o' k v x' seen tag) d = shown n n o l x k v is tag (omega arith) d (λ b p. go b (d.last b p) seen)
    where
      go : (b : Bytes) → (w : Bytes) × (o ≡ Some w) × (σ.names.body_of w ≡ b) → (o ≡ None) ⊎ (o ≡ Some v) → σ.names.body_of v ≡ b
      go b h (inl none) = absurd (cc (none, h.1))
      go b h (inr some) = let e : h.0 ≡ v = cc (some, h.1) in ap σ.names.body_of (sym e) ∙ h.2

  pub drawn_runs : (n i : ℕ) (o a : Option Bytes) (l xs : List Call) → DrawRuns σ s n o xs i a → HasDrawn σ s n o l → HasDrawn σ s i a (l ++ xs)
  drawn_runs n i o a l [] r d = subst (λ z. HasDrawn σ s i a z) (sym (append-nil l)) (subst (λ z. HasDrawn σ s z a l) r.0 (subst (λ z. HasDrawn σ s n z l) r.1 d))
  drawn_runs n i o a l (x ∷ xs) r d = subst (HasDrawn σ s i a) (append_assoc l (x ∷ []) xs) (drawn_runs r.0 i r.1 a (l ++ x ∷ []) xs r.3 (drawn_step n r.0 o r.1 l x _ _ refl refl r.2 d))

  pub none_drawn : HasDrawn σ s 0 None []
  none_drawn = record { own = λ t b p. absurd p; last = λ b p. absurd p; once = λ t b b' p q. absurd p }
