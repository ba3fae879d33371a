-- The blocks as an exact machine of one call at a time: what words ask at a spot, and where their answer leads.
use Rattle.std.specs.Prelude.{◌≡◌, ℕ, ℤ, ◌^◌, suc, true, false, ◌<◌, List, [], ◌∷◌, ◌++◌, codes, decimal, Some, None}
use Rattle.wire_values.specs.declared.value.Value.{Value}
use Rattle.wire_values.specs.declared.value.Value.TheVariants.{Integer, Bulk, NullBulk, Array, NullArray}
use Rattle.store_model.specs.Limits.{moment_limit}
use Rattle.store_model.specs.Words.{Words}
use Rattle.store_model.specs.Replies.{done, queued, pair, bulks}
use Rattle.queue_keys.specs.Names.{Bytes, is_name}
use Rattle.queue_keys.specs.Bindings.{member, is_part}
use Rattle.queue_keys.specs.Texts.{token}
use Rattle.command_blocks.specs.Answers.{integers, is_error}
use Rattle.command_blocks.specs.Setting.{Setting}
use Rattle.command_blocks.specs.Calls.{Call, call, push_word}
use Rattle.command_blocks.specs.RouteBlocks.{is_exchange}
use Rattle.command_blocks.specs.TakeBlocks.{IsPop, brpop_words}
use Rattle.command_blocks.specs.ReturnBlocks.{Carries}
use Rattle.command_blocks.specs.PassBlocks.{tags_among, lock_words, due_words}
use Rattle.command_blocks.specs.Blocks.{IsNeutral}
use Rattle.command_blocks.specs.declared.side.Side.{Side}
use Rattle.manner_laws.specs.Spots.{Job, Open, Of_pass, job_tag, MayPush, sided, Spot, Free, Listed, Pushing, Popped, Pop_begun, Pop_indexed, End_begun, End_removed, Filled, Looking, Waiting, Watched, Leaving, Asking, Ready, Begun, Removed, Putting, Locked, Turning, Release_watched, Release_own, Release_begun, Release_deleted, Release_foreign, pushing, finished, gave_up, routed, Ask, Count, Consent, Queueing, Counts, Anything, Bindings, Message, Entry, Routes, Move, Lock, Due, Holder, Release}

-- words that begin a block of a client of seed s that drew n tags and made p passes, and what they ask
pub data Begins (σ : Setting) (s n p : ℕ) : Words → Ask → Type 0 where
  Declares : (e r x q : Bytes) → is_part e ≡ true → is_part r ≡ true → is_part x ≡ true → is_name q ≡ true → Begins σ s n p (codes "SADD" ∷ σ.binding e ∷ member r x q ∷ []) (Count (Free n p))
  Undeclares : (e r x q : Bytes) → is_part e ≡ true → is_part r ≡ true → is_part x ≡ true → is_name q ≡ true → Begins σ s n p (codes "SREM" ∷ σ.binding e ∷ member r x q ∷ []) (Count (Free n p))
  Publishes : (k v : Bytes) → σ.written_tag v ≡ Some (σ.tag s (suc n)) → σ.exchange_of v ≡ None → σ.keys_for v [] ≡ k ∷ [] → Begins σ s n p (codes "LPUSH" ∷ k ∷ v ∷ []) (Count (Free (suc n) p))
  Lists : (e : Bytes) → σ.is_tag (σ.tag s (suc n)) ≡ true → is_exchange e ≡ true → Begins σ s n p (codes "SMEMBERS" ∷ σ.binding e ∷ []) (Bindings n p e)
  Pops : (names : List Bytes) (k : Bytes) (ks : List Bytes) → IsPop σ names (k ∷ ks) → Begins σ s n p (brpop_words k ks) (Message n p)
  Ends : Begins σ s n p (codes "MULTI" ∷ []) (Consent (End_begun n p))
  Returns : Begins σ s n p (codes "WATCH" ∷ σ.unacked ∷ []) (Consent (Looking n p))
  Passes : Begins σ s n p (lock_words σ (token s (suc p))) (Lock n p)
  Concerns_none : (words : Words) → IsNeutral σ words → Begins σ s n p words (Anything (Free n p))

-- words that a client may say at a spot, at a moment, and what they ask
pub data Asks (σ : Setting) (s : ℕ) : Spot → ℕ → Words → Ask → Type 0 where
  Starts : (n p a : ℕ) (words : Words) (q : Ask) → Begins σ s n p words q → Asks σ s (Free n p) a words q
  -- a publication that ends without a push, and the next block
  Starts_next : (n p : ℕ) (e : Bytes) (ms : List Bytes) (a : ℕ) (words : Words) (q : Ask) → Begins σ s (suc n) p words q → Asks σ s (Listed n p e ms) a words q
  -- its first push, which tells its envelope
  Pushes_first : (n p : ℕ) (e : Bytes) (ms : List Bytes) (a : ℕ) (k v : Bytes) (ks : List Bytes) → σ.written_tag v ≡ Some (σ.tag s (suc n)) → σ.exchange_of v ≡ Some e → σ.keys_for v ms ≡ k ∷ ks
      → Asks σ s (Listed n p e ms) a (codes "LPUSH" ∷ k ∷ v ∷ []) (Count (pushing n p v ks))
  Pushes : (n p a : ℕ) (v k : Bytes) (ks : List Bytes) → Asks σ s (Pushing n p v k ks) a (codes "LPUSH" ∷ k ∷ v ∷ []) (Count (pushing n p v ks))
  Pop_begins : (n p a : ℕ) (v t : Bytes) → Asks σ s (Popped n p v t) a (codes "MULTI" ∷ []) (Consent (Pop_begun n p v t))
  Pop_indexes : (n p a : ℕ) (v t : Bytes) → a < moment_limit → Asks σ s (Pop_begun n p v t) a (codes "ZADD" ∷ σ.index ∷ decimal a ∷ t ∷ []) (Queueing (Pop_indexed n p v t))
  Pop_sets : (n p a : ℕ) (v t : Bytes) → Asks σ s (Pop_indexed n p v t) a (codes "HSET" ∷ σ.unacked ∷ t ∷ σ.entry_of v ∷ []) (Queueing (Filled n p))
  End_removes : (n p a : ℕ) (t : Bytes) → σ.is_tag t ≡ true → Asks σ s (End_begun n p) a (codes "ZREM" ∷ σ.index ∷ t ∷ []) (Queueing (End_removed n p t))
  End_deletes : (n p a : ℕ) (t : Bytes) → Asks σ s (End_removed n p t) a (codes "HDEL" ∷ σ.unacked ∷ t ∷ []) (Queueing (Filled n p))
  Executes : (n p a : ℕ) → Asks σ s (Filled n p) a (codes "EXEC" ∷ []) (Counts (Free n p))
  -- a return shows its tag, and its side at the first push
  Names : (n p a : ℕ) (t : Bytes) → σ.is_tag t ≡ true → Asks σ s (Looking n p) a (codes "HGET" ∷ σ.unacked ∷ t ∷ []) (Entry n p (Open t) 0)
  Tries : (n p a : ℕ) (j : Job) (k : ℕ) → Asks σ s (Waiting n p j k) a (codes "WATCH" ∷ σ.unacked ∷ []) (Consent (Watched n p j k))
  Reads : (n p a : ℕ) (j : Job) (k : ℕ) → Asks σ s (Watched n p j k) a (codes "HGET" ∷ σ.unacked ∷ job_tag j ∷ []) (Entry n p j k)
  Leaves : (n p a : ℕ) (j : Job) → Asks σ s (Leaving n p j) a (codes "UNWATCH" ∷ []) (Consent (finished n p j))
  Looks_up : (n p a : ℕ) (j : Job) (k : ℕ) (u v e : Bytes) → Asks σ s (Asking n p j k u v e) a (codes "SMEMBERS" ∷ σ.binding e ∷ []) (Routes n p j k u v)
  Takes : (n p a : ℕ) (j : Job) (k : ℕ) (v q : Bytes) (qs : List Bytes) → Asks σ s (Ready n p j k v q qs) a (codes "MULTI" ∷ []) (Consent (Begun n p j k v q qs))
  Removes : (n p a : ℕ) (j : Job) (k : ℕ) (v q : Bytes) (qs : List Bytes) → Asks σ s (Begun n p j k v q qs) a (codes "ZREM" ∷ σ.index ∷ job_tag j ∷ []) (Queueing (Removed n p j k v q qs))
  Deletes : (n p a : ℕ) (j : Job) (k : ℕ) (v q : Bytes) (qs : List Bytes) → Asks σ s (Removed n p j k v q qs) a (codes "HDEL" ∷ σ.unacked ∷ job_tag j ∷ []) (Queueing (Putting n p j k v (q ∷ qs)))
  Puts : (n p a : ℕ) (j : Job) (k : ℕ) (v q : Bytes) (qs : List Bytes) (side : Side) → MayPush j side → Asks σ s (Putting n p j k v (q ∷ qs)) a (push_word side ∷ q ∷ v ∷ []) (Queueing (Putting n p (sided j side) k v qs))
  Moves : (n p a : ℕ) (j : Job) (k : ℕ) (v : Bytes) → Asks σ s (Putting n p j k v []) a (codes "EXEC" ∷ []) (Move n p j k)
  Looks : (n p a v : ℕ) → v < 2 ^ 32 → Asks σ s (Locked n p) a (due_words σ a v) (Due n p)
  Turns : (n p a : ℕ) (t : Bytes) (ts : List Bytes) → Asks σ s (Turning n p (t ∷ ts)) a (codes "WATCH" ∷ σ.unacked ∷ []) (Consent (Watched n p (Of_pass t ts) 0))
  Lets_go : (n p a : ℕ) → Asks σ s (Turning n p []) a (codes "WATCH" ∷ σ.mutex ∷ []) (Consent (Release_watched n p))
  Inspects : (n p a : ℕ) → Asks σ s (Release_watched n p) a (codes "GET" ∷ σ.mutex ∷ []) (Holder n p)
  Release_begins : (n p a : ℕ) → Asks σ s (Release_own n p) a (codes "MULTI" ∷ []) (Consent (Release_begun n p))
  Release_deletes : (n p a : ℕ) → Asks σ s (Release_begun n p) a (codes "DEL" ∷ σ.mutex ∷ []) (Queueing (Release_deleted n p))
  Release_ends : (n p a : ℕ) → Asks σ s (Release_deleted n p) a (codes "EXEC" ∷ []) (Release n p)
  Leaves_foreign : (n p a : ℕ) → Asks σ s (Release_foreign n p) a (codes "UNWATCH" ∷ []) (Consent (Free n (suc p)))

-- a listed answer to what was asked, and the spot after it
pub data TellsSpot (σ : Setting) (s : ℕ) : Ask → Value → Spot → Type 0 where
  Counted : (c : Spot) (z : ℤ) → TellsSpot σ s (Count c) (Integer z) c
  Consented : (c : Spot) → TellsSpot σ s (Consent c) done c
  Was_queued : (c : Spot) → TellsSpot σ s (Queueing c) queued c
  Counted_both : (c : Spot) (x y : ℤ) → TellsSpot σ s (Counts c) (integers (x ∷ y ∷ [])) c
  Answered : (c : Spot) (r : Value) → is_error r ≡ false → TellsSpot σ s (Anything c) r c
  Bound : (n p : ℕ) (e : Bytes) (ms : List Bytes) → TellsSpot σ s (Bindings n p e) (bulks ms) (Listed n p e ms)
  Nothing_there : (n p : ℕ) → TellsSpot σ s (Message n p) NullArray (Free n p)
  Unreadable : (n p : ℕ) (q v : Bytes) → σ.tag_of v ≡ None → TellsSpot σ s (Message n p) (pair q v) (Free n p)
  Readable : (n p : ℕ) (q v t : Bytes) → σ.tag_of v ≡ Some t → TellsSpot σ s (Message n p) (pair q v) (Popped n p v t)
  Missing : (n p : ℕ) (j : Job) (k : ℕ) → TellsSpot σ s (Entry n p j k) NullBulk (Leaving n p j)
  Useless : (n p : ℕ) (j : Job) (k : ℕ) (u : Bytes) → ((v : Bytes) → Carries σ u (job_tag j) v → ⊥) → TellsSpot σ s (Entry n p j k) (Bulk u) (Leaving n p j)
  Unnamed : (n p : ℕ) (j : Job) (k : ℕ) (u v : Bytes) → Carries σ u (job_tag j) v → σ.exchange_in u ≡ None → TellsSpot σ s (Entry n p j k) (Bulk u) (routed n p j k v (σ.keys_in u []))
  Named : (n p : ℕ) (j : Job) (k : ℕ) (u v e : Bytes) → Carries σ u (job_tag j) v → σ.exchange_in u ≡ Some e → TellsSpot σ s (Entry n p j k) (Bulk u) (Asking n p j k u v e)
  Looked_up : (n p : ℕ) (j : Job) (k : ℕ) (u v : Bytes) (ms : List Bytes) → TellsSpot σ s (Routes n p j k u v) (bulks ms) (routed n p j k v (σ.keys_in u ms))
  Moved : (n p : ℕ) (j : Job) (k : ℕ) (zs : List ℤ) → TellsSpot σ s (Move n p j k) (integers zs) (finished n p j)
  Failed : (n p : ℕ) (j : Job) (k : ℕ) → k < 7 → TellsSpot σ s (Move n p j k) NullArray (Waiting n p j (suc k))
  Contended : (n p : ℕ) (j : Job) (k : ℕ) → k ≡ 7 → TellsSpot σ s (Move n p j k) NullArray (gave_up n p j)
  Taken : (n p : ℕ) → TellsSpot σ s (Lock n p) NullBulk (Free n (suc p))
  Given : (n p : ℕ) → TellsSpot σ s (Lock n p) done (Locked n p)
  Members : (n p : ℕ) (ms : List Bytes) → TellsSpot σ s (Due n p) (bulks ms) (Turning n p (tags_among σ ms))
  Own : (n p : ℕ) → TellsSpot σ s (Holder n p) (Bulk (token s (suc p))) (Release_own n p)
  Foreign : (n p : ℕ) (u : Bytes) → (u ≡ token s (suc p) → ⊥) → TellsSpot σ s (Holder n p) (Bulk u) (Release_foreign n p)
  Nobody : (n p : ℕ) → TellsSpot σ s (Holder n p) NullBulk (Release_foreign n p)
  Released : (n p : ℕ) (rs : List Value) → TellsSpot σ s (Release n p) (Array rs) (Free n (suc p))
  Altered : (n p : ℕ) → TellsSpot σ s (Release n p) NullArray (Free n (suc p))

-- one call at a spot, and the spot after it
pub record Goes (σ : Setting) (s : ℕ) (c : Spot) (x : Call) (c' : Spot) : Type 0 where
  pub ask : Ask
  pub asks : Asks σ s c x.at x.words ask
  pub tells : TellsSpot σ s ask x.answer c'

-- calls in a row
abbrev pub Runs : Setting → ℕ → Spot → List Call → Spot → Type 0
Runs σ s c [] c' = c ≡ c'
Runs σ s c (x ∷ xs) c' = (mid : Spot) × Goes σ s c x mid × Runs σ s mid xs c'

-- the calls run through the machine from a client's start
abbrev pub RunsThrough : Setting → ℕ → List Call → Type 0
RunsThrough σ s l = (c : Spot) × Runs σ s (Free 0 0) l c

-- all but the last run through, and so they do with another answer to it, but not with this one
pub record RunsOff (σ : Setting) (s : ℕ) (l : List Call) : Type 0 where
  pub before : List Call
  pub at : ℕ
  pub words : Words
  pub listed : Value
  pub answer : Value
  pub is : l ≡ before ++ call at words answer ∷ []
  pub runs : RunsThrough σ s (before ++ call at words listed ∷ [])
  pub off : RunsThrough σ s l → ⊥

-- an envelope's exchange has a name that a message may tell
abbrev pub TellsExchanges : Setting → Type 0
TellsExchanges σ = (v e : Bytes) → σ.exchange_of v ≡ Some e → is_exchange e ≡ true
